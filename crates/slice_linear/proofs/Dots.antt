-- Sums of products, over whole numbers and over fractions in proportion.
use Rattle.std.proofs.Common.{◌+ℤ◌, ◌≡◌, ◌∙◌, ℕ, ◌*◌, arith, sym, ap, subst, lit<, List, [], ◌∷◌, ◌++◌, map, length, ℤ, pos, ◌*ℤ◌}
use Rattle.std.proofs.Math.Nat.{mul-pos}
use Rattle.slice_num.specs.Rational.{Rational, plus, times, whole, IsBelow}
use Rattle.slice_num.proofs.Ring.{int, nat, mul, ring_same}
use Rattle.slice_num.proofs.Ratio.{den_pos, ratio_self, same_ratio}
use Rattle.slice_num.proofs.Laws.{plus_assoc, plus_zero, times-ratios}
use Rattle.slice_num.proofs.FieldLaws.{times_assoc, times_left_comm, times_plus, times_zero, times_above, whole_plus, whole_times}
use Rattle.slice_linear.specs.declared.row.RowKind.{RowKind}
use Rattle.slice_linear.specs.Sums.{at}
use Rattle.slice_linear.specs.Rows.{dot, KindHolds}
use Rattle.slice_linear.proofs.Ring.{zero_mul}
use Rattle.slice_linear.proofs.SumLaws.{sum_zero, sum_front}
use Rattle.slice_linear.specs.Proportion.{AllTimes, CommonMultiple, Meets, RowsMeanTheirForms, dot_of}
use Rattle.slice_linear.proofs.LowestLaws.{rows_are_lowest}
use Rattle.slice_linear.proofs.KindLaws.{meets_times, meets_back, whole_out, whole_in}

pub dot-append : (cs bs vs us : List Rational) → length cs ≡ length vs → dot_of (cs ++ bs) (vs ++ us) ≡ plus (dot_of cs vs) (dot_of bs us)
dot-append [] bs [] us e = sym (plus_zero _)
dot-append [] bs (v ∷ vs) us e = absurd (omega arith)
dot-append (a ∷ cs) bs [] us e = absurd (omega arith)
dot-append (a ∷ cs) bs (v ∷ vs) us e = ap (plus (times a v)) (dot-append cs bs vs us (omega (arith, e))) ∙ sym (plus_assoc (times a v) _ _)

times_swap : (a b c d : Rational) → times (times a b) (times c d) ≡ times (times a c) (times b d)
times_swap a b c d = times_assoc a b (times c d) ∙ ap (times a) (times_left_comm b c d) ∙ sym (times_assoc a c (times b d))

-- a sum from its first term on
pub dot-nil : (xs : List ℤ) → dot [] xs ≡ pos 0
dot-nil xs = sum_zero (length xs) _ (λ j l. zero_mul (at xs j))

pub dot-cons : (z x : ℤ) (zs xs : List ℤ) → dot (z ∷ zs) (x ∷ xs) ≡ z *ℤ x +ℤ dot zs xs
dot-cons z x zs xs = sum_front (length xs) (λ j. at (z ∷ zs) j *ℤ at (x ∷ xs) j)

pub dot_times : (k d : Rational) (zs xs : List ℤ) (qs vs : List Rational) → AllTimes k zs qs → AllTimes d xs vs → whole (dot zs xs) ≡ times (times k d) (dot_of qs vs)
dot_times k d [] xs [] vs h g = ap whole (dot-nil xs) ∙ sym (times_zero _)
dot_times k d [] xs (q ∷ qs) vs h g = absurd h
dot_times k d (z ∷ zs) xs [] vs h g = absurd h
dot_times k d (z ∷ zs) [] (q ∷ qs) [] h g = sym (times_zero _)
dot_times k d (z ∷ zs) [] (q ∷ qs) (v ∷ vs) h g = absurd g
dot_times k d (z ∷ zs) (x ∷ xs) (q ∷ qs) [] h g = absurd g
dot_times k d (z ∷ zs) (x ∷ xs) (q ∷ qs) (v ∷ vs) h g =
    ap whole (dot-cons z x zs xs)
    ∙ whole_plus (z *ℤ x) (dot zs xs)
    ∙ (λ i. plus ((whole_times z x ∙ (λ j. times (h.0 j) (g.0 j)) ∙ times_swap k q d v) i) (dot_times k d zs xs qs vs h.1 g.1 i))
    ∙ sym (times_plus (times k d) (times q v) (dot_of qs vs))

-- a row holds where its fractions say so, and the other way round
pub kind_out : (kind : RowKind) (k d : Rational) (zs xs : List ℤ) (qs vs : List Rational) → IsBelow (whole (pos 0)) k → IsBelow (whole (pos 0)) d → AllTimes k zs qs → AllTimes d xs vs → Meets kind (dot_of qs vs) → KindHolds kind (dot zs xs)
kind_out kind k d zs xs qs vs p q h g holds =
    whole_out kind (dot zs xs) (subst (Meets kind) (sym (dot_times k d zs xs qs vs h g)) (meets_times kind (times k d) (dot_of qs vs) (times_above k d p q) holds))

pub kind_in : (kind : RowKind) (k d : Rational) (zs xs : List ℤ) (qs vs : List Rational) → IsBelow (whole (pos 0)) k → IsBelow (whole (pos 0)) d → AllTimes k zs qs → AllTimes d xs vs → KindHolds kind (dot zs xs) → Meets kind (dot_of qs vs)
kind_in kind k d zs xs qs vs p q h g holds =
    meets_back kind (times k d) (dot_of qs vs) (times_above k d p q) (subst (Meets kind) (dot_times k d zs xs qs vs h g) (whole_in kind (dot zs xs) holds))

times_more : (e d : ℕ) (xs : List ℤ) (vs : List Rational) → AllTimes (whole (pos d)) xs vs → AllTimes (whole (pos (e * d))) (map (λ x. pos e *ℤ x) xs) vs
times_more e d [] [] h = tt
times_more e d [] (v ∷ vs) h = absurd h
times_more e d (x ∷ xs) [] h = absurd h
times_more e d (x ∷ xs) (v ∷ vs) h = (
  whole_times (pos e) x ∙ ap (times (whole (pos e))) h.0 ∙ sym (times_assoc (whole (pos e)) (whole (pos d)) v) ∙ ap (λ (k : Rational). times k v) (sym (whole_times (pos e) (pos d))),
  times_more e d xs vs h.1,
)

num_times : (d : ℕ) (v : Rational) → whole (pos d *ℤ v.num) ≡ times (whole (pos (v.den * d))) v
num_times d v =
    same_ratio _ _ _ _ (lit< tt) (mul-pos (lit< tt) (den_pos v)) (ring_same (mul (mul (nat d) (int v.num)) (nat (1 * v.den))) (mul (mul (nat (v.den * d)) (int v.num)) (nat 1)) (omega arith))
    ∙ sym (ap (times (whole (pos (v.den * d)))) (ratio_self v) ∙ times-ratios (pos (v.den * d)) v.num 1 v.den (lit< tt) (den_pos v))

pub multiple : (vs : List Rational) → CommonMultiple vs
multiple [] = record { factor = 1; above = lit< tt; numbers = []; each = tt }
multiple (v ∷ vs) =
    let m = multiple vs in
    record {
      factor = v.den * m.factor;
      above = mul-pos (den_pos v) m.above;
      numbers = (pos m.factor *ℤ v.num) ∷ map (λ x. pos v.den *ℤ x) m.numbers;
      each = (num_times m.factor v, times_more v.den m.factor m.numbers vs m.each);
    }

pub rows_mean_their_forms : RowsMeanTheirForms
rows_mean_their_forms kind qs vs d xs p h =
    let l = rows_are_lowest qs in (
      kind_in kind l.factor d _ xs qs vs l.above p l.in_proportion h,
      kind_out kind l.factor d _ xs qs vs l.above p l.in_proportion h,
    )

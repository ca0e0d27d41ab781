-- Where the numbers fit, a value and a share-value are exact.
use Rattle.std.proofs.Common.{◌≡◌, ◌∙◌, ℕ, ◌+◌, ◌*◌, ◌-◌, ◌<◌, ◌≤◌, ℤ, pos, negsuc, neg_ℤ, ◌*ℤ◌, ◌+ℤ◌, List, [], ◌∷◌, ◌++◌, Bool, true, false, arith, refl, sym, ap, Ok, Err}
use Rattle.std.specs.Prelude.{nat_le, int_lt, ◌≤ℤ◌, IfOk}
use Rattle.std.specs.declared.result.Result.{Result}
use Rattle.std.specs.List.{All}
use Rattle.std.proofs.lemmas.Int.{ints}
use Rattle.std.proofs.lemmas.Bool.Decides.{nat_tests}
use Rattle.std.proofs.lemmas.Grind.{common_steps}
use Rattle.std.proofs.lemmas.List.Elements.{All-head, All-tail}
use Rattle.slice_num.specs.Rational.{Rational, ratio, plus, times, minus, whole, IsAtMost}
use Rattle.slice_num.specs.Arithmetic.{inverse}
use Rattle.slice_num.specs.Fitting.{Fitting, Fitted, Unfit, next, sum_in, fitting_of, below, next-out, sum_in-exact, product_in-exact}
use Rattle.slice_num.specs.Valuation.{Valuation, IsValuation, clipped, value, piece_value, cake, cake_length}
use Rattle.slice_num.specs.Prefix.{walked, before}
use Rattle.slice_num.specs.declared.interval.Interval.{Interval}
use Rattle.slice_num.proofs.Ring.{nat, add, mul, opp, ring_same}
use Rattle.slice_num.proofs.Ratio.{den_pos, ratio_self, same_ratio, plus-ratios}
use Rattle.slice_num.proofs.Laws.{times-ratios, plus_assoc, plus_zero}
use Rattle.slice_num.proofs.Whole.{whole_num, whole_den}
use Rattle.slice_num.proofs.FieldLaws.{negated-ratio, least_num, at_most_trans, plus_zero_right}
use Rattle.slice_num.proofs.Values.{walked_is, value_is_difference, value_of_cake}
use Rattle.slice_step.specs.Arithmetic.{place_in, height_value, value_up_to, value_in, values_from, piece_value_in, whole_value}
use Rattle.slice_step.specs.Exact.{InOrder, ValueIsExact, ShareIsExact}
use Rattle.slice_step.proofs.Steps.{place_from, place_in-is}
use Rattle.slice_step.specs.declared.place.Place.{Place}

-- the value of [0, p) where nothing is refused
abbrev pub exact_height : Place → Rational → Rational
exact_height place p = plus (whole (pos place.base)) (times (whole (pos place.height)) (minus p (whole (pos place.start))))

-- the same over one denominator, for a point that lies m parts after the start
pub single : (base s h m : ℕ) (p : Rational) → p.num ≡ pos (s * p.den + m) → plus (whole (pos base)) (times (whole (pos h)) (minus p (whole (pos s)))) ≡ ratio (pos (base * p.den + h * m)) p.den
single base s h m p e =
    let d = p.den in
    let q : 0 < d = den_pos p in
    let q1 : 0 < d * 1 = omega (arith, q) in
    let q2 : 0 < 1 * (d * 1) = omega (arith, q) in
    let q3 : 0 < 1 * (1 * (d * 1)) = omega (arith, q) in
    let one : 0 < 1 = omega arith in
    let n = pos (s * d + m) in
    let self : p ≡ ratio n d = ratio_self p ∙ ap (λ (z : ℤ). ratio z d) e in
    let wide : minus p (whole (pos s)) ≡ ratio (n *ℤ pos 1 +ℤ neg_ℤ (pos s) *ℤ pos d) (d * 1) = (λ i. plus (self i) (negated-ratio (pos s) 1 one i)) ∙ plus-ratios n (neg_ℤ (pos s)) d 1 q one in
    let w = n *ℤ pos 1 +ℤ neg_ℤ (pos s) *ℤ pos d in
    let more : times (whole (pos h)) (minus p (whole (pos s))) ≡ ratio (pos h *ℤ w) (1 * (d * 1)) = ap (times (whole (pos h))) wide ∙ times-ratios (pos h) w 1 (d * 1) one q1 in
    ap (plus (whole (pos base))) more ∙ plus-ratios (pos base) (pos h *ℤ w) 1 (1 * (d * 1)) one q2
    ∙ same_ratio (pos base *ℤ pos (1 * (d * 1)) +ℤ pos h *ℤ w *ℤ pos 1) (pos (base * d + h * m)) (1 * (1 * (d * 1))) d q3 q
    (ring_same
    (mul (add (mul (nat base) (nat (1 * (d * 1)))) (mul (mul (nat h) (add (mul (nat (s * d + m)) (nat 1)) (mul (opp (nat s)) (nat d)))) (nat 1))) (nat d))
    (mul (nat (base * d + h * m)) (nat (1 * (1 * (d * 1)))))
    (omega arith))

-- ---- a whole number against a point
below_numbers : (e n : ℕ) (p : Rational) → p.num ≡ pos n → below (whole (pos e)) p ≡ int_lt (pos e *ℤ pos p.den) (pos n *ℤ pos 1)
below_numbers e n p h = λ i. int_lt (whole_num (pos e) i *ℤ pos p.den) (h i *ℤ pos (whole_den (pos e) i))

int_below : (e n d : ℕ) → e * d < n → int_lt (pos e *ℤ pos d) (pos n *ℤ pos 1) ≡ true
int_below e n d h = grind (arith, ints, nat_tests, common_steps)

int_above : (e n d : ℕ) → n ≤ e * d → int_lt (pos e *ℤ pos d) (pos n *ℤ pos 1) ≡ false
int_above e n d h = grind (arith, ints, nat_tests, common_steps)

pub whole_below_point : (e n : ℕ) (p : Rational) → p.num ≡ pos n → e * p.den < n → below (whole (pos e)) p ≡ true
whole_below_point e n p h k = below_numbers e n p h ∙ int_below e n p.den k

pub whole_above_point : (e n : ℕ) (p : Rational) → p.num ≡ pos n → n ≤ e * p.den → below (whole (pos e)) p ≡ false
whole_above_point e n p h k = below_numbers e n p h ∙ int_above e n p.den k

-- ---- the walk
at_most-out : (n m : ℕ) → nat_le n m ≡ true → n ≤ m
at_most-out n m h = grind (arith, nat_tests)

above-out : (n m : ℕ) → nat_le n m ≡ false → m < n
above-out n m h = grind (arith, nat_tests)

place_is : (base start : ℕ) (es hs : List ℕ) (p : Rational) (n : ℕ) → p.num ≡ pos n → start * p.den ≤ n → exact_height (place_from base start es hs p) p ≡ ratio (pos (walked p.den base start es hs n)) p.den
place_is base start [] hs p n e h =
    single base start 0 (n - start * p.den) p (e ∙ ap pos (omega arith)) ∙ ap (λ (x : ℕ). ratio (pos x) p.den) (omega arith)
place_is base start (f ∷ es) [] p n e h =
    single base start 0 (n - start * p.den) p (e ∙ ap pos (omega arith)) ∙ ap (λ (x : ℕ). ratio (pos x) p.den) (omega arith)
place_is base start (f ∷ es) (k ∷ hs) p n e h = by (nat_le n (f * p.den)) refl (place_is (base + k * (f - start)) f es hs p n e)
  where
    by : (t : Bool) → nat_le n (f * p.den) ≡ t → (f * p.den ≤ n → exact_height (place_from (base + k * (f - start)) f es hs p) p ≡ ratio (pos (walked p.den (base + k * (f - start)) f es hs n)) p.den) → exact_height (place_from base start (f ∷ es) (k ∷ hs) p) p ≡ ratio (pos (walked p.den base start (f ∷ es) (k ∷ hs) n)) p.den
    by true t ih =
        let b : below (whole (pos f)) p ≡ false = whole_above_point f n p e (at_most-out n (f * p.den) t) in
        rw (b, t) (single base start k (n - start * p.den) p (e ∙ ap pos (omega arith)))
    by false t ih =
        let over = above-out n (f * p.den) t in
        let b : below (whole (pos f)) p ≡ true = whole_below_point f n p e over in
        rw (b, t) (ih (omega (arith, over)))

-- a point that isn't below 0 has a numerator that isn't
pub not_clipped : (p : Rational) → IsAtMost (whole (pos 0)) p → p.num ≡ pos (clipped p.num)
not_clipped p h = by p.num (least_num p h)
  where
    by : (z : ℤ) → pos 0 ≤ℤ z → z ≡ pos (clipped z)
    by (pos n) k = refl
    by (negsuc n) k = absurd (omega (arith, ints, k))

before_is : (v : Valuation) (p : Rational) → IsValuation v → p.num ≡ pos (clipped p.num) → exact_height (place_in v p) p ≡ before v p
unfolding before
before_is v p valuation e =
    ap (λ (place : Place). exact_height place p) (sym (place_in-is v p valuation.same_length))
    ∙ place_is 0 0 v.ends v.heights p (clipped p.num) e (omega arith)
    ∙ ap (λ (x : ℕ). ratio (pos x) p.den) (walked_is p.den 0 0 v.ends v.heights (clipped p.num) valuation.rises (omega arith) ∙ omega arith)

height_exact : (place : Place) (p r : Rational) → height_value place p ≡ Fitted r → r ≡ exact_height place p
height_exact place p r h =
    let wide = next-out _ _ r h in
    let more = next-out _ _ r wide.then_is in
    sum_in-exact _ _ r more.then_is
    ∙ ap (plus (whole (pos place.base))) (product_in-exact _ _ more.first more.is ∙ ap (times (whole (pos place.height))) (sum_in-exact _ _ wide.first wide.is))

-- the value of [0, p)
pub value_up_to-exact : (v : Valuation) (p r : Rational) → IsValuation v → IsAtMost (whole (pos 0)) p → value_up_to v p ≡ Fitted r → r ≡ before v p
value_up_to-exact v p r valuation low h = height_exact (place_in v p) p r h ∙ before_is v p valuation (not_clipped p low)

pub value_in-exact : ValueIsExact
value_in-exact v i r valuation order h =
    let upper = next-out _ _ r h in
    let lower = next-out _ _ r upper.then_is in
    let eu = value_up_to-exact v i.to upper.first valuation (at_most_trans (whole (pos 0)) i.from i.to order.0 order.1) upper.is in
    let el = value_up_to-exact v i.from lower.first valuation order.0 lower.is in
    sum_in-exact _ _ r lower.then_is ∙ (λ j. minus (eu j) (el j)) ∙ sym (value_is_difference v i valuation.rises order.1)

-- ---- pieces
values_from-exact : (v : Valuation) (sum : Rational) (piece : List Interval) (r : Rational) → IsValuation v → All InOrder piece → values_from v sum piece ≡ Fitted r → r ≡ plus sum (piece_value v piece)
values_from-exact v sum [] r valuation order h =
    let e : r ≡ sum = cc in
    e ∙ sym (plus_zero_right sum)
values_from-exact v sum (i ∷ is) r valuation order h =
    let more = next-out _ _ r h in
    let both = next-out _ _ r more.then_is in
    let one = value_in-exact v i more.first valuation (All-head InOrder i is order) more.is in
    values_from-exact v both.first is r valuation (All-tail InOrder i is order) both.then_is
    ∙ ap (λ (q : Rational). plus q (piece_value v is)) (sum_in-exact _ _ both.first both.is ∙ ap (plus sum) one)
    ∙ plus_assoc sum (value v i) (piece_value v is)

pub share_in-exact : ShareIsExact
share_in-exact v piece r valuation order h =
    let sum = next-out _ _ r h in
    let all = values_from-exact v (whole (pos 0)) piece sum.first valuation order sum.is ∙ plus_zero (piece_value v piece) in
    let cake_is : whole_value v ≡ value v (cake (cake_length v)) = sym (value_of_cake v valuation) in
    product_in-exact _ _ r sum.then_is ∙ (λ j. times (all j) (inverse (cake_is j)))

-- ---- in the form of a call's clauses
pub if_ok-fitting : {A E : Type 0} (r : Result A E) (m : Fitting A) (P : A → Type 0) → fitting_of r ≡ m → ((x : A) → m ≡ Fitted x → P x) → IfOk r P
if_ok-fitting (Ok x) m P e h = h x (sym e)
if_ok-fitting (Err x) m P e h = tt

-- ---- one stretch more
values_from-append : (v : Valuation) (sum : Rational) (xs ys : List Interval) → values_from v sum (xs ++ ys) ≡ next (values_from v sum xs) (λ both. values_from v both ys)
values_from-append v sum [] ys = refl
values_from-append v sum (x ∷ xs) ys = by (value_in v x) (λ both. values_from-append v both xs ys)
  where
    sums : (more : Rational) (m : Fitting Rational) → ((both : Rational) → values_from v both (xs ++ ys) ≡ next (values_from v both xs) (λ all. values_from v all ys)) → next m (λ both. values_from v both (xs ++ ys)) ≡ next (next m (λ both. values_from v both xs)) (λ all. values_from v all ys)
    sums more Unfit h = refl
    sums more (Fitted both) h = h both

    by : (m : Fitting Rational) → ((both : Rational) → values_from v both (xs ++ ys) ≡ next (values_from v both xs) (λ all. values_from v all ys))
        → next m (λ more. next (sum_in sum more) (λ both. values_from v both (xs ++ ys))) ≡ next (next m (λ more. next (sum_in sum more) (λ both. values_from v both xs))) (λ all. values_from v all ys)
    by Unfit h = refl
    by (Fitted more) h = sums more (sum_in sum more) h

pub values_with : (v : Valuation) (xs : List Interval) (last : Interval) (m : Fitting Rational) → m ≡ piece_value_in v xs → next m (λ both. values_from v both (last ∷ [])) ≡ piece_value_in v (xs ++ last ∷ [])
values_with v xs last m e = ap (λ (k : Fitting Rational). next k (λ both. values_from v both (last ∷ []))) e ∙ sym (values_from-append v (whole (pos 0)) xs (last ∷ []))

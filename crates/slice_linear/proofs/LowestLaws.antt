-- Fractions brought to lowest whole numbers.
use Rattle.std.proofs.Common.{◌≡◌, ◌∙◌, ℕ, ◌*◌, ◌/◌, ◌<◌, arith, refl, sym, ap, subst, lit<, Bool, true, false, List, [], ◌∷◌, map, ◌==◌, ℤ, pos, ◌*ℤ◌}
use Rattle.std.specs.Prelude.{unsigned_abs, if◌then◌else◌}
use Prim.Native.Nat.{◌∣◌}
use borrow.Author.Differences.{up, down}
use Rattle.std.proofs.lemmas.Nat.Gcd.{dvd_trans}
use Rattle.std.proofs.lemmas.Bool.Decides.{nat_tests}
use Rattle.std.proofs.lemmas.Int.{ints}
use Rattle.std.proofs.Math.Nat.{mul-pos, div-mul_cancel, dvd-mul_left, dvd-mul_right}
use Rattle.slice_num.specs.Gcd.{gcd_of, divided, lcm_of}
use Rattle.slice_num.specs.GcdLaws.{IsGcd-gcd_of}
use Rattle.slice_num.specs.Rational.{Rational, ratio, times, whole, IsBelow}
use Rattle.slice_num.proofs.Ring.{int, nat, mul, ring_same, ring_out}
use Rattle.slice_num.proofs.Ratio.{den_pos, ratio_self, same_ratio, divided-mul}
use Rattle.slice_num.proofs.Laws.{times-ratios}
use Rattle.slice_num.proofs.FieldLaws.{times_assoc, times_above, below_ratios, whole_below}
use Rattle.slice_linear.specs.LowestRow.{common_den, cleared, gcd_all, reduced, lowest}
use Rattle.slice_linear.specs.Proportion.{AllTimes, RowsAreLowest}
use Rattle.slice_linear.proofs.Multiples.{common_den_pos}
use Rattle.slice_linear.proofs.Reduced.{reduced_is}

-- ---- the common denominator
pub lcm_left : (a b : ℕ) → a ∣ lcm_of a b
lcm_left a b =
    let g = gcd_of a b in
    let d = IsGcd-gcd_of a b in
    let x : a / g * g ≡ a = div-mul_cancel g d.0 in
    let y : b / g * g ≡ b = div-mul_cancel g d.1 in
    subst (λ (m : ℕ). a ∣ m) (mid (a / g) (b / g) g a b x y) (dvd-mul_right a (b / g))
  where
    mid : (u v g a b : ℕ) → u * g ≡ a → v * g ≡ b → a * v ≡ u * b
    mid u v g a b e f = omega (arith, ap (λ (m : ℕ). m * v) e, ap (λ (m : ℕ). u * m) f)

abbrev AllDivide : ℕ → List Rational → Type 0
AllDivide d [] = Unit {0}
AllDivide d (q ∷ qs) = (q.den ∣ d) × AllDivide d qs

divide_more : (d e : ℕ) (qs : List Rational) → d ∣ e → AllDivide d qs → AllDivide e qs
divide_more d e [] h k = tt
divide_more d e (q ∷ qs) h k = (dvd_trans q.den k.0 h, divide_more d e qs h k.1)

all_divide : (qs : List Rational) → AllDivide (common_den qs) qs
all_divide [] = tt
all_divide (q ∷ qs) = (lcm_left q.den (common_den qs), divide_more (common_den qs) _ qs (dvd-mul_left (common_den qs) (q.den / gcd_of q.den (common_den qs))) (all_divide qs))

cleared_times : (d : ℕ) (qs : List Rational) → AllDivide d qs → AllTimes (whole (pos d)) (cleared d qs) qs
cleared_times d [] h = tt
cleared_times d (q ∷ qs) h = (one_cleared (d / q.den) (div-mul_cancel q.den h.0), cleared_times d qs h.1)
  where
    one_cleared : (m : ℕ) → m * q.den ≡ d → whole (q.num *ℤ pos m) ≡ times (whole (pos d)) q
    one_cleared m e =
        same_ratio _ _ _ _ (lit< tt) (mul-pos (lit< tt) (den_pos q)) (ring_same (mul (mul (int q.num) (nat m)) (nat (1 * q.den))) (mul (mul (nat d) (int q.num)) (nat 1)) (omega (arith, ap (λ (x : ℕ). x * up q.num) e, ap (λ (x : ℕ). x * down q.num) e)))
        ∙ sym (ap (times (whole (pos d))) (ratio_self q) ∙ times-ratios (pos d) q.num 1 q.den (lit< tt) (den_pos q))

-- ---- the common divisor
abbrev AllMultiples : ℕ → List ℤ → Type 0
AllMultiples g [] = Unit {0}
AllMultiples g (z ∷ zs) = (g ∣ unsigned_abs z) × AllMultiples g zs

multiples_more : (g h : ℕ) (zs : List ℤ) → g ∣ h → AllMultiples h zs → AllMultiples g zs
multiples_more g h [] d k = tt
multiples_more g h (z ∷ zs) d k = (dvd_trans g d k.0, multiples_more g h zs d k.1)

all_multiples : (zs : List ℤ) → AllMultiples (gcd_all zs) zs
all_multiples [] = tt
all_multiples (z ∷ zs) = let d = IsGcd-gcd_of (unsigned_abs z) (gcd_all zs) in (d.0, multiples_more _ (gcd_all zs) zs d.1 (all_multiples zs))

divided_times : (g : ℕ) (k : Rational) (zs : List ℤ) (qs : List Rational) → 0 < g → AllMultiples g zs → AllTimes k zs qs → AllTimes (times (ratio (pos 1) g) k) (map (λ z. divided z g) zs) qs
divided_times g k [] [] p m h = tt
divided_times g k [] (q ∷ qs) p m h = absurd h
divided_times g k (z ∷ zs) [] p m h = absurd h
divided_times g k (z ∷ zs) (q ∷ qs) p m h = (one_divided (divided z g) (divided-mul z g m.0) ∙ ap (times (ratio (pos 1) g)) h.0 ∙ sym (times_assoc (ratio (pos 1) g) k q), divided_times g k zs qs p m.1 h.1)
  where
    one_divided : (x : ℤ) → x *ℤ pos g ≡ z → whole x ≡ times (ratio (pos 1) g) (whole z)
    one_divided x e =
        let e' = ring_out (mul (int x) (nat g)) (int z) e in
        same_ratio _ _ _ _ (lit< tt) (mul-pos p (lit< tt)) (ring_same (mul (int x) (nat (g * 1))) (mul (mul (nat 1) (int z)) (nat 1)) (omega (arith, e')))
        ∙ sym (times-ratios (pos 1) z g 1 p (lit< tt))

-- whole numbers in proportion to fractions, by a factor above 0
pub record Factor (zs : List ℤ) (qs : List Rational) : Type 0 where
  pub factor : Rational
  pub above : IsBelow (whole (pos 0)) factor
  pub each : AllTimes factor zs qs

reduced_factor : (zs : List ℤ) (qs : List Rational) → Factor zs qs → Factor (reduced zs) qs
reduced_factor zs qs f = by (gcd_all zs == 0) refl
  where
    by : (b : Bool) → (gcd_all zs == 0) ≡ b → Factor (if b then zs else map (λ z. divided z (gcd_all zs)) zs) qs
    by true e = f
    by false e = let p : 0 < gcd_all zs = grind (arith, nat_tests) in record {
      factor = times (ratio (pos 1) (gcd_all zs)) f.factor;
      above = times_above _ f.factor (below_ratios (pos 0) (pos 1) 1 (gcd_all zs) (lit< tt) p (omega (arith, ints))) f.above;
      each = divided_times (gcd_all zs) f.factor zs qs p (all_multiples zs) f.each;
    }

-- a row is in proportion to its form's coefficients
pub lowest_factor : (qs : List Rational) → Factor (lowest qs) qs
lowest_factor qs = reduced_factor (cleared (common_den qs) qs) qs (record {
  factor = whole (pos (common_den qs));
  above = whole_below (pos 0) (pos (common_den qs)) (let p = common_den_pos qs in omega (arith, ints, p));
  each = cleared_times (common_den qs) qs (all_divide qs);
})

pub rows_are_lowest : RowsAreLowest
rows_are_lowest qs =
    let f = lowest_factor qs in
    record { factor = f.factor; above = f.above; in_proportion = f.each; lowest_form = (reduced_is (cleared (common_den qs) qs)).lowest }

-- Least common multiples, and whole numbers in 128 bits.
use Rattle.std.proofs.Common.{◌≡◌, ◌∙◌, ℕ, zero, suc, ◌-◌, ◌*◌, ◌/◌, ◌<◌, ◌≤◌, ◌^◌, lit<, arith, refl, sym, ap, subst, Bool, true, false, List, [], ◌∷◌, ◌++◌, length, drop, take, get_or, pos, ℤ}
use Rattle.std.proofs.lemmas.Grind.{common_steps}
use Rattle.std.specs.Prelude.{nat_lt, ◌&&◌}
use mir.Syntax.{w128}
use Prim.Native.Nat.{◌∣◌}
use Rattle.std.proofs.lemmas.Bool.Decides.{nat_tests}
use Rattle.std.proofs.lemmas.Int.{ints, fits_signed_from_abs, to_z-of_z}
use Rattle.std.proofs.Math.Nat.{div-mul_cancel, pos_of_ne-zero}
use Rattle.std.specs.Int.{cast_signed, cast_unsigned}
use Rattle.std.specs.Prelude.{FitsSigned}
use Rattle.slice_num.specs.Gcd.{gcd_of, gcd_steps, lcm_of}
use Rattle.std.specs.declared.result.Result.{Result}
use Rattle.std.specs.Prelude.{OkIff, IfOk, ◌<ℤ◌}
use Rattle.std.proofs.Common.{Ok, Err}
use Rattle.slice_num.specs.GcdLaws.{IsGcd-gcd_of}
use Rattle.slice_num.specs.Rational.{Rational, Fits}
use Rattle.slice_num.specs.Fitting.{fits}
use Rattle.slice_num.proofs.Ratio.{den_pos}
use Rattle.slice_linear.specs.LowestRow.{common_den, all_fit}

pub in_range : (z : ℤ) → Fits z → FitsSigned w128 z
in_range z h = fits_signed_from_abs w128 z h

pub held : (z : ℤ) → Fits z → cast_signed w128 (cast_unsigned w128 z) ≡ z
held z h = to_z-of_z w128 z (in_range z h)

div_some : (a g : ℕ) → 0 < a → g ∣ a → 0 < a / g
div_some a g p d =
    let e : a / g * g ≡ a = div-mul_cancel g d in
    pos_of_ne-zero (λ z. let f : 0 * g ≡ a = sym (ap (λ (x : ℕ). x * g) z) ∙ e in omega (arith, f))

mul_least : (a b : ℕ) → 0 < a → b ≤ a * b
mul_least (suc a) b p = omega arith
mul_least zero b p = absurd (omega arith)

pub lcm_least : (a b : ℕ) → 0 < a → b ≤ lcm_of a b
lcm_least a b p = mul_least (a / gcd_of a b) b (div_some a (gcd_of a b) p (IsGcd-gcd_of a b).0)

pub common_den_pos : (qs : List Rational) → 0 < common_den qs
common_den_pos [] = lit< tt
common_den_pos (q ∷ qs) = let a = common_den_pos qs in let b = lcm_least q.den (common_den qs) (den_pos q) in omega (arith, a, b)

pub common_den_drop : (i : ℕ) (qs : List Rational) → common_den (drop i qs) ≤ common_den qs
common_den_drop zero qs = omega arith
common_den_drop (suc i) [] = omega arith
common_den_drop (suc i) (q ∷ qs) = let a = common_den_drop i qs in let b = lcm_least q.den (common_den qs) (den_pos q) in omega (arith, a, b)

pub fits_is : (z : ℤ) → Fits z → fits z ≡ true
fits_is z h = grind (arith, nat_tests)

pub fits_not : (z : ℤ) → (Fits z → ⊥) → fits z ≡ false
fits_not z h = grind (arith, nat_tests)

pub fits_says : (z : ℤ) → fits z ≡ true → Fits z
fits_says z h = grind (arith, nat_tests)

pub all_fit_at : (zs : List ℤ) (i : ℕ) → i < length zs → all_fit zs ≡ true → Fits (get_or zs i (pos 0))
all_fit_at [] i h e = absurd (omega arith)
all_fit_at (z ∷ zs) zero h e = fits_says z (and_left (fits z) (all_fit zs) e)
  where
    and_left : (a b : Bool) → a && b ≡ true → a ≡ true
    and_left a b e = grind arith
all_fit_at (z ∷ zs) (suc i) h e = all_fit_at zs i (omega arith) (and_right (fits z) (all_fit zs) e)
  where
    and_right : (a b : Bool) → a && b ≡ true → b ≡ true
    and_right a b e = grind arith

pub all_fit_each : (zs : List ℤ) → all_fit zs ≡ true → (j : ℕ) → Fits (get_or zs j (pos 0))
all_fit_each [] e j = omega (arith, ints)
all_fit_each (z ∷ zs) e zero = fits_says z (and_left (fits z) (all_fit zs) e)
  where
    and_left : (a b : Bool) → a && b ≡ true → a ≡ true
    and_left a b e = grind arith
all_fit_each (z ∷ zs) e (suc j) = all_fit_each zs (and_right (fits z) (all_fit zs) e) j
  where
    and_right : (a b : Bool) → a && b ≡ true → b ≡ true
    and_right a b e = grind arith

pub all_fit_put : (zs : List ℤ) (z : ℤ) → all_fit zs ≡ true → Fits z → all_fit (zs ++ z ∷ []) ≡ true
all_fit_put [] z e h = ap (λ (b : Bool). b && true) (fits_is z h)
all_fit_put (y ∷ zs) z e h = both (fits y) (all_fit (zs ++ z ∷ [])) (and_left (fits y) (all_fit zs) e) (all_fit_put zs z (and_right (fits y) (all_fit zs) e) h)
  where
    both : (a b : Bool) → a ≡ true → b ≡ true → a && b ≡ true
    both a b e f = grind arith

    and_left : (a b : Bool) → a && b ≡ true → a ≡ true
    and_left a b e = grind arith

    and_right : (a b : Bool) → a && b ≡ true → b ≡ true
    and_right a b e = grind arith

pub gcd_zeros : gcd_of 0 0 ≡ 0
unfolding gcd_of gcd_steps
gcd_zeros = refl

pub common_den_over : (q : Rational) (qs : List Rational) → nat_lt (common_den qs) (2 ^ 127) ≡ false → nat_lt (common_den (q ∷ qs)) (2 ^ 127) ≡ false
common_den_over q qs h = let b = lcm_least q.den (common_den qs) (den_pos q) in grind (arith, nat_tests)

-- a multiple above 0 that fits
pub multiple_fits : {E : Type 0} (r : Result ℤ E) (n : ℕ) → 0 < n → OkIff r (n < 2 ^ 127) (pos n) → IfOk r (λ d. (pos 0 <ℤ d) × Fits d)
multiple_fits (Ok d) n p h = let e = h.1 in let f = h.0 in (omega (arith, ints), omega (arith, ints))
multiple_fits (Err e) n p h = tt

pub lcm_pos : (a b : ℕ) → 0 < a → 0 < b → 0 < lcm_of a b
lcm_pos a b p q = let h = lcm_least a b p in omega (arith, h)

pub rest_over : (qs : List Rational) → nat_lt (common_den (take (length qs - 1) (drop 1 qs))) (2 ^ 127) ≡ false → nat_lt (common_den qs) (2 ^ 127) ≡ false
rest_over [] h = h
rest_over (q ∷ qs) h =
    let e : take (length (q ∷ qs) - 1) qs ≡ qs = grind (arith, common_steps) in
    common_den_over q qs (subst (λ (xs : List Rational). nat_lt (common_den xs) (2 ^ 127) ≡ false) e h)

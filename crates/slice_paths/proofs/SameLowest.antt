-- Lists of fractions with the same members are brought to whole numbers alike, whatever their order and however often each
-- stands there.
use Rattle.std.proofs.Common.{◌≡◌, ◌∙◌, ℕ, ◌*◌, ◌/◌, ◌<◌, refl, sym, ap, subst, Bool, true, false, List, [], ◌∷◌, map, ◌==◌, ℤ, inl, inr, mul_comm}
use Rattle.std.specs.Prelude.{unsigned_abs, if◌then◌else◌}
use Prim.Native.Nat.{◌∣◌}
use Rattle.std.proofs.lemmas.Simd.{map-map}
use Rattle.std.proofs.lemmas.Nat.Gcd.{dvd-zero, dvd_trans, dvd_antisymm}
use Rattle.std.proofs.Math.Nat.{div-mul_cancel, dvd-mul_left, mul-dvd-mul_right, dvd_of_mul-dvd-mul_right, one-dvd, pos_of_dvd_of_pos, mul_right_comm}
use Rattle.slice_num.specs.Gcd.{gcd_of, divided, lcm_of}
use Rattle.slice_num.specs.GcdLaws.{IsGcd-gcd_of, IsGcd-divided, dvd_of_coprime}
use Rattle.slice_num.specs.Rational.{Rational}
use Rattle.slice_num.proofs.Ratio.{den_pos}
use Rattle.slice_linear.specs.LowestRow.{common_den, cleared_at, cleared, gcd_all, lowest}
use Rattle.slice_linear.proofs.LowestLaws.{lcm_left}
use Rattle.slice_paths.proofs.Fits.{IsIn}
use Rattle.slice_paths.proofs.Parts.{in_map}
use Rattle.slice_paths.proofs.Solutions.{map_out}

-- ---- the common denominator
-- the least common multiple divides each other one
lcm_divides : (a b d : ℕ) → 0 < a → a ∣ d → b ∣ d → lcm_of a b ∣ d
lcm_divides a b d p h k =
    let g = gcd_of a b in
    let u = a / g in
    let v = b / g in
    let y = d / b in
    let is = IsGcd-gcd_of a b in
    let some : 0 < g = pos_of_dvd_of_pos is.0 p in
    let first : u * g ≡ a = div-mul_cancel g is.0 in
    let second : v * g ≡ b = div-mul_cancel g is.1 in
    let whole : y * b ≡ d = div-mul_cancel b k in
    let big : u * g ∣ (v * y) * g = subst (λ (x : ℕ). u * g ∣ x) (sym whole ∙ ap (λ (x : ℕ). y * x) (sym second) ∙ mul_comm y (v * g) ∙ mul_right_comm v g y) (subst (λ (x : ℕ). x ∣ d) (sym first) h) in
    let small : u ∣ y = dvd_of_coprime u v y (IsGcd-divided a b g some is) (dvd_of_mul-dvd-mul_right u some big) in
    subst (λ (x : ℕ). u * b ∣ x) whole (mul-dvd-mul_right u small b)

den_divides : (q : Rational) (qs : List Rational) → IsIn q qs → q.den ∣ common_den qs
den_divides q [] h = absurd h
den_divides q (p ∷ qs) (inl e) = subst (λ (x : Rational). x.den ∣ lcm_of p.den (common_den qs)) (sym e) (lcm_left p.den (common_den qs))
den_divides q (p ∷ qs) (inr h) = dvd_trans q.den (den_divides q qs h) (dvd-mul_left (common_den qs) (p.den / gcd_of p.den (common_den qs)))

den_least : (qs : List Rational) (d : ℕ) → ((q : Rational) → IsIn q qs → q.den ∣ d) → common_den qs ∣ d
den_least [] d h = one-dvd d
den_least (q ∷ qs) d h = lcm_divides q.den (common_den qs) d (den_pos q) (h q (inl refl)) (den_least qs d (λ p i. h p (inr i)))

-- ---- the common divisor
gcd_divides : (z : ℤ) (zs : List ℤ) → IsIn z zs → gcd_all zs ∣ unsigned_abs z
gcd_divides z [] h = absurd h
gcd_divides z (y ∷ zs) (inl e) = subst (λ (x : ℤ). gcd_of (unsigned_abs y) (gcd_all zs) ∣ unsigned_abs x) (sym e) (IsGcd-gcd_of (unsigned_abs y) (gcd_all zs)).0
gcd_divides z (y ∷ zs) (inr h) = dvd_trans (gcd_of (unsigned_abs y) (gcd_all zs)) (IsGcd-gcd_of (unsigned_abs y) (gcd_all zs)).1 (gcd_divides z zs h)

gcd_greatest : (zs : List ℤ) (d : ℕ) → ((z : ℤ) → IsIn z zs → d ∣ unsigned_abs z) → d ∣ gcd_all zs
gcd_greatest [] d h = dvd-zero d
gcd_greatest (z ∷ zs) d h = (IsGcd-gcd_of (unsigned_abs z) (gcd_all zs)).2 d (h z (inl refl)) (gcd_greatest zs d (λ y i. h y (inr i)))

-- ---- the same members
-- each of the first list is one of the second
abbrev pub Within : List Rational → List Rational → Type 0
Within qs ps = (q : Rational) → IsIn q qs → IsIn q ps

den_same : (qs ps : List Rational) → Within qs ps → Within ps qs → common_den qs ≡ common_den ps
den_same qs ps h k = dvd_antisymm (den_least qs (common_den ps) (λ q i. den_divides q ps (h q i))) (den_least ps (common_den qs) (λ q i. den_divides q qs (k q i)))

gcd_within : (d : ℕ) (qs ps : List Rational) → Within ps qs → gcd_all (cleared d qs) ∣ gcd_all (cleared d ps)
gcd_within d qs ps h = gcd_greatest (cleared d ps) (gcd_all (cleared d qs)) (λ z i.
    let o = map_out (cleared_at d) z ps i in
    subst (λ (x : ℤ). gcd_all (cleared d qs) ∣ unsigned_abs x) (sym o.2) (gcd_divides (cleared_at d o.0) (cleared d qs) (in_map (cleared_at d) o.0 qs (h o.0 o.1))))

gcd_same : (d : ℕ) (qs ps : List Rational) → Within qs ps → Within ps qs → gcd_all (cleared d qs) ≡ gcd_all (cleared d ps)
gcd_same d qs ps h k = dvd_antisymm (gcd_within d qs ps k) (gcd_within d ps qs h)

-- a fraction as a whole number, by a common denominator and a common divisor
abbrev number_by : ℕ → ℕ → Rational → ℤ
number_by d g q = if g == 0 then cleared_at d q else divided (cleared_at d q) g

abbrev divisor : List Rational → ℕ
divisor qs = gcd_all (cleared (common_den qs) qs)

lowest_is : (qs : List Rational) → lowest qs ≡ map (number_by (common_den qs) (divisor qs)) qs
lowest_is qs = by (divisor qs == 0)
  where
    by : (b : Bool) → (if b then cleared (common_den qs) qs else map (λ z. divided z (divisor qs)) (cleared (common_den qs) qs)) ≡ map (λ (q : Rational). if b then cleared_at (common_den qs) q else divided (cleared_at (common_den qs) q) (divisor qs)) qs
    by true = refl
    by false = map-map (λ (z : ℤ). divided z (divisor qs)) (cleared_at (common_den qs)) qs

-- one number for each fraction, in both lists
pub record SameScale (qs ps : List Rational) : Type 0 where
  pub number : Rational → ℤ
  pub first : lowest qs ≡ map number qs
  pub second : lowest ps ≡ map number ps

pub same_scale : (qs ps : List Rational) → Within qs ps → Within ps qs → SameScale qs ps
same_scale qs ps h k =
    let d = den_same ps qs k h in
    let g : divisor ps ≡ divisor qs = (λ i. gcd_all (cleared (d i) ps)) ∙ gcd_same (common_den qs) ps qs k h in
    record {
      number = number_by (common_den qs) (divisor qs);
      first = lowest_is qs;
      second = lowest_is ps ∙ (λ i. map (number_by (d i) (g i)) ps);
    }

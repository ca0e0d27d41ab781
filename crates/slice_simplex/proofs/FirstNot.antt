-- A property of numbers that can be told one by one holds of all below a bound, or there is a first one of which it doesn't.
use Rattle.std.proofs.Common.{ℕ, zero, suc, ◌<◌, ◌≡◌, ◌≢◌, ◌^◌, sym, subst, arith, ℤ, pos, ◌<ℤ◌, ◌≤ℤ◌, unsigned_abs, ◌⊎◌, inl, inr}
use Rattle.std.proofs.lemmas.Bool.{cases_lt, cases_eq}
use Rattle.slice_num.specs.Rational.{Fits}
use Rattle.slice_linear.proofs.Ring.{linear, sign}

-- i is the first number below n without the property
pub record IsFirstNot (P : ℕ → Type 0) (n i : ℕ) : Type 0 where
  pub in_range : i < n
  pub not : P i → ⊥
  pub before : (l : ℕ) → l < i → P l

-- one more number
with_last : (P : ℕ → Type 0) (n : ℕ) → ((i : ℕ) → i < n → P i) → P n → (i : ℕ) → i < suc n → P i
with_last P n all here i lt = elim (cases_eq i n) [
  | inl same ↦ subst P (sym same) here
  | inr ne ↦ all i (omega arith)
]

pub first_not : (P : ℕ → Type 0) → ((i : ℕ) → P i ⊎ (P i → ⊥)) → (n : ℕ) → ((i : ℕ) → i < n → P i) ⊎ ((i : ℕ) × IsFirstNot P n i)
first_not P tell zero = inl (λ i lt. absurd (omega arith))
first_not P tell (suc n) = elim (first_not P tell n) [
  | inr some ↦ inr (some.0, record { in_range = (let lt = some.1.in_range in omega arith); not = some.1.not; before = some.1.before })
  | inl all ↦ elim (tell n) [
    | inl here ↦ inl (with_last P n all here)
    | inr not ↦ inr (n, record { in_range = omega arith; not = not; before = all })
  ]
]

-- ---- what can be told of whole numbers

pub above_or_not : (z : ℤ) → (pos 0 <ℤ z) ⊎ (z ≤ℤ pos 0)
above_or_not z = elim (sign z) [
  | inl below ↦ inr (omega (arith, linear))
  | inr (inl same) ↦ inr (omega (arith, linear))
  | inr (inr above) ↦ inl above
]

pub tell_not_below : (z : ℤ) → (pos 0 ≤ℤ z) ⊎ (pos 0 ≤ℤ z → ⊥)
tell_not_below z = elim (sign z) [
  | inl below ↦ inr (λ h. omega (arith, linear))
  | inr (inl same) ↦ inl (omega (arith, linear))
  | inr (inr above) ↦ inl (omega (arith, linear))
]

pub below_of_not : (z : ℤ) → (pos 0 ≤ℤ z → ⊥) → z <ℤ pos 0
below_of_not z not = elim (sign z) [
  | inl below ↦ below
  | inr (inl same) ↦ absurd (not (omega (arith, linear)))
  | inr (inr above) ↦ absurd (not (omega (arith, linear)))
]

pub tell_zero : (z : ℤ) → (z ≡ pos 0) ⊎ (z ≢ pos 0)
tell_zero z = elim (sign z) [
  | inl below ↦ inr (λ e. omega (arith, linear))
  | inr (inl same) ↦ inl same
  | inr (inr above) ↦ inr (λ e. omega (arith, linear))
]

pub tell_below : (m n : ℕ) → (m < n) ⊎ (m < n → ⊥)
tell_below m n = elim (cases_lt m n) [
  | inl lt ↦ inl lt
  | inr le ↦ inr (λ lt. omega arith)
]

pub tell_fits : (z : ℤ) → Fits z ⊎ (Fits z → ⊥)
tell_fits z = tell_below (unsigned_abs z) (2 ^ 127)

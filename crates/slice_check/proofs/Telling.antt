-- What can be told, one way or the other: of numbers below a bound, of whole numbers, of rows and multipliers.
use Rattle.std.proofs.Common.{◌≡◌, ◌∙◌, ℕ, zero, suc, ◌<◌, ◌^◌, ◌⊎◌, inl, inr, sym, subst, arith, Bool, true, false, List, ℤ, pos, ◌≤ℤ◌, unsigned_abs, refl}
use Rattle.std.specs.Prelude.{IsTrue}
use Rattle.std.proofs.lemmas.Bool.{cases_lt, cases_eq}
use Rattle.std.proofs.lemmas.Slice.Eq.{bytes_eq-Decides}
use Rattle.std.specs.Str.{bytes_eq}
use Rattle.slice_num.specs.Rational.{Fits}
use Rattle.slice_linear.proofs.Ring.{linear, sign}

abbrev pub Told : Type 0 → Type 0
Told P = P ⊎ (P → ⊥)

pub tell_both : {P Q : Type 0} → Told P → Told Q → Told (P × Q)
tell_both (inl p) (inl q) = inl (p, q)
tell_both (inl p) (inr n) = inr (λ h. n h.1)
tell_both (inr n) q = inr (λ h. n h.0)

pub tell_not : {P : Type 0} → Told P → Told (P → ⊥)
tell_not (inl p) = inr (λ n. n p)
tell_not (inr n) = inl n

pub tell_like : {P Q : Type 0} → (P → Q) → (Q → P) → Told P → Told Q
tell_like f g (inl p) = inl (f p)
tell_like f g (inr n) = inr (λ q. n (g q))

-- ---- numbers below a bound

-- k is the first number below n without the property
pub record IsFirstNot (P : ℕ → Type 0) (n k : ℕ) : Type 0 where
  pub within : k < n
  pub not : P k → ⊥
  pub before : (i : ℕ) → i < k → P i

with_last : (P : ℕ → Type 0) (n : ℕ) → ((i : ℕ) → i < n → P i) → P n → (i : ℕ) → i < suc n → P i
with_last P n all here i lt = elim (cases_eq i n) [
  | inl same ↦ subst P (sym same) here
  | inr apart ↦ all i (omega arith)
]

pub first_not : (P : ℕ → Type 0) → ((i : ℕ) → Told (P i)) → (n : ℕ) → ((i : ℕ) → i < n → P i) ⊎ ((k : ℕ) × IsFirstNot P n k)
first_not P tell zero = inl (λ i lt. absurd (omega arith))
first_not P tell (suc n) = elim (first_not P tell n) [
  | inr some ↦ let lt = some.1.within in inr (some.0, record { within = omega (arith, lt); not = some.1.not; before = some.1.before })
  | inl all ↦ elim (tell n) [
    | inl here ↦ inl (with_last P n all here)
    | inr not ↦ inr (n, record { within = omega arith; not = not; before = all })
  ]
]

pub tell_all : (P : ℕ → Type 0) → ((i : ℕ) → Told (P i)) → (n : ℕ) → Told ((i : ℕ) → i < n → P i)
tell_all P tell n = elim (first_not P tell n) [
  | inl all ↦ inl all
  | inr some ↦ inr (λ all. some.1.not (all some.0 some.1.within))
]

pub tell_some : (P : ℕ → Type 0) → ((i : ℕ) → Told (P i)) → (n : ℕ) → Told ((k : ℕ) × (k < n) × P k)
tell_some P tell n = elim (first_not (λ i. P i → ⊥) (λ i. tell_not (tell i)) n) [
  | inl none ↦ inr (λ h. none h.0 h.1 h.2)
  | inr some ↦ elim (tell some.0) [
    | inl here ↦ inl (some.0, some.1.within, here)
    | inr not ↦ absurd (some.1.not not)
  ]
]

-- ---- numbers and texts

pub tell_below : (m n : ℕ) → Told (m < n)
tell_below m n = elim (cases_lt m n) [
  | inl lt ↦ inl lt
  | inr ge ↦ inr (λ lt. omega arith)
]

pub tell_fits : (z : ℤ) → Told (Fits z)
tell_fits z = tell_below (unsigned_abs z) (2 ^ 127)

pub tell_not_below : (z : ℤ) → Told (pos 0 ≤ℤ z)
tell_not_below z = elim (sign z) [
  | inl below ↦ inr (λ h. omega (arith, linear))
  | inr (inl same) ↦ inl (omega (arith, linear))
  | inr (inr above) ↦ inl (omega (arith, linear))
]

pub tell_true : (b : Bool) → Told (IsTrue b)
tell_true true = inl refl
tell_true false = inr (λ e. cc)

pub tell_same : (s t : List ℕ) → Told (s ≡ t)
tell_same s t = by (bytes_eq s t) refl
  where
    by : (b : Bool) → bytes_eq s t ≡ b → Told (s ≡ t)
    by true e = inl ((bytes_eq-Decides s t).0 e)
    by false e = inr (λ h. let k : true ≡ false = sym ((bytes_eq-Decides s t).1 h) ∙ e in cc)

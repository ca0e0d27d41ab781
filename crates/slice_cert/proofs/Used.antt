-- How many multipliers are used, and what the short form of a line cuts off.
use Rattle.std.proofs.Common.{◌≡◌, ◌∙◌, ◌≤◌, ◌<◌, ◌+◌, ◌-◌, ℕ, zero, suc, ℤ, pos, negsuc, List, [], ◌∷◌, ◌++◌, length, get_or, ap, refl, sym, arith, Bool, true, false}
use Rattle.std.specs.Prelude.{take, ◌==◌, if◌then◌else◌}
use Rattle.std.proofs.lemmas.Bool.Decides.{nat_tests}
use Rattle.std.proofs.lemmas.List.{take_more, take_all}
use Rattle.slice_cert.specs.declared.line.Line.{Line}
use Rattle.slice_cert.specs.declared.line.Line.TheVariants.{Refutation, Cover}
use Rattle.slice_cert.specs.ShortForms.{counted_from, used, needed, short_line}

-- ---- counts
counted_within : (m : ℤ) (n k : ℕ) → n ≤ k → counted_from m n ≤ suc k
counted_within m (suc n) k h = omega (arith, h)
counted_within (pos zero) zero k h = omega arith
counted_within (pos (suc m)) zero k h = omega arith
counted_within (negsuc m) zero k h = omega arith

pub used_within : (ms : List ℤ) → used ms ≤ length ms
used_within [] = omega arith
used_within (m ∷ ms) = counted_within m (used ms) (length ms) (used_within ms)

zero_first : (m : ℤ) (n : ℕ) → counted_from m n ≤ 0 → m ≡ pos 0
zero_first m (suc n) h = absurd (omega (arith, h))
zero_first (pos zero) zero h = refl
zero_first (pos (suc m)) zero h = absurd (omega (arith, h))
zero_first (negsuc m) zero h = absurd (omega (arith, h))

rest_within : (m : ℤ) (n k : ℕ) → counted_from m n ≤ suc k → n ≤ k
rest_within m (suc n) k h = omega (arith, h)
rest_within m zero k h = omega arith

-- what isn't used is 0
pub zero_past : (ms : List ℤ) (i : ℕ) → used ms ≤ i → get_or ms i (pos 0) ≡ pos 0
zero_past [] i h = refl
zero_past (m ∷ ms) zero h = zero_first m (used ms) h
zero_past (m ∷ ms) (suc i) h = zero_past ms i (rest_within m (used ms) i h)

-- ---- from the end
used_zero : (ms : List ℤ) → used (ms ++ pos 0 ∷ []) ≡ used ms
used_zero [] = refl
used_zero (m ∷ ms) = ap (counted_from m) (used_zero ms)

counted_more : (m : ℤ) (ms : List ℤ) (x : ℤ) → counted_from m (length (ms ++ x ∷ [])) ≡ suc (length (ms ++ x ∷ []))
counted_more m [] x = refl
counted_more m (y ∷ ms) x = refl

used_all : (ms : List ℤ) (x : ℤ) → (x ≡ pos 0 → ⊥) → used (ms ++ x ∷ []) ≡ length (ms ++ x ∷ [])
used_all [] (pos zero) h = absurd (h refl)
used_all [] (pos (suc x)) h = refl
used_all [] (negsuc x) h = refl
used_all (m ∷ ms) x h = ap (counted_from m) (used_all ms x h) ∙ counted_more m ms x

-- all but the last, and the last
ends_so : (ms : List ℤ) → 1 ≤ length ms → take (length ms - 1) ms ++ get_or ms (length ms - 1) (pos 0) ∷ [] ≡ ms
ends_so ms some =
    let last : length ms - 1 < length ms = omega (arith, some) in
    let all : (length ms - 1) + 1 ≡ length ms = omega (arith, some) in
    sym (take_more ms (length ms - 1) (pos 0) last) ∙ (ap (λ (k : ℕ). take k ms) all ∙ take_all (length ms) ms (omega arith))

pub last_zero : (ms : List ℤ) → 1 ≤ length ms → get_or ms (length ms - 1) (pos 0) ≡ pos 0 → used (take (length ms - 1) ms) ≡ used ms
last_zero ms some e =
    sym (used_zero (take (length ms - 1) ms)) ∙ ap used (ap (λ (x : ℤ). take (length ms - 1) ms ++ x ∷ []) (sym e) ∙ ends_so ms some)

pub last_used : (ms : List ℤ) → 1 ≤ length ms → (get_or ms (length ms - 1) (pos 0) ≡ pos 0 → ⊥) → length ms ≡ used ms
last_used ms some u =
    ap length (sym (ends_so ms some)) ∙ (sym (used_all (take (length ms - 1) ms) (get_or ms (length ms - 1) (pos 0)) u) ∙ ap used (ends_so ms some))

-- ---- the short form

-- what holds of a short form is shown of both lines that it may be
pub short_is : (P : Line → Type 0) (agents goal : ℕ) (ms : List ℤ) → (used ms ≡ length ms → P (Refutation goal ms))
    → (used ms < length ms → P (Cover goal (needed agents ms) (take (1 + agents + needed agents ms) ms))) → P (short_line agents goal ms)
short_is P agents goal ms whole front = by (used ms == length ms) refl
  where
    by : (b : Bool) → (used ms == length ms) ≡ b → P (if b then Refutation goal ms else Cover goal (needed agents ms) (take (1 + agents + needed agents ms) ms))
    by true e = whole (grind (arith, nat_tests))
    by false e = front (let w = used_within ms in grind (arith, nat_tests))

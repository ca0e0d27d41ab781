-- A solution's numbers are none above the greatest height, or one of them is the first: it is one.
use Rattle.std.proofs.Common.{◌≡◌, ◌∙◌, inl, inr, ℕ, zero, suc, ◌+◌, ◌-◌, ◌*◌, ◌/◌, ◌%◌, ◌<◌, ◌≤◌, ◌^◌, ◌≤ℤ◌, ◌<ℤ◌, List, [], ◌∷◌, length, ap, sym, subst, arith, ℤ, pos}
use Rattle.std.proofs.lemmas.Bool.{cases_lt, cases_order}
use Rattle.std.proofs.Math.ListN.{get_or-eq_default}
use Rattle.std.proofs.lemmas.Nat.{div-mul-add, mod-mul-add}
use Rattle.slice_linear.specs.Sums.{at}
use Rattle.slice_linear.proofs.Ring.{linear}
use Rattle.slice_counter.specs.Counter.{IsLow}
use Rattle.slice_counter.specs.Heights.{IsFirstHigh}

low_at : (xs : List ℤ) → IsLow xs → (i : ℕ) → 1 ≤ i → (at xs i) ≤ℤ pos (10 ^ 18)
low_at [] h i some = omega (arith, linear)
low_at (x ∷ xs) h (suc i) some = elim (cases_lt i (length xs)) [
  | inl l ↦ h i (pos 0) l
  | inr l ↦ subst (λ z. z ≤ℤ pos (10 ^ 18)) (sym (get_or-eq_default xs (pos 0) l)) (omega (arith, linear))
]
low_at (x ∷ xs) h zero some = absurd (omega (arith, some))

pub not_both_heights : (agents atoms : ℕ) (xs : List ℤ) (agent atom : ℕ) → IsLow xs → IsFirstHigh agents atoms xs agent atom → ⊥
not_both_heights agents atoms xs agent atom l h =
    let below = low_at xs l (1 + (agent - 1) * atoms + atom) (omega arith) in
    let above = h.high in
    omega (arith, linear)

-- two places of the first number above it are one
one_place : (xs : List ℤ) (i j : ℕ) → 1 ≤ i → 1 ≤ j → pos (10 ^ 18) <ℤ (at xs i) → pos (10 ^ 18) <ℤ (at xs j) → ((k : ℕ) → 1 ≤ k → k < i → (at xs k) ≤ℤ pos (10 ^ 18)) → ((k : ℕ) → 1 ≤ k → k < j → (at xs k) ≤ℤ pos (10 ^ 18)) → i ≡ j
one_place xs i j si sj hi hj fi fj = elim (cases_order i j) [
  | inl e ↦ e
  | inr (inl l) ↦ let low = fj i si l in absurd (omega (arith, linear))
  | inr (inr l) ↦ let low = fi j sj l in absurd (omega (arith, linear))
]

pub one_height : (agents atoms : ℕ) (xs : List ℤ) (agent atom other part : ℕ) → IsFirstHigh agents atoms xs agent atom → IsFirstHigh agents atoms xs other part → (agent ≡ other) × (atom ≡ part)
one_height agents atoms xs agent atom other part h k =
    let same : 1 + (agent - 1) * atoms + atom ≡ 1 + (other - 1) * atoms + part = one_place xs (1 + (agent - 1) * atoms + atom) (1 + (other - 1) * atoms + part) (omega arith) (omega arith) h.high k.high h.first k.first in
    let number : (agent - 1) * atoms + atom ≡ (other - 1) * atoms + part = omega (arith, same) in
    let row : agent - 1 ≡ other - 1 = sym (div-mul-add (agent - 1) atoms atom h.is_atom) ∙ ap (λ n. n / atoms) number ∙ div-mul-add (other - 1) atoms part k.is_atom in
    let column : atom ≡ part = sym (mod-mul-add (agent - 1) atoms atom h.is_atom) ∙ ap (λ n. n % atoms) number ∙ mod-mul-add (other - 1) atoms part k.is_atom in
    (omega (arith, row, h.is_agent.0, k.is_agent.0), column)

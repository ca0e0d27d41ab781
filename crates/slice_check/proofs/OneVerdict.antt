-- Of multipliers one verdict holds at most.
use Rattle.std.proofs.Common.{◌≡◌, inl, inr, ◌<◌, ℕ, ℤ, pos, List, ap, subst, refl, arith}
use Rattle.std.specs.Prelude.{◌≤ℤ◌, ◌<ℤ◌}
use Rattle.std.proofs.lemmas.Bool.{cases_lt}
use Rattle.slice_linear.specs.Rows.{LinearRow, weighted}
use Rattle.slice_linear.proofs.Ring.{linear}
use Rattle.slice_check.specs.Verdicts.{IsVerdict, SumFits}
use Rattle.slice_check.specs.declared.verdict.Verdict.{Verdict}
use Rattle.slice_check.specs.declared.verdict.Verdict.TheVariants.{Yes, Length, Sign, Sum, NoStrict, Overflow}

not_above : (z : ℤ) → z ≤ℤ pos 0 → pos 0 <ℤ z → ⊥
not_above z a b = omega (arith, linear, a, b)

-- two numbers of which none is below the other
pub one_number : (i j : ℕ) → (i < j → ⊥) → (j < i → ⊥) → i ≡ j
one_number i j f g = elim (cases_lt i j) [
  | inl lt ↦ absurd (f lt)
  | inr ge ↦ elim (cases_lt j i) [
    | inl gt ↦ absurd (g gt)
    | inr le ↦ omega (arith, ge, le)
  ]
]

same_sign : (rows : List LinearRow) (m : List ℤ) (i j : ℕ) → IsVerdict rows m (Sign i) → IsVerdict rows m (Sign j) → i ≡ j
same_sign rows m i j p q = one_number i j (λ lt. p.2 (q.3 i lt)) (λ gt. q.2 (p.3 j gt))

same_sum : (rows : List LinearRow) (m : List ℤ) (i j : ℕ) → IsVerdict rows m (Sum i) → IsVerdict rows m (Sum j) → i ≡ j
same_sum rows m i j p q = one_number i j (λ lt. not_above (weighted rows m i) (q.1.1 i lt).1 p.1.3) (λ gt. not_above (weighted rows m j) (p.1.1 j gt).1 q.1.3)

same_overflow : (rows : List LinearRow) (m : List ℤ) (i j : ℕ) → IsVerdict rows m (Overflow i) → IsVerdict rows m (Overflow j) → i ≡ j
same_overflow rows m i j p q = one_number i j (λ lt. p.1.2 (q.1.1 i lt).0) (λ gt. q.1.2 (p.1.1 j gt).0)

sum_fits : (rows : List LinearRow) (m : List ℤ) (i j : ℕ) → IsVerdict rows m (Sum i) → IsVerdict rows m (Overflow j) → ⊥
sum_fits rows m i j p q =
    let e = one_number i j (λ lt. not_above (weighted rows m i) (q.1.1 i lt).1 p.1.3) (λ gt. q.1.2 (p.1.1 j gt).0) in
    q.1.2 (subst (λ (k : ℕ). SumFits rows m k) e p.1.2)

pub one_verdict : (rows : List LinearRow) (m : List ℤ) (v w : Verdict) → IsVerdict rows m v → IsVerdict rows m w → v ≡ w
one_verdict rows m Length Length p q = refl
one_verdict rows m Length (Sign j) p q = absurd (p q.0)
one_verdict rows m Length (Sum j) p q = absurd (p q.0.0)
one_verdict rows m Length (Overflow j) p q = absurd (p q.0.0)
one_verdict rows m Length NoStrict p q = absurd (p q.0.0)
one_verdict rows m Length Yes p q = absurd (p q.0.same_length)
one_verdict rows m (Sign i) Length p q = absurd (q p.0)
one_verdict rows m (Sign i) (Sign j) p q = ap Sign (same_sign rows m i j p q)
one_verdict rows m (Sign i) (Sum j) p q = absurd (p.2 (q.0.1 i p.1))
one_verdict rows m (Sign i) (Overflow j) p q = absurd (p.2 (q.0.1 i p.1))
one_verdict rows m (Sign i) NoStrict p q = absurd (p.2 (q.0.1 i p.1))
one_verdict rows m (Sign i) Yes p q = absurd (p.2 (q.0.signs i p.1))
one_verdict rows m (Sum i) Length p q = absurd (q p.0.0)
one_verdict rows m (Sum i) (Sign j) p q = absurd (q.2 (p.0.1 j q.1))
one_verdict rows m (Sum i) (Sum j) p q = ap Sum (same_sum rows m i j p q)
one_verdict rows m (Sum i) (Overflow j) p q = absurd (sum_fits rows m i j p q)
one_verdict rows m (Sum i) NoStrict p q = absurd (not_above (weighted rows m i) (q.1 i p.1.0).1 p.1.3)
one_verdict rows m (Sum i) Yes p q = absurd (not_above (weighted rows m i) (q.0.at_most_zero i) p.1.3)
one_verdict rows m (Overflow i) Length p q = absurd (q p.0.0)
one_verdict rows m (Overflow i) (Sign j) p q = absurd (q.2 (p.0.1 j q.1))
one_verdict rows m (Overflow i) (Sum j) p q = absurd (sum_fits rows m j i q p)
one_verdict rows m (Overflow i) (Overflow j) p q = ap Overflow (same_overflow rows m i j p q)
one_verdict rows m (Overflow i) NoStrict p q = absurd (p.1.2 (q.1 i p.1.0).0)
one_verdict rows m (Overflow i) Yes p q = absurd (p.1.2 (q.1 i p.1.0))
one_verdict rows m NoStrict Length p q = absurd (q p.0.0)
one_verdict rows m NoStrict (Sign j) p q = absurd (q.2 (p.0.1 j q.1))
one_verdict rows m NoStrict (Sum j) p q = absurd (not_above (weighted rows m j) (p.1 j q.1.0).1 q.1.3)
one_verdict rows m NoStrict (Overflow j) p q = absurd (q.1.2 (p.1 j q.1.0).0)
one_verdict rows m NoStrict NoStrict p q = refl
one_verdict rows m NoStrict Yes p q = absurd (p.2 q.0.strict)
one_verdict rows m Yes Length p q = absurd (q p.0.same_length)
one_verdict rows m Yes (Sign j) p q = absurd (q.2 (p.0.signs j q.1))
one_verdict rows m Yes (Sum j) p q = absurd (not_above (weighted rows m j) (p.0.at_most_zero j) q.1.3)
one_verdict rows m Yes (Overflow j) p q = absurd (q.1.2 (p.1 j q.1.0))
one_verdict rows m Yes NoStrict p q = absurd (q.2 p.0.strict)
one_verdict rows m Yes Yes p q = refl

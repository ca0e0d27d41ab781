-- Of multipliers one verdict holds.
use Rattle.std.proofs.Common.{ℕ, ◌<◌, ◌⊎◌, inl, inr, List, length, ℤ, pos, ◌*ℤ◌, ◌≤ℤ◌, ◌<ℤ◌, suc, arith}
use Rattle.std.proofs.lemmas.Bool.{cases_eq}
use Rattle.slice_num.specs.Rational.{Fits}
use Rattle.slice_linear.specs.Sums.{at, sum_to}
use Rattle.slice_linear.specs.Rows.{LinearRow, IsAbove, KindTakes, kind_at, coefs_at, weighted, width}
use Rattle.slice_linear.specs.declared.row.RowKind.{RowKind}
use Rattle.slice_linear.specs.declared.row.RowKind.TheVariants.{Zero, AtLeast, Above}
use Rattle.slice_linear.proofs.Ring.{linear, sign}
use Rattle.slice_check.specs.declared.verdict.Verdict.{Verdict}
use Rattle.slice_check.specs.declared.verdict.Verdict.TheVariants.{Yes, Length, Sign, Sum, NoStrict, Overflow}
use Rattle.slice_check.specs.Verdicts.{IsVerdict, HaveOneWidth, HasSigns, HasStrict, SumFits, SumsHold}
use Rattle.slice_check.proofs.Columns.{at_most_zero}
use Rattle.slice_check.proofs.Telling.{Told, IsFirstNot, first_not, tell_all, tell_some, tell_both, tell_like, tell_fits, tell_not_below}

tell_takes : (k : RowKind) (z : ℤ) → Told (KindTakes k z)
tell_takes Zero z = inl tt
tell_takes AtLeast z = tell_not_below z
tell_takes Above z = tell_not_below z

tell_above : (k : RowKind) → Told (IsAbove k)
tell_above Zero = inr (λ h. h)
tell_above AtLeast = inr (λ h. h)
tell_above Above = inl tt

above_or_not : (z : ℤ) → (pos 0 <ℤ z) ⊎ (z ≤ℤ pos 0)
above_or_not z = elim (sign z) [
  | inl below ↦ inr (omega (arith, linear))
  | inr (inl same) ↦ inr (omega (arith, linear))
  | inr (inr above) ↦ inl above
]

not_both : (z : ℤ) → pos 0 <ℤ z → z ≤ℤ pos 0 → ⊥
not_both z a b = omega (arith, linear, a, b)

tell_strictly : (z : ℤ) → Told (pos 0 <ℤ z)
tell_strictly z = elim (above_or_not z) [
  | inl above ↦ inl above
  | inr not ↦ inr (λ above. not_both z above not)
]

module _ (rows : List LinearRow) (m : List ℤ) where
  tell_sum_fits : (j : ℕ) → Told (SumFits rows m j)
  tell_sum_fits j =
      tell_all (λ i. Fits (at m i *ℤ at (coefs_at rows i) j) × Fits (sum_to (suc i) (λ k. at m k *ℤ at (coefs_at rows k) j)))
      (λ i. tell_both (tell_fits (at m i *ℤ at (coefs_at rows i) j)) (tell_fits (sum_to (suc i) (λ k. at m k *ℤ at (coefs_at rows k) j))))
      (length rows)

  abbrev SumHolds : ℕ → Type 0
  SumHolds j = SumFits rows m j × ((weighted rows m j) ≤ℤ pos 0)

  tell_at_most : (j : ℕ) → Told ((weighted rows m j) ≤ℤ pos 0)
  tell_at_most j = elim (above_or_not (weighted rows m j)) [
    | inl above ↦ inr (λ le. not_both (weighted rows m j) above le)
    | inr le ↦ inl le
  ]

  tell_strict : Told (HasStrict rows m)
  tell_strict =
      tell_like (λ (h : (i : ℕ) × (i < length rows) × (IsAbove (kind_at rows i) × (pos 0 <ℤ (at m i)))). (h.0, h.1, h.2.0, h.2.1)) (λ h. (h.0, h.1, (h.2, h.3)))
      (tell_some (λ i. IsAbove (kind_at rows i) × (pos 0 <ℤ (at m i))) (λ i. tell_both (tell_above (kind_at rows i)) (tell_strictly (at m i))) (length rows))

  -- the first sum that doesn't do
  failing : (j : ℕ) → HasSigns rows m → IsFirstNot SumHolds (width rows) j → (v : Verdict) × IsVerdict rows m v
  failing j signs first = elim (tell_sum_fits j) [
    | inr over ↦ (Overflow j, (signs, (first.within, first.before, over)))
    | inl fit ↦ elim (above_or_not (weighted rows m j)) [
      | inl above ↦ (Sum j, (signs, (first.within, first.before, fit, above)))
      | inr le ↦ absurd (first.not (fit, le))
    ]
  ]

  summed : HaveOneWidth rows → HasSigns rows m → SumsHold rows m (width rows) → (v : Verdict) × IsVerdict rows m v
  summed r signs sums = elim tell_strict [
    | inr none ↦ (NoStrict, (signs, sums, none))
    | inl strict ↦ (
      Yes,
      (record { same_length = signs.0; signs = signs.1; at_most_zero = at_most_zero rows m r sums; strict = strict }, λ j lt. (sums j lt).0),
    )
  ]

  pub some_verdict : HaveOneWidth rows → (v : Verdict) × IsVerdict rows m v
  some_verdict r = elim (cases_eq (length m) (length rows)) [
    | inr apart ↦ (Length, apart)
    | inl same ↦ elim (first_not (λ i. KindTakes (kind_at rows i) (at m i)) (λ i. tell_takes (kind_at rows i) (at m i)) (length rows)) [
      | inr some ↦ (Sign some.0, (same, some.1.within, some.1.not, some.1.before))
      | inl signs ↦ elim (first_not SumHolds (λ j. tell_both (tell_sum_fits j) (tell_at_most j)) (width rows)) [
        | inr some ↦ failing some.0 (same, signs) some.1
        | inl sums ↦ summed r (same, signs) sums
      ]
    ]
  ]

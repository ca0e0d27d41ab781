-- A pivot run is determined by its rows: its tables, and where it ends.
use Rattle.std.proofs.Common.{ℕ, suc, ◌≤◌, ◌≡◌, ◌∙◌, ap, sym, refl, subst, arith, List, ◌∷◌, length, set, inl, inr}
use Rattle.std.proofs.lemmas.Bool.{cases_eq}
use Rattle.std.proofs.lemmas.List.{ext_get_or}
use Rattle.slice_linear.proofs.Ring.{linear}
use Rattle.slice_linear.specs.Rows.{LinearRow}
use Rattle.slice_tableau.specs.System.{own_column}
use Rattle.slice_tableau.specs.Table.{Table, IsFirst, IsEntering, IsLeaving, NoneEnters}
use Rattle.slice_tableau.specs.Run.{IsLawfulStep, IsPivotRun, begins, goes_on}
use Rattle.slice_tableau.proofs.OneTableau.{same_basis, same_column, same_row}

-- one table follows
pub same_step : (rows : List LinearRow) (t u v : Table) → IsLawfulStep rows t u → IsLawfulStep rows t v → u ≡ v
same_step rows t u v a b =
    let c : a.col ≡ b.col = same_column t a.col b.col a.enters b.enters in
    let r : a.row ≡ b.row = same_row t b.col a.row b.row (subst (λ (x : ℕ). IsLeaving t x a.row) c a.leaves) b.leaves in
    same_basis rows u v a.new b.new (a.basis_is ∙ (λ i. set t.basis (r i) (c i)) ∙ sym b.basis_is)

-- one table is the first
pub same_first : (rows : List LinearRow) (t u : Table) → IsFirst rows t → IsFirst rows u → t ≡ u
same_first rows t u a b =
    let tall : t.height ≡ u.height = a.of_rows.height_is ∙ sym b.of_rows.height_is in
    let wide : t.unknowns ≡ u.unknowns = a.of_rows.unknowns_is ∙ sym b.of_rows.unknowns_is in
    same_basis rows t u a.of_rows b.of_rows (ext_get_or 0 t.basis u.basis (a.of_rows.sizes.basics ∙ ap suc tall ∙ sym b.of_rows.sizes.basics)
    (λ l ll. let h = a.of_rows.sizes.basics in a.slacks l (omega arith) ∙ (λ i. own_column (wide i) (tall i) l) ∙ sym (b.slacks l (omega arith))))

-- runs of one length are the same
pub same_run : (rows : List LinearRow) (t : Table) (xs : List Table) → IsPivotRun rows (t ∷ xs) → (u : Table) (ys : List Table) → IsPivotRun rows (u ∷ ys) → length xs ≡ length ys → (t ≡ u) × (xs ≡ ys)
same_run rows t xs (begins x f) u ys (begins y g) e = (same_first rows x y f g, refl)
same_run rows t xs (begins x f) u ys (goes_on a az y run s) e = absurd (omega arith)
same_run rows t xs (goes_on a az x run s) u ys (begins y g) e = absurd (omega arith)
same_run rows t xs (goes_on a az x run s) u ys (goes_on b bs y more r) e =
    let h = same_run rows a az run b bs more (omega arith) in
    (same_step rows b x y (subst (λ (z : Table). IsLawfulStep rows z x) h.0 s) r, (λ i. h.0 i ∷ h.1 i))

-- a run doesn't go on past a table at which no column enters
pub not_longer : (rows : List LinearRow) (t : Table) (xs : List Table) → IsPivotRun rows (t ∷ xs) → NoneEnters t → (u : Table) (ys : List Table) → IsPivotRun rows (u ∷ ys) → length ys ≤ length xs
not_longer rows t xs run none u ys (begins y g) = omega arith
not_longer rows t xs run none u ys (goes_on b bs y more r) =
    let le = not_longer rows t xs run none b bs more in
    elim (cases_eq (length xs) (length bs)) [
      | inr ne ↦ omega arith
      | inl same ↦ absurd (
          let e = (same_run rows t xs run b bs more same).0 in
          let enters = subst (λ (z : Table). IsEntering z r.col) (sym e) r.enters in
          let p = none r.col enters.in_range in
          let q = enters.below in
          omega (arith, linear))
    ]

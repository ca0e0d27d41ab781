-- A lawful pivot keeps the lists above the zeros, and makes the objective row rise.
use Rattle.std.proofs.Common.{ℕ, suc, ◌+◌, ◌≡◌, ◌∙◌, ap, sym, subst, List, length}
use Rattle.slice_linear.specs.Rows.{LinearRow, width}
use Rattle.slice_tableau.specs.System.{lines, start_cell, own_column, list_column}
use Rattle.slice_tableau.specs.Lex.{IsRatioBelow}
use Rattle.slice_tableau.specs.Table.{Table, IsTableauOf, IsEntering, IsLeaving, IsPivot, cell_at, basic_at}
use Rattle.slice_tableau.specs.Run.{IsLawfulStep, ListsAreHigh, Rises}
use Rattle.slice_tableau.proofs.RunLaws.{IsHigh, step_keeps_high, step_rises}
use Rattle.slice_tableau.proofs.RunBridge.{stage, step_is}

pub last_is : (rows : List LinearRow) (t : Table) → IsTableauOf rows t → basic_at t (length (lines rows)) ≡ width rows + 2 + length (lines rows)
last_is rows t of = ap (basic_at t) (sym of.height_is) ∙ of.last_basic ∙ (λ i. of.unknowns_is i + 2 + of.height_is i)

-- told of the table's own width and height
high_in : (rows : List LinearRow) (t : Table) → IsTableauOf rows t → ListsAreHigh t → IsHigh (length (lines rows)) (list_column (width rows) (length (lines rows))) (stage t)
high_in rows t of h = subst (λ m. IsHigh m (list_column (width rows) m) (stage t)) of.height_is (subst (λ w. IsHigh t.height (list_column w t.height) (stage t)) of.unknowns_is h)

pub high_out : (rows : List LinearRow) (t : Table) → IsTableauOf rows t → IsHigh (length (lines rows)) (list_column (width rows) (length (lines rows))) (stage t) → ListsAreHigh t
high_out rows t of h = subst (λ w. IsHigh t.height (list_column w t.height) (stage t)) (sym of.unknowns_is) (subst (λ m. IsHigh m (list_column (width rows) m) (stage t)) (sym of.height_is) h)

-- the lists stay above the zeros
pub keeps_high : (rows : List LinearRow) (t u : Table) → IsLawfulStep rows t u → ListsAreHigh t → ListsAreHigh u
keeps_high rows t u s high =
    let m = length (lines rows) in
    let w = width rows in
    high_out rows u s.new (step_keeps_high m (start_cell w rows) (own_column w m) (list_column w m) (stage t) (stage u) (step_is rows t u s) (high_in rows t s.old high))

-- and the objective row's list rises
pub rises : (rows : List LinearRow) (t u : Table) → IsLawfulStep rows t u → ListsAreHigh t → Rises t u
rises rows t u s high =
    let m = length (lines rows) in
    let w = width rows in
    rises_out t u w m (sym s.old.unknowns_is) (sym s.old.height_is) (sym s.new.unknowns_is) (sym s.new.height_is)
    (step_rises m (start_cell w rows) (own_column w m) (list_column w m) (w + 2 + m) (stage t) (stage u) (step_is rows t u s) (high_in rows t s.old high) (last_is rows t s.old))
  where
    rises_out : (t u : Table) (w m : ℕ) → w ≡ t.unknowns → m ≡ t.height → w ≡ u.unknowns → m ≡ u.height
        → IsRatioBelow (suc m) (λ i. cell_at t m (list_column w m i)) (cell_at t m (w + 2 + m)) (λ i. cell_at u m (list_column w m i)) (cell_at u m (w + 2 + m)) → Rises t u
    rises_out t u w m et ht eu hu r = coe 0 1 (i. IsRatioBelow (suc (ht i)) (λ x. cell_at t (ht i) (list_column (et i) (ht i) x)) (cell_at t (ht i) (et i + 2 + ht i)) (λ x. cell_at u (hu i) (list_column (eu i) (hu i) x)) (cell_at u (hu i) (eu i + 2 + hu i))) r

-- a pivot on the lawful row and column is a lawful step
pub lawful : (rows : List LinearRow) (t u : Table) (row col : ℕ) → IsTableauOf rows t → IsEntering t col → IsLeaving t col row → IsPivot t row col u → IsLawfulStep rows t u
lawful rows t u row col of e l p = record { old = of; new = p.keeps rows of; row = row; col = col; enters = e; leaves = l; basis_is = p.basis_is }

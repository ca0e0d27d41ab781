-- What a lawful step adds to a run.
use Rattle.std.proofs.Common.{ℕ, suc, ◌+◌, ◌<◌, ◌≤◌, ◌≡◌, ◌∙◌, ap, sym, refl, subst, add-one, List, [], ◌∷◌}
use Rattle.slice_linear.specs.Rows.{LinearRow}
use Rattle.slice_tableau.specs.Table.{Table, IsTableauOf, IsFirst, IsEntering, IsLeaving, PivotFits, columns}
use Rattle.slice_tableau.specs.Run.{IsLawfulStep, begins, goes_on}
use Rattle.slice_simplex.specs.Made.{IsEndOf, IsMade, IsLast, StepFits}
use Rattle.slice_simplex.proofs.Tables.{run_is_of}
use Rattle.slice_tableau.proofs.OneTableau.{same_column, same_row}

pub made_none : (rows : List LinearRow) (t : Table) → IsFirst rows t → IsMade rows 0 t
made_none rows t f = record { before = []; run = begins t f; count = refl; fit = tt }

pub made_of : (rows : List LinearRow) (n : ℕ) (t : Table) → IsMade rows n t → IsTableauOf rows t
made_of rows n t m = run_is_of rows t m.before m.run

pub made_more : (rows : List LinearRow) (n : ℕ) (t u : Table) → IsMade rows n t → IsLawfulStep rows t u → StepFits t → IsMade rows (n + 1) u
made_more rows n t u m s f = record { before = t ∷ m.before; run = goes_on t m.before u m.run s; count = ap suc m.count ∙ sym (add-one n); fit = (f, m.fit) }

-- the numbers of one lawful pivot are those of each
pub fits_all : (t : Table) (row col : ℕ) → IsEntering t col → IsLeaving t col row → ((i j : ℕ) → i ≤ t.height → j < columns t → PivotFits t row col i j) → StepFits t
fits_all t row col e l f r c i j e2 l2 li lj =
    let same : c ≡ col = same_column t c col e2 e in
    let row_same : r ≡ row = same_row t col r row (subst (λ (x : ℕ). IsLeaving t x r) same l2) l in
    subst (λ (x : ℕ). PivotFits t x c i j) (sym row_same) (subst (λ (x : ℕ). PivotFits t row x i j) (sym same) (f i j li lj))

pub end_of : (rows : List LinearRow) (n : ℕ) (t : Table) → IsLast rows n t → IsEndOf rows t
end_of rows n t a = record { before = a.made.before; run = a.made.run; none = a.none }

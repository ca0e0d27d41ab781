-- The pivot run of a system: the chain of tableaux under lawful pivots.
use Rattle.std.specs.Prelude.{ℕ, suc, ◌+◌, ◌<◌, ◌≡◌, List, [], ◌∷◌, slice_set}
use Rattle.slice_linear.specs.Rows.{LinearRow}
use Rattle.slice_tableau.specs.Lex.{IsLexAbove, IsRatioBelow}
use Rattle.slice_tableau.specs.Table.{Table, IsTableauOf, IsFirst, IsEntering, IsLeaving, cell_at, list_at}

-- from t to u by the lawful choice of row and column. Both are the tableaux of their bases, so the step is told by the bases
-- alone: one column takes the place of another
pub record IsLawfulStep (rows : List LinearRow) (t u : Table) : Type 0 where
  pub old : IsTableauOf rows t
  pub new : IsTableauOf rows u
  pub row : ℕ
  pub col : ℕ
  pub enters : IsEntering t col
  pub leaves : IsLeaving t col row
  pub basis_is : u.basis ≡ slice_set t.basis row col

-- a pivot run, the last tableau first
pub data IsPivotRun (rows : List LinearRow) : List Table → Type 0 where
  begins : (t : Table) → IsFirst rows t → IsPivotRun rows (t ∷ [])
  goes_on : (t : Table) (before : List Table) (u : Table) → IsPivotRun rows (t ∷ before) → IsLawfulStep rows t u → IsPivotRun rows (u ∷ (t ∷ before))

-- the list of every row but the objective row is above the list of zeros
abbrev pub ListsAreHigh : Table → Type 0
ListsAreHigh t = (l : ℕ) → l < t.height → IsLexAbove (suc t.height) (list_at t l)

-- from t to u the objective row's list, divided by its number at z, rises
abbrev pub Rises : Table → Table → Type 0
Rises t u = IsRatioBelow (suc t.height) (list_at t t.height) (cell_at t t.height (t.unknowns + 2 + t.height)) (list_at u u.height) (cell_at u u.height (u.unknowns + 2 + u.height))

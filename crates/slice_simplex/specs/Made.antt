-- The pivot run of rows to its end, and as far as its numbers fit.
use Rattle.std.specs.Prelude.{ℕ, ◌<◌, ◌≤◌, ◌≡◌, List, [], ◌∷◌, length}
use Rattle.slice_linear.specs.Rows.{LinearRow}
use Rattle.slice_tableau.specs.Table.{Table, columns, IsEntering, IsLeaving, NoneEnters, PivotFits}
use Rattle.slice_tableau.specs.Run.{IsPivotRun}

-- t is the last tableau of the pivot run: no column enters
pub record IsEndOf (rows : List LinearRow) (t : Table) : Type 0 where
  pub before : List Table
  pub run : IsPivotRun rows (t ∷ before)
  pub none : NoneEnters t

-- the numbers that the lawful pivot from t makes fit
abbrev pub StepFits : Table → Type 0
StepFits t = (r c i j : ℕ) → IsEntering t c → IsLeaving t c r → i ≤ t.height → j < columns t → PivotFits t r c i j

-- so do those of each tableau of a list
abbrev pub EachStepFits : List Table → Type 0
EachStepFits [] = Unit {0}
EachStepFits (t ∷ before) = StepFits t × EachStepFits before

-- t is the tableau after that many lawful pivots, whose numbers all fit
pub record IsMade (rows : List LinearRow) (pivots : ℕ) (t : Table) : Type 0 where
  pub before : List Table
  pub run : IsPivotRun rows (t ∷ before)
  pub count : length before ≡ pivots
  pub fit : EachStepFits before

-- and no column enters
pub record IsLast (rows : List LinearRow) (pivots : ℕ) (t : Table) : Type 0 where
  pub made : IsMade rows pivots t
  pub none : NoneEnters t

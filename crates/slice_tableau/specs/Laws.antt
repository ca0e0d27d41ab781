-- Laws of tableaux and of their pivot runs.
use Rattle.std.specs.Prelude.{ℕ, ◌≡◌, List, ◌∷◌}
use Rattle.slice_linear.specs.Rows.{LinearRow}
use Rattle.slice_tableau.specs.Table.{Table, IsTableauOf, IsEntering, IsLeaving}
use Rattle.slice_tableau.specs.Run.{IsLawfulStep, IsPivotRun, ListsAreHigh, Rises}

-- a basis has one tableau
abbrev pub BasesHaveOneTableau : Type 0
BasesHaveOneTableau = (rows : List LinearRow) (t u : Table) → IsTableauOf rows t → IsTableauOf rows u → t.basis ≡ u.basis → t ≡ u

-- one column enters
abbrev pub OneColumnEnters : Type 0
OneColumnEnters = (t : Table) (c d : ℕ) → IsEntering t c → IsEntering t d → c ≡ d

-- one row leaves for a column
abbrev pub OneRowLeaves : Type 0
OneRowLeaves = (t : Table) (c r s : ℕ) → IsLeaving t c r → IsLeaving t c s → r ≡ s

-- at each tableau of a pivot run the lists are above the zeros
abbrev pub RunsKeepListsHigh : Type 0
RunsKeepListsHigh = (rows : List LinearRow) (t : Table) (before : List Table) → IsPivotRun rows (t ∷ before) → ListsAreHigh t

-- a lawful step keeps this
abbrev pub StepsKeepListsHigh : Type 0
StepsKeepListsHigh = (rows : List LinearRow) (t u : Table) → IsLawfulStep rows t u → ListsAreHigh t → ListsAreHigh u

-- and the objective row's list rises strictly
abbrev pub StepsRise : Type 0
StepsRise = (rows : List LinearRow) (t u : Table) → IsLawfulStep rows t u → ListsAreHigh t → Rises t u

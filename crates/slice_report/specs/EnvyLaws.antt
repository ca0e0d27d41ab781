-- The envy that is told is that of the share-values.
use Rattle.std.specs.Prelude.{◌↔◌, ◌<◌, ◌≤◌, ℕ, ⊤, IsTrue, List, length}
use Rattle.slice_num.specs.Valuation.{Valuation}
use Rattle.slice_core.specs.Division.{IsEnvious}
use Rattle.slice_core.specs.Measures.{worth_of}
use Rattle.slice_run.specs.RunLaws.{TellsValues}
use Rattle.slice_run.specs.Walk.{Told, Divided, Halted}
use Rattle.slice_report.specs.RunReport.{envies}

-- a pair of agents is told exactly where the first values the other's share above its own
abbrev pub TellsEnvy : List Valuation → Told → Type 0
TellsEnvy vs (Divided queries shares left values) = (a b : ℕ) → 0 < a → a ≤ length vs → (IsTrue (envies values a b) ↔ IsEnvious (worth_of vs) shares a b)
TellsEnvy vs (Halted queries query at) = ⊤

-- so it is where the values that are told are the share-values
abbrev pub ToldEnvyIsEnvy : Type 0
ToldEnvyIsEnvy = (vs : List Valuation) (t : Told) → TellsValues vs t → TellsEnvy vs t

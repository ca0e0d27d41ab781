-- The closing line of a counterexample is a replay file.
use Rattle.std.specs.Prelude.{◌≡◌, ℕ, ◌+◌, ◌*◌, ◌<◌, ◌≤◌, ◌^◌, List, length, ℤ}
use Rattle.std.specs.List.{Contains}
use Rattle.slice_num.specs.Valuation.{Valuation}
use Rattle.slice_num.specs.declared.cut_answer.CutAnswer.{CutAnswer}
use Rattle.slice_json.specs.Texts.{line_of}
use Rattle.slice_core.specs.Tree.{Core}
use Rattle.slice_core.specs.WellFormed.{IsWellFormed}
use Rattle.slice_linear.specs.Rows.{IsSolution}
use Rattle.slice_atoms.specs.Addresses.{atom_count}
use Rattle.slice_paths.specs.Goals.{Goal, goals}
use Rattle.slice_paths.specs.Ways.{way_of}
use Rattle.slice_step.specs.ValuationFile.{IsReplayFile}
use Rattle.slice_counter.specs.Counter.{IsLow, valuations_of, answers_of}
use Rattle.slice_counter.specs.CounterLine.{counter_json}

-- the most bytes of a replay file
abbrev pub file_limit : ℕ
file_limit = 1048576

-- the line, LF included, of a counterexample to the goal of that number, with these valuations and answers: it is a replay
-- file of them for the core's agents, and isn't too long for one
pub record IsReplay (core : Core) (g : Goal) (vs : List Valuation) (ys : List CutAnswer) : Type 0 where
  pub file : IsReplayFile (line_of (counter_json g.number g.kind g.query vs ys)) core.agents vs ys
  pub short : length (line_of (counter_json g.number g.kind g.query vs ys)) ≤ file_limit

-- so it is of the counterexample that a solution of a goal's rows gives
abbrev pub ClosingLinesReplay : Type 0
ClosingLinesReplay =
    (core : Core) (g : Goal) (xs : List ℤ) → IsWellFormed core → Contains (goals core) g → g.number < 2 ^ 64 → length xs ≡ 1 + core.agents * atom_count (way_of core g.trace).cake → IsLow xs → IsSolution g.rows xs
    → IsReplay core g (valuations_of core.agents (way_of core g.trace).cake xs) (answers_of (way_of core g.trace))

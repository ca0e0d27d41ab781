use Rattle.std.proofs.Common.{◌≡◌, ◌↔◌, ◌+◌, ◌-◌, ◌≤◌, ℕ, List, Some}
use Rattle.slice_io.specs.Files.{told_file}
use Rattle.slice_io.specs.Lines.{StandsIn, IsSameReader}
use Rattle.slice_core.specs.Cores.{core_of}
use Rattle.slice_paths.specs.Streams.{TellsRest}
use Rattle.slice_check.specs.Steps.{Reached}
use Rattle.slice_check.proofs.check.check_goals.Given as goal

abbrev pub invariant-loop-goal : goal.invariant-loop-goal
invariant-loop-goal g l = record {
  same : g.S.Shelf.told l.shelf ≡ g.S.Shelf.told l.initial.shelf;
  asked : g.S.Shelf.CanAsk l.shelf l.lines.name;
  rule : (n : List ℕ) → g.S.Shelf.CanAsk l.initial.shelf n ↔ g.S.Shelf.CanAsk l.shelf n;
  later : g.S.Shelf.faults l.initial.shelf ≤ g.S.Shelf.faults l.shelf;
  keeps : IsSameReader l.initial.lines l.lines;
  core : l.goals.core ≡ l.initial.goals.core;
  rest : TellsRest l.goals;
  few : l.goals.given ≤ 1000000;
  given : l.lines.given ≤ l.goals.given + 1;
  reached : (file : List ℕ) → told_file (g.S.Shelf.told l.initial.shelf) l.initial.lines.name ≡ Some (Some file) → StandsIn l.initial.lines file
      → Reached (core_of l.initial.goals.core) file l.version 0 l.initial.goals.ahead 1 → Reached (core_of l.initial.goals.core) file l.version l.goals.given l.goals.ahead l.lines.given × StandsIn l.lines file;
}

abbrev pub decreases-loop-goal : goal.decreases-loop-goal
decreases-loop-goal g l = 1000000 - l.goals.given

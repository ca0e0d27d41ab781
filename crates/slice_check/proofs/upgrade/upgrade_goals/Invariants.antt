use Rattle.std.proofs.Common.{◌≡◌, ◌↔◌, ◌+◌, ◌-◌, ◌≤◌, ℕ, List, Some}
use Rattle.slice_io.specs.Files.{told_file}
use Rattle.slice_io.specs.Lines.{StandsIn, IsSameReader}
use Rattle.slice_core.specs.Cores.{core_of}
use Rattle.slice_paths.specs.Streams.{TellsRest}
use Rattle.slice_cert.specs.declared.line.Line.{Line}
use Rattle.slice_check.specs.Steps.{Reached}
use Rattle.slice_check.specs.Upgrading.{IsPut, IsReadTo}
use Rattle.slice_check.proofs.upgrade.upgrade_goals.Given as goal

abbrev pub invariant-loop-stop : goal.invariant-loop-stop
invariant-loop-stop g l = record {
  same : g.S.Shelf.told l.shelf ≡ g.S.Shelf.told l.initial.shelf;
  asked : g.S.Shelf.CanAsk l.shelf l.lines.name;
  rule : (n : List ℕ) → g.S.Shelf.CanAsk l.initial.shelf n ↔ g.S.Shelf.CanAsk l.shelf n;
  later : g.S.Shelf.faults l.initial.shelf ≤ g.S.Shelf.faults l.shelf;
  out_later : g.K.Sink.faults l.initial.sink ≤ g.K.Sink.faults l.sink;
  keeps : IsSameReader l.initial.lines l.lines;
  core : l.goals.core ≡ l.core;
  rest : TellsRest l.goals;
  few : l.goals.given ≤ 1000000;
  given : l.lines.given ≤ l.goals.given + 1;
  put : (body : List Line) × IsPut (core_of l.core) (g.K.Sink.told l.initial.sink) (g.K.Sink.told l.sink) l.goals.given l.taken body
      × ((file : List ℕ) → told_file (g.S.Shelf.told l.initial.shelf) l.initial.lines.name ≡ Some (Some file) → StandsIn l.initial.lines file
      → Reached (core_of l.core) file 1 0 l.initial.goals.ahead 1 → IsReadTo (core_of l.core) file l.goals.given l.goals.ahead l.lines.given body × StandsIn l.lines file);
}

abbrev pub decreases-loop-stop : goal.decreases-loop-stop
decreases-loop-stop g l = 1000000 - l.goals.given

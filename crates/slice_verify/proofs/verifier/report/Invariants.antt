use Rattle.std.proofs.Common.{◌≡◌, ◌≤◌, ◌-◌, length}
use Rattle.slice_core.specs.Cores.{core_of}
use Rattle.slice_paths.specs.Goals.{goals}
use Rattle.slice_verify.specs.Working.{GoesOn}
use Rattle.slice_verify.proofs.Standing.{Standing}
use Rattle.slice_verify.proofs.verifier.report.Given as goal

abbrev pub invariant-loop-goal : goal.invariant-loop-goal
invariant-loop-goal g l = record {
  stands : Standing (core_of l.core) (g.K.Sink.told l.fn.sink) (g.K.Sink.told l.sink) l.goals.given l.goals.ahead;
  goes : GoesOn l.goals;
  same : l.goals.core ≡ l.core;
  later : g.K.Sink.faults l.fn.sink ≤ g.K.Sink.faults l.sink;
}

abbrev pub decreases-loop-goal : goal.decreases-loop-goal
decreases-loop-goal g l = length (goals (core_of l.core)) - l.goals.given

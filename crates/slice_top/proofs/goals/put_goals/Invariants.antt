use Rattle.std.proofs.Common.{◌≤◌, length}
use Rattle.slice_core.specs.Cores.{core_of}
use Rattle.slice_paths.specs.Events.{events_of}
use Rattle.slice_top.specs.Answers.{goals_answer}
use Rattle.slice_top.specs.Settled.{Wrote}
use Rattle.slice_top.proofs.GoalLines.{Continues}
use Rattle.slice_top.proofs.goals.put_goals.Given as goal

abbrev pub invariant-goals : goal.invariant-goals
invariant-goals g l = record {
  later : g.K.Sink.faults l.initial.sink ≤ g.K.Sink.faults l.sink;
  wrote : Wrote (g.K.Sink.told l.initial.sink) (g.K.Sink.told l.sink) (Continues (goals_answer (events_of (core_of l.core)) 0) l.stream.ahead l.stream.given);
}

abbrev pub decreases-goals : goal.decreases-goals
decreases-goals g l = length l.stream.ahead

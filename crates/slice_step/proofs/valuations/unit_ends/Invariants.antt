use Rattle.std.proofs.Common.{◌≡◌, ◌-◌, ◌++◌}
use Rattle.slice_step.specs.UnitSteps.{unit_ends}
use Rattle.slice_step.proofs.valuations.unit_ends.Given as goal

abbrev pub invariant-loop-i : goal.invariant-loop-i
invariant-loop-i l = l.ends.items ++ unit_ends l.i (l.count - l.i) ≡ unit_ends 0 l.count

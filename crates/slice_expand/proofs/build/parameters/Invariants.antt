use Rattle.std.proofs.Common.{◌≡◌, drop, []}
use Rattle.slice_expand.specs.Scope.{bind}
use Rattle.slice_expand.specs.ProgramRun.{param_names}
use Rattle.slice_expand.specs.Stand.{meanings_of}
use Rattle.slice_expand.proofs.build.parameters.Given as goal

abbrev pub invariant-loop-i : goal.invariant-loop-i
invariant-loop-i l = bind (param_names (drop l.i l.params)) (meanings_of (drop l.i l.args)) l.names ≡ bind (param_names l.params) (meanings_of l.args) []

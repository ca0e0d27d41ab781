use Rattle.std.proofs.Common.{◌≡◌, ◌-◌, ◌*◌, map}
use Rattle.slice_ast.specs.View.{head_of}
use Rattle.slice_gen.specs.Rounds.{first_rounds}
use Rattle.slice_gen.proofs.generator.statements.Given as goal

abbrev pub invariant-loop-i : goal.invariant-loop-i
invariant-loop-i l = map head_of l.stmts ≡ first_rounds (2 * l.n) (l.i - 1)

use Rattle.std.proofs.Common.{◌≡◌, drop}
use Rattle.slice_ast.specs.Tokens.{more_marks}
use Rattle.slice_ast.specs.Taking.{taken}
use Rattle.slice_ast.proofs.walk.SumWritten.write.Given as goal

-- what is left makes it what all would make it
abbrev pub invariant-loop-term : goal.invariant-loop-term
invariant-loop-term g l =
    taken g.T.TakesTokens.after l.out (more_marks (drop l.term-index l.more)) ≡ taken g.T.TakesTokens.after l.initial.out (more_marks l.more)

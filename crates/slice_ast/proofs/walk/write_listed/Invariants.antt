use Rattle.std.proofs.Common.{◌≡◌, drop}
use Rattle.slice_ast.specs.Tokens.{more_listed}
use Rattle.slice_ast.specs.Taking.{taken}
use Rattle.slice_ast.proofs.walk.write_listed.Given as goal

-- what is left makes it what all would make it
abbrev pub invariant-loop-item : goal.invariant-loop-item
invariant-loop-item g l =
    taken g.T.TakesTokens.after l.out (more_listed g.W.Written.marks (drop l.item-index l.more)) ≡ taken g.T.TakesTokens.after l.initial.out (more_listed g.W.Written.marks l.more)

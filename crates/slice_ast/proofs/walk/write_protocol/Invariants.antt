use Rattle.std.proofs.Common.{◌≡◌, drop}
use Rattle.slice_ast.specs.Tokens.{code_marks}
use Rattle.slice_ast.specs.View.{code_of}
use Rattle.slice_ast.specs.Taking.{taken}
use Rattle.slice_ast.proofs.walk.write_protocol.Given as goal

-- what is left makes it what all would make it
abbrev pub invariant-loop-stmt : goal.invariant-loop-stmt
invariant-loop-stmt g l =
    taken g.T.TakesTokens.after l.out (code_marks (code_of (drop l.stmt-index l.body))) ≡ taken g.T.TakesTokens.after l.initial.out (code_marks (code_of l.body))

use Rattle.std.proofs.Common.{◌≡◌, drop}
use Rattle.slice_ast.specs.Tokens.{code_marks}
use Rattle.slice_ast.specs.View.{code_of}
use Rattle.slice_ast.specs.Taking.{taken}
use Rattle.slice_ast.proofs.walk.+blocks.Given as goal

-- what is left makes it what all would make it
abbrev pub invariant-write_block-loop-stmt : goal.invariant-write_block-loop-stmt
invariant-write_block-loop-stmt g l =
    taken g.T.TakesTokens.after l.out (code_marks (code_of (drop l.stmt-index l.stmt-items))) ≡ taken g.T.TakesTokens.after l.initial.out (code_marks (code_of l.stmt-items))

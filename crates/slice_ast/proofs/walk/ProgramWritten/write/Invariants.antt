use Rattle.std.proofs.Common.{◌≡◌, drop, map}
use Rattle.slice_ast.specs.Tokens.{procs_marks}
use Rattle.slice_ast.specs.View.{proc_of}
use Rattle.slice_ast.specs.Taking.{taken}
use Rattle.slice_ast.proofs.walk.ProgramWritten.write.Given as goal

-- what is left makes it what all would make it
abbrev pub invariant-loop-proc : goal.invariant-loop-proc
invariant-loop-proc g l =
    taken g.T.TakesTokens.after l.out (procs_marks (map proc_of (drop l.proc-index l.proc-items))) ≡ taken g.T.TakesTokens.after l.initial.out (procs_marks (map proc_of l.proc-items))

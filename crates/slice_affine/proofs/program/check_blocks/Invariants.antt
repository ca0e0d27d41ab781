use Rattle.std.proofs.Common.{◌≡◌, drop, take, map}
use Rattle.slice_ast.specs.View.{proc_of, program_of}
use Rattle.slice_affine.specs.ProgramPass.{procs_fault, program_fault}
use Rattle.slice_affine.proofs.program.check_blocks.Given as goal

-- what is left decides
abbrev pub invariant-loop-index : goal.invariant-loop-index
invariant-loop-index l =
    procs_fault (program_of l.program) (map proc_of (take l.index l.program.procs)) (map proc_of (drop l.index l.program.procs)) ≡ program_fault (program_of l.program)

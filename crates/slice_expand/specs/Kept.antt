-- Expansion keeps the run.
use Rattle.std.specs.Prelude.{◌≡◌, ℕ, List}
use Rattle.slice_ast.specs.Code.{PlainProgram}
use Rattle.slice_num.specs.declared.cut_answer.CutAnswer.{CutAnswer}
use Rattle.slice_core.specs.Run.{Worth, Ending, run_core}
use Rattle.slice_core.specs.Run as core
use Rattle.slice_expand.specs.ProgramRun.{ProgramEnd, Done, Stuck, Few, Bad, Many, run_program}
use Rattle.slice_expand.specs.Expansion.{core_of}

-- the end of a core's run, the trace left out
abbrev pub without_trace : Ending → ProgramEnd
without_trace (core.Done s) = Done s.board
without_trace (core.Stuck at s) = Stuck at s.board
without_trace (core.Few q) = Few q
without_trace (core.Bad q) = Bad q
without_trace core.Many = Many

-- whatever pieces are worth and whatever the cuts are answered, the core's run ends as the program's: with the same
-- queries, shares and pieces that are left
abbrev pub RunIsKept : Type 0
RunIsKept = (w : Worth) (p : PlainProgram) (length : ℕ) (ys : List CutAnswer) → without_trace (run_core w (core_of p) length ys) ≡ run_program w p length ys

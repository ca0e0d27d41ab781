-- The core of a program that was read, and its runs.
use Rattle.std.proofs.Common.{◌≡◌, ℕ, List}
use Rattle.slice_num.specs.Valuation.{Valuation}
use Rattle.slice_num.specs.declared.cut_answer.CutAnswer.{CutAnswer}
use Rattle.slice_ast.specs.Code.{PlainProgram}
use Rattle.slice_parse.specs.Laws.{IsProgramOf}
use Rattle.slice_affine.proofs.ReadLemmas.{read_rises}
use Rattle.slice_core.specs.Measures.{worth_of, length_of}
use Rattle.slice_core.specs.Tree.{Core}
use Rattle.slice_core.specs.WellFormed.{IsWellFormed}
use Rattle.slice_expand.specs.Expansion.{core_of}
use Rattle.slice_expand.specs.Kept.{without_trace}
use Rattle.slice_expand.proofs.Keeps.{run_is_kept}
use Rattle.slice_expand.proofs.Programs.{checked_cores_are_well_formed}
use Rattle.slice_run.specs.RunLaws.{run_on as core_run_on}
use Rattle.slice_top.specs.Cores.{IsCoreOf}
use Rattle.slice_top.specs.Headline.{run_on}

-- it is well formed
pub core_formed : (text : List ℕ) (p : PlainProgram) (core : Core) → IsProgramOf text p → IsCoreOf p core → IsWellFormed (core_of p)
core_formed text p core is made = checked_cores_are_well_formed p is.spelled.spellable (read_rises text p is.read) made.rules made.limits

-- the run of the core is that of the program
pub kept : (vs : List Valuation) (p : PlainProgram) (ys : List CutAnswer) → without_trace (core_run_on vs (core_of p) ys) ≡ run_on vs p ys
kept vs p ys = run_is_kept (worth_of vs) p (length_of vs) ys

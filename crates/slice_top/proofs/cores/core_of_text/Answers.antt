use Rattle.std.proofs.Common.{inl, inr, subst, sym}
use Rattle.slice_ast.specs.View.{program_of}
use Rattle.slice_ast.specs.declared.tree.Program.{Program}
use Rattle.slice_affine.proofs.ReadLemmas.{read_rises}
use Rattle.slice_expand.specs.Limits.{first_limit, IsFirst}
use Rattle.slice_top.specs.Cores.{RefusesRules, RefusesLimits}
use Rattle.slice_top.specs.Stops.{StopsFor}
use Rattle.slice_top.specs.Turns.{RefusesCoreOfText, in_program}
use Rattle.slice_top.proofs.Faults.{stops_limits}
use Rattle.slice_top.proofs.Stages.{stops_for}
use Rattle.slice_top.proofs.cores.core_of_text.Goals as goal

pub check_program-requires : goal.check_program-requires
check_program-requires c =
    let is = c.in-Ok.ensures.ok in
    record { spellable = is.spelled.spellable; limits = is.spelled.within; places = read_rises c.args.text.now (program_of c.in-Ok.program) is.read }

pub returns-in-Err-check_program-clause-err : goal.returns-in-Err-check_program-clause-err
returns-in-Err-check_program-clause-err c =
    let p = program_of c.in-Ok.program in
    stops_for (RefusesRules p) (RefusesCoreOfText c.args.text.now) (λ r h. in_program p c.in-Ok.ensures.ok (inl h)) c.in-Err-check_program.stop c.in-Err-check_program.ensures.err

pub returns-clause-err : goal.returns-clause-err
returns-clause-err c =
    let p = program_of c.in-Ok.program in
    let first = subst (λ (x : Program). IsFirst c.in-Err-expand.fault (first_limit (program_of x))) c.in-Ok-check_program.ensures.kept c.in-Err-expand.ensures.limits in
    stops_for (RefusesLimits p) (RefusesCoreOfText c.args.text.now) (λ r h. in_program p c.in-Ok.ensures.ok (inr h)) c.limit_stop.result
    (subst (StopsFor (RefusesLimits p)) (sym c.limit_stop.ensures) (stops_limits p c.in-Err-expand.fault c.in-Ok-check_program.ensures.meets first))

use Rattle.std.proofs.Common.{subst, refl, List}
use Rattle.slice_num.specs.declared.cut_answer.CutAnswer.{CutAnswer}
use Rattle.slice_core.specs.Cores.{core_of}
use Rattle.slice_run.specs.Walk.{outcome, Given}
use Rattle.slice_top.specs.Stops.{StopsFor}
use Rattle.slice_top.specs.Values.{RefusesReplay}
use Rattle.slice_top.specs.Answers.{TellsGivenRun, IsOutcome, stops, goes, answer_of, refused}
use Rattle.slice_top.proofs.Stages.{if_err_so, if_ok_so, stops_for}
use Rattle.slice_top.proofs.work.tell_answers.Goals as goal

pub returns-in-Err-clause-err : goal.returns-in-Err-clause-err
returns-in-Err-clause-err c =
    let core = core_of c.args.core.now in
    stops_for (RefusesReplay c.args.bytes.now core.agents) (λ r. TellsGivenRun c.args.bytes.now core (refused r)) (λ r h. stops r h refl) c.in-Err.stop (rw c.agents.ensures.value at c.in-Err.ensures.err)

pub returns-clause-ok : goal.returns-clause-ok
returns-clause-ok c =
    let core = core_of c.args.core.now in
    let vs = c.in-Ok.file.valuations in
    if_ok_so _ _
    (λ l h. goes (vs, c.in-Ok.file.cuts.items) (rw c.agents.ensures.value at c.in-Ok.ensures.ok)
    (subst (λ (ys : List CutAnswer). IsOutcome (outcome vs core (Given ys)) (answer_of l.bytes.items l.status)) c.deref.ensures.value h))
    c.tell_given.result c.tell_given.ensures.ok

pub returns-clause-err : goal.returns-clause-err
returns-clause-err c =
    let core = core_of c.args.core.now in
    let vs = c.in-Ok.file.valuations in
    if_err_so (StopsFor (λ r. IsOutcome (outcome vs core (Given c.deref.result.now)) (refused r))) (StopsFor (λ r. TellsGivenRun c.args.bytes.now core (refused r)))
    (λ s h. stops_for (λ r. IsOutcome (outcome vs core (Given c.deref.result.now)) (refused r)) (λ r. TellsGivenRun c.args.bytes.now core (refused r))
    (λ r k. goes (vs, c.in-Ok.file.cuts.items) (rw c.agents.ensures.value at c.in-Ok.ensures.ok) (subst (λ (ys : List CutAnswer). IsOutcome (outcome vs core (Given ys)) (refused r)) c.deref.ensures.value k)) s h)
    c.tell_given.result c.tell_given.ensures.err

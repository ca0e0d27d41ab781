use Rattle.std.proofs.Common.{refl}
use Rattle.slice_core.specs.Cores.{core_of}
use Rattle.slice_top.specs.Stops.{StopsFor}
use Rattle.slice_top.specs.Values.{RefusesValues}
use Rattle.slice_top.specs.Answers.{TellsLeastRun, stops, goes, refused}
use Rattle.slice_top.proofs.Stages.{if_err_so, if_ok_so, stops_for}
use Rattle.slice_top.proofs.work.tell_values.Goals as goal

pub returns-in-Err-clause-err : goal.returns-in-Err-clause-err
returns-in-Err-clause-err c =
    let core = core_of c.args.core.now in
    stops_for (RefusesValues c.args.bytes.now core.agents) (λ r. TellsLeastRun c.args.bytes.now core (refused r)) (λ r h. stops r h refl) c.in-Err.stop (rw c.agents.ensures.value at c.in-Err.ensures.err)

pub returns-clause-ok : goal.returns-clause-ok
returns-clause-ok c = if_ok_so _ _ (λ l h. goes c.in-Ok.valuations (rw c.agents.ensures.value at c.in-Ok.ensures.ok) h) c.tell_least.result c.tell_least.ensures.ok

pub returns-clause-err : goal.returns-clause-err
returns-clause-err c =
    let core = core_of c.args.core.now in
    if_err_so _ (StopsFor (λ r. TellsLeastRun c.args.bytes.now core (refused r)))
    (λ s h. stops_for _ (λ r. TellsLeastRun c.args.bytes.now core (refused r)) (λ r k. goes c.in-Ok.valuations (rw c.agents.ensures.value at c.in-Ok.ensures.ok) k) s h) c.tell_least.result c.tell_least.ensures.err

use Rattle.std.proofs.Common.{◌∙◌, ap, subst, sym, Some}
use Rattle.slice_io.specs.Causes.{Rose}
use Rattle.slice_core.specs.Cores.{core_of}
use Rattle.slice_top.specs.Answers.{CountsReport, IsDemoAnswer, answer_of, refused}
use Rattle.slice_top.specs.Decisions.{verify_stop}
use Rattle.slice_top.specs.Demos.{stop_in_memory}
use Rattle.slice_top.specs.Stops.{StopsFor}
use Rattle.slice_top.proofs.Decided.{fault_stops}
use Rattle.slice_top.proofs.Demos.{counted_report, found_report, stopped_report}
use Rattle.slice_top.proofs.Stages.{if_err_so, if_ok_so, stops_for}
use Rattle.slice_top.proofs.demo.demo_core.Goals as goal

pub returns-in-Ok-EnvyFree-clause-ok : goal.returns-in-Ok-EnvyFree-clause-ok
returns-in-Ok-EnvyFree-clause-ok c =
    let e = c.in-Ok-EnvyFree in
    if_ok_so _ _
    (λ l h. counted_report (core_of c.args.core.now) e.field-0 e.field-0-0 c.new-sink.result.bytes c.verify.new.sink.bytes c.into_bytes.result.items (answer_of l.bytes.items l.status) e.field-0-is c.new-sink.ensures.bytes c.into_bytes.ensures e.ensures.decision h)
    c.count_report.result c.count_report.ensures.ok

pub returns-in-Ok-EnvyFree-clause-err : goal.returns-in-Ok-EnvyFree-clause-err
returns-in-Ok-EnvyFree-clause-err c =
    let e = c.in-Ok-EnvyFree in
    let core = core_of c.args.core.now in
    let report = c.into_bytes.result.items in
    if_err_so _ (StopsFor (λ r. IsDemoAnswer core (refused r)))
    (λ s h. stops_for (λ r. CountsReport core report (refused r)) (λ r. IsDemoAnswer core (refused r))
    (λ r k. counted_report core e.field-0 e.field-0-0 c.new-sink.result.bytes c.verify.new.sink.bytes report (refused r) e.field-0-is c.new-sink.ensures.bytes c.into_bytes.ensures e.ensures.decision k) s h)
    c.count_report.result c.count_report.ensures.err

pub returns-in-Ok-Found-clause-ok : goal.returns-in-Ok-Found-clause-ok
returns-in-Ok-Found-clause-ok c =
    let e = c.in-Ok-Found in
    if_ok_so _ _
    (λ l h. found_report (core_of c.args.core.now) e.field-0 e.counter (Some c.new-sink.result.bytes) (Some c.verify.new.sink.bytes) l.bytes.items l.status e.field-0-is e.ensures.decision h)
    c.counter_output.result c.counter_output.ensures.ok

pub returns-in-Err-clause-err : goal.returns-in-Err-clause-err
returns-in-Err-clause-err c =
    let core = core_of c.args.core.now in
    let fault = c.in-Err.fault in
    let old = Some c.new-sink.result.bytes in
    let new = Some c.verify.new.sink.bytes in
    let sink = Rose c.new-sink.result.faults c.verify.new.sink.faults in
    subst (StopsFor (λ r. IsDemoAnswer core (refused r))) (sym (c.stop_in_memory.ensures ∙ ap stop_in_memory c.verify_stop.ensures))
    (stopped_report core sink old new (verify_stop fault) (fault_stops core sink old new fault c.in-Err.ensures.fault c.in-Err.ensures.rose))

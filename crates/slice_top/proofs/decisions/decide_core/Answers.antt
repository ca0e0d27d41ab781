use Rattle.std.proofs.Common.{List, [], ℕ, subst, sym}
use Rattle.slice_io.specs.Causes.{Rose}
use Rattle.slice_core.specs.Cores.{core_of}
use Rattle.slice_top.specs.Answers.{IsVerifyAnswer}
use Rattle.slice_top.specs.Settled.{Ends, LinesStop}
use Rattle.slice_top.specs.declared.status.Status.{Status}
use Rattle.slice_top.specs.declared.stop.Stop.{Stop}
use Rattle.slice_top.proofs.Decided.{decision_ends, fault_stops}
use Rattle.slice_top.proofs.decisions.decide_core.Goals as goal

pub returns-in-Ok-clause-ok : goal.returns-in-Ok-clause-ok
returns-in-Ok-clause-ok g c =
    let core = core_of c.args.core.now in
    let old = g.K.Sink.told c.args.sink.now in
    let new = g.K.Sink.told c.verify.new.sink in
    subst (λ (xs : List ℕ). Ends (IsVerifyAnswer core) old new xs c.decided_status.result) (sym c.new.ensures.items)
    (subst (λ (s : Status). Ends (IsVerifyAnswer core) old new [] s) (sym c.decided_status.ensures.same) (decision_ends core old new c.in-Ok.decision c.in-Ok.ensures.decision))

pub returns-in-Err-clause-err : goal.returns-in-Err-clause-err
returns-in-Err-clause-err g c =
    let core = core_of c.args.core.now in
    let old = g.K.Sink.told c.args.sink.now in
    let new = g.K.Sink.told c.verify.new.sink in
    let sink = Rose (g.K.Sink.faults c.args.sink.now) (g.K.Sink.faults c.verify.new.sink) in
    subst (λ (s : Stop). LinesStop (IsVerifyAnswer core) sink old new s) (sym c.verify_stop.ensures)
    (fault_stops core sink old new c.in-Err.fault c.in-Err.ensures.fault c.in-Err.ensures.rose)

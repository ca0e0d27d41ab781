use Rattle.std.proofs.Common.{ap, subst, sym, Some}
use Rattle.slice_io.specs.Causes.{Rose}
use Rattle.slice_top.specs.Commands as words
use Rattle.slice_top.specs.Answers.{IsAnswer, refused}
use Rattle.slice_top.specs.Reports.{ReadsAfter}
use Rattle.slice_top.specs.Settled.{Ends, StopsIn}
use Rattle.slice_top.specs.Stops.{command_view}
use Rattle.slice_top.specs.Turns.{ReadsFor}
use Rattle.slice_top.proofs.Endings.{ends_at_once, stops_at_once}
use Rattle.slice_top.proofs.Stages.{if_ok_so, if_err_so, stops_from}
use Rattle.slice_top.proofs.work.work.Goals as goal

pub returns-in-Check-clause-ok : goal.returns-in-Check-clause-ok
returns-in-Check-clause-ok g c =
    let told = g.S.Shelf.told c.args.shelf.now in
    let out = g.K.Sink.told c.args.sink.now in
    if_ok_so _ _ (λ l h. subst (λ (k : words.Command). Ends (IsAnswer told (Some k)) out out l.bytes.items l.status) (sym (ap command_view c.in-Check.is))
    (ends_at_once (IsAnswer told (Some (words.check c.in-Check.protocol.now))) out l.bytes.items l.status h)) c.check.result c.check.ensures.ok

pub returns-in-Check-clause-err : goal.returns-in-Check-clause-err
returns-in-Check-clause-err g c =
    let told = g.S.Shelf.told c.args.shelf.now in
    let out = g.K.Sink.told c.args.sink.now in
    let shelf = Rose (g.S.Shelf.faults c.args.shelf.now) (g.S.Shelf.faults c.check.new.shelf) in
    let sink = Rose (g.K.Sink.faults c.args.sink.now) (g.K.Sink.faults c.args.sink.now) in
    let k = Some (words.check c.in-Check.protocol.now) in
    if_err_so _ _ (λ s h. subst (λ (k : words.Command). StopsIn (IsAnswer told (Some k)) (ReadsAfter told (Some k)) shelf sink out out s) (sym (ap command_view c.in-Check.is))
    (stops_at_once told k shelf sink out s h)) c.check.result c.check.ensures.err

pub returns-in-Print-clause-ok : goal.returns-in-Print-clause-ok
returns-in-Print-clause-ok g c =
    let told = g.S.Shelf.told c.args.shelf.now in
    let out = g.K.Sink.told c.args.sink.now in
    if_ok_so _ _ (λ l h. subst (λ (k : words.Command). Ends (IsAnswer told (Some k)) out out l.bytes.items l.status) (sym (ap command_view c.in-Print.is))
    (ends_at_once (IsAnswer told (Some (words.print c.in-Print.protocol.now))) out l.bytes.items l.status h)) c.print.result c.print.ensures.ok

pub returns-in-Print-clause-err : goal.returns-in-Print-clause-err
returns-in-Print-clause-err g c =
    let told = g.S.Shelf.told c.args.shelf.now in
    let out = g.K.Sink.told c.args.sink.now in
    let shelf = Rose (g.S.Shelf.faults c.args.shelf.now) (g.S.Shelf.faults c.print.new.shelf) in
    let sink = Rose (g.K.Sink.faults c.args.sink.now) (g.K.Sink.faults c.args.sink.now) in
    let k = Some (words.print c.in-Print.protocol.now) in
    if_err_so _ _ (λ s h. subst (λ (k : words.Command). StopsIn (IsAnswer told (Some k)) (ReadsAfter told (Some k)) shelf sink out out s) (sym (ap command_view c.in-Print.is))
    (stops_at_once told k shelf sink out s h)) c.print.result c.print.ensures.err

pub returns-in-Run-clause-ok : goal.returns-in-Run-clause-ok
returns-in-Run-clause-ok g c =
    let told = g.S.Shelf.told c.args.shelf.now in
    let out = g.K.Sink.told c.args.sink.now in
    if_ok_so _ _ (λ l h. subst (λ (k : words.Command). Ends (IsAnswer told (Some k)) out out l.bytes.items l.status) (sym (ap command_view c.in-Run.is))
    (ends_at_once (IsAnswer told (Some (words.run c.in-Run.protocol.now c.in-Run.values.now))) out l.bytes.items l.status h)) c.run.result c.run.ensures.ok

pub returns-in-Run-clause-err : goal.returns-in-Run-clause-err
returns-in-Run-clause-err g c =
    let told = g.S.Shelf.told c.args.shelf.now in
    let out = g.K.Sink.told c.args.sink.now in
    let shelf = Rose (g.S.Shelf.faults c.args.shelf.now) (g.S.Shelf.faults c.run.new.shelf) in
    let sink = Rose (g.K.Sink.faults c.args.sink.now) (g.K.Sink.faults c.args.sink.now) in
    let k = Some (words.run c.in-Run.protocol.now c.in-Run.values.now) in
    if_err_so _ _ (λ s h. subst (λ (k : words.Command). StopsIn (IsAnswer told (Some k)) (ReadsAfter told (Some k)) shelf sink out out s) (sym (ap command_view c.in-Run.is))
    (stops_at_once told k shelf sink out s h)) c.run.result c.run.ensures.err

pub returns-in-Replay-clause-ok : goal.returns-in-Replay-clause-ok
returns-in-Replay-clause-ok g c =
    let told = g.S.Shelf.told c.args.shelf.now in
    let out = g.K.Sink.told c.args.sink.now in
    if_ok_so _ _ (λ l h. subst (λ (k : words.Command). Ends (IsAnswer told (Some k)) out out l.bytes.items l.status) (sym (ap command_view c.in-Replay.is))
    (ends_at_once (IsAnswer told (Some (words.replay c.in-Replay.protocol.now c.in-Replay.values.now))) out l.bytes.items l.status h)) c.replay.result c.replay.ensures.ok

pub returns-in-Replay-clause-err : goal.returns-in-Replay-clause-err
returns-in-Replay-clause-err g c =
    let told = g.S.Shelf.told c.args.shelf.now in
    let out = g.K.Sink.told c.args.sink.now in
    let shelf = Rose (g.S.Shelf.faults c.args.shelf.now) (g.S.Shelf.faults c.replay.new.shelf) in
    let sink = Rose (g.K.Sink.faults c.args.sink.now) (g.K.Sink.faults c.args.sink.now) in
    let k = Some (words.replay c.in-Replay.protocol.now c.in-Replay.values.now) in
    if_err_so _ _ (λ s h. subst (λ (k : words.Command). StopsIn (IsAnswer told (Some k)) (ReadsAfter told (Some k)) shelf sink out out s) (sym (ap command_view c.in-Replay.is))
    (stops_at_once told k shelf sink out s h)) c.replay.result c.replay.ensures.err

pub returns-in-Certify-clause-ok : goal.returns-in-Certify-clause-ok
returns-in-Certify-clause-ok g c =
    let told = g.S.Shelf.told c.args.shelf.now in
    let out = g.K.Sink.told c.args.sink.now in
    if_ok_so _ _ (λ l h. subst (λ (k : words.Command). Ends (IsAnswer told (Some k)) out out l.bytes.items l.status) (sym (ap command_view c.in-Certify.is))
    (ends_at_once (IsAnswer told (Some (words.certify c.in-Certify.protocol.now c.in-Certify.certificate.now))) out l.bytes.items l.status h)) c.certify.result c.certify.ensures.ok

pub returns-in-Certify-clause-err : goal.returns-in-Certify-clause-err
returns-in-Certify-clause-err g c =
    let told = g.S.Shelf.told c.args.shelf.now in
    let out = g.K.Sink.told c.args.sink.now in
    let shelf = Rose (g.S.Shelf.faults c.args.shelf.now) (g.S.Shelf.faults c.certify.new.shelf) in
    let sink = Rose (g.K.Sink.faults c.args.sink.now) (g.K.Sink.faults c.args.sink.now) in
    let k = Some (words.certify c.in-Certify.protocol.now c.in-Certify.certificate.now) in
    if_err_so _ _ (λ s h. subst (λ (k : words.Command). StopsIn (IsAnswer told (Some k)) (ReadsAfter told (Some k)) shelf sink out out s) (sym (ap command_view c.in-Certify.is))
    (stops_at_once told k shelf sink out s h)) c.certify.result c.certify.ensures.err

pub returns-in-Paths-clause-ok : goal.returns-in-Paths-clause-ok
returns-in-Paths-clause-ok g c =
    let told = g.S.Shelf.told c.args.shelf.now in
    let before = g.K.Sink.told c.args.sink.now in
    let after = g.K.Sink.told c.paths.new.sink in
    if_ok_so _ _ (λ l h. subst (λ (k : words.Command). Ends (IsAnswer told (Some k)) before after l.bytes.items l.status) (sym (ap command_view c.in-Paths.is)) h) c.paths.result c.paths.ensures.ok

pub returns-in-Paths-clause-err : goal.returns-in-Paths-clause-err
returns-in-Paths-clause-err g c =
    let told = g.S.Shelf.told c.args.shelf.now in
    let before = g.K.Sink.told c.args.sink.now in
    let after = g.K.Sink.told c.paths.new.sink in
    let shelf = Rose (g.S.Shelf.faults c.args.shelf.now) (g.S.Shelf.faults c.paths.new.shelf) in
    let sink = Rose (g.K.Sink.faults c.args.sink.now) (g.K.Sink.faults c.paths.new.sink) in
    if_err_so _ _ (λ s h. subst (λ (k : words.Command). StopsIn (IsAnswer told (Some k)) (ReadsAfter told (Some k)) shelf sink before after s) (sym (ap command_view c.in-Paths.is)) h) c.paths.result c.paths.ensures.err

pub returns-in-Verify-clause-ok : goal.returns-in-Verify-clause-ok
returns-in-Verify-clause-ok g c =
    let told = g.S.Shelf.told c.args.shelf.now in
    let before = g.K.Sink.told c.args.sink.now in
    let after = g.K.Sink.told c.verify.new.sink in
    if_ok_so _ _ (λ l h. subst (λ (k : words.Command). Ends (IsAnswer told (Some k)) before after l.bytes.items l.status) (sym (ap command_view c.in-Verify.is)) h) c.verify.result c.verify.ensures.ok

pub returns-in-Verify-clause-err : goal.returns-in-Verify-clause-err
returns-in-Verify-clause-err g c =
    let told = g.S.Shelf.told c.args.shelf.now in
    let before = g.K.Sink.told c.args.sink.now in
    let after = g.K.Sink.told c.verify.new.sink in
    let shelf = Rose (g.S.Shelf.faults c.args.shelf.now) (g.S.Shelf.faults c.verify.new.shelf) in
    let sink = Rose (g.K.Sink.faults c.args.sink.now) (g.K.Sink.faults c.verify.new.sink) in
    if_err_so _ _ (λ s h. subst (λ (k : words.Command). StopsIn (IsAnswer told (Some k)) (ReadsAfter told (Some k)) shelf sink before after s) (sym (ap command_view c.in-Verify.is)) h) c.verify.result c.verify.ensures.err

pub returns-in-Upgrade-clause-ok : goal.returns-in-Upgrade-clause-ok
returns-in-Upgrade-clause-ok g c =
    let told = g.S.Shelf.told c.args.shelf.now in
    let before = g.K.Sink.told c.args.sink.now in
    let after = g.K.Sink.told c.upgrade.new.sink in
    if_ok_so _ _ (λ l h. subst (λ (k : words.Command). Ends (IsAnswer told (Some k)) before after l.bytes.items l.status) (sym (ap command_view c.in-Upgrade.is)) h) c.upgrade.result c.upgrade.ensures.ok

pub returns-in-Upgrade-clause-err : goal.returns-in-Upgrade-clause-err
returns-in-Upgrade-clause-err g c =
    let told = g.S.Shelf.told c.args.shelf.now in
    let before = g.K.Sink.told c.args.sink.now in
    let after = g.K.Sink.told c.upgrade.new.sink in
    let shelf = Rose (g.S.Shelf.faults c.args.shelf.now) (g.S.Shelf.faults c.upgrade.new.shelf) in
    let sink = Rose (g.K.Sink.faults c.args.sink.now) (g.K.Sink.faults c.upgrade.new.sink) in
    if_err_so _ _ (λ s h. subst (λ (k : words.Command). StopsIn (IsAnswer told (Some k)) (ReadsAfter told (Some k)) shelf sink before after s) (sym (ap command_view c.in-Upgrade.is)) h) c.upgrade.result c.upgrade.ensures.err

pub returns-in-Demo-clause-ok : goal.returns-in-Demo-clause-ok
returns-in-Demo-clause-ok g c =
    let told = g.S.Shelf.told c.args.shelf.now in
    let out = g.K.Sink.told c.args.sink.now in
    if_ok_so _ _ (λ l h. subst (λ (k : words.Command). Ends (IsAnswer told (Some k)) out out l.bytes.items l.status) (sym (ap command_view c.in-Demo.is))
    (ends_at_once (IsAnswer told (Some (words.demo c.in-Demo.rounds))) out l.bytes.items l.status h)) c.demo_rounds.result c.demo_rounds.ensures.ok

pub returns-in-Demo-clause-err : goal.returns-in-Demo-clause-err
returns-in-Demo-clause-err g c =
    let told = g.S.Shelf.told c.args.shelf.now in
    let out = g.K.Sink.told c.args.sink.now in
    let shelf = Rose (g.S.Shelf.faults c.args.shelf.now) (g.S.Shelf.faults c.args.shelf.now) in
    let sink = Rose (g.K.Sink.faults c.args.sink.now) (g.K.Sink.faults c.args.sink.now) in
    let k = Some (words.demo c.in-Demo.rounds) in
    if_err_so _ _ (λ s h. subst (λ (k : words.Command). StopsIn (IsAnswer told (Some k)) (ReadsAfter told (Some k)) shelf sink out out s) (sym (ap command_view c.in-Demo.is))
    (stops_at_once told k shelf sink out s (stops_from (λ r. IsAnswer told k (refused r)) (λ r. IsAnswer told k (refused r)) (ReadsFor told k) shelf (λ r x. x) s h))) c.demo_rounds.result c.demo_rounds.ensures.err

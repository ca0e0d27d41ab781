use Rattle.std.proofs.Common.{◌∙◌, ap, refl, subst, sym, Err}
use Rattle.slice_io.specs.Causes.{Rose}
use Rattle.slice_io.specs.Files.{told_file}
use Rattle.slice_core.specs.Cores.{core_of}
use Rattle.slice_top.specs.Answers.{upgrade_end}
use Rattle.slice_top.specs.Settled.{UpgradeStops}
use Rattle.slice_top.proofs.Stages.{if_err_so, if_ok_so}
use Rattle.slice_top.proofs.Upgraded.{Follows, answer_follows, follows_ends, follows_starved, missing_answer, upgrade_stops}
use Rattle.slice_top.proofs.upgrades.upgrade_core.Goals as goal

pub returns-in-Ok-clause-ok : goal.returns-in-Ok-clause-ok
returns-in-Ok-clause-ok g c =
    let told = g.S.Shelf.told c.args.shelf.now in
    let name = c.args.name.now in
    let core = core_of c.args.core.now in
    let old = g.K.Sink.told c.args.sink.now in
    let new = g.K.Sink.told c.upgrade_certificate.new.sink in
    let x = c.in-Ok.answer in
    let follows = answer_follows told name core old new x (told_file told name) refl c.in-Ok.ensures.lines
    (λ e. missing_answer told name core x c.upgrade_certificate.result c.in-Ok.is (c.upgrade_certificate.ensures.missing e).1) c.in-Ok.ensures.answer in
    if_ok_so _ _ (λ l e. follows_ends told name core old new l.bytes.items l.status (subst (Follows told name core old new) (sym e) follows)) c.upgrade_output.result c.upgrade_output.ensures.ok

pub returns-in-Ok-clause-err : goal.returns-in-Ok-clause-err
returns-in-Ok-clause-err g c =
    let told = g.S.Shelf.told c.args.shelf.now in
    let name = c.args.name.now in
    let core = core_of c.args.core.now in
    let old = g.K.Sink.told c.args.sink.now in
    let new = g.K.Sink.told c.upgrade_certificate.new.sink in
    let shelf = Rose (g.S.Shelf.faults c.args.shelf.now) (g.S.Shelf.faults c.upgrade_certificate.new.shelf) in
    let sink = Rose (g.K.Sink.faults c.args.sink.now) (g.K.Sink.faults c.upgrade_certificate.new.sink) in
    let x = c.in-Ok.answer in
    let follows = answer_follows told name core old new x (told_file told name) refl c.in-Ok.ensures.lines
    (λ e. missing_answer told name core x c.upgrade_certificate.result c.in-Ok.is (c.upgrade_certificate.ensures.missing e).1) c.in-Ok.ensures.answer in
    if_err_so _ _ (λ s e. subst (UpgradeStops told name core shelf sink old new) (sym e) (follows_starved told name core old new (upgrade_end x) follows))
    c.upgrade_output.result c.upgrade_output.ensures.err

pub returns-in-Err-clause-err : goal.returns-in-Err-clause-err
returns-in-Err-clause-err g c =
    let told = g.S.Shelf.told c.args.shelf.now in
    let name = c.args.name.now in
    let core = core_of c.args.core.now in
    let old = g.K.Sink.told c.args.sink.now in
    let new = g.K.Sink.told c.upgrade_certificate.new.sink in
    let shelf = Rose (g.S.Shelf.faults c.args.shelf.now) (g.S.Shelf.faults c.upgrade_certificate.new.shelf) in
    let sink = Rose (g.K.Sink.faults c.args.sink.now) (g.K.Sink.faults c.upgrade_certificate.new.sink) in
    upgrade_stops told name core shelf sink old new c.in-Err.fault c.upgrade_stop.result
    (record { lines = c.in-Err.ensures.lines_so_far; missing = λ e. rw c.in-Err.is at (c.upgrade_certificate.ensures.missing e).0; says = c.in-Err.ensures.fault })
    (λ e. c.upgrade_certificate.ensures.read (c.in-Err.is ∙ ap Err e)) (λ e. c.upgrade_certificate.ensures.rose (c.in-Err.is ∙ ap Err e)) c.upgrade_stop.ensures

use Rattle.std.proofs.Common.{◌∙◌, Err, ap, sym, true≢false}
use Rattle.slice_io.specs.Causes.{Rose}
use Rattle.slice_core.specs.Cores.{core_of}
use Rattle.slice_top.proofs.CheckedFiles.{checker_stops}
use Rattle.slice_top.proofs.certificates.check_file.Goals as goal

pub returns-in-Ok-clause-ok : goal.returns-in-Ok-clause-ok
returns-in-Ok-clause-ok g c = record { there = λ e. absurd (true≢false (sym (rw c.in-Ok.is at (c.check_certificate.ensures.missing e)))); says = c.in-Ok.ensures.answer }

pub returns-in-Err-clause-err : goal.returns-in-Err-clause-err
returns-in-Err-clause-err g c =
    let rose = Rose (g.S.Shelf.faults c.args.shelf.now) (g.S.Shelf.faults c.check_certificate.new.shelf) in
    checker_stops (g.S.Shelf.told c.args.shelf.now) c.args.name.now (core_of c.args.core.now) rose c.in-Err.fault c.checker_stop.result
    c.in-Err.ensures.fault (λ e. rw c.in-Err.is at (c.check_certificate.ensures.unread e)) (λ e. c.check_certificate.ensures.read (c.in-Err.is ∙ ap Err e)) c.checker_stop.ensures

use Rattle.std.proofs.Common.{refl, subst, ap}
use Rattle.slice_core.specs.Cores.{core_of}
use Rattle.slice_io.specs.Lines.{Reading}
use Rattle.slice_check.specs.declared.answer.Stop.{Stop}
use Rattle.slice_check.specs.declared.upgrade.Halt.{Halt}
use Rattle.slice_check.specs.declared.upgrade.Halt.TheVariants as halt
use Rattle.slice_check.specs.Upgrading.{HaltsBehind, LinesHalt}
use Rattle.slice_check.proofs.Passing.{told_moved}
use Rattle.slice_check.proofs.upgrade.upgrade_certificate.Goals as goal

pub upgrade_lines-requires-clause-fresh : goal.upgrade_lines-requires-clause-fresh
upgrade_lines-requires-clause-fresh g c =
    let s = c.in-Ok-new.ensures {u = tt} in
    record { core_is = ap core_of s.core; ahead = s.ahead; given = s.given; rest = s.rest }

pub returns-in-Ok-upgrade_lines-clause-answer : goal.returns-in-Ok-upgrade_lines-clause-answer
returns-in-Ok-upgrade_lines-clause-answer g c file told =
    let is = c.in-Ok.ensures {u = tt} in
    (c.in-Ok-upgrade_lines.ensures {u = tt}).answer file (told_moved _ _ _ _ _ refl (ap (λ (r : Reading). r.name) is.fresh) told) (is.stands file)

pub returns-in-Err-Stopped-Rejected-clause-answer : goal.returns-in-Err-Stopped-Rejected-clause-answer
returns-in-Err-Stopped-Rejected-clause-answer g c file told =
    let is = c.in-Ok.ensures {u = tt} in
    let old = g.K.Sink.told c.args.sink.now in
    let new = g.K.Sink.told c.upgrade_lines.new.sink in
    let x = c.in-Err-Stopped-Rejected in
    let h = (x.ensures {u = tt}).halt file (told_moved _ _ _ _ _ refl (ap (λ (r : Reading). r.name) is.fresh) told) (is.stands file) in
    subst (λ (s : Stop). LinesHalt (core_of c.args.core.now) file old new (halt.Stopped s)) x.field-0-0-is (subst (λ (k : Halt). LinesHalt (core_of c.args.core.now) file old new k) x.field-0-is h)

pub returns-in-Err-Stopped-Failed-clause-fault : goal.returns-in-Err-Stopped-Failed-clause-fault
returns-in-Err-Stopped-Failed-clause-fault g c file told =
    let is = c.in-Ok.ensures {u = tt} in
    let old = g.K.Sink.told c.args.sink.now in
    let new = g.K.Sink.told c.upgrade_lines.new.sink in
    let x = c.in-Err-Stopped-Failed in
    let h = (x.ensures {u = tt}).halt file (told_moved _ _ _ _ _ refl (ap (λ (r : Reading). r.name) is.fresh) told) (is.stands file) in
    subst (λ (s : Stop). LinesHalt (core_of c.args.core.now) file old new (halt.Stopped s)) x.field-0-0-is (subst (λ (k : Halt). LinesHalt (core_of c.args.core.now) file old new k) x.field-0-is h)

pub returns-clause-fault : goal.returns-clause-fault
returns-clause-fault g c file told =
    let is = c.in-Ok.ensures {u = tt} in
    let old = g.K.Sink.told c.args.sink.now in
    let new = g.K.Sink.told c.upgrade_lines.new.sink in
    let x = c.in-Err-WriteFault in
    let h = (x.ensures {u = tt}).halt file (told_moved _ _ _ _ _ refl (ap (λ (r : Reading). r.name) is.fresh) told) (is.stands file) in
    subst (λ (k : Halt). LinesHalt (core_of c.args.core.now) file old new k) x.field-0-is h

pub returns-in-Err-Stopped-Rejected-clause-lines : goal.returns-in-Err-Stopped-Rejected-clause-lines
returns-in-Err-Stopped-Rejected-clause-lines g c =
    let old = g.K.Sink.told c.args.sink.now in
    let new = g.K.Sink.told c.upgrade_lines.new.sink in
    let x = c.in-Err-Stopped-Rejected in
    subst (λ (k : Halt). HaltsBehind old new k) x.field-0-is ((x.ensures {u = tt}).lines_so_far)

pub returns-in-Err-Stopped-Failed-clause-lines_so_far : goal.returns-in-Err-Stopped-Failed-clause-lines_so_far
returns-in-Err-Stopped-Failed-clause-lines_so_far g c =
    let old = g.K.Sink.told c.args.sink.now in
    let new = g.K.Sink.told c.upgrade_lines.new.sink in
    let x = c.in-Err-Stopped-Failed in
    subst (λ (k : Halt). HaltsBehind old new k) x.field-0-is ((x.ensures {u = tt}).lines_so_far)

pub returns-clause-lines_so_far : goal.returns-clause-lines_so_far
returns-clause-lines_so_far g c =
    let old = g.K.Sink.told c.args.sink.now in
    let new = g.K.Sink.told c.upgrade_lines.new.sink in
    let x = c.in-Err-WriteFault in
    subst (λ (k : Halt). HaltsBehind old new k) x.field-0-is ((x.ensures {u = tt}).lines_so_far)

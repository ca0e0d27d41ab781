use Rattle.std.proofs.Common.{refl, subst, ap}
use Rattle.slice_core.specs.Cores.{core_of}
use Rattle.slice_io.specs.Lines.{Reading}
use Rattle.slice_check.specs.Steps.{Stops}
use Rattle.slice_check.specs.declared.answer.Stop.{Stop}
use Rattle.slice_check.proofs.Passing.{told_moved}
use Rattle.slice_check.proofs.check.check_certificate.Goals as goal

pub check_lines-requires-clause-fresh : goal.check_lines-requires-clause-fresh
check_lines-requires-clause-fresh g c =
    let s = c.in-Ok-new.ensures {u = tt} in
    record { core_is = ap core_of s.core; ahead = s.ahead; given = s.given; rest = s.rest }

pub returns-in-Ok-check_lines-clause-answer : goal.returns-in-Ok-check_lines-clause-answer
returns-in-Ok-check_lines-clause-answer g c file told =
    let is = c.in-Ok.ensures {u = tt} in
    (c.in-Ok-check_lines.ensures {u = tt}).accepts file (told_moved _ _ _ _ _ refl (ap (λ (r : Reading). r.name) is.fresh) told) (is.stands file)

pub returns-in-Err-Rejected-clause-answer : goal.returns-in-Err-Rejected-clause-answer
returns-in-Err-Rejected-clause-answer g c file told =
    let is = c.in-Ok.ensures {u = tt} in
    let t = told_moved _ _ _ _ _ refl (ap (λ (r : Reading). r.name) is.fresh) told in
    subst (λ (x : Stop). Stops (core_of c.args.core.now) file x) c.in-Err-Rejected.field-0-is ((c.in-Err-Rejected.ensures {u = tt}).stop file t (is.stands file))

pub returns-clause-fault : goal.returns-clause-fault
returns-clause-fault g c file told =
    let is = c.in-Ok.ensures {u = tt} in
    let t = told_moved _ _ _ _ _ refl (ap (λ (r : Reading). r.name) is.fresh) told in
    subst (λ (x : Stop). Stops (core_of c.args.core.now) file x) c.in-Err-Failed.field-0-is ((c.in-Err-Failed.ensures {u = tt}).stop file t (is.stands file))

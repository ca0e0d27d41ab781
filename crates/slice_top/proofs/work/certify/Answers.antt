use Rattle.std.proofs.Common.{◌≡◌, inl, inr, subst, Some, Option}
use Rattle.slice_io.specs.Causes.{Rose}
use Rattle.slice_io.specs.Files.{Files}
use Rattle.slice_core.specs.Cores.{core_of}
use Rattle.slice_top.specs.Commands as words
use Rattle.slice_top.specs.Turns.{RefusesProtocol, ReadsFor}
use Rattle.slice_top.specs.Stops.{StopsBy}
use Rattle.slice_top.specs.Answers.{IsAnswer, IsCertifyAnswer, answer_of, refused}
use Rattle.slice_top.proofs.Stages.{if_err_so, if_ok_so, rose_earlier, stops_by, no_core, with_core}
use Rattle.slice_top.proofs.work.certify.Goals as goal

-- the second file's turn has come
pub certify_core-requires : goal.certify_core-requires
certify_core-requires g c = record { asked = (c.read_core.ensures.rule c.args.certificate.now).0 (c.requires.certificate (core_of c.in-Ok.core, c.in-Ok.ensures.ok)) }

pub returns-in-Err-clause-err : goal.returns-in-Err-clause-err
returns-in-Err-clause-err g c =
    let told = g.S.Shelf.told c.args.shelf.now in
    let f = c.args.protocol.now in
    let v = c.args.certificate.now in
    let rose = Rose (g.S.Shelf.faults c.args.shelf.now) (g.S.Shelf.faults c.read_core.new.shelf) in
    stops_by (RefusesProtocol told f) (λ r. IsAnswer told (Some (words.certify f v)) (refused r)) (λ file. file ≡ f) (ReadsFor told (Some (words.certify f v))) rose rose
    (λ r h. no_core told f (IsCertifyAnswer told v) r h) (λ file e. inl e) (λ x. x) c.in-Err.stop c.in-Err.ensures.err

pub returns-clause-ok : goal.returns-clause-ok
returns-clause-ok g c =
    let told = g.S.Shelf.told c.args.shelf.now in
    let f = c.args.protocol.now in
    let v = c.args.certificate.now in
    let core = core_of c.in-Ok.core in
    if_ok_so _ _ (λ l h. with_core told f (IsCertifyAnswer told v) core (answer_of l.bytes.items l.status) c.in-Ok.ensures.ok
    (subst (λ (t : Option Files). IsCertifyAnswer t v core (answer_of l.bytes.items l.status)) c.read_core.ensures.same h))
    c.certify_core.result c.certify_core.ensures.ok

pub returns-clause-err : goal.returns-clause-err
returns-clause-err g c =
    let told = g.S.Shelf.told c.args.shelf.now in
    let again = g.S.Shelf.told c.read_core.new.shelf in
    let f = c.args.protocol.now in
    let v = c.args.certificate.now in
    let core = core_of c.in-Ok.core in
    let start = g.S.Shelf.faults c.args.shelf.now in
    let middle = g.S.Shelf.faults c.read_core.new.shelf in
    let end = g.S.Shelf.faults c.certify_core.new.shelf in
    if_err_so _ (StopsBy (λ r. IsAnswer told (Some (words.certify f v)) (refused r)) (ReadsFor told (Some (words.certify f v))) (Rose start end))
    (λ s h. stops_by (λ r. IsCertifyAnswer again v core (refused r)) (λ r. IsAnswer told (Some (words.certify f v)) (refused r)) (λ file. file ≡ v) (ReadsFor told (Some (words.certify f v))) (Rose middle end) (Rose start end)
    (λ r k. with_core told f (IsCertifyAnswer told v) core (refused r) c.in-Ok.ensures.ok (subst (λ (t : Option Files). IsCertifyAnswer t v core (refused r)) c.read_core.ensures.same k))
    (λ file e. inr (e, (core, c.in-Ok.ensures.ok))) (rose_earlier start middle end c.read_core.ensures.later) s h)
    c.certify_core.result c.certify_core.ensures.err

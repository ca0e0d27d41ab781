use Rattle.std.proofs.Common.{◌≡◌, inl, inr, ℕ, List, subst, Some, Option}
use Rattle.slice_io.specs.Causes.{Rose}
use Rattle.slice_io.specs.Files.{Files}
use Rattle.slice_core.specs.Cores.{core_of}
use Rattle.slice_core.specs.Tree.{Core}
use Rattle.slice_top.specs.Commands as words
use Rattle.slice_top.specs.Certificates.{IsOutMeanwhile}
use Rattle.slice_top.specs.Reports.{ReadsAfter}
use Rattle.slice_top.specs.Settled.{UpgradeLeaves}
use Rattle.slice_top.specs.Turns.{HoldsCore, RefusesProtocol, ReadsFor}
use Rattle.slice_top.specs.Answers.{Answer, IsAnswer, IsUpgradeAnswer, refused}
use Rattle.slice_top.proofs.Endings.{ends_so, out_so, stops_at_once, stops_in_so}
use Rattle.slice_top.proofs.Stages.{if_err_so, if_ok_so, rose_earlier, stops_by, no_core, with_core}
use Rattle.slice_top.proofs.work.upgrade.Goals as goal

-- what is out where the second file can't be read on
out_meanwhile : (told again : Option Files) (f v : List ℕ) (core : Core) (file out : List ℕ) → again ≡ told → HoldsCore told f core → ((a : Answer) → IsUpgradeAnswer again v core a → IsAnswer told (Some (words.upgrade f v)) a)
    → file ≡ v → UpgradeLeaves again v core out → ReadsAfter told (Some (words.upgrade f v)) file out
out_meanwhile told again f v core file out same holds is_answer e (inl none) = (inr (e, (core, holds)), inl none)
out_meanwhile told again f v core file out same holds is_answer e (inr (o, m)) = (
  inr (e, (core, holds)),
  inr (e, out_so (IsUpgradeAnswer again v core) (IsAnswer told (Some (words.upgrade f v))) out is_answer o, core, holds, subst (λ (t : Option Files). IsOutMeanwhile t v core out) same m),
)

-- the second file's turn has come
pub upgrade_core-requires : goal.upgrade_core-requires
upgrade_core-requires g c = record { asked = (c.read_core.ensures.rule c.args.certificate.now).0 (c.requires.certificate (core_of c.in-Ok.core, c.in-Ok.ensures.ok)) }

pub returns-in-Err-clause-err : goal.returns-in-Err-clause-err
returns-in-Err-clause-err g c =
    let told = g.S.Shelf.told c.args.shelf.now in
    let f = c.args.protocol.now in
    let v = c.args.certificate.now in
    let rose = Rose (g.S.Shelf.faults c.args.shelf.now) (g.S.Shelf.faults c.read_core.new.shelf) in
    let sink = Rose (g.K.Sink.faults c.args.sink.now) (g.K.Sink.faults c.args.sink.now) in
    stops_at_once told (Some (words.upgrade f v)) rose sink (g.K.Sink.told c.args.sink.now) c.in-Err.stop
    (stops_by (RefusesProtocol told f) (λ r. IsAnswer told (Some (words.upgrade f v)) (refused r)) (λ file. file ≡ f) (ReadsFor told (Some (words.upgrade f v))) rose rose
    (λ r h. no_core told f (IsUpgradeAnswer told v) r h) (λ file e. inl e) (λ x. x) c.in-Err.stop c.in-Err.ensures.err)

pub returns-clause-ok : goal.returns-clause-ok
returns-clause-ok g c =
    let told = g.S.Shelf.told c.args.shelf.now in
    let again = g.S.Shelf.told c.read_core.new.shelf in
    let f = c.args.protocol.now in
    let v = c.args.certificate.now in
    let core = core_of c.in-Ok.core in
    if_ok_so _ _ (λ l h. ends_so (IsUpgradeAnswer again v core) (IsAnswer told (Some (words.upgrade f v))) (g.K.Sink.told c.args.sink.now) (g.K.Sink.told c.upgrade_core.new.sink) l.bytes.items l.status
    (λ a is. with_core told f (IsUpgradeAnswer told v) core a c.in-Ok.ensures.ok (subst (λ (t : Option Files). IsUpgradeAnswer t v core a) c.read_core.ensures.same is)) h)
    c.upgrade_core.result c.upgrade_core.ensures.ok

pub returns-clause-err : goal.returns-clause-err
returns-clause-err g c =
    let told = g.S.Shelf.told c.args.shelf.now in
    let again = g.S.Shelf.told c.read_core.new.shelf in
    let f = c.args.protocol.now in
    let v = c.args.certificate.now in
    let core = core_of c.in-Ok.core in
    let start = g.S.Shelf.faults c.args.shelf.now in
    let middle = g.S.Shelf.faults c.read_core.new.shelf in
    let end = g.S.Shelf.faults c.upgrade_core.new.shelf in
    let sink = Rose (g.K.Sink.faults c.args.sink.now) (g.K.Sink.faults c.upgrade_core.new.sink) in
    let is_answer = λ (a : Answer) (is : IsUpgradeAnswer again v core a).
    with_core told f (IsUpgradeAnswer told v) core a c.in-Ok.ensures.ok (subst (λ (t : Option Files). IsUpgradeAnswer t v core a) c.read_core.ensures.same is) in
    if_err_so _ _ (λ s h. stops_in_so (IsUpgradeAnswer again v core) (IsAnswer told (Some (words.upgrade f v))) (λ file out. (file ≡ v) × UpgradeLeaves again v core out) (ReadsAfter told (Some (words.upgrade f v)))
    (Rose middle end) (Rose start end) sink sink (g.K.Sink.told c.args.sink.now) (g.K.Sink.told c.upgrade_core.new.sink) s is_answer
    (λ file out x. out_meanwhile told again f v core file out c.read_core.ensures.same c.in-Ok.ensures.ok is_answer x.0 x.1)
    (rose_earlier start middle end c.read_core.ensures.later) (λ x. x) h) c.upgrade_core.result c.upgrade_core.ensures.err

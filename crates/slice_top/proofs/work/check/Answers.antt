use Rattle.std.proofs.Common.{◌≡◌, ap, Some, List, ℕ}
use Rattle.slice_io.specs.Causes.{Rose}
use Rattle.slice_core.specs.Cores.{core_of}
use Rattle.slice_top.specs.Commands as words
use Rattle.slice_top.specs.Turns.{RefusesProtocol, ReadsFor}
use Rattle.slice_top.specs.Answers.{IsAnswer, IsCheckAnswer, answer_of, refused}
use Rattle.slice_top.specs.declared.status.Status.TheVariants as status
use Rattle.slice_top.proofs.Stages.{stops_by, no_core, with_core}
use Rattle.slice_top.proofs.work.check.Goals as goal

pub returns-in-Err-clause-err : goal.returns-in-Err-clause-err
returns-in-Err-clause-err g c =
    let told = g.S.Shelf.told c.args.shelf.now in
    let f = c.args.protocol.now in
    let rose = Rose (g.S.Shelf.faults c.args.shelf.now) (g.S.Shelf.faults c.read_core.new.shelf) in
    stops_by (RefusesProtocol told f) (λ r. IsAnswer told (Some (words.check f)) (refused r)) (λ file. file ≡ f) (ReadsFor told (Some (words.check f))) rose rose
    (λ r h. no_core told f IsCheckAnswer r h) (λ file e. e) (λ x. x) c.in-Err.stop c.in-Err.ensures.err

pub returns-clause-ok : goal.returns-clause-ok
returns-clause-ok g c =
    with_core (g.S.Shelf.told c.args.shelf.now) c.args.protocol.now IsCheckAnswer (core_of c.in-Ok.core) (answer_of c.in-Ok-check_line.bytes.items status.Good)
    c.in-Ok.ensures.ok (ap (λ (l : List ℕ). answer_of l status.Good) c.in-Ok-check_line.ensures)

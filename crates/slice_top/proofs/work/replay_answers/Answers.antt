use Rattle.std.proofs.Common.{◌≡◌, refl}
use Rattle.slice_io.specs.Causes.{Rose}
use Rattle.slice_core.specs.Cores.{core_of}
use Rattle.slice_top.specs.FilesRead.{IsFileOf, RefusesFile}
use Rattle.slice_top.specs.Stops.{StopsBy, StopsFor}
use Rattle.slice_top.specs.Answers.{IsReplayAnswer, TellsGivenRun, stops, goes, refused}
use Rattle.slice_top.proofs.Stages.{if_err_so, if_ok_so, stops_by, stops_from}
use Rattle.slice_top.proofs.work.replay_answers.Goals as goal

pub returns-in-Err-clause-err : goal.returns-in-Err-clause-err
returns-in-Err-clause-err g c =
    let told = g.S.Shelf.told c.args.shelf.now in
    let v = c.args.values.now in
    let core = core_of c.args.core.now in
    let rose = Rose (g.S.Shelf.faults c.args.shelf.now) (g.S.Shelf.faults c.read_file.new.shelf) in
    stops_by (RefusesFile told v) (λ r. IsReplayAnswer told v core (refused r)) (λ file. file ≡ v) (λ file. file ≡ v) rose rose
    (λ r h. stops r h refl) (λ file e. e) (λ x. x) c.in-Err.stop c.in-Err.ensures.err

pub returns-clause-ok : goal.returns-clause-ok
returns-clause-ok g c =
    let told = g.S.Shelf.told c.args.shelf.now in
    let v = c.args.values.now in
    let bytes = c.deref.result.now in
    let file : IsFileOf told v bytes = rw c.deref.ensures.value c.in-Ok.ensures.ok in
    if_ok_so _ _ (λ l h. goes bytes file h) c.tell_answers.result c.tell_answers.ensures.ok

pub returns-clause-err : goal.returns-clause-err
returns-clause-err g c =
    let told = g.S.Shelf.told c.args.shelf.now in
    let v = c.args.values.now in
    let core = core_of c.args.core.now in
    let bytes = c.deref.result.now in
    let file : IsFileOf told v bytes = rw c.deref.ensures.value c.in-Ok.ensures.ok in
    let rose = Rose (g.S.Shelf.faults c.args.shelf.now) (g.S.Shelf.faults c.read_file.new.shelf) in
    if_err_so (StopsFor (λ r. TellsGivenRun bytes core (refused r))) (StopsBy (λ r. IsReplayAnswer told v core (refused r)) (λ name. name ≡ v) rose)
    (λ s h. stops_from (λ r. TellsGivenRun bytes core (refused r)) (λ r. IsReplayAnswer told v core (refused r)) (λ name. name ≡ v) rose (λ r k. goes bytes file k) s h)
    c.tell_answers.result c.tell_answers.ensures.err

use Rattle.std.proofs.Common.{◌≡◌, Some}
use Rattle.slice_io.specs.Causes.{Rose}
use Rattle.slice_core.specs.Cores.{core_of}
use Rattle.slice_top.specs.Commands as words
use Rattle.slice_top.specs.Reports.{ReadsAfter}
use Rattle.slice_top.specs.Turns.{RefusesProtocol, ReadsFor}
use Rattle.slice_top.specs.Answers.{IsAnswer, IsPathsAnswer, refused}
use Rattle.slice_top.proofs.Endings.{ends_so, lines_stop_in, stops_at_once}
use Rattle.slice_top.proofs.Stages.{if_ok_so, if_err_so, stops_by, no_core, with_core}
use Rattle.slice_top.proofs.work.paths.Goals as goal

pub returns-in-Err-clause-err : goal.returns-in-Err-clause-err
returns-in-Err-clause-err g c =
    let told = g.S.Shelf.told c.args.shelf.now in
    let f = c.args.protocol.now in
    let rose = Rose (g.S.Shelf.faults c.args.shelf.now) (g.S.Shelf.faults c.read_core.new.shelf) in
    let sink = Rose (g.K.Sink.faults c.args.sink.now) (g.K.Sink.faults c.args.sink.now) in
    stops_at_once told (Some (words.paths f)) rose sink (g.K.Sink.told c.args.sink.now) c.in-Err.stop
    (stops_by (RefusesProtocol told f) (λ r. IsAnswer told (Some (words.paths f)) (refused r)) (λ file. file ≡ f) (ReadsFor told (Some (words.paths f))) rose rose
    (λ r h. no_core told f IsPathsAnswer r h) (λ file e. e) (λ x. x) c.in-Err.stop c.in-Err.ensures.err)

pub returns-clause-ok : goal.returns-clause-ok
returns-clause-ok g c =
    let told = g.S.Shelf.told c.args.shelf.now in
    let f = c.args.protocol.now in
    let core = core_of c.in-Ok.core in
    if_ok_so _ _ (λ l h. ends_so (IsPathsAnswer core) (IsAnswer told (Some (words.paths f))) (g.K.Sink.told c.args.sink.now) (g.K.Sink.told c.put_goals.new.sink) l.bytes.items l.status
    (λ a is. with_core told f IsPathsAnswer core a c.in-Ok.ensures.ok is) h) c.put_goals.result c.put_goals.ensures.ok

pub returns-clause-err : goal.returns-clause-err
returns-clause-err g c =
    let told = g.S.Shelf.told c.args.shelf.now in
    let f = c.args.protocol.now in
    let core = core_of c.in-Ok.core in
    let shelf = Rose (g.S.Shelf.faults c.args.shelf.now) (g.S.Shelf.faults c.read_core.new.shelf) in
    let sink = Rose (g.K.Sink.faults c.args.sink.now) (g.K.Sink.faults c.put_goals.new.sink) in
    if_err_so _ _ (λ s h. lines_stop_in (IsPathsAnswer core) (IsAnswer told (Some (words.paths f))) (ReadsAfter told (Some (words.paths f))) shelf sink (g.K.Sink.told c.args.sink.now) (g.K.Sink.told c.put_goals.new.sink) s
    (λ a is. with_core told f IsPathsAnswer core a c.in-Ok.ensures.ok is) h) c.put_goals.result c.put_goals.ensures.err

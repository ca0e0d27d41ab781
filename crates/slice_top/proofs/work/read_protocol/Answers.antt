use Rattle.std.proofs.Common.{◌≡◌}
use Rattle.slice_io.specs.Causes.{Rose}
use Rattle.slice_top.specs.Programs.{RefusesText}
use Rattle.slice_top.specs.Turns.{RefusesSpelling, by_text}
use Rattle.slice_top.specs.Stops.{StopsFor, StopsBy}
use Rattle.slice_top.proofs.Stages.{if_err_so, stops_from}
use Rattle.slice_top.proofs.work.read_protocol.Goals as goal

pub returns-clause-err : goal.returns-clause-err
returns-clause-err g c =
    let told = g.S.Shelf.told c.args.shelf.now in
    let f = c.args.name.now in
    let text = c.deref.result.now in
    let rose = Rose (g.S.Shelf.faults c.args.shelf.now) (g.S.Shelf.faults c.read_file.new.shelf) in
    if_err_so (StopsFor (RefusesText text)) (StopsBy (RefusesSpelling told f) (λ file. file ≡ f) rose)
    (λ s h. stops_from (RefusesText text) (RefusesSpelling told f) (λ file. file ≡ f) rose (λ r k. by_text text (rw c.deref.ensures.value c.in-Ok.ensures.ok) k) s h)
    c.read_program.result c.read_program.ensures.err

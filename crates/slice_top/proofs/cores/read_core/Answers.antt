use Rattle.std.proofs.Common.{◌≡◌}
use Rattle.slice_io.specs.Causes.{Rose}
use Rattle.slice_top.specs.Turns.{RefusesCoreOfText, RefusesProtocol, in_core}
use Rattle.slice_top.specs.Stops.{StopsFor, StopsBy}
use Rattle.slice_top.proofs.Stages.{if_err_so, stops_from}
use Rattle.slice_top.proofs.cores.read_core.Goals as goal

pub returns-clause-err : goal.returns-clause-err
returns-clause-err g c =
    let told = g.S.Shelf.told c.args.shelf.now in
    let f = c.args.name.now in
    let text = c.deref.result.now in
    let rose = Rose (g.S.Shelf.faults c.args.shelf.now) (g.S.Shelf.faults c.read_file.new.shelf) in
    if_err_so (StopsFor (RefusesCoreOfText text)) (StopsBy (RefusesProtocol told f) (λ file. file ≡ f) rose)
    (λ s h. stops_from (RefusesCoreOfText text) (RefusesProtocol told f) (λ file. file ≡ f) rose (λ r k. in_core text (rw c.deref.ensures.value c.in-Ok.ensures.ok) k) s h)
    c.core_of_text.result c.core_of_text.ensures.err

use Rattle.std.proofs.Common.{arith}
use Rattle.slice_core.specs.Nodes.{tree_of}
use Rattle.slice_paths.proofs.PartSteps.{last_leads, part_breaks}
use Rattle.slice_paths.proofs.walk.last_part.Goals as goal

pub returns-in-Err-clause-err : goal.returns-in-Err-clause-err
returns-in-Err-clause-err c =
    let cut = c.args.cut in
    part_breaks c.args.agents cut.agent cut.piece cut.amount c.args.part (tree_of cut.next.now) c.args.spot c.in-Err.fault c.requires.ready (omega (arith, c.requires.last)) c.in-Err.ensures.err

pub returns-clause-ok : goal.returns-clause-ok
returns-clause-ok c =
    let cut = c.args.cut in
    let o = last_leads c.args.agents cut.agent cut.piece cut.amount c.args.part (tree_of cut.next.now) c.args.spot c.answer.new.self c.requires.ready c.ranges.part.fits c.requires.last c.in-Ok.ensures.ok c.in-Ok.ensures.tally in
    record { comes = o.comes; ready = o.ready; fewer = o.fewer }

use Rattle.slice_core.specs.Nodes.{tree_of}
use Rattle.slice_paths.proofs.WalkSteps.{set_onto, set_breaks_first}
use Rattle.slice_paths.proofs.walk.walk_set.Goals as goal

pub returns-in-Err-clause-err : goal.returns-in-Err-clause-err
returns-in-Err-clause-err c r =
    set_breaks_first r c.requires.ready.0 c.args.sum.now (tree_of c.args.next.now) c.args.spot c.in-Err.fault c.requires.ready.1 c.in-Err.ensures.err

pub returns-clause-ok : goal.returns-clause-ok
returns-clause-ok c r =
    let o = set_onto r c.requires.ready.0 c.args.sum.now (tree_of c.args.next.now) c.args.spot c.set.new.self c.requires.ready.1 c.in-Ok.ensures.ok c.in-Ok.ensures.tally in
    record { comes = o.comes; ready = o.ready; fewer = o.fewer }

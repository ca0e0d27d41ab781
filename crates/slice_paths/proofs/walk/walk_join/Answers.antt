use Rattle.slice_core.specs.Nodes.{tree_of}
use Rattle.slice_paths.proofs.WalkSteps.{join_onto}
use Rattle.slice_paths.proofs.walk.walk_join.Goals as goal

pub returns-clause-ok : goal.returns-clause-ok
returns-clause-ok c =
    let o = join_onto c.args.first c.args.second c.args.piece (tree_of c.args.next.now) c.args.spot c.join.new.self c.requires c.in-Ok.ensures.ok c.in-Ok.ensures.tally in
    record { comes = o.comes; ready = o.ready; fewer = o.fewer }

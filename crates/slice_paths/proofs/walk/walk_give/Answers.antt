use Rattle.slice_core.specs.Nodes.{tree_of}
use Rattle.slice_paths.proofs.WalkSteps.{give_onto}
use Rattle.slice_paths.proofs.walk.walk_give.Goals as goal

pub returns-clause-ok : goal.returns-clause-ok
returns-clause-ok c =
    let o = give_onto c.args.piece c.args.agent (tree_of c.args.next.now) c.args.spot c.give.new.self c.requires c.in-Ok.ensures.ok c.in-Ok.ensures.tally in
    record { comes = o.comes; ready = o.ready; fewer = o.fewer }

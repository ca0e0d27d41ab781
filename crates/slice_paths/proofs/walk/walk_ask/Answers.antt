use Rattle.slice_core.specs.Nodes.{tree_of}
use Rattle.slice_paths.proofs.WalkSteps.{ask_onto}
use Rattle.slice_paths.proofs.walk.walk_ask.Goals as goal

pub returns-clause-ok : goal.returns-clause-ok
returns-clause-ok c r =
    let o = ask_onto c.args.agent c.args.piece r c.requires.ready.0 (tree_of c.args.next.now) c.args.spot c.ask.new.self c.requires.ready.1 c.in-Ok.ensures.ok c.in-Ok.ensures.tally in
    record { comes = o.comes; ready = o.ready; fewer = o.fewer }

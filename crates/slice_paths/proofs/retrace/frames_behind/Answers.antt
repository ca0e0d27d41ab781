use Rattle.slice_core.specs.Cores.{core_of}
use Rattle.slice_core.specs.Nodes.{tree_of}
use Rattle.slice_paths.proofs.CoverLaws.{behind_none, behind_some}
use Rattle.slice_paths.proofs.retrace.frames_behind.Goals as goal

pub unreachable-requires : goal.unreachable-requires
unreachable-requires c =
    let none = rw c.in-Ok-None.field-0-is at c.in-Ok-None.ensures in
    c.requires (behind_none (core_of c.args.core.now) c.agents-agents.result c.args.passed (tree_of c.root.result.now) c.in-Ok.spot c.args.trace.now c.agents-agents.ensures.value c.root.ensures c.in-Ok.ensures.regs c.in-Ok.ensures.way none)

pub returns-clause-ahead : goal.returns-clause-ahead
returns-clause-ahead c =
    let there = rw c.in-Ok-Some.field-0-is at c.in-Ok-Some.ensures in
    behind_some (core_of c.args.core.now) c.agents-agents.result c.args.passed (tree_of c.root.result.now) c.in-Ok.spot _ c.args.trace.now _ _ c.agents-agents.ensures.value c.root.ensures c.in-Ok.ensures.regs c.in-Ok.ensures.way c.new-behind.ensures.items there

use Rattle.std.proofs.Common.{sym}
use Rattle.slice_core.specs.Cores.{core_of}
use Rattle.slice_core.specs.Nodes.{tree_of}
use Rattle.slice_paths.proofs.CoverLaws.{cover_none, cover_some}
use Rattle.slice_paths.proofs.StreamLaws.{first_ready}
use Rattle.slice_paths.proofs.retrace.cover_of.Goals as goal

pub retrace-requires : goal.retrace-requires
retrace-requires c =
    first_ready (core_of c.args.core.now) c.agents-agents.result (tree_of c.root.result.now) c.in-Ok.spot c.agents-agents.ensures.formed c.agents-agents.ensures.value c.root.ensures c.in-Ok.ensures.known c.in-Ok.ensures.tally

pub way_rows-requires-clause-numbering : goal.way_rows-requires-clause-numbering
way_rows-requires-clause-numbering c = let there = rw c.in-Ok-Some.field-0-is at c.in-Ok-Some.ensures in there.ready.1.known.numbering

pub way_rows-requires-clause-agents : goal.way_rows-requires-clause-agents
way_rows-requires-clause-agents c = let there = rw c.in-Ok-Some.field-0-is at c.in-Ok-Some.ensures in sym there.ready.1.goes.agents_are

pub returns-in-Ok-None : goal.returns-in-Ok-None
returns-in-Ok-None c =
    let none = rw c.in-Ok-None.field-0-is at c.in-Ok-None.ensures in
    cover_none (core_of c.args.core.now) c.agents-agents.result c.args.passed (tree_of c.root.result.now) c.in-Ok.spot c.args.trace.now c.agents-agents.ensures.value c.root.ensures c.in-Ok.ensures.regs c.in-Ok.ensures.way none

pub returns : goal.returns
returns c =
    let there = rw c.in-Ok-Some.field-0-is at c.in-Ok-Some.ensures in
    cover_some (core_of c.args.core.now) c.agents-agents.result c.args.passed (tree_of c.root.result.now) c.in-Ok.spot c.in-Ok-Some.there c.args.trace.now _ _ c.in-Ok-way_rows.rows.items c.agents-agents.ensures.value c.root.ensures c.in-Ok.ensures.regs c.in-Ok.ensures.way
    there c.in-Ok-way_rows.ensures

use Rattle.std.proofs.Common.{◌≤◌, drop, length}
use Rattle.slice_core.specs.Cores.{core_of}
use Rattle.slice_core.specs.Sizes.{depth}
use Rattle.slice_core.specs.Nodes.{tree_of}
use Rattle.slice_paths.specs.Ways.{way_of}
use Rattle.slice_counter.specs.Marks.{LeadsTo}
use Rattle.slice_counter.proofs.walk.walk.Given as goal

abbrev pub invariant-loop-trail : goal.invariant-loop-trail
invariant-loop-trail l = record {
  within : l.at ≤ length l.trace;
  leads : LeadsTo (way_of (core_of l.core) l.trace) (tree_of l.node) (drop l.at l.trace) l.trail;
}

abbrev pub decreases-loop-trail : goal.decreases-loop-trail
decreases-loop-trail l = depth (tree_of l.node)

use Rattle.slice_core.specs.Nodes.{tree_of}
use Rattle.slice_core.specs.Sizes.{depth}
use Rattle.slice_paths.proofs.retrace.+retrace.Given as goal

abbrev pub decreases-retrace : goal.decreases-retrace
decreases-retrace l = depth (tree_of l.node.now)

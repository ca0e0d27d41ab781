use Rattle.std.proofs.Common.{◌+◌, ◌*◌, max}
use Rattle.slice_core.specs.Nodes.{tree_of}
use Rattle.slice_core.specs.Sizes.{depth}
use Rattle.slice_paths.proofs.counting.+left_goals.Given as goal

abbrev pub decreases-count_left : goal.decreases-count_left
decreases-count_left l = 2 * depth (tree_of l.node.now)

abbrev pub decreases-left_of_cut : goal.decreases-left_of_cut
decreases-left_of_cut l = 2 * depth (tree_of l.next.now) + 1

abbrev pub decreases-left_of_test : goal.decreases-left_of_test
decreases-left_of_test l = 2 * max (depth (tree_of l.yes.now)) (depth (tree_of l.no.now)) + 1

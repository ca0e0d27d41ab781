use Rattle.std.proofs.Common.{◌≡◌, ◌≤◌, ◌+◌, ◌*◌}
use Rattle.slice_core.specs.Nodes.{tree_of}
use Rattle.slice_core.specs.Sizes.{depth}
use Rattle.slice_paths.specs.Counting.{goals_in_parts}
use Rattle.slice_paths.proofs.counting.+all_goals.Given as goal

abbrev pub decreases-count_on : goal.decreases-count_on
decreases-count_on l = 2 * depth (tree_of l.node.now)

abbrev pub decreases-count_parts : goal.decreases-count_parts
decreases-count_parts l = 2 * depth (tree_of l.next.now) + 1

abbrev pub invariant-count_parts-loop-part : goal.invariant-count_parts-loop-part
invariant-count_parts-loop-part l = record {
  few : l.given ≤ 1000000;
  left : l.given + goals_in_parts l.agents (tree_of l.next) l.counts l.piece l.part ≡ l.fn.given + goals_in_parts l.agents (tree_of l.next) l.counts l.piece l.fn.from;
}

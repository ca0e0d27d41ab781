use Rattle.std.proofs.Common.{◌≡◌, length}
use Rattle.slice_core.specs.Sizes.{depth}
use Rattle.slice_core.specs.Nodes.{tree_of}
use Rattle.slice_run.specs.Answers.{answers_of}
use Rattle.slice_run.specs.Tables.{Ready, board_of}
use Rattle.slice_run.specs.Walk.{walk}
use Rattle.slice_run.proofs.run.walk.Given as goal

abbrev pub invariant-loop-next : goal.invariant-loop-next
invariant-loop-next l = record {
  rest : walk l.valuations (tree_of l.node) l.table.registers.items (answers_of l.answers) (board_of l.table) ≡ walk l.valuations (tree_of l.initial.node) l.initial.table.registers.items (answers_of l.initial.answers) (board_of l.initial.table);
  ready : Ready (length l.valuations) (length l.table.registers.items) (tree_of l.node) (board_of l.table);
  spare : l.table.book.spare ≡ 65;
  left : l.table.book.left ≡ l.initial.table.book.left;
}

abbrev pub decreases-loop-next : goal.decreases-loop-next
decreases-loop-next l = depth (tree_of l.node)

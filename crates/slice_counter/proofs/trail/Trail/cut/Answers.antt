use Rattle.std.proofs.Common.{map, arith}
use Rattle.slice_counter.specs.Marks.{moved, parts_of}
use Rattle.slice_counter.proofs.Steps.{small_atom, part_there}
use Rattle.slice_counter.proofs.trail.Trail.cut.Goals as goal

pub overflow_add-atom : goal.overflow_add-atom
overflow_add-atom c = let small = small_atom (parts_of c.args.self.now) c.args.piece c.args.part c.args.atom c.requires.parts c.requires.part in omega (arith, small)

pub overflow_add-mark : goal.overflow_add-mark
overflow_add-mark c = let small = small_atom (parts_of c.args.self.now) c.args.piece c.args.part c.args.atom c.requires.parts c.requires.part in omega (arith, small)

pub left_piece-requires : goal.left_piece-requires
left_piece-requires c = part_there (moved c.args.atom) (parts_of c.args.self.now) (map (λ p. p.items) c.move_pieces.new.pieces.items) c.args.piece c.args.part c.args.atom c.take-parts.result.items c.as_slice.result.now c.requires.part c.move_pieces.ensures c.take-parts.ensures.parts c.as_slice.ensures.value

pub right_piece-requires : goal.right_piece-requires
right_piece-requires c = part_there (moved c.args.atom) (parts_of c.args.self.now) (map (λ p. p.items) c.move_pieces.new.pieces.items) c.args.piece c.args.part c.args.atom c.take-parts.result.items c.as_slice-2.result.now c.requires.part c.move_pieces.ensures c.take-parts.ensures.parts c.as_slice-2.ensures.value

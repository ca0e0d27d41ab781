use Rattle.std.proofs.Common.{◌≡◌, ◌≤◌, ◌*◌, length}
use Rattle.slice_expand.specs.Index.{lent_index, index_of, found, bits_below, bits_of}
use Rattle.slice_expand.proofs.index.find.Given as goal

abbrev pub invariant-loop-left : goal.invariant-loop-left
invariant-loop-left l = (l.left ≤ 8 * length l.word) × (found (lent_index l.place) (bits_below l.word l.left) ≡ found (index_of l.root) (bits_of l.word))

abbrev pub decreases-loop-left : goal.decreases-loop-left
decreases-loop-left l = l.left

-- The stretches of pieces and shares stand in order, from 0 on.
use Rattle.std.proofs.Common.{◌≡◌, ℕ, zero, suc, ◌++◌, ◌∷◌, List, [], slice_set, replicate, pos, subst, arith}
use Rattle.std.specs.Prelude.{⊤}
use Rattle.slice_num.specs.Rational.{Rational, whole, IsAtMost}
use Rattle.slice_num.specs.Valuation.{cake}
use Rattle.std.proofs.lemmas.Int.{ints}
use Rattle.slice_num.specs.declared.interval.Interval.{Interval}
use Rattle.slice_num.proofs.FieldLaws.{at_most_trans, at_most_self, whole_at_most}
use Rattle.slice_num.specs.Pieces.{piece_at, emptied, given, cut_pieces, join_pieces}
use Rattle.slice_core.specs.Run.{Piece, left_piece, right_piece, before_point}
use Rattle.slice_step.specs.Exact.{InOrder}
use Rattle.slice_step.proofs.InOrder.{PieceInOrder}

abbrev pub AllOrdered : List Piece → Type 0
AllOrdered [] = ⊤
AllOrdered (x ∷ xs) = PieceInOrder x × AllOrdered xs

pub ordered_at : (pieces : List Piece) (p : ℕ) → AllOrdered pieces → PieceInOrder (piece_at pieces p)
ordered_at [] p h = tt
ordered_at (x ∷ xs) zero h = h.0
ordered_at (x ∷ xs) (suc p) h = ordered_at xs p h.1

pub ordered_set : (pieces : List Piece) (p : ℕ) (x : Piece) → AllOrdered pieces → PieceInOrder x → AllOrdered (slice_set pieces p x)
ordered_set [] p x h k = tt
ordered_set (y ∷ ys) zero x h k = (k, h.1)
ordered_set (y ∷ ys) (suc p) x h k = (h.0, ordered_set ys p x h.1 k)

pub ordered_append : (xs ys : List Piece) → AllOrdered xs → AllOrdered ys → AllOrdered (xs ++ ys)
ordered_append [] ys h k = k
ordered_append (x ∷ xs) ys h k = (h.0, ordered_append xs ys h.1 k)

pub piece_append : (xs ys : Piece) → PieceInOrder xs → PieceInOrder ys → PieceInOrder (xs ++ ys)
piece_append [] ys h k = k
piece_append (x ∷ xs) ys h k = (h.0, piece_append xs ys h.1 k)

-- the parts before one, it, and those after
pub record Split (before : Piece) (i : Interval) (after : Piece) : Type 0 where
  pub front : PieceInOrder before
  pub here : InOrder i
  pub rest : PieceInOrder after

pub piece_split : (before : Piece) (i : Interval) (after : Piece) → PieceInOrder (before ++ i ∷ after) → Split before i after
piece_split [] i after h = record { front = tt; here = h.0; rest = h.1 }
piece_split (j ∷ before) i after h = let s = piece_split before i after h.1 in record { front = (h.0, s.front); here = s.here; rest = s.rest }

pub left_ordered : (before : Piece) (i : Interval) (y : Rational) → PieceInOrder before → InOrder i → IsAtMost i.from y → PieceInOrder (left_piece before i y)
left_ordered before i y h order low = piece_append before (before_point i y ∷ []) h ((order.0, low), tt)

pub ordered_given : (shares : List Piece) (a : ℕ) (piece : Piece) → AllOrdered shares → PieceInOrder piece → AllOrdered (given shares a piece)
ordered_given shares a piece h k = ordered_set shares a (piece_at shares a ++ piece) h (piece_append (piece_at shares a) piece (ordered_at shares a h) k)

pub ordered_emptied : (pieces : List Piece) (p : ℕ) → AllOrdered pieces → AllOrdered (emptied pieces p)
ordered_emptied pieces p h = ordered_set pieces p [] h tt

pub ordered_cut : (pieces : List Piece) (p : ℕ) (before : Piece) (i : Interval) (after : Piece) (y : Rational) → AllOrdered pieces → piece_at pieces p ≡ before ++ i ∷ after → IsAtMost i.from y → IsAtMost y i.to
    → AllOrdered (cut_pieces pieces p (left_piece before i y) (right_piece i y after))
ordered_cut pieces p before i after y h parts low high =
    let s = piece_split before i after (subst PieceInOrder parts (ordered_at pieces p h)) in
    ordered_append (emptied pieces p) (left_piece before i y ∷ right_piece i y after ∷ []) (ordered_emptied pieces p h)
    (left_ordered before i y s.front s.here low, (((at_most_trans (whole (pos 0)) i.from y s.here.0 low, high), s.rest), tt))

pub ordered_join : (pieces : List Piece) (p q : ℕ) → AllOrdered pieces → AllOrdered (join_pieces pieces p q)
ordered_join pieces p q h =
    let one = ordered_emptied pieces p h in
    ordered_append (emptied (emptied pieces p) q) ((piece_at pieces p ++ piece_at (emptied pieces p) q) ∷ []) (ordered_emptied (emptied pieces p) q one)
    (piece_append (piece_at pieces p) (piece_at (emptied pieces p) q) (ordered_at pieces p h) (ordered_at (emptied pieces p) q one), tt)

pub ordered_none : (n : ℕ) → AllOrdered (replicate n [])
ordered_none zero = tt
ordered_none (suc n) = (tt, ordered_none n)

pub cake_ordered : (n : ℕ) → AllOrdered ((cake n ∷ []) ∷ [])
cake_ordered n = (((at_most_self (whole (pos 0)), whole_at_most (pos 0) (pos n) (omega (arith, ints))), tt), tt)

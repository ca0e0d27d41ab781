-- The stretches of a piece stand in order, one by one.
use Rattle.std.proofs.Common.{zero, suc, ◌∷◌, [], arith}
use Rattle.std.specs.List.{All}
use Rattle.std.specs.Prelude.{⊤}
use Rattle.std.proofs.lemmas.List.Elements.{All-head, All-tail}
use Rattle.slice_core.specs.Run.{Piece}
use Rattle.slice_step.specs.Exact.{InOrder}

abbrev pub PieceInOrder : Piece → Type 0
PieceInOrder [] = ⊤
PieceInOrder (i ∷ is) = InOrder i × PieceInOrder is

pub piece_all : (piece : Piece) → PieceInOrder piece → All InOrder piece
piece_all [] h k d l = absurd (omega (arith, l))
piece_all (i ∷ is) h zero d l = h.0
piece_all (i ∷ is) h (suc k) d l = piece_all is h.1 k d (omega (arith, l))

pub piece_each : (piece : Piece) → All InOrder piece → PieceInOrder piece
piece_each [] h = tt
piece_each (i ∷ is) h = (All-head InOrder i is h, piece_each is (All-tail InOrder i is h))

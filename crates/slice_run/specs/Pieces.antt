-- Pieces of the cake, and what a run keeps of them.
use Rattle.std.specs.Prelude.{ℕ, List, [], ◌++◌, ◌-◌, ◌+◌, length, take, drop, Option, Some, None}
use Rattle.slice_num.specs.Rational.{Rational}
use Rattle.slice_num.specs.declared.interval.Interval.{Interval}
pub use Rattle.slice_num.specs.Pieces.{piece_at, emptied, given, joined}
use Rattle.slice_num.specs.Pieces.{cut_pieces}
use Rattle.slice_core.specs.Run.{left_piece, right_piece}
pub use Rattle.slice_core.specs.Run.{Piece}
pub use Rattle.slice_piece.specs.Ledger.{Ledger, IsWithin}

-- the stretches of a piece that is held, or none
abbrev pub held : Option Piece → Piece
held None = []
held (Some piece) = piece

-- the ledger after all these pieces were left
abbrev pub with_rest : Ledger → List Piece → Ledger
with_rest b pieces = record b { left = b.left ++ joined pieces; spare = b.spare - length (joined pieces) }

-- the pieces after that one was cut at the point of its part of that number, the stretch i
abbrev pub cut_part : List Piece → ℕ → ℕ → Interval → Rational → List Piece
cut_part pieces p part i y = cut_pieces pieces p (left_piece (take part (piece_at pieces p)) i y) (right_piece i y (drop (part + 1) (piece_at pieces p)))

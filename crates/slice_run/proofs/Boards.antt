-- The board after a cut, by the number of the part.
use Rattle.std.proofs.Common.{◌≡◌, ◌+◌, ℕ, take, drop}
use Rattle.std.specs.Prelude.{slice_get, Some}
use Rattle.slice_num.specs.Rational.{Rational}
use Rattle.slice_num.specs.Pieces.{piece_at}
use Rattle.slice_num.specs.declared.interval.Interval.{Interval}
use Rattle.slice_num.specs.declared.cut_answer.CutAnswer.{CutAnswer}
use Rattle.slice_core.specs.Run.{Board, cut_on, left_piece, right_piece}
use Rattle.slice_step.proofs.Answering.{with_part-at}
use Rattle.slice_run.specs.Walk.{cut_board}

pub cut_board-at : (a p : ℕ) (amount : Rational) (y : CutAnswer) (b : Board) (i : Interval) → slice_get (piece_at b.pieces p) y.part ≡ Some i
    → cut_board a p amount y b ≡ cut_on a p amount y (left_piece (take y.part (piece_at b.pieces p)) i y.point) (right_piece i y.point (drop (y.part + 1) (piece_at b.pieces p))) b
cut_board-at a p amount y b i h =
    with_part-at (piece_at b.pieces p) y.part i b (λ before j after. cut_on a p amount y (left_piece before j y.point) (right_piece j y.point after) b) h

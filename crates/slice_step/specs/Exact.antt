-- What the queries come to where their numbers fit: the values of the definitions.
use Rattle.std.specs.Prelude.{◌≡◌, ◌≢◌, ◌<◌, ◌⊎◌, pos, false, List, ◌∷◌, ◌++◌, length, slice_get, Some}
use Rattle.std.specs.List.{All}
use Rattle.slice_num.specs.Rational.{Rational, whole, IsBelow, IsAtMost}
use Rattle.slice_num.specs.Fitting.{Fitted}
use Rattle.slice_num.specs.Valuation.{Valuation, IsValuation, value, share_value}
use Rattle.slice_num.specs.ValueLaws.{stretch}
use Rattle.slice_num.specs.declared.interval.Interval.{Interval}
use Rattle.slice_core.specs.Run.{Piece, is_right, left_piece}
use Rattle.slice_num.specs.declared.cut_answer.CutAnswer.{CutAnswer}
use Rattle.slice_step.specs.Arithmetic.{value_in, share_in, least_point_in, least_answer_in}

-- the ends of a stretch stand in order, from 0 on
abbrev pub InOrder : Interval → Type 0
InOrder i = IsAtMost (whole (pos 0)) i.from × IsAtMost i.from i.to

-- where its numbers fit, the value of a stretch is the sum over all steps
abbrev pub ValueIsExact : Type 0
ValueIsExact =
    (v : Valuation) (i : Interval) (r : Rational) → IsValuation v → InOrder i → value_in v i ≡ Fitted r → r ≡ value v i

-- where its numbers fit, the share-value of a piece is its value's part of the whole
abbrev pub ShareIsExact : Type 0
ShareIsExact =
    (v : Valuation) (piece : List Interval) (r : Rational) →
    IsValuation v → All InOrder piece → share_in v piece ≡ Fitted r → r ≡ share_value v piece

-- y is the least point of [x, z] such that [x, y) has that value
pub record IsLeastPoint (v : Valuation) (x z amount y : Rational) : Type 0 where
  pub after : IsAtMost x y
  pub within : IsAtMost y z
  pub right : value v (stretch x y) ≡ amount
  pub least : (t : Rational) → IsAtMost x t → IsBelow t y → value v (stretch x t) ≢ amount

-- the amount can be cut off from the stretch [x, z)
pub record HasAmount (v : Valuation) (x z amount : Rational) : Type 0 where
  pub in_order : InOrder (stretch x z)
  pub low : IsAtMost (whole (pos 0)) amount
  pub high : IsAtMost amount (value v (stretch x z))

-- where its numbers fit, the point that cuts off an amount is the least one
abbrev pub LeastPointIsExact : Type 0
LeastPointIsExact =
    (v : Valuation) (x z amount y : Rational) →
    IsValuation v → HasAmount v x z amount → least_point_in v x amount ≡ Fitted y → IsLeastPoint v x z amount y

-- ---- answers to cuts
-- an answer in an earlier part, or in the same part at a smaller point
abbrev pub Precedes : CutAnswer → CutAnswer → Type 0
Precedes z y = (z.part < y.part) ⊎ ((z.part ≡ y.part) × IsBelow z.point y.point)

-- the answer's part is there, and its point lies in it or at one of its ends
pub record LiesIn (piece : Piece) (y : CutAnswer) : Type 0 where
  pub there : y.part < length piece
  pub within : (i : Interval) → slice_get piece y.part ≡ Some i → IsAtMost i.from y.point × IsAtMost y.point i.to

-- the piece has no part of that number, the point lies outside it, or what lies before isn't worth the amount
abbrev pub IsWrong : (Piece → Rational) → Piece → Rational → CutAnswer → Type 0
IsWrong w piece amount z =
    (before : Piece) (i : Interval) (after : Piece) → piece ≡ before ++ i ∷ after → z.part ≡ length before → is_right w before i z.point amount ≡ false

-- the answer lies in a part of the piece, what lies before it is worth the amount, and each that precedes it is wrong
pub record IsLeastAnswer (w : Piece → Rational) (piece : Piece) (amount : Rational) (y : CutAnswer) : Type 0 where
  pub before : Piece
  pub here : Interval
  pub after : Piece
  pub parts : piece ≡ before ++ here ∷ after
  pub number : y.part ≡ length before
  pub low : IsAtMost here.from y.point
  pub high : IsAtMost y.point here.to
  pub right : w (left_piece before here y.point) ≡ amount
  pub least : (z : CutAnswer) → Precedes z y → IsWrong w piece amount z

-- the share can be cut off from the piece
pub record CanCut (v : Valuation) (piece : Piece) (share : Rational) : Type 0 where
  pub low : IsAtMost (whole (pos 0)) share
  pub high : IsAtMost share (share_value v piece)

-- where its numbers fit, the answer that cuts off a share is the least right one
abbrev pub LeastAnswerIsExact : Type 0
LeastAnswerIsExact =
    (v : Valuation) (piece : Piece) (share : Rational) (y : CutAnswer) → IsValuation v → All InOrder piece → 0 < length piece → CanCut v piece share
    → least_answer_in v piece share ≡ Fitted y → IsLeastAnswer (share_value v) piece share y

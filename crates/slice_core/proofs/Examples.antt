-- Definitions computed on small cores: cut and choose, and a cut of a joined piece.
use Rattle.std.proofs.Common.{◌≡◌, ℕ, List, [], ◌∷◌, pos, false, refl}
use Rattle.std.specs.Prelude.{None}
use Rattle.slice_num.specs.Gcd.{gcd_of, gcd_steps}
use Rattle.slice_num.specs.Rational.{Rational, ratio, whole, plus, times}
use Rattle.slice_num.specs.Arithmetic.{inverse}
use Rattle.slice_num.specs.Valuation.{Valuation, value}
use Rattle.slice_num.specs.Pieces.{joined}
use Rattle.slice_num.specs.declared.interval.Interval.{Interval}
use Rattle.slice_num.specs.declared.choice.Side.{Side}
use Rattle.slice_num.specs.declared.choice.Choice.{Choice}
use Rattle.slice_num.specs.declared.choice.Choice.TheVariants as choice
use Rattle.slice_num.specs.declared.cut_answer.CutAnswer.{CutAnswer}
use Rattle.slice_core.specs.Tree.{Tree, Ask, Cut, Join, Test, Give, End}
use Rattle.slice_core.specs.Sizes.{nodes, depth, most_cuts}
use Rattle.slice_core.specs.Measures.{worth_of}
use Rattle.slice_core.specs.Run.{Piece, Ending, Done, Stuck, Few, Bad, Many, run, start}
use Rattle.slice_core.specs.declared.node.Lin.{Lin}
use Rattle.slice_core.specs.declared.node.Source.{Source}
use Rattle.slice_core.specs.declared.node.Source.TheVariants.{Const, Reg}

abbrev single : Source → Lin
single s = record { terms = record { minus = false; factor = None; source = s } ∷ [] }

half : Rational
half = ratio (pos 1) 2

-- agent 1 halves the cake, agent 2 takes the part that it likes better
cut_and_choose : Tree
cut_and_choose =
    Cut 1 0 (single (Const half)) 1 2 (Ask 2 1 0 (Ask 2 2 1 (Test (single (Reg 0)) (single (Reg 1)) false
    (Give 1 2 (Give 2 1 End)) (Give 2 2 (Give 1 1 End)))))

ten_nodes : nodes cut_and_choose ≡ 10
unfolding cut_and_choose
ten_nodes = refl

seven_deep : depth cut_and_choose ≡ 7
unfolding cut_and_choose
seven_deep = refl

one_cut : most_cuts cut_and_choose ≡ 1
unfolding cut_and_choose
one_cut = refl

-- the cake is halved, joined and halved again
joined_halves : Tree
joined_halves = Cut 1 0 (single (Const half)) 1 2 (Join 1 2 3 (Cut 1 3 (single (Const half)) 4 5 End))

four_nodes : nodes joined_halves ≡ 4
unfolding joined_halves
four_nodes = refl

four_deep : depth joined_halves ≡ 4
unfolding joined_halves
four_deep = refl

two_cuts : most_cuts joined_halves ≡ 2
unfolding joined_halves
two_cuts = refl

-- ---- its runs, for an agent that likes all of a cake of length 1 alike

uniform : List Valuation
uniform = record { ends = 1 ∷ []; heights = 1 ∷ [] } ∷ []

answer : ℕ → Rational → CutAnswer
answer part point = record { part = part; point = point }

-- how a run ended: what is left and the trace, the trace alone, or why it was refused
data Told : Type 0 where
  Left : (left : Piece) (trace : List Choice) → Told
  Halted : (at : Side) (trace : List Choice) → Told
  Refused : (kind query : ℕ) → Told

abbrev told : Ending → Told
told (Done s) = Left (joined s.board.pieces) s.trace
told (Stuck at s) = Halted at s.trace
told (Few query) = Refused 0 query
told (Bad query) = Refused 1 query
told Many = Refused 2 0

abbrev run_with : List CutAnswer → Told
run_with ys = told (run (worth_of uniform) joined_halves [] (start 1 1 ys))

abbrev from_to : Rational → Rational → Interval
from_to x y = record { from = x; to = y }

abbrev at : ℕ → Rational
at n = whole (pos n)

-- the second cut may be answered in the first part of the joined piece, at its end
first_part : run_with (answer 0 half ∷ answer 0 half ∷ []) ≡ Left (from_to (at 0) half ∷ from_to half half ∷ from_to half (at 1) ∷ []) (choice.Go ∷ choice.Go ∷ [])
unfolding joined_halves uniform answer half value plus times inverse ratio gcd_of gcd_steps
first_part = refl

-- and in its second part, at its beginning
second_part : run_with (answer 0 half ∷ answer 1 half ∷ []) ≡ Left (from_to (at 0) half ∷ from_to half half ∷ from_to half (at 1) ∷ []) (choice.Go ∷ choice.No ∷ choice.Go ∷ [])
unfolding joined_halves uniform answer half value plus times inverse ratio gcd_of gcd_steps
second_part = refl

-- it has no third part, and no other point is right
no_third_part : run_with (answer 0 half ∷ answer 2 half ∷ []) ≡ Refused 1 1
unfolding joined_halves uniform answer half value plus times inverse ratio gcd_of gcd_steps
no_third_part = refl

wrong_point : run_with (answer 0 half ∷ answer 1 (at 1) ∷ []) ≡ Refused 1 1
unfolding joined_halves uniform answer half value plus times inverse ratio gcd_of gcd_steps
wrong_point = refl

-- too few answers and too many
no_answer : run_with (answer 0 half ∷ []) ≡ Refused 0 1
unfolding joined_halves uniform answer half value plus times inverse ratio gcd_of gcd_steps
no_answer = refl

one_too_many : run_with (answer 0 half ∷ answer 0 half ∷ answer 0 half ∷ []) ≡ Refused 2 0
unfolding joined_halves uniform answer half value plus times inverse ratio gcd_of gcd_steps
one_too_many = refl

-- Runs of one cut, where it is stuck and where nothing or all is cut off; points where stretches meet; and envy.
use Rattle.std.proofs.Common.{◌≡◌, ◌+◌, ℕ, List, [], ◌∷◌, pos, negsuc, false, true, refl, arith}
use Rattle.std.proofs.lemmas.Int.{ints}
use Rattle.std.specs.Prelude.{Bool, None, if◌then◌else◌, ◌&&◌}
use Rattle.slice_num.specs.Gcd.{gcd_of, gcd_steps}
use Rattle.slice_num.specs.Rational.{Rational, ratio, whole, plus, times, same_parts}
use Rattle.slice_num.specs.Arithmetic.{inverse}
use Rattle.slice_num.specs.Fitting.{below}
use Rattle.slice_num.proofs.FieldLaws.{below-is, below-not}
use Rattle.slice_num.specs.Valuation.{Valuation, value}
use Rattle.slice_num.specs.Pieces.{joined, piece_at}
use Rattle.slice_num.specs.declared.interval.Interval.{Interval}
use Rattle.slice_num.specs.declared.choice.Side.{Side}
use Rattle.slice_num.specs.declared.choice.Side.TheVariants as side
use Rattle.slice_num.specs.declared.choice.Choice.{Choice}
use Rattle.slice_num.specs.declared.choice.Choice.TheVariants as choice
use Rattle.slice_num.specs.declared.cut_answer.CutAnswer.{CutAnswer}
use Rattle.slice_core.specs.Tree.{Tree, Cut, End}
use Rattle.slice_core.specs.Division.{times_in, MakeUpCake, IsEnvious}
use Rattle.slice_core.specs.Measures.{worth_of}
use Rattle.slice_core.specs.Run.{Piece, Ending, Done, Stuck, Few, Bad, Many, run, start}
use Rattle.slice_core.specs.declared.node.Lin.{Lin}
use Rattle.slice_core.specs.declared.node.Source.{Source}
use Rattle.slice_core.specs.declared.node.Source.TheVariants.{Const}

abbrev single : Source → Lin
single s = record { terms = record { minus = false; factor = None; source = s } ∷ [] }

half : Rational
half = ratio (pos 1) 2

-- ---- runs for an agent that likes all of a cake of length 1 alike

uniform : List Valuation
uniform = record { ends = 1 ∷ []; heights = 1 ∷ [] } ∷ []

answer : ℕ → Rational → CutAnswer
answer part point = record { part = part; point = point }

-- how a run ended: what is left and the trace, the trace alone, or why it was refused
data Told : Type 0 where
  Left : (left : Piece) (trace : List Choice) → Told
  Halted : (at : Side) (trace : List Choice) → Told
  Refused : (kind query : ℕ) → Told

abbrev told : Ending → Told
told (Done s) = Left (joined s.board.pieces) s.trace
told (Stuck at s) = Halted at s.trace
told (Few query) = Refused 0 query
told (Bad query) = Refused 1 query
told Many = Refused 2 0

abbrev from_to : Rational → Rational → Interval
from_to x y = record { from = x; to = y }

abbrev at : ℕ → Rational
at n = whole (pos n)

-- ---- cuts that have no right answer

one_cut_at : Rational → Tree
one_cut_at amount = Cut 1 0 (single (Const amount)) 1 2 End

abbrev cut_with : Rational → List CutAnswer → Told
cut_with amount ys = told (run (worth_of uniform) (one_cut_at amount) [] (start 1 1 ys))

-- less than nothing is asked for, or more than all there is
below_nothing : cut_with (whole (negsuc 0)) [] ≡ Halted side.Low (choice.Low ∷ [])
unfolding one_cut_at uniform value plus times inverse ratio gcd_of gcd_steps
below_nothing = refl

above_all : cut_with (whole (pos 2)) [] ≡ Halted side.High (choice.High ∷ [])
unfolding one_cut_at uniform value plus times inverse ratio gcd_of gcd_steps
above_all = refl

-- an answer to it is one too many
stuck_with_an_answer : cut_with (whole (pos 2)) (answer 0 half ∷ []) ≡ Refused 2 0
unfolding one_cut_at uniform answer half value plus times inverse ratio gcd_of gcd_steps
stuck_with_an_answer = refl

-- nothing and all can be cut off, and leave an empty stretch
nothing_is_cut : cut_with (at 0) (answer 0 (at 0) ∷ []) ≡ Left (from_to (at 0) (at 0) ∷ from_to (at 0) (at 1) ∷ []) (choice.Go ∷ [])
unfolding one_cut_at uniform answer value plus times inverse ratio gcd_of gcd_steps
nothing_is_cut = refl

all_is_cut : cut_with (at 1) (answer 0 (at 1) ∷ []) ≡ Left (from_to (at 0) (at 1) ∷ from_to (at 1) (at 1) ∷ []) (choice.Go ∷ [])
unfolding one_cut_at uniform answer value plus times inverse ratio gcd_of gcd_steps
all_is_cut = refl

-- ---- points in stretches

halves : List Interval
halves = from_to (at 0) half ∷ from_to half (at 1) ∷ []

-- where two stretches meet, the point lies in the second alone; the end of the last lies in none
where_they_meet : times_in half halves ≡ 1
unfolding halves half ratio gcd_of gcd_steps
where_they_meet = refl

at_the_beginning : times_in (at 0) halves ≡ 1
unfolding halves half ratio gcd_of gcd_steps
at_the_beginning = refl

at_the_end : times_in (at 1) halves ≡ 0
unfolding halves half ratio gcd_of gcd_steps
at_the_end = refl

-- stretches that overlap have a point in two, an empty one has none
in_both : times_in (ratio (pos 1) 4) (from_to (at 0) half ∷ from_to (at 0) (at 1) ∷ []) ≡ 2
unfolding half ratio gcd_of gcd_steps
in_both = refl

in_no_empty_one : times_in half (from_to half half ∷ []) ≡ 0
unfolding half ratio gcd_of gcd_steps
in_no_empty_one = refl

-- ---- envy: agent 1 likes the first of two units three times as much as the second, agent 2 likes both alike. The cake is
-- divided at 4/9

tastes : List Valuation
tastes = record { ends = 1 ∷ 2 ∷ []; heights = 3 ∷ 1 ∷ [] } ∷ record { ends = 2 ∷ []; heights = 1 ∷ [] } ∷ []

parted : List Piece
parted = (from_to (at 0) (ratio (pos 4) 9) ∷ []) ∷ (from_to (ratio (pos 4) 9) (at 2) ∷ []) ∷ []

-- agent 1 values its own share at 1/3 and the other's at 2/3; agent 2 at 7/9 and 2/9
its_own : worth_of tastes 1 (piece_at parted 0) ≡ ratio (pos 1) 3
unfolding tastes parted value plus times inverse ratio gcd_of gcd_steps
its_own = same_parts _ _ refl refl

the_others : worth_of tastes 1 (piece_at parted 1) ≡ ratio (pos 2) 3
unfolding tastes parted value plus times inverse ratio gcd_of gcd_steps
the_others = same_parts _ _ refl refl

the_second_agents : worth_of tastes 2 (piece_at parted 1) ≡ ratio (pos 7) 9
unfolding tastes parted value plus times inverse ratio gcd_of gcd_steps
the_second_agents = same_parts _ _ refl refl

first_envies_second : IsEnvious (worth_of tastes) parted 1 2
unfolding tastes parted value plus times inverse ratio gcd_of gcd_steps
first_envies_second = omega (arith, ints)

second_envies_none : IsEnvious (worth_of tastes) parted 2 1 → ⊥
unfolding tastes parted value plus times inverse ratio gcd_of gcd_steps
second_envies_none h = omega (arith, ints, h)

-- each point of the cake lies in one of the two shares: before 4/9 in the first, from there on in the second
the_shares_make_up_the_cake : MakeUpCake 2 parted []
unfolding parted
the_shares_make_up_the_cake t low high =
    once (below t (at 0)) (below t (ratio (pos 4) 9)) (below t (at 2)) (below-not t (at 0) low) (below-is t (at 2) high)
  where
    once : (a b c : Bool) → a ≡ false → c ≡ true → (if (if a then false else true) && b then 1 else 0) + ((if (if b then false else true) && c then 1 else 0) + 0) ≡ 1
    once true b c e f = absurd cc
    once false b false e f = absurd cc
    once false true true e f = refl
    once false false true e f = refl

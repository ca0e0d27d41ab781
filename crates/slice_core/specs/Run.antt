-- The run of a core with a list of answers: what the queries of Robertson and Webb come to, whoever answers the cuts.
use Rattle.std.specs.Prelude.{ℕ, ◌-◌, ◌&&◌, pos, Bool, true, false, if◌then◌else◌, List, [], ◌∷◌, ◌++◌, length, replicate, slice_index_or, Option, Some, None}
use Rattle.slice_num.specs.Rational.{Rational, whole, plus, times, minus}
use Rattle.slice_num.specs.Fitting.{below, at_most, same_as}
use Rattle.slice_num.specs.Valuation.{cake}
use Rattle.slice_num.specs.declared.interval.Interval.{Interval}
use Rattle.slice_num.specs.declared.choice.Side.{Side}
use Rattle.slice_num.specs.declared.choice.Side.TheVariants as side
use Rattle.slice_num.specs.declared.choice.Choice.{Choice}
use Rattle.slice_num.specs.declared.choice.Choice.TheVariants as choice
use Rattle.slice_core.specs.Tree.{Tree, Core, Ask, Set, Cut, Join, Test, Give, End}
use Rattle.slice_num.specs.Pieces.{piece_at, emptied, given, cut_pieces, join_pieces, with_part, passed}
use Rattle.slice_core.specs.declared.node.LinTerm.{LinTerm}
use Rattle.slice_core.specs.declared.node.Source.{Source}
use Rattle.slice_core.specs.declared.node.Source.TheVariants.{Const, Reg}
use Rattle.slice_core.specs.declared.query.Query.{Query}
use Rattle.slice_num.specs.declared.cut_answer.CutAnswer.{CutAnswer}
use Rattle.slice_core.specs.declared.query.QueryKind.TheVariants as kind

-- a piece is a list of stretches
abbrev pub Piece : Type 0
Piece = List Interval

-- what each agent holds a piece to be worth, as a part of the whole
abbrev pub Worth : Type 0
Worth = ℕ → Piece → Rational

-- ---- cuts

-- the stretch before the point, and from the point on
abbrev pub before_point : Interval → Rational → Interval
before_point i y = record { from = i.from; to = y }

abbrev pub after_point : Interval → Rational → Interval
after_point i y = record { from = y; to = i.to }

-- the parts before, and this one up to the point; this one from the point on, and the parts after
abbrev pub left_piece : Piece → Interval → Rational → Piece
left_piece before i y = before ++ before_point i y ∷ []

abbrev pub right_piece : Interval → Rational → Piece → Piece
right_piece i y after = after_point i y ∷ after

-- the point lies in the part, and what lies before it in the piece is worth the amount
abbrev pub is_right : (Piece → Rational) → Piece → Interval → Rational → Rational → Bool
is_right w before i y amount = at_most i.from y && (at_most y i.to && same_as (w (left_piece before i y)) amount)

-- what a cut comes to: no point can be right, since the amount is below 0 or above what the piece is worth; there is no
-- answer; the answer is wrong; or a left and a right piece, by the answer y in the part after `before`, and the answers
-- that are left
pub data Cutting : Type 0 where
  Halts : (at : Side) → Cutting
  Short : Cutting
  Wrong : Cutting
  Halves : (before left right : Piece) (y : CutAnswer) (ys : List CutAnswer) → Cutting

-- a cut that is answered in that part of the piece
abbrev pub cutting_part : (Piece → Rational) → Rational → CutAnswer → List CutAnswer → Piece → Interval → Piece → Cutting
cutting_part w amount y ys before i after =
    if is_right w before i y.point amount
    then Halves before (left_piece before i y.point) (right_piece i y.point after) y ys
    else Wrong

-- a cut takes the next answer
abbrev pub cutting_answered : (Piece → Rational) → Piece → Rational → List CutAnswer → Cutting
cutting_answered w piece amount [] = Short
cutting_answered w piece amount (y ∷ ys) = with_part [] piece y.part Wrong (cutting_part w amount y ys)

-- a cut of a piece, where pieces are worth w to who cuts, at an amount, with the answers that are left
abbrev pub cutting : (Piece → Rational) → Piece → Rational → List CutAnswer → Cutting
cutting w piece amount ys =
    if below amount (whole (pos 0)) then Halts side.Low
    else (if below (w piece) amount then Halts side.High
    else cutting_answered w piece amount ys)

-- ---- the table

-- what lies on the table: the pieces by number (one that was used has no stretch), the shares by agent, and the
-- queries that were answered
pub record Board : Type 0 where
  pub pieces : List Piece
  pub shares : List Piece
  pub queries : List Query

-- the whole cake as piece 0, no shares and no queries yet
abbrev pub first_board : ℕ → ℕ → Board
first_board agents length = record { pieces = (cake length ∷ []) ∷ []; shares = replicate agents []; queries = [] }

-- the agent was asked for a piece's share-value
abbrev pub ask_on : ℕ → Rational → Board → Board
ask_on a v b = record { pieces = b.pieces; shares = b.shares; queries = b.queries ++ record { agent = a; kind = kind.Eval; answer = v } ∷ [] }

-- the piece of number p was cut into these two, at that answer to the agent's query
abbrev pub cut_on : ℕ → ℕ → Rational → CutAnswer → Piece → Piece → Board → Board
cut_on a p amount y left right b = record {
  pieces = cut_pieces b.pieces p left right;
  shares = b.shares;
  queries = b.queries ++ record { agent = a; kind = kind.Cut amount y.part; answer = y.point } ∷ [];
}

-- the two pieces became one
abbrev pub join_on : ℕ → ℕ → Board → Board
join_on p q b = record { pieces = join_pieces b.pieces p q; shares = b.shares; queries = b.queries }

-- the piece of number p went to the agent
abbrev pub give_on : ℕ → ℕ → Board → Board
give_on p a b = record { pieces = emptied b.pieces p; shares = given b.shares (a - 1) (piece_at b.pieces p); queries = b.queries }

-- ---- sums over registers, which hold these numbers

abbrev pub source_value : List Rational → Source → Rational
source_value regs (Const v) = v
source_value regs (Reg n) = slice_index_or regs n (whole (pos 0))

-- a value, maybe times a factor
abbrev pub scaled : Option Rational → Rational → Rational
scaled None v = v
scaled (Some c) v = times c v

-- a term is added to a sum, or subtracted
abbrev pub added : Bool → Rational → Rational → Rational
added true sum v = minus sum v
added false sum v = plus sum v

abbrev pub term_value : List Rational → LinTerm → Rational
term_value regs t = scaled t.factor (source_value regs t.source)

-- the terms are added to a sum, one after another
abbrev pub terms_value : List Rational → Rational → List LinTerm → Rational
terms_value regs sum [] = sum
terms_value regs sum (t ∷ ts) = terms_value regs (added t.minus sum (term_value regs t)) ts

-- a sum; its first term has no sign
abbrev pub sum_value : List Rational → List LinTerm → Rational
sum_value regs [] = whole (pos 0)
sum_value regs (t ∷ ts) = terms_value regs (term_value regs t) ts

-- ---- runs

-- the answers that are left, and the choices so far
pub record State : Type 0 where
  pub board : Board
  pub answers : List CutAnswer
  pub trace : List Choice

-- how a run ends: at its end; at a cut that has no right answer; or refused, at the query of that number for want of an
-- answer or for a wrong one, or since answers remain
pub data Ending : Type 0 where
  Done : (state : State) → Ending
  Stuck : (at : Side) (state : State) → Ending
  Few : (query : ℕ) → Ending
  Bad : (query : ℕ) → Ending
  Many : Ending

-- a board after one more step
abbrev pub with_board : Board → State → State
with_board b s = record { board = b; answers = s.answers; trace = s.trace }

-- these choices were made
abbrev pub chosen : List Choice → State → State
chosen cs s = record { board = s.board; answers = s.answers; trace = s.trace ++ cs }

-- answers that remain refuse a run
abbrev pub ended : Ending → List CutAnswer → Ending
ended e [] = e
ended e (y ∷ ys) = Many

-- the last choice of a run that is stuck at that side
abbrev pub stuck_choice : Side → Choice
stuck_choice side.Low = choice.Low
stuck_choice side.High = choice.High

-- a run that is stuck at that side
abbrev pub halted : Side → State → Ending
halted at s = ended (Stuck at (chosen (stuck_choice at ∷ []) s)) s.answers

-- a run goes on after a cut: it is stuck at a side, refused, or takes the two pieces; it passes a part for each one before that
-- of the answer
abbrev pub past_cut : ℕ → ℕ → Rational → (State → Ending) → State → Cutting → Ending
past_cut a p amount go s (Halts at) = halted at s
past_cut a p amount go s Short = Few (length s.board.queries)
past_cut a p amount go s Wrong = Bad (length s.board.queries)
past_cut a p amount go s (Halves before left right y ys) =
    go (record { board = cut_on a p amount y left right s.board; answers = ys; trace = s.trace ++ passed before })

-- a cut of the piece of number p, whose parts are worth w to the agent
abbrev pub cut_at : (Piece → Rational) → ℕ → ℕ → Rational → (State → Ending) → State → Ending
cut_at w a p amount go s = past_cut a p amount go s (cutting w (piece_at s.board.pieces p) amount s.answers)

-- left is at least right, or above it
abbrev pub goes_yes : Bool → Rational → Rational → Bool
goes_yes true left right = below right left
goes_yes false left right = at_most right left

-- a run from a state on, where the registers hold these numbers and pieces are worth w to the agents
abbrev pub run : Worth → Tree → List Rational → State → Ending
run w (Ask a p r next) regs s =
    run w next (regs ++ w a (piece_at s.board.pieces p) ∷ []) (with_board (ask_on a (w a (piece_at s.board.pieces p)) s.board) s)
run w (Set r sum next) regs s = run w next (regs ++ sum_value regs sum.terms ∷ []) s
run w (Cut a p amount l r next) regs s = cut_at (w a) a p (sum_value regs amount.terms) (run w next regs) s
run w (Join p q r next) regs s = run w next regs (with_board (join_on p q s.board) s)
run w (Test left right strict at_yes at_no) regs s =
    if goes_yes strict (sum_value regs left.terms) (sum_value regs right.terms)
    then run w at_yes regs (chosen (choice.Yes ∷ []) s)
    else run w at_no regs (chosen (choice.No ∷ []) s)
run w (Give p a next) regs s = run w next regs (with_board (give_on p a s.board) s)
run w End regs s = ended (Done s) s.answers

-- a run from the uncut cake
abbrev pub start : ℕ → ℕ → List CutAnswer → State
start agents length ys = record { board = first_board agents length; answers = ys; trace = [] }

-- the run of a core with these answers, on a cake of that length
abbrev pub run_core : Worth → Core → ℕ → List CutAnswer → Ending
run_core w core length ys = run w core.tree [] (start core.agents length ys)

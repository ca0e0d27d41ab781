-- The interpreter's table beside the board of a walk.
use Rattle.std.specs.Prelude.{◌≡◌, ℕ, ◌+◌, ◌≤◌, List, length, map, slice_get, Option, Some, None}
use Rattle.std.specs.List.{All}
use Rattle.slice_num.specs.Valuation.{Valuation}
use Rattle.slice_num.specs.Rational.{Rational}
use Rattle.slice_num.specs.declared.choice.Side.{Side}
use Rattle.slice_num.specs.declared.interval.Interval.{Interval}
use Rattle.slice_core.specs.Sizes.{most_cuts, depth}
use Rattle.slice_core.specs.WellFormed.{IsFormed}
use Rattle.slice_num.specs.Pieces.{piece_at, is_held, joined}
use Rattle.slice_core.specs.Tree.{Tree}
use Rattle.slice_core.specs.Run.{Piece, Board}
use Rattle.slice_core.specs.declared.query.Query.{Query}
use Rattle.slice_num.specs.declared.cut_answer.CutAnswer.{CutAnswer}
use Rattle.slice_step.specs.Exact.{InOrder}
use Rattle.slice_step.specs.Exact.{LiesIn}
use Rattle.slice_run.specs.Pieces.{cut_part}
use Rattle.slice_run.specs.Walk.{Walked, Good, walk_on, Answers, Onward, Halt, AtEnd, AtCut, halt, cut_answered, Told, Divided, Halted, values_in}
use Rattle.slice_run.specs.declared.table.Table.{Table}
use Rattle.slice_run.specs.declared.table.Stop.{Stop}
use Rattle.slice_run.specs.declared.table.Stop.TheVariants.{End, Stuck}

-- what lies on a table
abbrev pub board_of : Table → Board
board_of t = record { pieces = t.pieces; shares = t.book.shares; queries = t.queries.items }

-- a cut is stuck at that side, or is answered
abbrev pub at_side : Option Side → Valuation → ℕ → ℕ → Rational → Onward → Answers → Board → Walked Halt
at_side None v a p amount go answers b = cut_answered v a p amount go answers b
at_side (Some at) v a p amount go answers b = halt answers (AtCut at b)

-- a cut is stuck at that side, or the walk goes on
abbrev pub after : Option Side → Onward → Answers → Board → Walked Halt
after None go answers b = go answers b
after (Some at) go answers b = Good (AtCut at b)

-- the ends of all stretches stand in order, from 0 on
abbrev pub AllInOrder : List Piece → Type 0
AllInOrder pieces = All (λ (p : Piece). All InOrder p) pieces

-- the piece of that number was cut at some point of one of its parts
pub record IsCut (old : List Piece) (p : ℕ) (new : List Piece) : Type 0 where
  pub answer : CutAnswer
  pub lies : LiesIn (piece_at old p) answer
  pub is : (i : Interval) → slice_get (piece_at old p) answer.part ≡ Some i → new ≡ cut_part old p answer.part i answer.point

-- a board from which so many agents can go on with this tree, where so many registers are set: its pieces can be used as the tree says, their stretches stand in order, and the limits of a core keep the stretches and the queries few
pub record Ready (agents registers : ℕ) (tree : Tree) (b : Board) : Type 0 where
  pub formed : IsFormed agents (map is_held b.pieces) registers tree
  pub ordered : AllInOrder b.pieces
  pub room : length (joined b.pieces) + most_cuts tree ≤ 65
  pub shares : length b.shares ≡ agents
  pub few : length b.queries + depth tree ≤ 512

-- where the walk halts, with the board there
abbrev pub halt_of : Stop → Board → Halt
halt_of End b = AtEnd b
halt_of (Stuck at) b = AtCut at b

-- what is told of a walk that halted, with what is left
abbrev pub tell_left : List Valuation → Stop → List Query → List Piece → Piece → Walked Told
tell_left vs End queries shares left =
    walk_on (length queries) (values_in vs shares) (λ values. Good (Divided queries shares left values))
tell_left vs (Stuck at) queries shares left = Good (Halted queries (length queries) at)

-- What an allocation is: disjoint shares that make up the cake with what is left, and envy.
use Rattle.std.specs.Prelude.{◌≡◌, ℕ, ◌+◌, ◌-◌, ◌≤◌, ◌&&◌, pos, Bool, if◌then◌else◌, List, [], ◌∷◌, ◌++◌, ⊤}
use Rattle.slice_num.specs.Rational.{Rational, whole, IsBelow, IsAtMost}
use Rattle.slice_num.specs.Fitting.{below, at_most}
use Rattle.slice_num.specs.declared.interval.Interval.{Interval}
use Rattle.slice_core.specs.Tree.{Core}
use Rattle.slice_core.specs.Agents.{IsAgent, HasAgents}
use Rattle.slice_num.specs.Pieces.{joined, piece_at}
use Rattle.slice_core.specs.Run.{Piece, Worth, Ending, Done, Stuck, Few, Bad, Many, run_core}
use Rattle.slice_num.specs.declared.cut_answer.CutAnswer.{CutAnswer}

-- the point lies in the stretch, which has its beginning and not its end
abbrev pub lies_in : Rational → Interval → Bool
lies_in t i = at_most i.from t && below t i.to

-- in how many of the stretches the point lies
abbrev pub times_in : Rational → List Interval → ℕ
times_in t [] = 0
times_in t (i ∷ is) = (if lies_in t i then 1 else 0) + times_in t is

-- no point lies in two stretches of shares and left
abbrev pub AreDisjoint : List Piece → Piece → Type 0
AreDisjoint shares left = (t : Rational) → times_in t (joined shares ++ left) ≤ 1

-- each point of the cake lies in exactly one stretch of shares and left
abbrev pub MakeUpCake : ℕ → List Piece → Piece → Type 0
MakeUpCake length shares left = (t : Rational) → IsAtMost (whole (pos 0)) t → IsBelow t (whole (pos length)) → times_in t (joined shares ++ left) ≡ 1

-- where a run is done, its shares and what is left are disjoint and make up the cake
abbrev pub IsDivision : ℕ → Ending → Type 0
IsDivision length (Done s) =
    AreDisjoint s.board.shares (joined s.board.pieces) × MakeUpCake length s.board.shares (joined s.board.pieces)
IsDivision length (Stuck at s) = ⊤
IsDivision length (Few query) = ⊤
IsDivision length (Bad query) = ⊤
IsDivision length Many = ⊤

-- agent a values b's share above its own
abbrev pub IsEnvious : Worth → List Piece → ℕ → ℕ → Type 0
IsEnvious w shares a b = IsBelow (w a (piece_at shares (a - 1))) (w a (piece_at shares (b - 1)))

-- the run isn't stuck; where it is done, no agent values another's share above its own
abbrev pub IsFair : ℕ → Worth → Ending → Type 0
IsFair agents w (Done s) = (a b : ℕ) → IsAgent agents a → IsAgent agents b → IsEnvious w s.board.shares a b → ⊥
IsFair agents w (Stuck at s) = ⊥
IsFair agents w (Few query) = ⊤
IsFair agents w (Bad query) = ⊤
IsFair agents w Many = ⊤

-- every run that is done divides the cake, whatever pieces are worth and whoever answers
abbrev pub RunsDivide : Type 0
RunsDivide = (w : Worth) (core : Core) (length_ : ℕ) (ys : List CutAnswer) → HasAgents core.agents core.tree → IsDivision length_ (run_core w core length_ ys)

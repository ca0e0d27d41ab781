-- What the run is that is told, and what is true of every run.
use Rattle.std.specs.Prelude.{◌≡◌, ℕ, ⊤, List, [], ◌∷◌, ◌++◌, length, map, slice_get, take, Some}
use Rattle.slice_num.specs.Valuation.{Valuation, IsValuationList, share_value}
use Rattle.slice_core.specs.Tree.{Core}
use Rattle.slice_core.specs.WellFormed.{IsWellFormed}
use Rattle.slice_core.specs.Measures.{worth_of, length_of}
use Rattle.slice_num.specs.Pieces.{joined}
use Rattle.slice_core.specs.Run.{Worth, Ending, Done, Stuck, Few, Bad, Many, run_core}
use Rattle.slice_num.specs.declared.cut_answer.CutAnswer.{CutAnswer}
use Rattle.slice_step.specs.Exact.{Precedes}
use Rattle.slice_run.specs.Walk.{Walked, Good, Refused, Told, Divided, Halted, outcome, Least, Given}
use Rattle.slice_run.specs.declared.outcome.RunFault.TheVariants.{Overflow, BadAnswer, TooFewAnswers, TooManyAnswers, Memory}

-- the run of a core on these valuations with a list of answers
abbrev pub run_on : List Valuation → Core → List CutAnswer → Ending
run_on vs core ys = run_core (worth_of vs) core (length_of vs) ys

-- a run that ends so is told so
abbrev pub Tells : Ending → Told → Type 0
Tells (Done s) (Divided queries shares left values) = (s.board.queries ≡ queries) × (s.board.shares ≡ shares) × (joined s.board.pieces ≡ left)
Tells (Done s) (Halted queries query at) = ⊥
Tells (Stuck side s) (Divided queries shares left values) = ⊥
Tells (Stuck side s) (Halted queries query at) = (s.board.queries ≡ queries) × (length s.board.queries ≡ query) × (side ≡ at)
Tells (Few query) t = ⊥
Tells (Bad query) t = ⊥
Tells Many t = ⊥

-- the values that are told are the share-values
abbrev pub TellsValues : List Valuation → Told → Type 0
TellsValues vs (Divided queries shares left values) = values ≡ map (λ v. map (share_value v) shares) vs
TellsValues vs (Halted queries query at) = ⊤

-- what is told, or refused, of a run that ends so. Where a number doesn't fit nothing is said of it
abbrev pub IsTold : List Valuation → Ending → Walked Told → Type 0
IsTold vs e (Good t) = Tells e t × TellsValues vs t
IsTold vs e (Refused (Overflow query)) = ⊤
IsTold vs e (Refused (BadAnswer query)) = e ≡ Bad query
IsTold vs e (Refused (TooFewAnswers query)) = e ≡ Few query
IsTold vs e (Refused TooManyAnswers) = e ≡ Many
IsTold vs e (Refused Memory) = ⊥

-- ---- the least run
-- a run that was refused for a wrong answer
abbrev pub IsBad : Ending → Type 0
IsBad (Done s) = ⊥
IsBad (Stuck side s) = ⊥
IsBad (Few query) = ⊥
IsBad (Bad query) = ⊤
IsBad Many = ⊥

-- `ending` tells how the run with a list of answers ends. An answer that precedes one of these is refused in its place:
-- each is the least right one
abbrev pub AreLeast : (List CutAnswer → Ending) → List CutAnswer → Type 0
AreLeast ending ys = (k : ℕ) (y z : CutAnswer) → slice_get ys k ≡ Some y → Precedes z y → IsBad (ending (take k ys ++ z ∷ []))

-- with answers that are each the least right one the run is told so
pub record IsLeastRun (ending : List CutAnswer → Ending) (t : Told) : Type 0 where
  pub answers : List CutAnswer
  pub told : Tells (ending answers) t
  pub least : AreLeast ending answers

-- what is told of the least run, if no number stops its walk
abbrev pub IsLeastTold : List Valuation → (List CutAnswer → Ending) → Walked Told → Type 0
IsLeastTold vs ending (Good t) = IsLeastRun ending t × TellsValues vs t
IsLeastTold vs ending (Refused (Overflow query)) = ⊤
IsLeastTold vs ending (Refused (BadAnswer query)) = ⊥
IsLeastTold vs ending (Refused (TooFewAnswers query)) = ⊥
IsLeastTold vs ending (Refused TooManyAnswers) = ⊥
IsLeastTold vs ending (Refused Memory) = ⊥

-- the walk with given answers tells the run with these answers, unless a number stops it
abbrev pub GivenWalksAreRuns : Type 0
GivenWalksAreRuns =
    (vs : List Valuation) (core : Core) (ys : List CutAnswer) → IsWellFormed core → IsValuationList core.agents vs
    → IsTold vs (run_on vs core ys) (outcome vs core (Given ys))

-- the walk that takes the least answers tells the least run, unless a number stops it
abbrev pub LeastWalksAreLeastRuns : Type 0
LeastWalksAreLeastRuns =
    (vs : List Valuation) (core : Core) → IsWellFormed core → IsValuationList core.agents vs
    → IsLeastTold vs (run_on vs core) (outcome vs core Least)

-- this is told of the least run of a core on these valuations
pub record HasLeastRun (vs : List Valuation) (core : Core) : Type 0 where
  pub told : Told
  pub least : IsLeastRun (run_on vs core) told
  pub values : TellsValues vs told

-- a core has a least run on every list of valuations, of any size
abbrev pub LeastRunsExist : Type 0
LeastRunsExist = (vs : List Valuation) (core : Core) → IsWellFormed core → IsValuationList core.agents vs → HasLeastRun vs core

-- the same is told of a run: all but the values, which the run itself doesn't make
abbrev pub AreAlike : Told → Told → Type 0
AreAlike (Divided qs shares left values) (Divided qs2 shares2 left2 values2) = (qs ≡ qs2) × (shares ≡ shares2) × (left ≡ left2)
AreAlike (Divided qs shares left values) (Halted qs2 query2 at2) = ⊥
AreAlike (Halted qs query at) (Divided qs2 shares2 left2 values2) = ⊥
AreAlike (Halted qs query at) (Halted qs2 query2 at2) = (qs ≡ qs2) × (query ≡ query2) × (at ≡ at2)

-- a core has at most one least run, whatever pieces are worth
abbrev pub LeastRunsAreUnique : Type 0
LeastRunsAreUnique =
    (w : Worth) (core : Core) (length : ℕ) (s t : Told) →
    IsLeastRun (run_core w core length) s → IsLeastRun (run_core w core length) t → AreAlike s t

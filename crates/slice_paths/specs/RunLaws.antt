-- What the goals say of runs.
use Rattle.std.specs.Prelude.{◌≡◌, ℕ, ◌+◌, ◌*◌, ◌<◌, ◌≤ℤ◌, pos, List, [], ◌++◌, ◌⊎◌, length, ℤ, ⊤}
use Rattle.std.specs.List.{All, Contains}
use Rattle.slice_num.specs.Rational.{whole}
use Rattle.slice_num.specs.Valuation.{cake, Valuation, IsValuationList}
use Rattle.slice_num.specs.declared.choice.Choice.{Choice}
use Rattle.slice_core.specs.Tree.{Core}
use Rattle.slice_core.specs.Run.{Worth, State, Ending, Done, Stuck, Few, Bad, Many, run_core}
use Rattle.slice_core.specs.Agents.{HasAgents}
use Rattle.slice_core.specs.Division.{IsEnvious, IsFair}
use Rattle.slice_core.specs.Measures.{AreMeasures, worth_of, length_of}
use Rattle.slice_num.specs.declared.cut_answer.CutAnswer.{CutAnswer}
use Rattle.slice_linear.specs.Rows.{LinearRow, Holds, IsSolution, HaveNoSolution, Refutes}
use Rattle.slice_linear.specs.Proportion.{AllTimes}
use Rattle.slice_paths.specs.Places.{Stop, AtEnd, AtCut, Place, places, first_way}
use Rattle.slice_paths.specs.Goals.{row_of, rows_of, stuck_kind, Aim, aims_at, Goal, goals}
use Rattle.slice_atoms.specs.Addresses.{atom_count}
use Rattle.slice_paths.specs.Ways.{way_of, rows_after}
use Rattle.slice_paths.specs.Points.{Points, cake_of, IsInside, stretches_of, unknown_values}
use Rattle.slice_paths.specs.declared.goal.GoalKind.{GoalKind}
use Rattle.slice_paths.specs.declared.goal.GoalKind.TheVariants.{Low, High, Envy}

-- the run ends at such a place
abbrev pub EndsAt : Stop → Ending → Type 0
EndsAt AtEnd (Done s) = ⊤
EndsAt (AtCut at own) (Stuck side s) = at ≡ side
EndsAt AtEnd (Stuck side s) = ⊥
EndsAt (AtCut at own) (Done s) = ⊥
EndsAt stop (Few query) = ⊥
EndsAt stop (Bad query) = ⊥
EndsAt stop Many = ⊥

-- the run ends as a goal of that kind says
abbrev pub EndsAs : Worth → GoalKind → Ending → Type 0
EndsAs w Low (Done s) = ⊥
EndsAs w High (Done s) = ⊥
EndsAs w (Envy a b) (Done s) = IsEnvious w s.board.shares a b
EndsAs w kind (Stuck at s) = kind ≡ stuck_kind at
EndsAs w kind (Few query) = ⊥
EndsAs w kind (Bad query) = ⊥
EndsAs w kind Many = ⊥

-- a run with this end comes to one of these places, with the same choices, queries, pieces and shares. In proportion to
-- what the atoms are worth there are whole numbers that solve the rows of each goal of the place as which the run ends
pub record ComesTo (agents length_ : ℕ) (w : Worth) (ps : List Place) (e : Ending) (s : State) : Type 0 where
  pub place : Place
  pub is_one : Contains ps place
  pub ends : EndsAt place.stop e
  pub trace : s.trace ≡ place.way.trace
  pub queries : length s.board.queries ≡ place.way.queries
  pub points : Points
  pub same_cake : cake_of points ≡ place.way.cake
  pub inside : IsInside points (cake length_)
  pub pieces : s.board.pieces ≡ stretches_of points (cake length_) place.way.pieces
  pub shares : s.board.shares ≡ stretches_of points (cake length_) place.way.shares
  pub total : ℕ
  pub above : 0 < total
  pub numbers : List ℤ
  pub in_proportion : AllTimes (whole (pos total)) numbers (unknown_values w agents points (cake length_))
  pub not_below : All (λ x. pos 0 ≤ℤ x) numbers
  pub rows : All (λ d. Holds numbers (row_of agents place.way.cake d)) place.way.conditions
  pub own_row : (aim : Aim) → Contains (aims_at agents place.stop place.way) aim → EndsAs w aim.kind e → IsSolution (rows_of agents aim.way aim.own) numbers

abbrev pub Obeys : ℕ → ℕ → Worth → List Place → Ending → Type 0
Obeys agents length_ w ps (Done s) = ComesTo agents length_ w ps (Done s) s
Obeys agents length_ w ps (Stuck at s) = ComesTo agents length_ w ps (Stuck at s) s
Obeys agents length_ w ps (Few query) = ⊤
Obeys agents length_ w ps (Bad query) = ⊤
Obeys agents length_ w ps Many = ⊤

-- runs obey their rows, whatever pieces are worth and whoever answers
abbrev pub RunsObeyRows : Type 0
RunsObeyRows =
    (core : Core) (w : Worth) (length_ : ℕ) (ys : List CutAnswer) → HasAgents core.agents core.tree → AreMeasures core.agents length_ w
    → Obeys core.agents length_ w (places core.tree [] (first_way core.agents)) (run_core w core length_ ys)

-- where no goal's rows have a solution, every run is fair
abbrev pub RefutedMeansFair : Type 0
RefutedMeansFair =
    (core : Core) → HasAgents core.agents core.tree → All (λ (g : Goal). HaveNoSolution g.rows) (goals core)
    → (w : Worth) (length_ : ℕ) (ys : List CutAnswer) → AreMeasures core.agents length_ w → IsFair core.agents w (run_core w core length_ ys)

-- where each goal's rows are refuted, every run on every list of valuations is fair
abbrev pub RefutedCoresAreFair : Type 0
RefutedCoresAreFair =
    (core : Core) → HasAgents core.agents core.tree → All (λ (g : Goal). (m : List ℤ) × Refutes g.rows m) (goals core)
    → (vs : List Valuation) → IsValuationList core.agents vs → (ys : List CutAnswer) → IsFair core.agents (worth_of vs) (run_core (worth_of vs) core (length_of vs) ys)

-- each row of a goal has as many coefficients as there are unknowns: the whole, and each agent's atoms on the goal's way
abbrev pub RowsAreOverUnknowns : Type 0
RowsAreOverUnknowns = (core : Core) (g : Goal) → Contains (goals core) g → All (λ (r : LinearRow). length r.coefs ≡ 1 + core.agents * atom_count (way_of core g.trace).cake) g.rows

-- on a run with this end, the rows after each front of its choices have a solution
abbrev pub PassesRows : Core → Ending → Type 0
PassesRows core (Done s) = (front rest : List Choice) → front ++ rest ≡ s.trace → (xs : List ℤ) × IsSolution (rows_after core front) xs
PassesRows core (Stuck at s) = (front rest : List Choice) → front ++ rest ≡ s.trace → (xs : List ℤ) × IsSolution (rows_after core front) xs
PassesRows core (Few query) = ⊤
PassesRows core (Bad query) = ⊤
PassesRows core Many = ⊤

abbrev pub RunsObeyRowsOnTheWay : Type 0
RunsObeyRowsOnTheWay =
    (core : Core) (w : Worth) (length_ : ℕ) (ys : List CutAnswer) → HasAgents core.agents core.tree → AreMeasures core.agents length_ w → PassesRows core (run_core w core length_ ys)

-- the goal's rows have no solution, or those after a front of its choices have none
abbrev pub IsRefuted : Core → Goal → Type 0
IsRefuted core g = HaveNoSolution g.rows ⊎ ((front : List Choice) × (rest : List Choice) × (front ++ rest ≡ g.trace) × HaveNoSolution (rows_after core front))

-- where each goal is refuted so, every run is fair
abbrev pub RefutedOnTheWayMeansFair : Type 0
RefutedOnTheWayMeansFair =
    (core : Core) → HasAgents core.agents core.tree → All (IsRefuted core) (goals core)
    → (w : Worth) (length_ : ℕ) (ys : List CutAnswer) → AreMeasures core.agents length_ w → IsFair core.agents w (run_core w core length_ ys)

-- What a counterexample to a goal is, and the one that a solution of its rows gives.
use Rattle.std.specs.Prelude.{◌≡◌, ℕ, zero, suc, ◌+◌, ◌*◌, ◌<◌, ◌≤◌, ◌≤ℤ◌, ◌^◌, pos, List, [], ◌∷◌, ◌++◌, map, length, take, drop, ℤ, unsigned_abs}
use Rattle.std.specs.List.{All, Contains}
use Rattle.slice_num.specs.Rational.{whole}
use Rattle.slice_num.specs.Valuation.{Valuation, IsSmall, IsValuationList}
use Rattle.slice_num.specs.declared.choice.Choice.{Choice}
use Rattle.slice_num.specs.declared.cut_answer.CutAnswer.{CutAnswer}
pub use Rattle.slice_step.specs.UnitSteps.{unit_ends, unit_steps}
use Rattle.slice_core.specs.Tree.{Core}
use Rattle.slice_core.specs.Agents.{HasAgents}
use Rattle.slice_core.specs.Division.{IsFair}
use Rattle.slice_core.specs.Measures.{worth_of, length_of}
use Rattle.slice_core.specs.Run.{State, Ending, Done, Stuck, Few, Bad, Many, run_core}
use Rattle.slice_core.specs.Sizes.{most_cuts}
use Rattle.slice_linear.specs.Rows.{IsSolution}
use Rattle.slice_atoms.specs.Addresses.{atom_count, L, R, Address, Cake, Atom, Halves}
use Rattle.slice_paths.specs.Places.{PassedCut, Way}
use Rattle.slice_paths.specs.Goals.{Goal, goals}
use Rattle.slice_paths.specs.Ways.{way_of, rows_after}
use Rattle.slice_paths.specs.RunLaws.{EndsAs}

-- ---- what it is

-- a run that ends so made the choices to the goal, and as many queries
abbrev pub GoesTo : Goal → State → Type 0
GoesTo g s = (s.trace ≡ g.trace) × (length s.board.queries ≡ g.query)

-- the run is done or stuck, and went to the goal
abbrev pub EndGoesTo : Goal → Ending → Type 0
EndGoesTo g (Done s) = GoesTo g s
EndGoesTo g (Stuck at s) = GoesTo g s
EndGoesTo g (Few query) = ⊥
EndGoesTo g (Bad query) = ⊥
EndGoesTo g Many = ⊥

-- a counterexample to a goal: valuations for the core's agents within the bounds of files, and answers with which the run on
-- them goes to the goal and ends as it says: stuck there on that side, or done with that agent's envy
pub record IsCounterexample (core : Core) (vs : List Valuation) (ys : List CutAnswer) (g : Goal) : Type 0 where
  pub valuations : IsValuationList core.agents vs
  pub small : All IsSmall vs
  pub goes : EndGoesTo g (run_core (worth_of vs) core (length_of vs) ys)
  pub ends : EndsAs (worth_of vs) g.kind (run_core (worth_of vs) core (length_of vs) ys)

-- ---- from a solution

-- no number but the first, the whole, is over the greatest height
abbrev pub IsLow : List ℤ → Type 0
IsLow xs = All (λ z. z ≤ℤ pos (10 ^ 18)) (drop 1 xs)

-- the numbers, none below 0, as so many lists of that size, one after another
abbrev pub lists_of : ℕ → ℕ → List ℤ → List (List ℕ)
lists_of zero size zs = []
lists_of (suc n) size zs = map unsigned_abs (take size zs) ∷ lists_of n size (drop size zs)

-- for each agent a step of width 1 for each atom: the numbers that solve the rows, but for the first, are the heights
abbrev pub valuations_of : ℕ → Cake → List ℤ → List Valuation
valuations_of agents cake xs = map unit_steps (lists_of agents (atom_count cake) (drop 1 xs))

-- how many atoms lie to the left of the cut of that address
abbrev pub boundary : Cake → Address → ℕ
boundary Atom A = 0
boundary (Halves l r) [] = atom_count l
boundary (Halves l r) (L ∷ A) = boundary l A
boundary (Halves l r) (R ∷ A) = atom_count l + boundary r A

-- each cut of the way, answered in its part by the boundary of its two sides
abbrev pub answers_of : Way → List CutAnswer
answers_of k = map (λ (d : PassedCut). record { part = d.part; point = whole (pos (boundary k.cake d.address)) }) k.cuts

-- a solution of a goal's rows, with as many numbers as there are unknowns and no height that is too great, gives a
-- counterexample to the goal, where no way has more cuts than a core may have
abbrev pub SolutionsGiveCounterexamples : Type 0
SolutionsGiveCounterexamples =
    (core : Core) (g : Goal) (xs : List ℤ) → HasAgents core.agents core.tree → 0 < core.agents → most_cuts core.tree ≤ 64 → Contains (goals core) g
    → length xs ≡ 1 + core.agents * atom_count (way_of core g.trace).cake → IsLow xs → IsSolution g.rows xs
    → IsCounterexample core (valuations_of core.agents (way_of core g.trace).cake xs) (answers_of (way_of core g.trace)) g

-- where the rows of a goal have a solution, those after each front of its choices have one
abbrev pub GoalsAreSolvedOnTheirWay : Type 0
GoalsAreSolvedOnTheirWay =
    (core : Core) (g : Goal) (xs : List ℤ) → HasAgents core.agents core.tree → 0 < core.agents → Contains (goals core) g → IsSolution g.rows xs
    → (front rest : List Choice) → front ++ rest ≡ g.trace → (ys : List ℤ) × IsSolution (rows_after core front) ys

-- a run that is a counterexample to a goal is stuck, or leaves envy
abbrev pub CounterexamplesAreUnfair : Type 0
CounterexamplesAreUnfair =
    (core : Core) (vs : List Valuation) (ys : List CutAnswer) (g : Goal) → Contains (goals core) g → IsCounterexample core vs ys g
    → IsFair core.agents (worth_of vs) (run_core (worth_of vs) core (length_of vs) ys) → ⊥

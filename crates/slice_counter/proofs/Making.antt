-- What heights and marks make: the valuations, the answers, and so the counterexample.
use Rattle.std.proofs.Common.{◌≡◌, ◌∙◌, ℕ, ◌+◌, ◌-◌, ◌*◌, ◌≤◌, ℤ, List, Vec, Global, map, take, drop, length, ap, refl, sym, subst, arith}
use Rattle.std.specs.Prelude.{Result, Ok, Err, IfOk}
use Rattle.std.specs.List.{Contains}
use Rattle.std.proofs.lemmas.List.{length-map}
use Rattle.slice_num.specs.Valuation.{Valuation}
use Rattle.slice_num.specs.declared.cut_answer.CutAnswer.{CutAnswer}
use Rattle.slice_core.specs.Tree.{Core}
use Rattle.slice_core.specs.WellFormed.{IsWellFormed}
use Rattle.slice_linear.specs.Rows.{IsSolution}
use Rattle.slice_atoms.specs.Addresses.{atom_count, Cake}
use Rattle.slice_paths.specs.Goals.{Goal, goals}
use Rattle.slice_paths.specs.Places.{Way}
use Rattle.slice_paths.specs.Ways.{way_of}
use Rattle.slice_step.specs.UnitSteps.{unit_steps}
use Rattle.slice_step.specs.ValuationShape.{IsSmallList}
use Rattle.slice_counter.specs.Counter.{IsCounterexample, IsLow, valuations_of, answers_of, lists_of}
use Rattle.slice_counter.specs.Heights.{answer_at}
use Rattle.slice_counter.specs.Marks.{marks_of}
use Rattle.slice_counter.specs.declared.trail.Mark.{Mark}
use Rattle.slice_counter.proofs.Counters.{solutions_give_counterexamples}
use Rattle.slice_counter.proofs.RowsBack.{length_lists}
use Rattle.slice_counter.proofs.HeightLaws.{all_numbers, map_twice, marks_answered, small_list}

-- what is said of an answer
pub on_map : {A E : Type 0} (r : Result A E) (P Q : A → Type 0) → IfOk r P → ((a : A) → P a → Q a) → IfOk r Q
on_map (Ok a) P Q h f = f a h
on_map (Err e) P Q h f = tt

-- lists of so many heights, for so many agents, are the steps of the valuations
pub steps_made : (n m : ℕ) (k : Cake) (count : ℕ) (xs : List ℤ) (lists : List (Vec ℕ Global)) → map (λ hs. hs.items) lists ≡ lists_of m count (take (length xs - 1) (drop 1 xs)) → m ≡ n → count ≡ atom_count k
    → map (λ hs. unit_steps hs.items) lists ≡ valuations_of n k xs
steps_made n m k count xs lists is agents size =
    map_twice (λ hs. hs.items) unit_steps lists
    ∙ ap (map unit_steps) (
    is
    ∙ (ap (λ (j : ℕ). lists_of j count (take (length xs - 1) (drop 1 xs))) agents
    ∙ (ap (λ (j : ℕ). lists_of n j (take (length xs - 1) (drop 1 xs))) size ∙ ap (lists_of n (atom_count k)) (all_numbers xs)))
    )

-- marks, each answered by its boundary, are the answers of the way
pub answers_made : (k : Way) (marks : List Mark) → marks ≡ marks_of k → map answer_at marks ≡ answers_of k
answers_made k marks is = ap (map answer_at) is ∙ marks_answered k.cake k.cuts

-- a low solution of a goal of a well-formed core
pub record Solved (core : Core) (g : Goal) (xs : List ℤ) : Type 0 where
  pub formed : IsWellFormed core
  pub is_goal : Contains (goals core) g
  pub long : length xs ≡ 1 + core.agents * atom_count (way_of core g.trace).cake
  pub low : IsLow xs
  pub solves : IsSolution g.rows xs

-- its valuations and answers
pub counter_made : (core : Core) (g : Goal) (xs : List ℤ) (vs : List Valuation) (ys : List CutAnswer) → Solved core g xs → vs ≡ valuations_of core.agents (way_of core g.trace).cake xs → ys ≡ answers_of (way_of core g.trace)
    → IsCounterexample core vs ys g
counter_made core g xs vs ys h e f =
    subst (λ (us : List Valuation). IsCounterexample core us ys g) (sym e)
    (subst (λ (zs : List CutAnswer). IsCounterexample core (valuations_of core.agents (way_of core g.trace).cake xs) zs g) (sym f)
    (solutions_give_counterexamples core g xs h.formed.agents_there h.formed.some_agent h.formed.few_cuts h.is_goal h.long h.low h.solves))

pub solution_small : (core : Core) (g : Goal) (xs : List ℤ) → Solved core g xs → IsSmallList (valuations_of core.agents (way_of core g.trace).cake xs)
solution_small core g xs h =
    let vs = valuations_of core.agents (way_of core g.trace).cake xs in
    let c = counter_made core g xs vs (answers_of (way_of core g.trace)) h refl refl in
    small_list core.agents vs h.formed.some_agent c.valuations c.small

-- there are as many valuations as agents
pub few_made : (core : Core) (g : Goal) (xs : List ℤ) (vs : List Valuation) → IsWellFormed core → vs ≡ valuations_of core.agents (way_of core g.trace).cake xs → length vs ≤ 16
few_made core g xs vs formed e =
    let lists = lists_of core.agents (atom_count (way_of core g.trace).cake) (drop 1 xs) in
    let many : length vs ≡ core.agents = ap length e ∙ (length-map lists unit_steps ∙ length_lists core.agents (atom_count (way_of core g.trace).cake) (drop 1 xs)) in
    omega (arith, many, formed.few_agents)

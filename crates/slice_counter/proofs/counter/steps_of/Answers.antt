use Rattle.std.proofs.Common.{◌≡◌, ◌∙◌, List, sym, subst}
use Rattle.slice_num.specs.Valuation.{Valuation}
use Rattle.slice_core.specs.Cores.{core_of}
use Rattle.slice_paths.specs.Ways.{way_of}
use Rattle.slice_step.specs.ValuationShape.{IsSmallList}
use Rattle.slice_counter.specs.Counter.{valuations_of}
use Rattle.slice_counter.proofs.HeightLaws.{low_numbers}
use Rattle.slice_counter.proofs.Making.{steps_made, Solved, solution_small, on_map}
use Rattle.slice_counter.proofs.counter.steps_of.Goals as goal

pub height_lists-requires-clause-low : goal.height_lists-requires-clause-low
height_lists-requires-clause-low c = low_numbers c.args.goal.now.rows c.args.solution.now c.requires.solves c.requires.low

pub from_unit_steps-requires : goal.from_unit_steps-requires
from_unit_steps-requires c =
    let core = core_of c.args.core.now in
    let g = c.args.goal.now in
    let xs = c.args.solution.now in
    let solved : Solved core g xs = record { formed = c.agents.ensures.formed; is_goal = c.requires.goal; long = c.requires.long; low = c.requires.low; solves = c.requires.solves } in
    let made = steps_made core.agents c.agents.result (way_of core g.trace).cake c.args.atoms xs c.in_ok-lists.lists.items (c.in_ok-lists.ensures {u = tt}) c.agents.ensures.value c.requires.atoms in
    subst IsSmallList (sym made) (solution_small core g xs solved)

pub returns : goal.returns
returns c =
    let core = core_of c.args.core.now in
    let cake = (way_of core c.args.goal.now.trace).cake in
    let xs = c.args.solution.now in
    let made = steps_made core.agents c.agents.result cake c.args.atoms xs c.in_ok-lists.lists.items (c.in_ok-lists.ensures {u = tt}) c.agents.ensures.value c.requires.atoms in
    on_map c.from_unit_steps.result _ (λ (vs : List Valuation). vs ≡ valuations_of core.agents cake xs) c.from_unit_steps.ensures (λ vs e. e ∙ made)

use Rattle.std.proofs.Common.{◌≡◌, ◌∙◌, ◌+◌, ◌≤◌, ℕ, List, length, ap, sym, subst, arith}
use Rattle.slice_num.specs.declared.choice.Choice.{Choice}
use Rattle.slice_core.specs.Cores.{core_of}
use Rattle.slice_atoms.specs.Addresses.{atom_count}
use Rattle.slice_paths.specs.Ways.{way_of}
use Rattle.slice_counter.specs.Heights.{FaultAt}
use Rattle.slice_counter.specs.declared.counter.Counterexample.{Counterexample}
use Rattle.slice_core.specs.Division.{IsFair}
use Rattle.slice_core.specs.Measures.{worth_of, length_of}
use Rattle.slice_core.specs.Run.{run_core}
use Rattle.slice_counter.proofs.HeightLaws.{few_unknowns, fault_is}
use Rattle.slice_counter.proofs.Making.{on_map}
use Rattle.slice_counter.proofs.Unfair.{counterexamples_are_unfair}
use Rattle.slice_counter.proofs.counter.build.Goals as goal

pub fault_at-requires-clause-few : goal.fault_at-requires-clause-few
fault_at-requires-clause-few c =
    let core = core_of c.args.core.now in
    let atoms = atom_count (way_of core c.args.goal.now.trace).cake in
    let counted : atoms ≡ 1 + length c.in-Ok.marks.items = ap (λ (t : List Choice). atom_count (way_of core t).cake) (sym c.trace.ensures) ∙ c.in-Ok.ensures.atoms in
    let few : atoms ≤ 65 = omega (arith, counted, c.in-Ok.ensures.few) in
    let most = few_unknowns core.agents atoms c.agents-formed.ensures.formed.few_agents few in
    omega (arith, most, c.requires.long, c.in-Some.ensures.1)

pub returns-in-Some-clause-high : goal.returns-in-Some-clause-high
returns-in-Some-clause-high c =
    let core = core_of c.args.core.now in
    let atoms = atom_count (way_of core c.args.goal.now.trace).cake in
    let counted : atoms ≡ 1 + length c.in-Ok.marks.items = ap (λ (t : List Choice). atom_count (way_of core t).cake) (sym c.trace.ensures) ∙ c.in-Ok.ensures.atoms in
    let same : c.len-atoms.result + 1 ≡ atoms = omega (arith, counted, c.len-atoms.ensures, c.in-Ok.marks.ok.0) in
    let h = c.in-Some.ensures in
    fault_is core.agents atoms c.in-Some.unknown c.args.solution.now c.fault_at.result
    (subst (λ (n : ℕ). FaultAt c.in-Some.unknown n c.fault_at.result) same c.fault_at.ensures) (omega (arith, c.requires.long, h.1)) h.2 h.3

pub returns-clause-unfair : goal.returns-clause-unfair
returns-clause-unfair c =
    let core = core_of c.args.core.now in
    on_map c.finish.result _
    (λ (r : Counterexample). IsFair core.agents (worth_of r.valuations) (run_core (worth_of r.valuations) core (length_of r.valuations) r.cuts.items) → ⊥)
    c.finish.ensures.counter (λ r is. counterexamples_are_unfair core r.valuations r.cuts.items c.args.goal.now c.requires.goal is)

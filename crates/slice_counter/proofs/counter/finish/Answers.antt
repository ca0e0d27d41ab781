use Rattle.std.proofs.Common.{◌∙◌}
use Rattle.slice_core.specs.Cores.{core_of}
use Rattle.slice_paths.specs.Ways.{way_of}
use Rattle.slice_counter.proofs.Making.{answers_made, Solved, counter_made, few_made}
use Rattle.slice_counter.proofs.counter.finish.Goals as goal

pub returns-clause-cuts : goal.returns-clause-cuts
returns-clause-cuts c = c.in-Ok-answers.ensures ∙ answers_made (way_of (core_of c.args.core.now) c.args.goal.now.trace) c.as_slice.result.now (c.as_slice.ensures.value ∙ c.requires.marks)

pub returns-clause-counter : goal.returns-clause-counter
returns-clause-counter c =
    let core = core_of c.args.core.now in
    let g = c.args.goal.now in
    let xs = c.args.solution.now in
    let solved : Solved core g xs = record { formed = c.requires.formed; is_goal = c.requires.goal; long = c.requires.long; low = c.requires.low; solves = c.requires.solves } in
    let cuts = c.in-Ok-answers.ensures ∙ answers_made (way_of core g.trace) c.as_slice.result.now (c.as_slice.ensures.value ∙ c.requires.marks) in
    counter_made core g xs c.in-Ok.valuations c.in-Ok-answers.cuts.items solved c.in-Ok.ensures cuts

pub invariant_of-result : goal.invariant_of-result
invariant_of-result c =
    let core = core_of c.args.core.now in
    let g = c.args.goal.now in
    record { few = few_made core g c.args.solution.now c.in-Ok.valuations c.requires.formed c.in-Ok.ensures }

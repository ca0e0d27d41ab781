use Rattle.std.proofs.Common.{◌≡◌, ◌∙◌, arith}
use Rattle.slice_num.specs.Valuation.{total_value}
use Rattle.slice_step.specs.ValuationShape.{steps}
use Rattle.slice_num.proofs.Values.{total_positive}
use Rattle.slice_step.proofs.valuation.Valuation.whole_value.Goals as goal

pub returns-clause-some : goal.returns-clause-some
returns-clause-some c =
    let v = steps c.self.inside.ends.items c.self.inside.heights.items in
    let same : c.sum_of_steps.result ≡ total_value v = c.sum_of_steps.ensures.value ∙ (λ i. total_value (steps (c.deref.ensures.value i) (c.deref-2.ensures.value i))) in
    omega (arith, total_positive v c.self.invariant.0, same)

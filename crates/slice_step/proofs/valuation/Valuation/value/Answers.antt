use Rattle.std.proofs.Common.{◌≡◌, arith, subst}
use Rattle.std.proofs.lemmas.Grind.{common_steps}
use Rattle.slice_num.specs.Fitting.{fitting_of}
use Rattle.slice_num.specs.Valuation.{IsValuation}
use Rattle.slice_step.specs.Arithmetic.{value_in}
use Rattle.slice_num.specs.ValueLaws.{stretch}
use Rattle.slice_step.proofs.Exact.{if_ok-fitting, value_in-exact}
use Rattle.slice_step.proofs.valuation.Valuation.value.Goals as goal

pub returns-clause-exact : goal.returns-clause-exact
returns-clause-exact c =
    let v = c.args.self.now in
    let i = stretch c.args.x.now c.args.y.now in
    let valuation : IsValuation v = subst IsValuation c.self.view_is c.self.invariant.0 in
    let fitting : fitting_of c.sub.result ≡ value_in v i = grind (arith, common_steps) in
    if_ok-fitting c.sub.result (value_in v i) _ fitting (λ r e order. value_in-exact v i r valuation order e)

use Rattle.std.proofs.Common.{◌≡◌, arith, subst}
use Rattle.std.proofs.lemmas.Grind.{common_steps}
use Rattle.slice_num.specs.Fitting.{Fitted, fitting_of}
use Rattle.slice_num.specs.Valuation.{IsValuation}
use Rattle.slice_step.specs.Arithmetic.{least_point_in}
use Rattle.slice_step.proofs.Exact.{if_ok-fitting}
use Rattle.slice_step.proofs.Least.{least_point_in-least}
use Rattle.slice_step.proofs.valuation.Valuation.least_point.Goals as goal

pub returns-then-eq-clause-least : goal.returns-then-eq-clause-least
returns-then-eq-clause-least c =
    let v = c.args.self.now in
    let x = c.args.x.now in
    let valuation : IsValuation v = subst IsValuation c.self.view_is c.self.invariant.0 in
    let fitting : least_point_in v x c.args.amount.now ≡ Fitted x = grind (arith, common_steps) in
    λ z has. least_point_in-least v x z c.args.amount.now x valuation has fitting

pub returns-in-Some-clause-least : goal.returns-in-Some-clause-least
returns-in-Some-clause-least c =
    let v = c.args.self.now in
    let x = c.args.x.now in
    let amount = c.args.amount.now in
    let valuation : IsValuation v = subst IsValuation c.self.view_is c.self.invariant.0 in
    let fitting : fitting_of c.point_of.result ≡ least_point_in v x amount = grind (arith, common_steps) in
    if_ok-fitting c.point_of.result (least_point_in v x amount) _ fitting (λ y e z has. least_point_in-least v x z amount y valuation has e)

pub returns-in-None-clause-least : goal.returns-in-None-clause-least
returns-in-None-clause-least c =
    let v = c.args.self.now in
    let x = c.args.x.now in
    let valuation : IsValuation v = subst IsValuation c.self.view_is c.self.invariant.0 in
    let fitting : least_point_in v x c.args.amount.now ≡ Fitted c.whole.result = grind (arith, common_steps) in
    λ z has. least_point_in-least v x z c.args.amount.now c.whole.result valuation has fitting

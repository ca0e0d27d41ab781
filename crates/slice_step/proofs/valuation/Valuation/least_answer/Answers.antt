use Rattle.std.proofs.Common.{subst}
use Rattle.slice_num.specs.Valuation.{IsValuation}
use Rattle.slice_step.specs.Arithmetic.{least_answer_in}
use Rattle.slice_step.proofs.Exact.{if_ok-fitting}
use Rattle.slice_step.proofs.LeastAnswer.{answers_exact}
use Rattle.slice_step.proofs.valuation.Valuation.least_answer.Goals as goal

pub returns-clause-least : goal.returns-clause-least
returns-clause-least c =
    let v = c.args.self.now in
    let piece = c.args.piece.now in
    let share = c.args.share.now in
    let valuation : IsValuation v = subst IsValuation c.self.view_is c.self.invariant.0 in
    if_ok-fitting c.find_answer.result (least_answer_in v piece share) _ c.find_answer.ensures (λ y e order some can. answers_exact v piece share y valuation order some can e)

use Rattle.std.proofs.Common.{◌≡◌, ◌∙◌, arith}
use Rattle.std.proofs.lemmas.Grind.{common_steps}
use Rattle.slice_num.specs.Fitting.{Fitted, Unfit, fitting_of}
use Rattle.slice_step.proofs.Exact.{values_with}
use Rattle.slice_step.proofs.valuation.Valuation.value_with.Goals as goal

pub returns-in_err-sum : goal.returns-in_err-sum
returns-in_err-sum c =
    let e : fitting_of c.from_residual.result ≡ Unfit = grind (arith, common_steps) in
    e ∙ values_with c.args.self.now c.args.piece.now c.args.last.now Unfit c.in_err-sum.ensures

pub returns : goal.returns
returns c = c.values_after.ensures ∙ values_with c.args.self.now c.args.piece.now c.args.last.now (Fitted c.in_ok-sum.sum) c.in_ok-sum.ensures

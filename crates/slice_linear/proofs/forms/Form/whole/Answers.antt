use Rattle.std.proofs.Common.{◌≡◌, arith, pos}
use Rattle.std.proofs.lemmas.Grind.{common_steps}
use Rattle.slice_num.specs.Rational.{whole}
use Rattle.slice_linear.proofs.Coefs.{zero_num}
use Rattle.slice_linear.proofs.forms.Form.whole.Goals as goal
use Rattle.slice_linear.proofs.forms.Form.whole.Goals.{then-num-ne0+in_ok-put, else-num-ne0}

pub returns : goal.returns
returns c = λ k. elim c.if-num-ne0.branch [
  | then-num-ne0+in_ok-put w ↦ grind (arith, common_steps)
  | else-num-ne0 w ↦ let z : c.args.factor ≡ whole (pos 0) = zero_num c.args.factor (grind arith) in grind (arith, common_steps)
]

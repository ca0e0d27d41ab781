use Rattle.std.proofs.Common.{◌≡◌, arith, pos}
use Rattle.std.proofs.lemmas.Grind.{common_steps}
use Rattle.slice_num.specs.Rational.{whole}
use Rattle.std.specs.Prelude.{if◌then◌else◌}
use Rattle.slice_num.specs.declared.key.Key.{Key}
use Rattle.slice_linear.specs.Terms.{coef_of, is_same}
use Rattle.slice_linear.proofs.Coefs.{zero_num}
use Rattle.slice_linear.proofs.Putting.{unreplaced}
use Rattle.slice_linear.proofs.forms.Form.replace.Goals as goal

pub returns-then-num-eq0 : goal.returns-then-num-eq0
returns-then-num-eq0 c =
    let n = c.num.ensures.value in
    let z : c.coef_at-coef.result ≡ whole (pos 0) = zero_num c.coef_at-coef.result (grind arith) in
    let e : coef_of c.args.self.now c.args.old ≡ whole (pos 0) = grind (arith, common_steps) in
    let h : (k : Key) → coef_of c.in_ok-terms.terms.items k ≡ (if is_same c.args.old k then whole (pos 0) else coef_of c.args.self.now k) = λ k. grind (arith, common_steps, c.in_ok-terms.ensures.coefs k) in
    unreplaced c.args.old c.args.left c.args.right c.args.self.now c.in_ok-terms.terms.items c.requires.no_left c.requires.no_right e h

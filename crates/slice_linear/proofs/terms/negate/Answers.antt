use Rattle.std.proofs.Common.{◌≡◌, arith}
use Rattle.std.specs.Prelude.{map}
use Rattle.std.proofs.lemmas.Grind.{common_steps}
use Rattle.slice_linear.proofs.Lists.{minus_term, coef_minus, terms_minus}
use Rattle.slice_linear.proofs.terms.negate.Goals as goal

pub returns-clause-coefs : goal.returns-clause-coefs
returns-clause-coefs c =
    let e : c.loop-term.made.items ≡ map minus_term c.args.terms.now = grind (arith, common_steps) in
    rw e (coef_minus c.args.terms.now)

pub returns-clause-terms : goal.returns-clause-terms
returns-clause-terms c =
    let e : c.loop-term.made.items ≡ map minus_term c.args.terms.now = grind (arith, common_steps) in
    rw e (terms_minus c.args.terms.now c.requires)

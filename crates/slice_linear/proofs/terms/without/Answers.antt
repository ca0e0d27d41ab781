use Rattle.std.proofs.Common.{◌≡◌, arith}
use Rattle.std.proofs.lemmas.Grind.{common_steps}
use Rattle.slice_linear.proofs.Lists.{others, coef_others, terms_others}
use Rattle.slice_linear.proofs.terms.without.Goals as goal

pub returns-clause-coefs : goal.returns-clause-coefs
returns-clause-coefs c =
    let e : c.loop-term.rest.items ≡ others c.args.key c.args.terms.now = grind (arith, common_steps) in
    rw e (coef_others c.args.key c.args.terms.now)

pub returns-clause-terms : goal.returns-clause-terms
returns-clause-terms c =
    let e : c.loop-term.rest.items ≡ others c.args.key c.args.terms.now = grind (arith, common_steps) in
    rw e (terms_others c.args.key c.args.terms.now c.requires)

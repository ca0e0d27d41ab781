use Rattle.std.proofs.Common.{◌≡◌, arith, true, false}
use Rattle.std.proofs.lemmas.Grind.{common_steps}
use Rattle.slice_linear.proofs.Lists.{scaled, scaled_fits, coef_scaled, terms_scaled, products_in, products_out}
use Rattle.slice_linear.proofs.terms.scale_terms.Goals as goal

pub returns-clause-multiple : goal.returns-clause-multiple
returns-clause-multiple c =
    let e : c.loop-term.made.items ≡ scaled c.args.factor.now c.args.terms.now = grind (arith, common_steps) in
    rw e (coef_scaled c.args.factor.now c.args.terms.now c.requires)

pub returns-clause-fits : goal.returns-clause-fits
returns-clause-fits c =
    let f : scaled_fits c.args.factor.now c.args.terms.now ≡ true = grind (arith, common_steps) in
    products_in c.args.factor.now c.args.terms.now f

pub returns-clause-terms : goal.returns-clause-terms
returns-clause-terms c =
    let e : c.loop-term.made.items ≡ scaled c.args.factor.now c.args.terms.now = grind (arith, common_steps) in
    rw e (terms_scaled c.args.factor.now c.args.terms.now c.requires)

pub returns-in-Err-clause-overflow : goal.returns-in-Err-clause-overflow
returns-in-Err-clause-overflow c = λ o h.
    let f = c.in-Err.ensures.overflow o in
    let g : scaled_fits c.args.factor.now c.args.terms.now ≡ true = products_out c.args.factor.now c.args.terms.now c.requires h in
    let k : scaled_fits c.args.factor.now c.args.terms.now ≡ false = grind (arith, common_steps) in
    cc

use Rattle.std.proofs.Common.{◌≡◌, arith}
use Rattle.std.proofs.lemmas.Grind.{common_steps}
use Rattle.slice_linear.proofs.Lists.{placed, coef_placed, terms_placed}
use Rattle.slice_linear.proofs.terms.place.Goals as goal
use Rattle.slice_linear.proofs.terms.place.Goals.{then-loop-at-test+else-before, else-loop-at-test}

is_placed : (c : goal.Else-is_err) → c.insert.new.self.items ≡ placed c.args.term c.args.terms.now.items
is_placed c = elim c.loop-at-test.branch [
  | then-loop-at-test+else-before w ↦ grind (arith, common_steps)
  | else-loop-at-test w ↦ grind (arith, common_steps)
]

pub returns-clause-coefs : goal.returns-clause-coefs
returns-clause-coefs c = rw (is_placed c) (coef_placed c.args.term c.args.terms.now.items c.requires.none c.requires.terms)

pub returns-clause-terms : goal.returns-clause-terms
returns-clause-terms c = rw (is_placed c) (terms_placed c.args.term c.args.terms.now.items c.requires.some c.requires.none c.requires.terms)

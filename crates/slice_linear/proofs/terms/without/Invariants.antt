use Rattle.std.proofs.Common.{◌≡◌, ◌++◌, drop}
use Rattle.slice_linear.proofs.Lists.{others}
use Rattle.slice_linear.proofs.terms.without.Given as goal

abbrev pub invariant-loop-term : goal.invariant-loop-term
invariant-loop-term l = l.rest.items ++ others l.fn.key (drop l.term-index l.fn.terms) ≡ others l.fn.key l.fn.terms

use Rattle.std.proofs.Common.{◌≡◌, ◌++◌, drop}
use Rattle.std.specs.Prelude.{map}
use Rattle.slice_linear.proofs.Lists.{minus_term}
use Rattle.slice_linear.proofs.terms.negate.Given as goal

abbrev pub invariant-loop-term : goal.invariant-loop-term
invariant-loop-term l = l.made.items ++ map minus_term (drop l.term-index l.fn.terms) ≡ map minus_term l.fn.terms

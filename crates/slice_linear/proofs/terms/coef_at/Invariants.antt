use Rattle.std.proofs.Common.{◌≡◌, drop}
use Rattle.slice_linear.specs.Terms.{coef_of}
use Rattle.slice_linear.proofs.terms.coef_at.Given as goal

abbrev pub invariant-loop-term : goal.invariant-loop-term
invariant-loop-term l = coef_of (drop l.term-index l.fn.terms) l.fn.key ≡ coef_of l.fn.terms l.fn.key

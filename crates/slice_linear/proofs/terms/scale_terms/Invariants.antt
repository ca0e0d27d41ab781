use Rattle.std.proofs.Common.{◌≡◌, ◌++◌, drop}
use Rattle.slice_linear.proofs.Lists.{scaled, scaled_fits}
use Rattle.slice_linear.proofs.terms.scale_terms.Given as goal

abbrev pub invariant-loop-term : goal.invariant-loop-term
invariant-loop-term l = record {
  so_far : l.made.items ++ scaled l.fn.factor (drop l.term-index l.fn.terms) ≡ scaled l.fn.factor l.fn.terms;
  fits : scaled_fits l.fn.factor (drop l.term-index l.fn.terms) ≡ scaled_fits l.fn.factor l.fn.terms;
}

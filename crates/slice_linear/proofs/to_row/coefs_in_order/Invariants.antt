use Rattle.std.proofs.Common.{◌≡◌, ◌++◌, drop}
use Rattle.slice_linear.specs.Terms.{coefs_of}
use Rattle.slice_linear.proofs.to_row.coefs_in_order.Given as goal

abbrev pub invariant-loop-key : goal.invariant-loop-key
invariant-loop-key l = l.coefs.items ++ coefs_of l.fn.terms (drop l.key-index l.fn.order) ≡ coefs_of l.fn.terms l.fn.order

use Rattle.std.proofs.Common.{◌≡◌, ◌++◌, drop}
use Rattle.std.specs.Prelude.{unsigned_abs}
use Rattle.slice_linear.specs.LowestRow.{cleared, all_fit}
use Rattle.slice_linear.proofs.to_row.clear.Given as goal

abbrev pub invariant-loop-coef : goal.invariant-loop-coef
invariant-loop-coef l = record {
  so_far : l.whole.items ++ cleared (unsigned_abs l.fn.common) (drop l.coef-index l.fn.coefs) ≡ cleared (unsigned_abs l.fn.common) l.fn.coefs;
  fit : all_fit (cleared (unsigned_abs l.fn.common) (drop l.coef-index l.fn.coefs)) ≡ all_fit (cleared (unsigned_abs l.fn.common) l.fn.coefs);
}

use Rattle.std.proofs.Common.{◌≡◌, ◌++◌, drop, ◌+◌, ◌-◌, ◌≤◌, length}
use Rattle.slice_linear.proofs.Merge.{merge, merge_fits}
use Rattle.slice_linear.proofs.terms.merge_terms.Given as goal

abbrev pub invariant-loop-i : goal.invariant-loop-i
invariant-loop-i l = record {
  left : l.i ≤ length l.fn.xs;
  right : l.j ≤ length l.fn.ys;
  so_far : l.made.items ++ merge (drop l.i l.fn.xs) (drop l.j l.fn.ys) ≡ merge l.fn.xs l.fn.ys;
  fits : merge_fits (drop l.i l.fn.xs) (drop l.j l.fn.ys) ≡ merge_fits l.fn.xs l.fn.ys;
}

abbrev pub decreases-loop-i : goal.decreases-loop-i
decreases-loop-i l = (length l.fn.xs - l.i) + (length l.fn.ys - l.j)

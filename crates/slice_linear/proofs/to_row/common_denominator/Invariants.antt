use Rattle.std.proofs.Common.{◌≡◌, ◌≤◌, ◌<ℤ◌, length, drop, pos}
use Rattle.slice_num.specs.Rational.{Fits}
use Rattle.slice_linear.specs.LowestRow.{common_den}
use Rattle.slice_linear.proofs.to_row.common_denominator.Given as goal

abbrev pub invariant-loop-j : goal.invariant-loop-j
invariant-loop-j l = record {
  value : l.common ≡ pos (common_den (drop l.j l.fn.coefs));
  above : pos 0 <ℤ l.common;
  fits : Fits l.common;
  in_range : l.j ≤ length l.fn.coefs;
}

abbrev pub decreases-loop-j : goal.decreases-loop-j
decreases-loop-j l = l.j

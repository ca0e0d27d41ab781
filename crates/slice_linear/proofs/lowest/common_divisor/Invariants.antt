use Rattle.std.proofs.Common.{◌≡◌, ◌≤◌, length, drop, pos}
use Rattle.slice_num.specs.Rational.{Fits}
use Rattle.slice_linear.specs.LowestRow.{gcd_all}
use Rattle.slice_linear.proofs.lowest.common_divisor.Given as goal

abbrev pub invariant-loop-j : goal.invariant-loop-j
invariant-loop-j l = record {
  value : l.common ≡ pos (gcd_all (drop l.j l.numbers));
  fits : Fits l.common;
  in_range : l.j ≤ length l.numbers;
}

abbrev pub decreases-loop-j : goal.decreases-loop-j
decreases-loop-j l = l.j

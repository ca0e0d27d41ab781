use Rattle.std.proofs.Common.{ℕ, ◌<◌}
use Rattle.slice_num.specs.Rational.{Fits}
use Rattle.slice_linear.specs.Sums.{at}
use Rattle.slice_simplex.proofs.tests.all_fit.Given as goal

abbrev pub invariant-loop-j : goal.invariant-loop-j
invariant-loop-j l = record {
  done : (i : ℕ) → i < l.j → Fits (at l.coefs i);
}

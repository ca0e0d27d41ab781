use Rattle.std.proofs.Common.{ℕ, ◌<◌, ◌≡◌, length}
use Rattle.slice_num.specs.Rational.{Fits}
use Rattle.slice_linear.specs.Sums.{at}
use Rattle.slice_linear.specs.Rows.{coefs_at}
use Rattle.slice_simplex.proofs.tests.are_rows.Given as goal

abbrev pub invariant-loop-k : goal.invariant-loop-k
invariant-loop-k l = record {
  each : (i : ℕ) → i < l.k → (length (coefs_at l.rows i) ≡ l.wide) × ((j : ℕ) → Fits (at (coefs_at l.rows i) j));
}

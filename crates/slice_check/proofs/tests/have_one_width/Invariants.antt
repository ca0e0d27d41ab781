use Rattle.std.proofs.Common.{ℕ, ◌<◌, ◌≡◌, length}
use Rattle.slice_linear.specs.Rows.{coefs_at}
use Rattle.slice_check.proofs.tests.have_one_width.Given as goal

abbrev pub invariant-loop-k : goal.invariant-loop-k
invariant-loop-k l = (i : ℕ) → i < l.k → length (coefs_at l.rows i) ≡ l.wide

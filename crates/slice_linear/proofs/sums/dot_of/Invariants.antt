use Rattle.std.proofs.Common.{ℕ, ◌<◌, ◌≤◌, ◌≡◌, ◌*ℤ◌}
use Rattle.slice_num.specs.Rational.{Fits}
use Rattle.slice_linear.specs.Sums.{at, sum_to}
use Rattle.slice_linear.proofs.sums.dot_of.Given as goal

abbrev pub invariant-loop-j : goal.invariant-loop-j
invariant-loop-j l = record {
  total : l.total ≡ sum_to l.j (λ k. at l.coefs k *ℤ at l.xs k);
  products : (k : ℕ) → k < l.j → Fits (at l.coefs k *ℤ at l.xs k);
  sums : (k : ℕ) → k ≤ l.j → Fits (sum_to k (λ k. at l.coefs k *ℤ at l.xs k));
}

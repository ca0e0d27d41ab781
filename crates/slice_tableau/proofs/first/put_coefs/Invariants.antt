use Rattle.std.proofs.Common.{ℕ, ◌<◌, ◌≤◌, ◌≡◌, length, pos, ◌*ℤ◌}
use Rattle.slice_linear.specs.Sums.{at}
use Rattle.slice_tableau.proofs.first.put_coefs.Given as goal

abbrev pub invariant-loop-j : goal.invariant-loop-j
invariant-loop-j l = record {
  done : (k : ℕ) → k < l.j → at l.row k ≡ l.fn.sign *ℤ at l.coefs k;
  left : (k : ℕ) → l.j ≤ k → at l.row k ≡ pos 0;
  width : length l.row ≡ length l.fn.row;
}

use Rattle.std.proofs.Common.{ℕ, ◌<◌, ◌≤◌, ◌≡◌}
use Rattle.std.specs.Prelude.{int_div}
use Rattle.slice_linear.specs.Sums.{at}
use Rattle.slice_linear.proofs.lowest.divide.Given as goal

abbrev pub invariant-loop-number : goal.invariant-loop-number
invariant-loop-number l = record { done : (k : ℕ) → k < l.number-index → at l.numbers k ≡ int_div (at l.fn.numbers k) l.fn.divisor; left : (k : ℕ) → l.number-index ≤ k → at l.numbers k ≡ at l.fn.numbers k }

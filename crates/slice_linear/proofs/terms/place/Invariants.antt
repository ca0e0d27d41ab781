use Rattle.std.proofs.Common.{◌≡◌, ◌++◌, drop, take, ◌-◌, ◌≤◌, length}
use Rattle.slice_linear.proofs.Lists.{placed}
use Rattle.slice_linear.proofs.terms.place.Given as goal

abbrev pub invariant-loop-at : goal.invariant-loop-at
invariant-loop-at l = record {
  within : l.at ≤ length l.fn.terms.items;
  so_far : take l.at l.fn.terms.items ++ placed l.fn.term (drop l.at l.fn.terms.items) ≡ placed l.fn.term l.fn.terms.items;
}

abbrev pub decreases-loop-at : goal.decreases-loop-at
decreases-loop-at l = length l.fn.terms.items - l.at

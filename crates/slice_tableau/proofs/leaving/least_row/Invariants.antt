use Rattle.std.proofs.Common.{ℕ, suc, ◌<◌, pos, ◌≤ℤ◌, MatchOption}
use Rattle.slice_tableau.specs.Inside.{IsLeastOf, list_of, column_of}
use Rattle.slice_tableau.proofs.leaving.least_row.Given as goal

abbrev pub invariant-loop-l : goal.invariant-loop-l
invariant-loop-l l = MatchOption l.best ((k : ℕ) → k < l.l → (column_of l.cells l.fn.col k) ≤ℤ pos 0) (λ r. IsLeastOf (suc l.fn.size.height) l.l (list_of l.cells l.fn.size.unknowns l.fn.size.height) (column_of l.cells l.fn.col) r)

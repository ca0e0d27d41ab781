use Rattle.std.proofs.Common.{ℕ, ◌<◌, ◌≢◌, length}
use Rattle.slice_linear.specs.Sums.{at}
use Rattle.slice_tableau.specs.Cells.{FitsAt}
use Rattle.slice_tableau.specs.Inside.{row_of}
use Rattle.slice_tableau.proofs.cells.misfit.Given as goal

abbrev pub invariant-loop-i : goal.invariant-loop-i
invariant-loop-i l = (k j : ℕ) → k < l.i → k ≢ l.fn.row → j < length (row_of l.cells l.fn.row) → FitsAt l.fn.col (at (row_of l.cells k)) (at (row_of l.cells l.fn.row)) j

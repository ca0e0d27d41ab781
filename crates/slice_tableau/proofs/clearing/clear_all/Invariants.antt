use Rattle.std.proofs.Common.{ℕ, ◌<◌, ◌≤◌, ◌≡◌, ◌≢◌, length}
use Rattle.slice_num.specs.Rational.{Fits}
use Rattle.slice_linear.specs.Sums.{at}
use Rattle.slice_tableau.specs.Pivot.{IsCleared}
use Rattle.slice_tableau.specs.Inside.{row_of}
use Rattle.slice_tableau.proofs.clearing.clear_all.Given as goal

abbrev pub invariant-loop-i : goal.invariant-loop-i
invariant-loop-i l = record {
  height : length l.cells.items ≡ length l.fn.cells.items;
  spare : length l.spare ≡ length l.fn.spare;
  pivot_row : row_of l.cells.items l.fn.row ≡ row_of l.fn.cells.items l.fn.row;
  left : (k : ℕ) → l.i ≤ k → row_of l.cells.items k ≡ row_of l.fn.cells.items k;
  widths : (k : ℕ) → length (row_of l.cells.items k) ≡ length (row_of l.fn.cells.items k);
  fit : (k j : ℕ) → Fits (at (row_of l.cells.items k) j);
  cleared : (k : ℕ) → k < l.i → k ≢ l.fn.row → IsCleared l.fn.col (at (row_of l.fn.cells.items k)) (at (row_of l.fn.cells.items l.fn.row)) (at (row_of l.cells.items k));
}

-- Of each tableau of a pivot run: it is one of the rows, and its lists are above the zeros.
use Rattle.std.proofs.Common.{ℕ, zero, suc, ◌+◌, ◌≤◌, arith, List, [], ◌∷◌, length, pos, ◌≤ℤ◌}
use Rattle.std.proofs.lemmas.Bool.{ne_eqb}
use Rattle.slice_linear.proofs.Ring.{linear}
use Rattle.slice_linear.specs.Rows.{LinearRow, width}
use Rattle.slice_tableau.specs.System.{Line, lines, lines_cell, start_cell, list_column}
use Rattle.slice_tableau.specs.Table.{Table, IsTableauOf}
use Rattle.slice_tableau.specs.Run.{IsPivotRun}
use Rattle.slice_tableau.proofs.RunBridge.{RightsHigh, known, rights, stage}
use Rattle.slice_tableau.proofs.RunLaws.{IsHigh}
use Rattle.slice_tableau.proofs.SystemLaws.{cell_right}

pub run_is_of : (rows : List LinearRow) (t : Table) (before : List Table) → IsPivotRun rows (t ∷ before) → IsTableauOf rows t
run_is_of rows t before run = (known rows t before run).of_rows

pub run_is_high : (rows : List LinearRow) (t : Table) (before : List Table) → IsPivotRun rows (t ∷ before) → IsHigh (length (lines rows)) (list_column (width rows) (length (lines rows))) (stage t)
run_is_high rows t before run = (known rows t before run).high

lines_right : (w m : ℕ) (ls : List Line) (n i : ℕ) → n + length ls ≤ m → RightsHigh ls → pos 0 ≤ℤ (lines_cell w m ls n i (w + 1 + m))
lines_right w m [] n i le h = rw (ne_eqb (w + 1 + m) w (λ e. omega arith), ne_eqb (w + 1 + m) (w + 2 + m) (λ e. omega arith)) (omega (arith, linear))
lines_right w m (l ∷ ls) n zero le h = rw (cell_right w m n l (omega arith)) h.0
lines_right w m (l ∷ ls) n (suc i) le h = lines_right w m ls (suc n) i (omega arith) h.1

-- no start row has a right side below 0
pub right_not_below : (w : ℕ) (rows : List LinearRow) (i : ℕ) → pos 0 ≤ℤ (start_cell w rows i (w + 1 + length (lines rows)))
right_not_below w rows i = lines_right w (length (lines rows)) (lines rows) 0 i (omega arith) (rights rows)

-- What a pivot makes of a table.
use Rattle.std.proofs.Common.{ℕ, suc, ◌+◌, ◌≡◌, ◌≢◌, ◌<◌, ◌≤◌, ◌∙◌, ap, sym, subst, arith, length, get_or, set, List, [], ℤ, pos, ◌<ℤ◌, inl, inr, get_or-set_same, get_or-set_other}
use Rattle.std.proofs.lemmas.Bool.{cases_eq}
use Rattle.slice_linear.specs.Rows.{LinearRow}
use Rattle.slice_linear.specs.Sums.{at}
use Rattle.slice_tableau.specs.System.{start_cell, own_column}
use Rattle.slice_tableau.specs.Pivot.{IsCleared, IsClearable}
use Rattle.slice_tableau.proofs.PivotLaws.{pivot_keeps_table}
use Rattle.slice_tableau.specs.Table.{Table, HasSizes, IsTableauOf, IsFirstMisfit, cell_at, basic_at, right_column}
use Rattle.slice_tableau.specs.Inside.{FirstUnfit, row_of}

-- the table after a pivot
abbrev pub after : Table → List (List ℤ) → ℕ → ℕ → Table
after t cells row col = record { unknowns = t.unknowns; height = t.height; cells = cells; basis = set t.basis row col }

pub pivoted : (rows : List LinearRow) (t : Table) (cells : List (List ℤ)) (row col : ℕ) → row < t.height → col < right_column t → pos 0 <ℤ (cell_at t row col) → HasSizes (after t cells row col) → IsTableauOf rows t
    → get_or cells row [] ≡ get_or t.cells row []
    → ((l : ℕ) → l < suc t.height → l ≢ row → IsCleared col (cell_at t l) (cell_at t row) (at (get_or cells l [])))
    → IsTableauOf rows (after t cells row col)
pivoted rows t cells row col lt in_range above sizes of kept cleared =
    let there : row < length t.basis = rw of.sizes.basics (omega arith) in
    let same : get_or (set t.basis row col) row 0 ≡ col = rw get_or-set_same in
    let other : (l : ℕ) → l ≢ row → get_or (set t.basis row col) l 0 ≡ get_or t.basis l 0 = λ l ne. rw get_or-set_other in
    record {
      unknowns_is = of.unknowns_is;
      height_is = of.height_is;
      sizes = sizes;
      basis_rows = pivot_keeps_table (suc t.height) (start_cell t.unknowns rows) (own_column t.unknowns t.height) (basic_at t) (basic_at (after t cells row col)) (cell_at t) (cell_at (after t cells row col)) row col (omega arith)
          of.basis_rows above same (λ l ll ne. other l ne) (λ j. ap (λ r. at r j) kept) cleared;
      basics_in = λ l ll. elim (cases_eq l row) [
        | inl e ↦ subst (λ x. get_or (set t.basis row col) x 0 < right_column t) (sym e) (rw same in_range)
        | inr ne ↦ rw (other l ne) (of.basics_in l ll)
      ];
      last_basic = other t.height (λ e. omega arith) ∙ of.last_basic;
    }

-- the rows of a tableau can be cleared by any other row
pub clearable : (rows : List LinearRow) (t : Table) (row : ℕ) → row ≤ t.height → IsTableauOf rows t → (l : ℕ) → l ≤ t.height → l ≢ row → IsClearable (cell_at t l) (cell_at t row)
clearable rows t row lr of l ll ne =
    let r = of.basis_rows.rows l (omega arith) in
    let q = of.basis_rows.rows row (omega arith) in
    record { own = basic_at t l; above = r.above; zero = q.elsewhere l (omega arith) ne; lowest = r.lowest }

-- the table of these fields
abbrev pub table_of : ℕ → ℕ → List (List ℤ) → List ℕ → Table
table_of u h rows b = record { unknowns = u; height = h; cells = rows; basis = b }

-- the first cell that doesn't fit, told of the table
pub first_misfit : (rows : List (List ℤ)) (u h : ℕ) (b : List ℕ) (row col i j : ℕ) → row ≤ h → HasSizes (table_of u h rows b)
    → FirstUnfit rows row col i j → IsFirstMisfit (table_of u h rows b) row col i j
first_misfit rows u h b row col i j lr sizes f =
    let tall : length rows ≡ suc h = sizes.rows in
    let wide : length (row_of rows row) ≡ u + h + 3 = sizes.width row lr in
    let lt = f.row_there in
    record {
      row_there = omega arith;
      column_there = rw (← wide) f.column_there;
      misfit = λ h. f.misfit (h f.other);
      rows_before = λ k l lk ll ne. f.rows_before k l lk ne (rw wide ll);
      columns_before = λ l ll ne. f.columns_before l ll;
    }

-- A tableau, whose rows are those of its basis, and the lawful choice of a pivot.
use Rattle.std.specs.Prelude.{ℕ, suc, ◌+◌, ◌<◌, ◌≤◌, ◌≡◌, ◌≢◌, List, [], get_or, length, slice_set, ℤ, pos, ◌<ℤ◌, ◌≤ℤ◌}
use Rattle.slice_num.specs.Rational.{Fits}
use Rattle.slice_linear.specs.Sums.{at}
use Rattle.slice_linear.specs.Rows.{LinearRow, width}
use Rattle.slice_tableau.specs.System.{start_cell, own_column, list_column, lines}
use Rattle.slice_tableau.specs.Basis.{IsBasisTable}
use Rattle.slice_tableau.specs.Lex.{IsRatioBelow}
use Rattle.slice_tableau.specs.Cells.{FitsAt}

-- the numbers row by row, the objective row last, and the basic column of each row; `height` counts the rows before the
-- objective row, which are as many as the system has lines
pub record Table : Type 0 where
  pub unknowns : ℕ
  pub height : ℕ
  pub cells : List (List ℤ)
  pub basis : List ℕ

-- the number at a row and a column, 0 past the last
abbrev pub cell_at : Table → ℕ → ℕ → ℤ
cell_at t i j = at (get_or t.cells i []) j

-- the basic column of a row
abbrev pub basic_at : Table → ℕ → ℕ
basic_at t i = get_or t.basis i 0

-- the column of the right side; the columns of unknowns, t and slacks stand before it
abbrev pub right_column : Table → ℕ
right_column t = t.unknowns + 1 + t.height

-- how many columns there are: the right side isn't the last one, z comes after it
abbrev pub columns : Table → ℕ
columns t = t.unknowns + t.height + 3

-- the rows and the objective row, all of one width, and as many basic columns
pub record HasSizes (t : Table) : Type 0 where
  pub rows : length t.cells ≡ suc t.height
  pub width : (i : ℕ) → i ≤ t.height → length (get_or t.cells i []) ≡ columns t
  pub basics : length t.basis ≡ suc t.height

-- all numbers fit
abbrev pub CellsFit : Table → Type 0
CellsFit t = (i j : ℕ) → Fits (cell_at t i j)

-- t is a tableau of the rows: its rows are those of its basis, whose columns are unknowns, t and slacks, and last z
pub record IsTableauOf (rows : List LinearRow) (t : Table) : Type 0 where
  pub unknowns_is : t.unknowns ≡ width rows
  pub height_is : t.height ≡ length (lines rows)
  pub sizes : HasSizes t
  pub basis_rows : IsBasisTable (suc t.height) (start_cell t.unknowns rows) (own_column t.unknowns t.height) (basic_at t) (cell_at t)
  pub basics_in : (l : ℕ) → l < t.height → basic_at t l < right_column t
  pub last_basic : basic_at t t.height ≡ t.unknowns + 2 + t.height

-- the first tableau of the rows: its basis is the slacks, and z
pub record IsFirst (rows : List LinearRow) (t : Table) : Type 0 where
  pub of_rows : IsTableauOf rows t
  pub slacks : (l : ℕ) → l ≤ t.height → basic_at t l ≡ own_column t.unknowns t.height l

-- column c enters: it is the least among unknowns, t and slacks with a number below 0 in the objective row
pub record IsEntering (t : Table) (c : ℕ) : Type 0 where
  pub in_range : c < right_column t
  pub below : (cell_at t t.height c) <ℤ pos 0
  pub least : (j : ℕ) → j < c → pos 0 ≤ℤ (cell_at t t.height j)

-- no column enters
abbrev pub NoneEnters : Table → Type 0
NoneEnters t = (j : ℕ) → j < right_column t → pos 0 ≤ℤ (cell_at t t.height j)

-- the list of row l: the right side, then the slacks
abbrev pub list_at : Table → ℕ → ℕ → ℤ
list_at t l i = cell_at t l (list_column t.unknowns t.height i)

-- row r leaves for column c: of the rows with a number above 0 there it has the least list, where each list is divided by the
-- row's number there; no other row has the same one
pub record IsLeaving (t : Table) (c r : ℕ) : Type 0 where
  pub in_range : r < t.height
  pub above : pos 0 <ℤ (cell_at t r c)
  pub least : (l : ℕ) → l < t.height → l ≢ r → pos 0 <ℤ (cell_at t l c)
      → IsRatioBelow (suc t.height) (list_at t r) (cell_at t r c) (list_at t l) (cell_at t l c)

-- the numbers that a pivot on row r and column c makes at cell (i, j) fit; it makes none in row r
abbrev pub PivotFits : Table → ℕ → ℕ → ℕ → ℕ → Type 0
PivotFits t r c i j = i ≢ r → FitsAt c (cell_at t i) (cell_at t r) j

-- cell (i, j) is the first, row by row, at which a pivot on row r and column c makes a number that doesn't fit
pub record IsFirstMisfit (t : Table) (r c i j : ℕ) : Type 0 where
  pub row_there : i ≤ t.height
  pub column_there : j < columns t
  pub misfit : PivotFits t r c i j → ⊥
  pub rows_before : (k l : ℕ) → k < i → l < columns t → PivotFits t r c k l
  pub columns_before : (l : ℕ) → l < j → PivotFits t r c i l

-- u is made of t by a pivot on row r and column c: column c takes the place of the basic column of row r, and u is a tableau of
-- whatever rows t was one of, so its rows are those of the new basis
pub record IsPivot (t : Table) (r c : ℕ) (u : Table) : Type 0 where
  pub unknowns_is : u.unknowns ≡ t.unknowns
  pub height_is : u.height ≡ t.height
  pub basis_is : u.basis ≡ slice_set t.basis r c
  pub keeps : (rows : List LinearRow) → IsTableauOf rows t → IsTableauOf rows u

-- What the functions inside this crate say of rows. No public clause speaks of it.
use Rattle.std.specs.Prelude.{◌↔◌, ℕ, ◌<◌, ◌≤◌, ◌≡◌, ◌≢◌, ◌⊎◌, List, [], get_or, length, ℤ, pos, ◌-ℤ◌, ◌*ℤ◌, ◌<ℤ◌, unsigned_abs}
use Rattle.std.specs.Int.{◌∣◌}
use Rattle.slice_linear.specs.Sums.{at}
use Rattle.slice_tableau.specs.System.{list_column}
use Rattle.slice_tableau.specs.Lex.{IsRatioBelow}
use Rattle.slice_tableau.specs.Cells.{FitsAt}

-- s is m divided by the greatest common divisor of its numbers
pub record IsDivided (m s : ℕ → ℤ) : Type 0 where
  pub divisor : ℕ
  pub above : 0 < divisor
  pub cells : (j : ℕ) → pos divisor *ℤ s j ≡ m j
  pub greatest : (d : ℕ) → (d ∣ divisor) ↔ ((j : ℕ) → d ∣ unsigned_abs (m j))

-- the numbers of row i, none past the last row
abbrev pub row_of : List (List ℤ) → ℕ → List ℤ
row_of rows i = get_or rows i []

-- number j of row i is the first, row by row, that doesn't fit, where the pivot is on row r and column c
pub record FirstUnfit (rows : List (List ℤ)) (r c i j : ℕ) : Type 0 where
  pub row_there : i < length rows
  pub other : i ≢ r
  pub column_there : j < length (row_of rows r)
  pub misfit : FitsAt c (at (row_of rows i)) (at (row_of rows r)) j → ⊥
  pub rows_before : (k l : ℕ) → k < i → k ≢ r → l < length (row_of rows r) → FitsAt c (at (row_of rows k)) (at (row_of rows r)) l
  pub columns_before : (l : ℕ) → l < j → FitsAt c (at (row_of rows i)) (at (row_of rows r)) l

-- the list of a row: the right side, then the slacks, with u unknowns and h slacks
abbrev pub list_of : List (List ℤ) → ℕ → ℕ → ℕ → ℕ → ℤ
list_of rows u h l i = at (row_of rows l) (list_column u h i)

-- the numbers of a column
abbrev pub column_of : List (List ℤ) → ℕ → ℕ → ℤ
column_of rows c l = at (row_of rows l) c

-- the list a divided by p is the list b divided by q
abbrev pub IsRatioSame : ℕ → (ℕ → ℤ) → ℤ → (ℕ → ℤ) → ℤ → Type 0
IsRatioSame n a p b q = (i : ℕ) → i < n → p *ℤ b i -ℤ q *ℤ a i ≡ pos 0

-- among the rows before the count-th with c above 0, r has a least list v over c
pub record IsLeastOf (n count : ℕ) (v : ℕ → ℕ → ℤ) (c : ℕ → ℤ) (r : ℕ) : Type 0 where
  pub in_range : r < count
  pub above : pos 0 <ℤ (c r)
  pub least : (l : ℕ) → l < count → pos 0 <ℤ (c l) → IsRatioSame n (v r) (c r) (v l) (c l) ⊎ IsRatioBelow n (v r) (c r) (v l) (c l)

-- the first of v from .. v (end - 1) that isn't 0 is above 0
pub record IsFirstAbove (from end : ℕ) (v : ℕ → ℤ) : Type 0 where
  pub first : ℕ
  pub not_before : from ≤ first
  pub in_range : first < end
  pub zeros : (j : ℕ) → from ≤ j → j < first → v j ≡ pos 0
  pub above : pos 0 <ℤ (v first)

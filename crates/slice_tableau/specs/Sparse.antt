-- Inside the crate: a row as it is kept, its numbers that aren't 0 with their columns, in order of columns. No public clause speaks
-- of it.
use Rattle.std.specs.Prelude.{ℕ, suc, ◌<◌, ◌≤◌, ◌≢◌, List, [], ◌∷◌, map, cond, nat_eq, ℤ, pos, int_div}
use Rattle.std.specs.List.{range_with_len}
use Rattle.slice_tableau.specs.declared.sparse.Cell.{Cell}

-- the number at a column: that of the cell with this column, 0 where there is none
abbrev pub number_at : List Cell → ℕ → ℤ
number_at [] j = pos 0
number_at (c ∷ cs) j = cond (nat_eq j c.col) c.value (number_at cs j)

-- all numbers of a row with so many columns
abbrev pub dense : ℕ → List Cell → List ℤ
dense width cs = map (number_at cs) (range_with_len 0 width)

-- the columns rise, none is below `from`, all are below `end`, and no number is 0
abbrev pub IsRising : ℕ → ℕ → List Cell → Type 0
IsRising from end [] = Unit {0}
IsRising from end (c ∷ cs) = (from ≤ c.col) × (c.col < end) × (c.value ≢ pos 0) × IsRising (suc c.col) end cs

-- a cell with its number divided by g
abbrev pub over : ℤ → Cell → Cell
over g c = record { col = c.col; value = int_div c.value g }

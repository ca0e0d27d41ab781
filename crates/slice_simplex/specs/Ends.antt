-- What the last tableau of a pivot run tells: multipliers that refute the rows, or a solution of them.
use Rattle.std.specs.Prelude.{ℕ, zero, suc, ◌+◌, ◌/◌, ◌<◌, ◌≤◌, ◌⊎◌, ◌^◌, List, length, map, nat_lt, eqb, cond, if◌then◌else◌, ℤ, pos, ◌*ℤ◌, unsigned_abs}
use Rattle.std.specs.List.{range_with_len}
use Rattle.slice_num.specs.Rational.{Rational, ratio, Fits}
use Rattle.slice_num.specs.Gcd.{lcm_of}
use Rattle.slice_linear.specs.Sums.{sum_to}
use Rattle.slice_linear.specs.Rows.{LinearRow, kind_at}
use Rattle.slice_linear.specs.LowestRow.{reduced}
use Rattle.slice_tableau.specs.Table.{Table, cell_at, basic_at, right_column}
use Rattle.slice_simplex.specs.Slacks.{lines_before, read_off}

-- the objective's number at the right side: 0 where the rows are refuted, above 0 where they have a solution
abbrev pub objective_right : Table → ℤ
objective_right t = cell_at t t.height (right_column t)

-- ---- the end multipliers

-- the objective's number at the k-th slack
abbrev pub slack_at : Table → ℕ → ℤ
slack_at t k = cell_at t t.height (t.unknowns + 1 + k)

-- the end multiplier of row i: the objective's number at the row's slack; of a Zero row, which has two, that at the
-- first less that at the second
abbrev pub end_multiplier : List LinearRow → Table → ℕ → ℤ
end_multiplier rows t i = read_off (kind_at rows i) (slack_at t (lines_before rows i)) (slack_at t (lines_before rows i + 1))

-- the end multipliers, one for each row
abbrev pub end_multipliers : List LinearRow → Table → List ℤ
end_multipliers rows t = map (end_multiplier rows t) (range_with_len 0 (length rows))

-- ---- the end solution

-- the value of the column that is basic in tableau row l: the right side over the basic coefficient, in lowest terms
abbrev pub basic_value : Table → ℕ → Rational
basic_value t l = ratio (cell_at t l (right_column t)) (unsigned_abs (cell_at t l (basic_at t l)))

-- the least common multiple of the denominators of the unknowns that are basic in the first n tableau rows
abbrev pub multiple_to : Table → ℕ → ℕ
multiple_to t zero = 1
multiple_to t (suc n) = if nat_lt (basic_at t n) t.unknowns then lcm_of (multiple_to t n) (basic_value t n).den else multiple_to t n

-- where an unknown is basic in row l, its value times the multiple of all rows, which is whole; else 0
abbrev pub whole_at : Table → ℕ → ℤ
whole_at t l = if nat_lt (basic_at t l) t.unknowns then (basic_value t l).num *ℤ pos (multiple_to t t.height / (basic_value t l).den) else pos 0

-- the same by unknown: 0 where unknown j isn't basic
abbrev pub whole_of : Table → ℕ → ℤ
whole_of t j = sum_to t.height (λ l. cond (eqb (basic_at t l) j) (whole_at t l) (pos 0))

-- the end solution, one number for each unknown: the values at the basis in lowest whole numbers
abbrev pub end_solution : Table → List ℤ
end_solution t = reduced (map (whole_of t) (range_with_len 0 t.unknowns))

-- ---- which of its numbers fit

-- the multiple and all products fit
pub record EndFits (t : Table) : Type 0 where
  pub multiple : multiple_to t t.height < 2 ^ 127
  pub products : (l : ℕ) → l < t.height → Fits (whole_at t l)

-- the multiple of the first i + 1 rows is the first that doesn't fit
pub record IsMultipleUnfit (t : Table) (i : ℕ) : Type 0 where
  pub row_there : i < t.height
  pub unfit : multiple_to t (suc i) < 2 ^ 127 → ⊥
  pub before : (l : ℕ) → l ≤ i → multiple_to t l < 2 ^ 127

-- the multiple fits, and the product of row i is the first that doesn't
pub record IsProductUnfit (t : Table) (i : ℕ) : Type 0 where
  pub row_there : i < t.height
  pub multiple : multiple_to t t.height < 2 ^ 127
  pub unfit : Fits (whole_at t i) → ⊥
  pub before : (l : ℕ) → l < i → Fits (whole_at t l)

-- row i is the first at which a number that makes the end solution doesn't fit, multiples before products
abbrev pub IsEndRowUnfit : Table → ℕ → Type 0
IsEndRowUnfit t i = IsMultipleUnfit t i ⊎ IsProductUnfit t i

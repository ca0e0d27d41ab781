-- Where the slacks of a row stand: a row has a line of the tableau, an equation two, and each line a slack.
use Rattle.std.specs.Prelude.{ℕ, zero, suc, ◌+◌, List, [], ◌∷◌, ℤ, ◌-ℤ◌}
use Rattle.slice_linear.specs.Rows.{LinearRow}
use Rattle.slice_linear.specs.declared.row.RowKind.{RowKind}
use Rattle.slice_linear.specs.declared.row.RowKind.TheVariants.{Zero, AtLeast, Above}

-- how many lines a row of that kind has
abbrev pub line_count : RowKind → ℕ
line_count Zero = 2
line_count AtLeast = 1
line_count Above = 1

-- how many lines the first i rows have
abbrev pub lines_before : List LinearRow → ℕ → ℕ
lines_before [] i = 0
lines_before (r ∷ rs) zero = 0
lines_before (r ∷ rs) (suc i) = line_count r.kind + lines_before rs i

-- the multiplier of a row of that kind, from the objective's numbers at its first slack and the next one
abbrev pub read_off : RowKind → ℤ → ℤ → ℤ
read_off Zero x y = x -ℤ y
read_off AtLeast x y = x
read_off Above x y = x

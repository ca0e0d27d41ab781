-- Inside the crate: the first tableau of rows, as lists of numbers. No public clause speaks of it.
use Rattle.std.specs.Prelude.{ℕ, suc, ◌+◌, List, [], ◌∷◌, map, ℤ}
use Rattle.std.specs.List.{range_with_len}
use Rattle.slice_tableau.specs.System.{Line, line_cell, objective_cell}

-- all the numbers of a line, and of the objective row: w unknowns, m lines
abbrev pub line_items : ℕ → ℕ → ℕ → Line → List ℤ
line_items w m i l = map (line_cell w m i l) (range_with_len 0 (w + m + 3))

abbrev pub objective_items : ℕ → ℕ → List ℤ
objective_items w m = map (objective_cell w m) (range_with_len 0 (w + m + 3))

-- the lines from the n-th on, and the objective row
abbrev pub lines_items : ℕ → ℕ → List Line → ℕ → List (List ℤ)
lines_items w m [] n = objective_items w m ∷ []
lines_items w m (l ∷ ls) n = line_items w m n l ∷ lines_items w m ls (suc n)

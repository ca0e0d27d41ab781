-- The system of a list of rows: its lines, its columns, and the start rows.
use Rattle.std.specs.Prelude.{ℕ, zero, suc, ◌+◌, List, [], ◌∷◌, length, ℤ, pos, negsuc, ◌-ℤ◌, ◌*ℤ◌, cond, nat_lt, nat_eq}
use Rattle.slice_linear.specs.Sums.{at}
use Rattle.slice_linear.specs.Rows.{LinearRow}
use Rattle.slice_linear.specs.declared.row.RowKind.{RowKind}
use Rattle.slice_linear.specs.declared.row.RowKind.TheVariants.{Zero, AtLeast, Above}

-- a line says: sign times the coefficients on the unknowns, and so many times t, and a slack of its own, are together `right`
pub record Line : Type 0 where
  pub sign : ℤ
  pub coefs : List ℤ
  pub t : ℤ
  pub right : ℤ

-- the lines of a row r over x, before the rest: -r*x + s = 0 and then r*x + s = 0 where r*x is 0, -r*x + s = 0 where it is at
-- least 0, -r*x + t + s = 0 where it is above 0
abbrev pub lines_of : RowKind → List ℤ → List Line → List Line
lines_of Zero a rest = record { sign = negsuc 0; coefs = a; t = pos 0; right = pos 0 } ∷ (record { sign = pos 1; coefs = a; t = pos 0; right = pos 0 } ∷ rest)
lines_of AtLeast a rest = record { sign = negsuc 0; coefs = a; t = pos 0; right = pos 0 } ∷ rest
lines_of Above a rest = record { sign = negsuc 0; coefs = a; t = pos 1; right = pos 0 } ∷ rest

-- the lines of the rows in order, and last t + s = 1
abbrev pub lines : List LinearRow → List Line
lines [] = record { sign = pos 1; coefs = []; t = pos 1; right = pos 1 } ∷ []
lines (r ∷ rs) = lines_of r.kind r.coefs (lines rs)

-- columns, with w unknowns and m lines: the unknowns from 0 on, t at w, the slacks from w + 1 on, the right side at w + 1 + m,
-- z at w + 2 + m. Each line has its slack to itself, and the objective row, which comes after the lines, has z
abbrev pub own_column : ℕ → ℕ → ℕ → ℕ
own_column w m i = cond (nat_eq i m) (w + 2 + m) (w + 1 + i)

-- the columns of a row's list: the right side, then the slacks
abbrev pub list_column : ℕ → ℕ → ℕ → ℕ
list_column w m zero = w + 1 + m
list_column w m (suc i) = w + 1 + i

-- line i at column j
abbrev pub line_cell : ℕ → ℕ → ℕ → Line → ℕ → ℤ
line_cell w m i l j = cond (nat_lt j w) (l.sign *ℤ at l.coefs j) (cond (nat_eq j w) l.t (cond (nat_eq j (w + 1 + i)) (pos 1) (cond (nat_eq j (w + 1 + m)) l.right (pos 0))))

-- the objective row at column j: z - t = 0
abbrev pub objective_cell : ℕ → ℕ → ℕ → ℤ
objective_cell w m j = cond (nat_eq j w) (negsuc 0) (cond (nat_eq j (w + 2 + m)) (pos 1) (pos 0))

-- row i at column j of these lines, the first of which is line n, and the objective row after them
abbrev pub lines_cell : ℕ → ℕ → List Line → ℕ → ℕ → ℕ → ℤ
lines_cell w m [] n i j = objective_cell w m j
lines_cell w m (l ∷ ls) n zero j = line_cell w m n l j
lines_cell w m (l ∷ ls) n (suc i) j = lines_cell w m ls (suc n) i j

-- the start rows: the lines of the rows, then the objective row
abbrev pub start_cell : ℕ → List LinearRow → ℕ → ℕ → ℤ
start_cell w rows i j = lines_cell w (length (lines rows)) (lines rows) 0 i j

-- what laws above use: the multiplier of the i-th row, from the numbers y at the slacks; `rest` is that of the rows after the first
abbrev pub multiplier_of : RowKind → ((ℕ → ℤ) → ℕ → ℤ) → (ℕ → ℤ) → ℕ → ℤ
multiplier_of Zero rest y zero = y 0 -ℤ y 1
multiplier_of Zero rest y (suc i) = rest (λ k. y (suc (suc k))) i
multiplier_of AtLeast rest y zero = y 0
multiplier_of AtLeast rest y (suc i) = rest (λ k. y (suc k)) i
multiplier_of Above rest y zero = y 0
multiplier_of Above rest y (suc i) = rest (λ k. y (suc k)) i

abbrev pub multiplier : List LinearRow → (ℕ → ℤ) → ℕ → ℤ
multiplier [] y i = pos 0
multiplier (r ∷ rs) y i = multiplier_of r.kind (multiplier rs) y i

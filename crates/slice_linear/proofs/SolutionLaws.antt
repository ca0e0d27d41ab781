-- Solutions row by row.
use Rattle.std.proofs.Common.{ℕ, zero, suc, ◌<◌, arith, List, [], ◌∷◌, length, ℤ, pos, ◌≤ℤ◌}
use Rattle.std.specs.List.{All}
use Rattle.std.proofs.lemmas.Int.{ints}
use Rattle.slice_linear.specs.Sums.{at}
use Rattle.slice_linear.specs.Rows.{LinearRow, KindHolds, dot, kind_at, coefs_at, IsSolution, Holds, NotBelow, SolutionsHoldRowByRow}

all_at : (xs : List ℤ) → All NotBelow xs → (j : ℕ) → pos 0 ≤ℤ (at xs j)
all_at [] h j = omega (arith, ints)
all_at (x ∷ xs) h zero = h 0 x (omega arith)
all_at (x ∷ xs) h (suc j) = all_at xs (λ i d l. h (suc i) d (omega (arith, l))) j

row_at : (rows : List LinearRow) (xs : List ℤ) → All (Holds xs) rows → (i : ℕ) → i < length rows → KindHolds (kind_at rows i) (dot (coefs_at rows i) xs)
row_at [] xs h i l = absurd (omega (arith, l))
row_at (r ∷ rows) xs h zero l = h 0 r (omega arith)
row_at (r ∷ rows) xs h (suc i) l = row_at rows xs (λ j d m. h (suc j) d (omega (arith, m))) i (omega (arith, l))

pub solution_in : (rows : List LinearRow) (xs : List ℤ) → All NotBelow xs → All (Holds xs) rows → IsSolution rows xs
solution_in rows xs h k = record { none_below = all_at xs h; each_holds = row_at rows xs k }

-- and back
at_all : (xs : List ℤ) → ((j : ℕ) → pos 0 ≤ℤ (at xs j)) → All NotBelow xs
at_all [] h i d l = absurd (omega (arith, l))
at_all (x ∷ xs) h zero d l = h 0
at_all (x ∷ xs) h (suc i) d l = at_all xs (λ j. h (suc j)) i d (omega (arith, l))

at_rows : (rows : List LinearRow) (xs : List ℤ) → ((i : ℕ) → i < length rows → KindHolds (kind_at rows i) (dot (coefs_at rows i) xs)) → All (Holds xs) rows
at_rows [] xs h i d l = absurd (omega (arith, l))
at_rows (r ∷ rows) xs h zero d l = h 0 (omega arith)
at_rows (r ∷ rows) xs h (suc i) d l = at_rows rows xs (λ j m. h (suc j) (omega (arith, m))) i d (omega (arith, l))

pub solution_not_below : (rows : List LinearRow) (xs : List ℤ) → IsSolution rows xs → All NotBelow xs
solution_not_below rows xs s = at_all xs s.none_below

pub solution_holds : (rows : List LinearRow) (xs : List ℤ) → IsSolution rows xs → All (Holds xs) rows
solution_holds rows xs s = at_rows rows xs s.each_holds

pub solutions_hold_row_by_row : SolutionsHoldRowByRow
solutions_hold_row_by_row rows xs = (λ s. (solution_not_below rows xs s, solution_holds rows xs s), λ h. solution_in rows xs h.0 h.1)

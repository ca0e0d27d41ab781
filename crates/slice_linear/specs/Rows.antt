-- Rows of whole coefficients over unknowns that aren't below 0: where they hold, what solves them, and what refutes them.
use Rattle.std.specs.Prelude.{ℕ, zero, suc, ◌<◌, ◌≤◌, ◌≡◌, ◌↔◌, List, [], ◌∷◌, length, ℤ, pos, ◌*ℤ◌, ◌≤ℤ◌, ◌<ℤ◌}
use Rattle.std.specs.List.{All}
use Rattle.slice_num.specs.Rational.{Fits}
use Rattle.slice_linear.specs.Sums.{at, sum_to}
use Rattle.slice_linear.specs.declared.row.RowKind.{RowKind}
use Rattle.slice_linear.specs.declared.row.RowKind.TheVariants.{Zero, AtLeast, Above}

-- a row: its kind, and its coefficients from unknown 0 on
pub record LinearRow : Type 0 where
  pub kind : RowKind
  pub coefs : List ℤ

-- ---- where rows hold

-- a row's sum: coefficients times numbers
abbrev pub dot : List ℤ → List ℤ → ℤ
dot coefs xs = sum_to (length xs) (λ j. at coefs j *ℤ at xs j)

-- every number of that sum fits: each product, and each sum of the first products, in order of the unknowns
pub record DotFits (coefs xs : List ℤ) : Type 0 where
  pub products : (j : ℕ) → j < length xs → Fits (at coefs j *ℤ at xs j)
  pub sums : (j : ℕ) → j ≤ length xs → Fits (sum_to j (λ k. at coefs k *ℤ at xs k))

-- what a row of that kind says of its sum: it is 0, at least 0, above 0
abbrev pub KindHolds : RowKind → ℤ → Type 0
KindHolds Zero s = s ≡ pos 0
KindHolds AtLeast s = pos 0 ≤ℤ s
KindHolds Above s = pos 0 <ℤ s

-- the row holds at these numbers
abbrev pub Holds : List ℤ → LinearRow → Type 0
Holds xs r = KindHolds r.kind (dot r.coefs xs)

-- ---- lists of rows

-- the kind of row i; Zero past the last
abbrev pub kind_at : List LinearRow → ℕ → RowKind
kind_at [] i = Zero
kind_at (r ∷ rs) zero = r.kind
kind_at (r ∷ rs) (suc i) = kind_at rs i

-- the coefficients of row i; none past the last
abbrev pub coefs_at : List LinearRow → ℕ → List ℤ
coefs_at [] i = []
coefs_at (r ∷ rs) zero = r.coefs
coefs_at (r ∷ rs) (suc i) = coefs_at rs i

-- how many unknowns the rows are over: as many as the first has coefficients
abbrev pub width : List LinearRow → ℕ
width rows = length (coefs_at rows 0)

-- what a prover asks of rows: there is one, all are over w unknowns, there is one of these too, and all coefficients fit
pub record AreRowsOver (w : ℕ) (rows : List LinearRow) : Type 0 where
  pub some_row : 0 < length rows
  pub some_unknown : 0 < w
  pub widths : (i : ℕ) → i < length rows → length (coefs_at rows i) ≡ w
  pub fit : (i j : ℕ) → i < length rows → Fits (at (coefs_at rows i) j)

-- a solution: whole numbers, none below 0, at which every row holds
pub record IsSolution (rows : List LinearRow) (xs : List ℤ) : Type 0 where
  pub none_below : (j : ℕ) → pos 0 ≤ℤ (at xs j)
  pub each_holds : (i : ℕ) → i < length rows → KindHolds (kind_at rows i) (dot (coefs_at rows i) xs)

-- the rows have none
abbrev pub HaveNoSolution : List LinearRow → Type 0
HaveNoSolution rows = (xs : List ℤ) → IsSolution rows xs → ⊥

-- ---- what refutes rows

-- what a row of that kind asks of its multiplier: of an equation nothing, else that it isn't below 0
abbrev pub KindTakes : RowKind → ℤ → Type 0
KindTakes Zero m = Unit {0}
KindTakes AtLeast m = pos 0 ≤ℤ m
KindTakes Above m = pos 0 ≤ℤ m

-- a row of that kind is strict
abbrev pub IsAbove : RowKind → Type 0
IsAbove Zero = ⊥
IsAbove AtLeast = ⊥
IsAbove Above = Unit {0}

-- the sum over the rows of multiplier times coefficient, at one unknown
abbrev pub weighted : List LinearRow → List ℤ → ℕ → ℤ
weighted rows m j = sum_to (length rows) (λ i. at m i *ℤ at (coefs_at rows i) j)

-- the multipliers refute the rows: added up with them, the rows would say that a sum of unknowns, none with a
-- coefficient above 0, is above 0 (Motzkin's transposition for unknowns that aren't below 0)
pub record Refutes (rows : List LinearRow) (m : List ℤ) : Type 0 where
  pub same_length : length m ≡ length rows
  pub signs : (i : ℕ) → i < length rows → KindTakes (kind_at rows i) (at m i)
  pub at_most_zero : (j : ℕ) → (weighted rows m j) ≤ℤ pos 0
  pub strict : (i : ℕ) × (i < length rows) × IsAbove (kind_at rows i) × (pos 0 <ℤ (at m i))

-- ---- laws

-- rows that are refuted have no solution
abbrev pub RefutedRowsHaveNoSolution : Type 0
RefutedRowsHaveNoSolution = (rows : List LinearRow) (m : List ℤ) → Refutes rows m → HaveNoSolution rows

-- not below 0
abbrev pub NotBelow : ℤ → Type 0
NotBelow x = pos 0 ≤ℤ x

-- a solution, element by element: no number is below 0, and each row holds
abbrev pub SolutionsHoldRowByRow : Type 0
SolutionsHoldRowByRow = (rows : List LinearRow) (xs : List ℤ) → IsSolution rows xs ↔ (All NotBelow xs × All (Holds xs) rows)

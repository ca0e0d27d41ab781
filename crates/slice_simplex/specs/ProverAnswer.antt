-- The answers of the prover, and when each comes.
use Rattle.std.specs.Prelude.{ℕ, ◌<◌, ◌≤◌, ◌≡◌, ◌⊎◌, List, length, ℤ, pos, ◌<ℤ◌}
use Rattle.slice_num.specs.Rational.{Fits}
use Rattle.slice_linear.specs.Sums.{at}
use Rattle.slice_linear.specs.Rows.{LinearRow, Refutes, IsSolution, width}
use Rattle.slice_linear.specs.LowestRow.{IsInLowestForm}
use Rattle.slice_tableau.specs.Table.{Table, right_column, IsEntering, IsLeaving, IsFirstMisfit}
use Rattle.slice_simplex.specs.Made.{IsEndOf, IsMade, IsLast}
use Rattle.slice_simplex.specs.Ends.{objective_right, end_multipliers, end_solution, EndFits, IsEndRowUnfit}
use Rattle.slice_simplex.specs.declared.prover.Proof.{Proof}
use Rattle.slice_simplex.specs.declared.prover.Proof.TheVariants.{Refuted, Feasible}
use Rattle.slice_simplex.specs.declared.prover.ProveFault.{ProveFault}
use Rattle.slice_simplex.specs.declared.prover.ProveFault.TheVariants.{PivotLimit, Overflow, Memory}

-- ---- what the pivot run of the rows comes to, whatever fits

-- it ends with a right side of 0, and m are its end multipliers
pub record AreEndMultipliers (rows : List LinearRow) (m : List ℤ) : Type 0 where
  pub last : Table
  pub ends : IsEndOf rows last
  pub right_zero : objective_right last ≡ pos 0
  pub multipliers_are : m ≡ end_multipliers rows last

-- it ends with a right side above 0, and xs is its end solution
pub record IsEndSolution (rows : List LinearRow) (xs : List ℤ) : Type 0 where
  pub last : Table
  pub ends : IsEndOf rows last
  pub right_above : pos 0 <ℤ (objective_right last)
  pub solution_is : xs ≡ end_solution last

-- ---- how far it gets

-- it ends within the limit, and all numbers of its pivots fit, and those that make its end solution, where it has one
pub record RunFits (rows : List LinearRow) (limit : ℕ) : Type 0 where
  pub pivots : ℕ
  pub last : Table
  pub ends : IsLast rows pivots last
  pub within : pivots ≤ limit
  pub solution_fits : pos 0 <ℤ (objective_right last) → EndFits last

-- as many lawful pivots as the limit were made, and a further column enters
pub record IsAtLimit (rows : List LinearRow) (limit : ℕ) : Type 0 where
  pub last : Table
  pub made : IsMade rows limit last
  pub col : ℕ
  pub enters : IsEntering last col

-- after that many lawful pivots, fewer than the limit, cell (i, j) is the first at which the next one makes a number that
-- doesn't fit
pub record IsPivotUnfit (rows : List LinearRow) (limit pivots i j : ℕ) : Type 0 where
  pub last : Table
  pub made : IsMade rows pivots last
  pub below : pivots < limit
  pub row : ℕ
  pub col : ℕ
  pub enters : IsEntering last col
  pub leaves : IsLeaving last col row
  pub misfit : IsFirstMisfit last row col i j

-- it ends after that many pivots, within the limit, and row i is the first at which a number that makes the end solution
-- doesn't fit; j is the column of the right side
pub record IsEndUnfit (rows : List LinearRow) (limit pivots i j : ℕ) : Type 0 where
  pub last : Table
  pub ends : IsLast rows pivots last
  pub within : pivots ≤ limit
  pub right_above : pos 0 <ℤ (objective_right last)
  pub column : j ≡ right_column last
  pub unfit : IsEndRowUnfit last i

-- ---- answers

-- an answer, but for want of memory: multipliers; a solution; the limit; how many pivots were made, and the row and the
-- column of the number that doesn't fit
pub data ProverAnswer : Type 0 where
  RefutedBy : List ℤ → ProverAnswer
  SolvedBy : List ℤ → ProverAnswer
  AtLimit : ProverAnswer
  Unfit : ℕ → ℕ → ℕ → ProverAnswer

-- when each comes
abbrev pub IsProverAnswer : List LinearRow → ℕ → ProverAnswer → Type 0
IsProverAnswer rows limit (RefutedBy m) = AreEndMultipliers rows m × RunFits rows limit
IsProverAnswer rows limit (SolvedBy xs) = IsEndSolution rows xs × RunFits rows limit
IsProverAnswer rows limit AtLimit = IsAtLimit rows limit
IsProverAnswer rows limit (Unfit pivots i j) = IsPivotUnfit rows limit pivots i j ⊎ IsEndUnfit rows limit pivots i j

-- the same of what the prover returns
abbrev pub ProofMeans : List LinearRow → ℕ → Proof → Type 0
ProofMeans rows limit (Refuted m) = IsProverAnswer rows limit (RefutedBy m.items)
ProofMeans rows limit (Feasible xs) = IsProverAnswer rows limit (SolvedBy xs.items)

-- and of its refusals; that for want of memory is free
abbrev pub FaultMeans : List LinearRow → ℕ → ProveFault → Type 0
FaultMeans rows limit PivotLimit = IsProverAnswer rows limit AtLimit
FaultMeans rows limit (Overflow pivots i j) = IsProverAnswer rows limit (Unfit pivots i j)
FaultMeans rows limit Memory = Unit {0}

-- ---- what they show, without a word of tableaux

-- a solution of the rows, one number for each unknown, in lowest form
pub record IsLowestSolution (rows : List LinearRow) (xs : List ℤ) : Type 0 where
  pub one_each : length xs ≡ width rows
  pub solves : IsSolution rows xs
  pub lowest : IsInLowestForm xs

-- multipliers that refute the rows, or a solution of them
abbrev pub ProofShows : List LinearRow → Proof → Type 0
ProofShows rows (Refuted m) = Refutes rows m.items
ProofShows rows (Feasible xs) = IsLowestSolution rows xs.items

-- its numbers fit
abbrev pub ProofFits : Proof → Type 0
ProofFits (Refuted m) = (i : ℕ) → Fits (at m.items i)
ProofFits (Feasible xs) = (j : ℕ) → Fits (at xs.items j)

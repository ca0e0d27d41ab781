-- For the clauses of private functions. No public clause speaks of these.
use Rattle.std.specs.Prelude.{ℕ, ◌<◌, ◌≡◌, pos, ◌<ℤ◌, ◌≤ℤ◌}
use Rattle.slice_tableau.specs.Table.{Table, cell_at, basic_at, right_column}
use Rattle.slice_simplex.specs.Ends.{IsEndRowUnfit}
use Rattle.slice_simplex.specs.declared.solution.EndFault.{EndFault}
use Rattle.slice_simplex.specs.declared.solution.EndFault.TheVariants.{Unfit, Memory}

-- different columns are basic, with numbers above 0 there, and no right side is below 0
pub record HasBasis (t : Table) : Type 0 where
  pub basics_in : (l : ℕ) → l < t.height → basic_at t l < right_column t
  pub above : (l : ℕ) → l < t.height → pos 0 <ℤ (cell_at t l (basic_at t l))
  pub apart : (l k : ℕ) → l < t.height → k < t.height → basic_at t l ≡ basic_at t k → l ≡ k
  pub right_not_below : (l : ℕ) → l < t.height → pos 0 ≤ℤ (cell_at t l (right_column t))

-- why an end solution isn't made; want of memory is free
abbrev pub EndFaultMeans : Table → EndFault → Type 0
EndFaultMeans t (Unfit i) = IsEndRowUnfit t i
EndFaultMeans t Memory = Unit {0}

-- What each verdict on multipliers says. The cases exclude one another, and one of them always holds.
use Rattle.std.specs.Prelude.{ℕ, suc, ◌<◌, ◌≡◌, ◌≢◌, List, length, ℤ, pos, ◌*ℤ◌, ◌≤ℤ◌, ◌<ℤ◌}
use Rattle.slice_num.specs.Rational.{Fits}
use Rattle.slice_linear.specs.Sums.{at, sum_to}
use Rattle.slice_linear.specs.Rows.{LinearRow, Refutes, IsAbove, KindTakes, kind_at, coefs_at, weighted, width}
use Rattle.slice_check.specs.declared.verdict.Verdict.{Verdict}
use Rattle.slice_check.specs.declared.verdict.Verdict.TheVariants.{Yes, Length, Sign, Sum, NoStrict, Overflow}

-- all rows are over as many unknowns as the first
abbrev pub HaveOneWidth : List LinearRow → Type 0
HaveOneWidth rows = (i : ℕ) → i < length rows → length (coefs_at rows i) ≡ width rows

-- the first n rows take their multipliers' signs
abbrev pub SignsHold : List LinearRow → List ℤ → ℕ → Type 0
SignsHold rows m n = (i : ℕ) → i < n → KindTakes (kind_at rows i) (at m i)

-- some Above row has a multiplier above 0
abbrev pub HasStrict : List LinearRow → List ℤ → Type 0
HasStrict rows m = (i : ℕ) × (i < length rows) × IsAbove (kind_at rows i) × (pos 0 <ℤ (at m i))

-- the numbers of an unknown's sum over the first n rows fit: each product, and the sum so far with it, in order
abbrev pub SumFitsTo : ℕ → List LinearRow → List ℤ → ℕ → Type 0
SumFitsTo n rows m j = (i : ℕ) → i < n → Fits (at m i *ℤ at (coefs_at rows i) j) × Fits (sum_to (suc i) (λ k. at m k *ℤ at (coefs_at rows k) j))

-- the numbers of its sum over all rows fit
abbrev pub SumFits : List LinearRow → List ℤ → ℕ → Type 0
SumFits rows m j = SumFitsTo (length rows) rows m j

-- the sums of the first n unknowns fit and are at most 0
abbrev pub SumsHold : List LinearRow → List ℤ → ℕ → Type 0
SumsHold rows m n = (j : ℕ) → j < n → SumFits rows m j × ((weighted rows m j) ≤ℤ pos 0)

-- an unknown is the first whose sum doesn't do
abbrev pub SumFails : List LinearRow → List ℤ → Verdict → Type 0
SumFails rows m Yes = ⊥
SumFails rows m Length = ⊥
SumFails rows m (Sign i) = ⊥
SumFails rows m (Sum j) = (j < width rows) × SumsHold rows m j × SumFits rows m j × (pos 0 <ℤ (weighted rows m j))
SumFails rows m NoStrict = ⊥
SumFails rows m (Overflow j) = (j < width rows) × SumsHold rows m j × (SumFits rows m j → ⊥)

-- the numbers and the signs are right
abbrev pub HasSigns : List LinearRow → List ℤ → Type 0
HasSigns rows m = (length m ≡ length rows) × SignsHold rows m (length rows)

-- what a verdict says
abbrev pub IsVerdict : List LinearRow → List ℤ → Verdict → Type 0
IsVerdict rows m Length = length m ≢ length rows
IsVerdict rows m (Sign i) = (length m ≡ length rows) × (i < length rows) × (KindTakes (kind_at rows i) (at m i) → ⊥) × SignsHold rows m i
IsVerdict rows m (Overflow j) = HasSigns rows m × SumFails rows m (Overflow j)
IsVerdict rows m (Sum j) = HasSigns rows m × SumFails rows m (Sum j)
IsVerdict rows m NoStrict = HasSigns rows m × SumsHold rows m (width rows) × (HasStrict rows m → ⊥)
IsVerdict rows m Yes = Refutes rows m × ((j : ℕ) → j < width rows → SumFits rows m j)

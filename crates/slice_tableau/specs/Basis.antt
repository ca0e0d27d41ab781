-- The row of a basis for each of its columns: the one combination of the start rows, in lowest whole numbers, that is above 0
-- there and 0 at the other columns of the basis. No pivot is spoken of.
use Rattle.std.specs.Prelude.{ℕ, ◌<◌, ◌≡◌, ◌≢◌, ℤ, pos, ◌*ℤ◌, ◌<ℤ◌, unsigned_abs}
use Prim.Native.Nat.{◌∣◌}
use Rattle.slice_linear.specs.Sums.{sum_to}

-- A row is told by its number at each column, 0 past the last. There are n start rows, and start row i has a column of its own,
-- `own i`, where it is 1 and the other start rows are 0. So a sum of multiples of the start rows has each multiplier as its
-- number at that row's own column
pub record IsCombination (n : ℕ) (start : ℕ → ℕ → ℤ) (own : ℕ → ℕ) (r : ℕ → ℤ) : Type 0 where
  pub each : (j : ℕ) → r j ≡ sum_to n (λ i. r (own i) *ℤ start i j)

-- the start rows are independent on the columns of a basis: no combination but that of zeros is 0 on all of them
pub record IsIndependent (n : ℕ) (start : ℕ → ℕ → ℤ) (own : ℕ → ℕ) (basis : ℕ → ℕ) : Type 0 where
  pub no_other : (r : ℕ → ℤ) → IsCombination n start own r → ((l : ℕ) → l < n → r (basis l) ≡ pos 0) → (j : ℕ) → r j ≡ pos 0

-- r is the row of the basis for its l-th column
pub record IsBasisRow (n : ℕ) (start : ℕ → ℕ → ℤ) (own : ℕ → ℕ) (basis : ℕ → ℕ) (l : ℕ) (r : ℕ → ℤ) : Type 0 where
  pub combination : IsCombination n start own r
  pub above : pos 0 <ℤ (r (basis l))
  pub elsewhere : (k : ℕ) → k < n → k ≢ l → r (basis k) ≡ pos 0
  pub lowest : (d : ℕ) → ((j : ℕ) → d ∣ unsigned_abs (r j)) → d ≡ 1

-- the columns are a basis, and the table has its rows
pub record IsBasisTable (n : ℕ) (start : ℕ → ℕ → ℤ) (own : ℕ → ℕ) (basis : ℕ → ℕ) (table : ℕ → ℕ → ℤ) : Type 0 where
  pub independent : IsIndependent n start own basis
  pub rows : (l : ℕ) → l < n → IsBasisRow n start own basis l (table l)

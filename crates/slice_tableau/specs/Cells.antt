-- The numbers that a pivot takes on its way.
use Rattle.std.specs.Prelude.{ℕ, ◌≢◌, ℤ, pos, ◌-ℤ◌, ◌*ℤ◌, unsigned_abs}
use Rattle.slice_num.specs.Gcd.{gcd_of, divided}
use Rattle.slice_num.specs.Rational.{Fits}

-- both products and their difference fit
pub record IsCellFit (times x less y : ℤ) : Type 0 where
  pub left : Fits (times *ℤ x)
  pub right : Fits (less *ℤ y)
  pub difference : Fits (times *ℤ x -ℤ less *ℤ y)

-- p over the greatest common divisor of p and a: how often a row is taken that has a where the pivot row has p
abbrev pub times_of : ℤ → ℤ → ℤ
times_of p a = divided p (gcd_of (unsigned_abs p) (unsigned_abs a))

-- a over it: how often the pivot row is taken away from that
abbrev pub less_of : ℤ → ℤ → ℤ
less_of p a = divided a (gcd_of (unsigned_abs p) (unsigned_abs a))

-- the numbers that a pivot on column c of the row `pivot` makes at column j of another row fit. A row with 0 at c makes none
abbrev pub FitsAt : ℕ → (ℕ → ℤ) → (ℕ → ℤ) → ℕ → Type 0
FitsAt c row pivot j = row c ≢ pos 0 → IsCellFit (times_of (pivot c) (row c)) (row j) (less_of (pivot c) (row c)) (pivot j)

-- Inside the crate: what a pivot makes of one row. No public clause speaks of it.
use Rattle.std.specs.Prelude.{ℕ, ◌≡◌, ℤ, pos, ◌-ℤ◌, ◌*ℤ◌, ◌<ℤ◌, unsigned_abs}
use Rattle.std.specs.Int.{◌∣◌}

-- s is what a pivot on row q and column c makes of row r: a multiple of r less a multiple of q, 0 at c, in lowest numbers
pub record IsCleared (c : ℕ) (r q s : ℕ → ℤ) : Type 0 where
  pub divisor : ℤ
  pub times : ℤ
  pub less : ℤ
  pub divisor_above : pos 0 <ℤ divisor
  pub times_above : pos 0 <ℤ times
  pub cells : (j : ℕ) → divisor *ℤ s j ≡ times *ℤ r j -ℤ less *ℤ q j
  pub at_column : times *ℤ r c ≡ less *ℤ q c
  pub lowest : (d : ℕ) → ((j : ℕ) → d ∣ unsigned_abs (s j)) → d ≡ 1

-- a row that a pivot on row q can clear: in lowest numbers, above 0 at a column of its own, at which q is 0
pub record IsClearable (r q : ℕ → ℤ) : Type 0 where
  pub own : ℕ
  pub above : pos 0 <ℤ (r own)
  pub zero : q own ≡ pos 0
  pub lowest : (d : ℕ) → ((j : ℕ) → d ∣ unsigned_abs (r j)) → d ≡ 1

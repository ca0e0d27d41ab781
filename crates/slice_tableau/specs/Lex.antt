-- Lists in the order of a dictionary, told by their numbers.
use Rattle.std.specs.Prelude.{ℕ, ◌<◌, ◌≡◌, ℤ, pos, ◌-ℤ◌, ◌*ℤ◌, ◌<ℤ◌}

-- the list v 0 .. v (n - 1) is above the list of zeros: its first number that isn't 0 is above 0
pub record IsLexAbove (n : ℕ) (v : ℕ → ℤ) : Type 0 where
  pub first : ℕ
  pub in_range : first < n
  pub zeros : (i : ℕ) → i < first → v i ≡ pos 0
  pub above : pos 0 <ℤ (v first)

-- the list a divided by p is below the list b divided by q; p and q are above 0
abbrev pub IsRatioBelow : ℕ → (ℕ → ℤ) → ℤ → (ℕ → ℤ) → ℤ → Type 0
IsRatioBelow n a p b q = IsLexAbove n (λ i. p *ℤ b i -ℤ q *ℤ a i)

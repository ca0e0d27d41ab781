-- Numbers at places of a list, and sums over the first places.
use Rattle.std.specs.Prelude.{ℕ, zero, suc, List, get_or, ℤ, pos, ◌+ℤ◌}

-- the number at a place, 0 past the end
abbrev pub at : List ℤ → ℕ → ℤ
at xs j = get_or xs j (pos 0)

-- f 0 + .. + f (n - 1)
abbrev pub sum_to : ℕ → (ℕ → ℤ) → ℤ
sum_to zero f = pos 0
sum_to (suc n) f = sum_to n f +ℤ f n

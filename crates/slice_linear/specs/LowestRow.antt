-- Fractions as whole numbers in lowest terms: the coefficients of a form's row.
use Rattle.std.specs.Prelude.{ℕ, ◌/◌, ◌≤◌, ◌^◌, ◌==◌, ◌&&◌, nat_lt, Bool, true, if◌then◌else◌, List, [], ◌∷◌, map, ℤ, pos, ◌*ℤ◌, unsigned_abs}
use Rattle.slice_num.specs.Gcd.{gcd_of, divided, lcm_of}
use Rattle.slice_num.specs.Rational.{Rational}
use Rattle.slice_num.specs.Fitting.{fits}

-- the least common multiple of the denominators
abbrev pub common_den : List Rational → ℕ
common_den [] = 1
common_den (q ∷ qs) = lcm_of q.den (common_den qs)

-- a numerator times d over its denominator, which divides d
abbrev pub cleared_at : ℕ → Rational → ℤ
cleared_at d q = q.num *ℤ pos (d / q.den)

-- all of them
abbrev pub cleared : ℕ → List Rational → List ℤ
cleared d qs = map (cleared_at d) qs

-- the greatest common divisor of all; 0 where all are 0
abbrev pub gcd_all : List ℤ → ℕ
gcd_all [] = 0
gcd_all (z ∷ zs) = gcd_of (unsigned_abs z) (gcd_all zs)

-- no number above 1 divides them all, unless all are 0
abbrev pub IsInLowestForm : List ℤ → Type 0
IsInLowestForm zs = gcd_all zs ≤ 1

-- the numbers divided by their greatest common divisor; zeros stay
abbrev pub reduced : List ℤ → List ℤ
reduced zs = if gcd_all zs == 0 then zs else map (λ z. divided z (gcd_all zs)) zs

-- the fractions in lowest whole numbers
abbrev pub lowest : List Rational → List ℤ
lowest qs = reduced (cleared (common_den qs) qs)

-- whether all these numbers fit
abbrev pub all_fit : List ℤ → Bool
all_fit [] = true
all_fit (z ∷ zs) = fits z && all_fit zs

-- whether the numbers that the lowest row is made by fit: the least common multiple, and the products. Their divisor and
-- the quotients are no larger
abbrev pub lowest_fits : List Rational → Bool
lowest_fits qs = nat_lt (common_den qs) (2 ^ 127) && all_fit (cleared (common_den qs) qs)

-- Least common multiples, and fractions in lowest terms.
use Rattle.std.proofs.Common.{ℕ, zero, suc, ◌/◌, ◌≡◌, ap, arith, ℤ, pos, negsuc, ◌<ℤ◌, unsigned_abs}
use Rattle.std.specs.Prelude.{int_div}
use Prim.Native.Nat.{◌∣◌}
use Rattle.std.proofs.lemmas.Int.{ints}
use Rattle.std.proofs.Math.Nat.{dvd-mul_left}
use Rattle.slice_num.specs.Gcd.{gcd_of, lcm_of}
use Rattle.slice_num.specs.Rational.{Rational, ratio}
use Rattle.slice_num.proofs.Ratio.{den_pos}

-- the second number divides it
pub lcm_right : (m n : ℕ) → n ∣ lcm_of m n
lcm_right m n = dvd-mul_left n (m / gcd_of m n)

-- a fraction in lowest terms, as the code makes it
pub ratio_parts : (b p g : ℤ) → pos 0 <ℤ p → g ≡ pos (gcd_of (unsigned_abs b) (unsigned_abs p))
    → (int_div b g ≡ (ratio b (unsigned_abs p)).num) × (int_div p g ≡ pos (ratio b (unsigned_abs p)).den)
unfolding ratio
ratio_parts b (pos zero) g p e = absurd (omega (arith, ints))
ratio_parts b (pos (suc m)) g p e = (ap (λ (x : ℤ). int_div b x) e, ap (λ (x : ℤ). int_div (pos (suc m)) x) e)
ratio_parts b (negsuc m) g p e = absurd (omega (arith, ints))

pub den_above : (q : Rational) → pos 0 <ℤ pos q.den
den_above q = let p = den_pos q in omega (arith, ints)

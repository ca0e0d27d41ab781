use Rattle.std.proofs.Common.{◌≡◌, ◌<◌, ◌^◌, ℕ, ℤ, pos, ◌<ℤ◌, sym, subst, arith, to_z-of_z, Ok, Err, unsigned_abs}
use Rattle.std.proofs.lemmas.Int.{ints}
use Rattle.std.specs.Prelude.{MatchResult, OkIff}
use Rattle.std.specs.declared.result.Result.{Result}
use Rattle.slice_num.specs.Gcd.{lcm_of}
use Rattle.slice_num.specs.Rational.{Fits}
use Rattle.slice_linear.proofs.Multiples.{lcm_pos}
use Rattle.slice_linear.proofs.lowest.with_denominator.Goals as goal

match_of : {E : Type 0} (r : Result ℤ E) (n : ℕ) → 0 < n → OkIff r (Fits (pos n)) (pos n) → MatchResult r (λ m. (m ≡ pos n) × (pos 0 <ℤ m) × (n < 2 ^ 127)) (λ _. n < 2 ^ 127 → ⊥)
match_of (Ok m) n p h = (h.1, subst (λ (z : ℤ). pos 0 <ℤ z) (sym h.1) (omega (arith, ints)), h.0)
match_of (Err e) n p h = h

pub returns : goal.returns
returns c =
    match_of c.lcm.result (lcm_of (unsigned_abs c.args.a) (unsigned_abs c.args.b))
    (let p = c.requires.a_above in let q = c.requires.b_above in lcm_pos (unsigned_abs c.args.a) (unsigned_abs c.args.b) (omega (arith, ints)) (omega (arith, ints)))
    (simp (to_z-of_z c.ranges.a, to_z-of_z c.ranges.b) at c.lcm.ensures)

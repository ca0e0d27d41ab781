-- One step of the walks over the steps of a valuation.
use Rattle.std.proofs.Common.{◌≡◌, ◌≢◌, ◌∙◌, ℕ, zero, suc, ◌+◌, ◌*◌, ◌-◌, ◌<◌, ◌≤◌, ◌^◌, length, List, pos, drop, get_or, true, false, Some, arith, sym, ap, subst, refl}
use Rattle.std.proofs.Math.Seq.{drop-cons}
use Rattle.std.proofs.Math.Numerals.{add-one}
use Rattle.std.proofs.lemmas.List.Elements.{All-get_or}
use Rattle.std.proofs.lemmas.Int.{ints}
use Rattle.slice_num.specs.Rational.{Rational, whole}
use Rattle.slice_num.specs.Fitting.{below}
use Rattle.slice_num.specs.Valuation.{Rises, total_from}
use Rattle.slice_num.proofs.Whole.{whole_num}
use Rattle.slice_step.specs.Arithmetic.{reaches}
use Rattle.slice_step.specs.ValuationShape.{steps, IsSmallValuation}
use Rattle.slice_step.proofs.Steps.{place_from, reached_from}

-- the step at i is passed
pub place_passed : (base start i : ℕ) (es hs : List ℕ) (p : Rational) → i < length es → i < length hs → below (whole (pos (get_or es i 0))) p ≡ true → place_from (base + get_or hs i 0 * (get_or es i 0 - start)) (get_or es i 0) (drop (i + 1) es) (drop (i + 1) hs) p ≡ place_from base start (drop i es) (drop i hs) p
place_passed base start i es hs p m n t = rw (drop-cons es i 0 m, drop-cons hs i 0 n, t, add-one)

pub reached_passed : (base start i : ℕ) (es hs : List ℕ) (target : Rational) → i < length es → i < length hs → reaches base (base + get_or hs i 0 * (get_or es i 0 - start)) target ≡ false → reached_from (base + get_or hs i 0 * (get_or es i 0 - start)) (get_or es i 0) (drop (i + 1) es) (drop (i + 1) hs) target ≡ reached_from base start (drop i es) (drop i hs) target
reached_passed base start i es hs target m n t = rw (drop-cons es i 0 m, drop-cons hs i 0 n, t, add-one)

pub reached_here : (base start i : ℕ) (es hs : List ℕ) (target : Rational) → i < length es → i < length hs → reaches base (base + get_or hs i 0 * (get_or es i 0 - start)) target ≡ true → reached_from base start (drop i es) (drop i hs) target ≡ Some (record { base = base; start = start; height = get_or hs i 0 })
reached_here base start i es hs target m n t = rw (drop-cons es i 0 m, drop-cons hs i 0 n, t)

pub total_passed : (start i : ℕ) (es hs : List ℕ) → i < length es → i < length hs → total_from start (drop i es) (drop i hs) ≡ get_or hs i 0 * (get_or es i 0 - start) + total_from (get_or es i 0) (drop (i + 1) es) (drop (i + 1) hs)
total_passed start i es hs m n = rw (drop-cons es i 0 m, drop-cons hs i 0 n, add-one) refl

rises_at : (low i : ℕ) (es : List ℕ) → i < length es → Rises low (drop i es) → (low < get_or es i 0) × Rises (get_or es i 0) (drop (i + 1) es)
rises_at low i es m h = rw add-one (subst (Rises low) (drop-cons es i 0 m) h)

product_below : (base start end h : ℕ) → base ≤ 10 ^ 18 * start → start < end → h ≤ 10 ^ 18 → base + h * (end - start) ≤ 10 ^ 18 * end
product_below base start end h p q r = by (end - start) (omega arith)
  where
    by : (d : ℕ) → end ≡ start + d → base + h * d ≤ 10 ^ 18 * end
    by d e = omega (arith, ap (λ (x : ℕ). 10 ^ 18 * x) e, mul-le d)
      where
        mul-le : (d : ℕ) → h * d ≤ 10 ^ 18 * d
        mul-le zero = omega arith
        mul-le (suc d) = omega (arith, mul-le d)

-- what stays true of the sum so far
pub record Passed (base start i : ℕ) (es hs : List ℕ) : Type 0 where
  pub in_ends : i < length es
  pub in_heights : i < length hs
  pub low : start < get_or es i 0
  pub high : base + get_or hs i 0 * (get_or es i 0 - start) ≤ 10 ^ 18 * get_or es i 0
  pub near : get_or es i 0 ≤ 10 ^ 6
  pub rises : Rises (get_or es i 0) (drop (i + 1) es)

pub passed : (base start i : ℕ) (es hs : List ℕ) → IsSmallValuation (steps es hs) → i < length es → base ≤ 10 ^ 18 * start → Rises start (drop i es) → Passed base start i es hs
passed base start i es hs small m high rises =
    let n : i < length hs = omega (arith, m, small.0.same_length) in
    let r = rises_at start i es m rises in
    record {
      in_ends = m;
      in_heights = n;
      low = r.0;
      high = product_below base start (get_or es i 0) (get_or hs i 0) high r.0 (All-get_or (λ h. h ≤ 10 ^ 18) hs i 0 n small.1.low);
      near = All-get_or (λ e. e ≤ 10 ^ 6) es i 0 m small.1.near;
      rises = r.1;
    }

-- a whole number above 0 isn't 0
pub whole_some : (n : ℕ) → 0 < n → (whole (pos n)).num ≢ pos 0
whole_some n p e =
    let none : pos n ≡ pos 0 = sym (whole_num (pos n)) ∙ e in
    omega (arith, ints, none, p)

-- What clears a row: the quotients by the common divisor, and the made row in lowest numbers.
use Rattle.std.proofs.Common.{ℕ, zero, suc, ◌*◌, ◌/◌, ◌<◌, ◌≤◌, ◌≡◌, ◌≢◌, ◌∙◌, inl, inr, ap, sym, arith, List, length, ℤ, pos, negsuc, neg_ℤ, ◌*ℤ◌, ◌-ℤ◌, ◌<ℤ◌, unsigned_abs, ◌^◌}
use Rattle.std.specs.Prelude.{int_div}
use Rattle.std.specs.Int.{◌∣◌}
use Rattle.std.proofs.Math.Nat.{mul-div_cancel', mul-le-mul_left}
use Rattle.std.proofs.lemmas.Int.{ints, unsigned_abs-mul}
use Rattle.std.proofs.lemmas.Bool.{cases_lt}
use Rattle.std.proofs.lemmas.List.{get_or_past}
use Rattle.slice_num.specs.Rational.{Fits}
use Rattle.slice_linear.proofs.Ring.{linear, out, mul_neg, mul_zero, mul_pos, cancel_pos}
use Rattle.slice_linear.specs.Sums.{at}
use Rattle.slice_tableau.specs.Cells.{IsCellFit}
use Rattle.slice_tableau.specs.Pivot.{IsCleared}
use Rattle.slice_tableau.specs.Inside.{IsDivided}
use Rattle.slice_tableau.proofs.Cleared.{cleared}

pub exact : (a g : ℤ) → pos 0 <ℤ g → unsigned_abs g ∣ unsigned_abs a → g *ℤ int_div a g ≡ a
exact (pos n) (pos d) p h = ap pos (mul-div_cancel' d h)
exact (negsuc n) (pos d) p h = mul_neg (pos d) (pos (suc n / d)) ∙ ap (λ (x : ℕ). neg_ℤ (pos x)) (mul-div_cancel' d h)
exact a (negsuc d) p h = absurd (omega (arith, ints))

swapped : (g t l : ℤ) → t *ℤ (g *ℤ l) ≡ l *ℤ (g *ℤ t)
swapped g t l = simp out

-- p and a over a common divisor
pub quotients : (p a g : ℤ) → pos 0 <ℤ p → pos 0 <ℤ g → unsigned_abs g ∣ unsigned_abs p → unsigned_abs g ∣ unsigned_abs a
    → (pos 0 <ℤ int_div p g) × (int_div p g *ℤ a ≡ int_div a g *ℤ p)
quotients p a g pp gp dp da =
    let e = exact p g gp dp in
    let f = exact a g gp da in (
      cancel_pos g (int_div p g) gp (rw e pp),
      ap (λ (x : ℤ). int_div p g *ℤ x) (sym f) ∙ swapped g (int_div p g) (int_div a g) ∙ ap (λ (x : ℤ). int_div a g *ℤ x) e,
    )

-- past the end all numbers are 0
pub made_past : (r q m : List ℤ) (t l : ℤ) → length r ≡ length q → length m ≡ length r
    → ((j : ℕ) → j < length r → at m j ≡ t *ℤ at r j -ℤ l *ℤ at q j) → (j : ℕ) → at m j ≡ t *ℤ at r j -ℤ l *ℤ at q j
made_past r q m t l eq em h j = elim (cases_lt j (length r)) [
  | inl lt ↦ h j lt
  | inr ge ↦ let zr = get_or_past r j (pos 0) ge in
      let zq = get_or_past q j (pos 0) (omega arith) in
      let zm = get_or_past m j (pos 0) (omega arith) in
      omega (arith, linear, zm, ap (λ (x : ℤ). t *ℤ x) zr, ap (λ (x : ℤ). l *ℤ x) zq, mul_zero t, mul_zero l)
]

-- the made numbers fit
pub made_fits : (r q m : List ℤ) (t l : ℤ) → length r ≡ length q → length m ≡ length r
    → ((j : ℕ) → j < length r → at m j ≡ t *ℤ at r j -ℤ l *ℤ at q j) → ((j : ℕ) → j < length r → IsCellFit t (at r j) l (at q j)) → (j : ℕ) → Fits (at m j)
made_fits r q m t l eq em h f j = elim (cases_lt j (length r)) [
  | inl lt ↦ rw (h j lt) ((f j lt).difference)
  | inr ge ↦ let zm = get_or_past m j (pos 0) (omega arith) in rw zm (omega arith)
]

-- at the row's own column the made number isn't 0
pub made_nonzero : (x y t l m : ℤ) → pos 0 <ℤ t → pos 0 <ℤ x → y ≡ pos 0 → m ≡ t *ℤ x -ℤ l *ℤ y → m ≢ pos 0
made_nonzero x y t l m tp xp z e = λ h. absurd (omega (arith, linear, mul_pos t x tp xp, ap (λ (v : ℤ). l *ℤ v) z, mul_zero l))

-- so do the numbers in lowest terms
pub divided_fits : (m s : ℕ → ℤ) → IsDivided m s → ((j : ℕ) → Fits (m j)) → (j : ℕ) → Fits (s j)
divided_fits m s d f j =
    let e = sym (unsigned_abs-mul (pos d.divisor) (s j)) ∙ ap unsigned_abs (d.cells j) in
    let p = d.above in
    less d.divisor (unsigned_abs (s j)) (unsigned_abs (m j)) p e (f j)
  where
    less : (g x y : ℕ) → 0 < g → g * x ≡ y → Fits (pos y) → x < 170141183460469231731687303715884105728
    less zero x y p e f = elim p [ ]
    less (suc g) x y p e f = omega arith

-- the cleared row
pub is_cleared : (c : ℕ) (r q m s : ℕ → ℤ) (t l : ℤ) → pos 0 <ℤ t → t *ℤ r c ≡ l *ℤ q c
    → ((j : ℕ) → m j ≡ t *ℤ r j -ℤ l *ℤ q j) → IsDivided m s → IsCleared c r q s
is_cleared c r q m s t l tp at_c made d = cleared c r q m s t l d.divisor tp d.above made at_c d.greatest d.cells

-- a row that is 0 at the column stays
pub stays : (c : ℕ) (r q : ℕ → ℤ) → r c ≡ pos 0 → ((d : ℕ) → ((j : ℕ) → d ∣ unsigned_abs (r j)) → d ≡ 1) → IsCleared c r q r
stays c r q z low = record {
  divisor = pos 1;
  times = pos 1;
  less = pos 0;
  divisor_above = omega (arith, linear);
  times_above = omega (arith, linear);
  cells = λ j. same (r j) (q j);
  at_column = at_zero (r c) (q c) z;
  lowest = low;
}
  where
    same : (x y : ℤ) → pos 1 *ℤ x ≡ pos 1 *ℤ x -ℤ pos 0 *ℤ y
    same x y = omega (arith, ints)

    at_zero : (x y : ℤ) → x ≡ pos 0 → pos 1 *ℤ x ≡ pos 0 *ℤ y
    at_zero x y e = omega (arith, ints)

-- products of small numbers
product_small : (a b : ℤ) → unsigned_abs a < 2 ^ 62 → unsigned_abs b < 2 ^ 62 → unsigned_abs (a *ℤ b) < 2 ^ 124
product_small a b p q = small (unsigned_abs a) (unsigned_abs b) (unsigned_abs (a *ℤ b)) p q (unsigned_abs-mul a b)
  where
    small : (x y z : ℕ) → x < 2 ^ 62 → y < 2 ^ 62 → z ≡ x * y → z < 2 ^ 124
    small x y z p q e =
        let h : x * y ≤ x * 4611686018427387904 = mul-le-mul_left x (omega arith) in
        omega (arith, h)

difference_small : (a b : ℤ) → unsigned_abs a < 2 ^ 124 → unsigned_abs b < 2 ^ 124 → unsigned_abs (a -ℤ b) < 2 ^ 127
difference_small a b p q = omega (arith, ints)

pub small_fits : (t x l y : ℤ) → unsigned_abs t < 2 ^ 62 → unsigned_abs x < 2 ^ 62 → unsigned_abs l < 2 ^ 62 → unsigned_abs y < 2 ^ 62 → IsCellFit t x l y
small_fits t x l y pt px pl py =
    let a = product_small t x pt px in
    let b = product_small l y pl py in
    record { left = omega (arith, a); right = omega (arith, b); difference = difference_small (t *ℤ x) (l *ℤ y) a b }

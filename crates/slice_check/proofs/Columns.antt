-- The sums of an unknown, row by row, and of the unknowns, one by one.
use Rattle.std.proofs.Common.{◌≡◌, ◌≤◌, ◌+◌, ℕ, suc, List, length, ap, subst, arith, ℤ, pos, below_more, ◌*ℤ◌, ◌+ℤ◌, ◌≤ℤ◌, SFits, ◌∙◌}
use Rattle.std.specs.Int.{w128}
use Rattle.std.proofs.Common.{inl, inr}
use Rattle.std.proofs.lemmas.Bool.{cases_lt}
use Rattle.std.proofs.lemmas.List.{get_or_past}
use Rattle.slice_linear.proofs.Ring.{linear, mul_zero}
use Rattle.slice_linear.proofs.SumLaws.{sum_zero}
use Rattle.std.proofs.lemmas.Int.{to_z-of_z}
use Rattle.slice_num.proofs.Wrapped.{W}
use Rattle.slice_num.specs.Rational.{Fits}
use Rattle.slice_linear.specs.Sums.{at, sum_to}
use Rattle.slice_linear.specs.Rows.{LinearRow, coefs_at, weighted, width}
use Rattle.slice_check.specs.Verdicts.{HaveOneWidth, SumFitsTo, SumFits, SumsHold}

pub fits_more : (n : ℕ) (rows : List LinearRow) (m : List ℤ) (j : ℕ) → SumFitsTo n rows m j → Fits (at m n *ℤ at (coefs_at rows n) j) → Fits (sum_to (suc n) (λ k. at m k *ℤ at (coefs_at rows k) j)) → SumFitsTo (n + 1) rows m j
fits_more n rows m j h p q = below_more _ _ h (p, q)

pub holds_more : (n : ℕ) (rows : List LinearRow) (m : List ℤ) → SumsHold rows m n → SumFits rows m n → (weighted rows m n) ≤ℤ pos 0 → SumsHold rows m (n + 1)
holds_more n rows m h p q = below_more _ _ h (p, q)

pub fits_all : (n : ℕ) (rows : List LinearRow) (m : List ℤ) (j : ℕ) → n ≤ length rows → length rows ≤ n → SumFitsTo n rows m j → SumFits rows m j
fits_all n rows m j le ge h i lt = h i (omega arith)

pub total_all : (n : ℕ) (rows : List LinearRow) (m : List ℤ) (j : ℕ) (z : ℤ) → n ≤ length rows → length rows ≤ n → z ≡ sum_to n (λ k. at m k *ℤ at (coefs_at rows k) j) → z ≡ weighted rows m j
total_all n rows m j z le ge e = subst (λ (k : ℕ). z ≡ sum_to k (λ k. at m k *ℤ at (coefs_at rows k) j)) (let s : n ≡ length rows = omega arith in s) e

pub holds_all : (n w : ℕ) (rows : List LinearRow) (m : List ℤ) → w ≤ n → SumsHold rows m n → SumsHold rows m w
holds_all n w rows m le h j lt = h j (omega arith)

-- one more product
pub total_more : (n : ℕ) (rows : List LinearRow) (m : List ℤ) (j : ℕ) (before term next : ℤ) → before ≡ sum_to n (λ k. at m k *ℤ at (coefs_at rows k) j) → term ≡ at m n *ℤ at (coefs_at rows n) j
    → SFits w128 term → SFits w128 next → next ≡ before +ℤ W term → W next ≡ sum_to (n + 1) (λ k. at m k *ℤ at (coefs_at rows k) j)
total_more n rows m j before term next b t ft fn e =
    let w : before +ℤ W term ≡ sum_to (suc n) (λ k. at m k *ℤ at (coefs_at rows k) j) = λ i. b i +ℤ (to_z-of_z w128 term ft ∙ t) i in
    to_z-of_z w128 next fn ∙ e ∙ w ∙ ap (λ (x : ℕ). sum_to x (λ k. at m k *ℤ at (coefs_at rows k) j)) (let s : suc n ≡ n + 1 = omega arith in s)

pub fits_next : (n : ℕ) (rows : List LinearRow) (m : List ℤ) (j : ℕ) (before term : ℤ) → before ≡ sum_to n (λ k. at m k *ℤ at (coefs_at rows k) j) → term ≡ at m n *ℤ at (coefs_at rows n) j
    → SFits w128 term → Fits (before +ℤ W term) → Fits (sum_to (suc n) (λ k. at m k *ℤ at (coefs_at rows k) j))
fits_next n rows m j before term b t ft f =
    let w : before +ℤ W term ≡ sum_to (suc n) (λ k. at m k *ℤ at (coefs_at rows k) j) = λ i. b i +ℤ (to_z-of_z w128 term ft ∙ t) i in
    subst Fits w f

-- past the last unknown the sum is 0
weighted_past : (rows : List LinearRow) (m : List ℤ) (j : ℕ) → HaveOneWidth rows → width rows ≤ j → weighted rows m j ≡ pos 0
weighted_past rows m j r le = sum_zero (length rows) (λ i. at m i *ℤ at (coefs_at rows i) j)
    (λ i lt. ap (λ (x : ℤ). at m i *ℤ x) (get_or_past (coefs_at rows i) j (pos 0) (omega (arith, r i lt))) ∙ mul_zero (at m i))

pub at_most_zero : (rows : List LinearRow) (m : List ℤ) → HaveOneWidth rows → SumsHold rows m (width rows) → (j : ℕ) → (weighted rows m j) ≤ℤ pos 0
at_most_zero rows m r h j = elim (cases_lt j (width rows)) [
  | inl lt ↦ (h j lt).1
  | inr ge ↦ let e = weighted_past rows m j r (omega (arith, ge)) in omega (arith, linear, e)
]

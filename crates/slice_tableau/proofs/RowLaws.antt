-- What is said of a row's cells, said of the list of its numbers.
use Rattle.std.proofs.Common.{ℕ, zero, suc, ◌+◌, ◌-◌, ◌<◌, ◌≤◌, ◌≡◌, ◌∙◌, sym, subst, arith, List, length, ℤ, pos, Option, Ordering, Less, Equal, Greater, ◌*ℤ◌, ◌-ℤ◌, ◌<ℤ◌, ◌≤ℤ◌}
use Rattle.std.specs.Prelude.{MatchOption}
use Rattle.std.specs.Ordering.{MatchOrdering}
use Rattle.slice_tableau.specs.declared.sparse.Cell.{Cell}
use Rattle.slice_tableau.specs.Cells.{IsCellFit}
use Rattle.slice_tableau.specs.Sparse.{dense, IsRising}
use Rattle.slice_tableau.specs.System.{list_column}
use Rattle.slice_tableau.specs.Lex.{IsLexAbove, IsRatioBelow}
use Rattle.slice_tableau.specs.Inside.{IsDivided, IsFirstAbove, IsRatioSame}
use Rattle.slice_tableau.proofs.LeastLaws.{turn}
use Rattle.slice_tableau.proofs.DenseLaws.{wide}

-- the first misfit of two rows with so many columns
abbrev pub IsMisfit : Option ℕ → ℕ → (ℕ → ℤ) → (ℕ → ℤ) → ℤ → ℤ → Type 0
IsMisfit r n f g t l = MatchOption r ((j : ℕ) → j < n → IsCellFit t (f j) l (g j)) (λ c. (c < n) × (IsCellFit t (f c) l (g c) → ⊥) × ((j : ℕ) → j < c → IsCellFit t (f j) l (g j)))

pub misfit_seen : (r : Option ℕ) (n m : ℕ) (f g h k : ℕ → ℤ) (t l : ℤ) → n ≡ m → ((j : ℕ) → f j ≡ h j) → ((j : ℕ) → g j ≡ k j) → IsMisfit r n f g t l → IsMisfit r m h k t l
misfit_seen r n m f g h k t l en ef eg is = coe 0 1 (i. IsMisfit r (en i) (λ j. ef j i) (λ j. eg j i) t l) is

-- the width of one row bounds the cells of another one of the same width
pub same_width : (w x : ℕ) (cs ds : List Cell) (u v : List ℤ) → dense w cs ≡ u → dense x ds ≡ v → length u ≡ length v → IsRising 0 x ds → IsRising 0 w ds
same_width w x cs ds u v eu ev e r = subst (λ n. IsRising 0 n ds) (wide x ds v ev ∙ sym e ∙ sym (wide w cs u eu)) r

-- the slacks decide where the right side doesn't
pub list_above : (u h : ℕ) (v : ℕ → ℤ) → v (u + 1 + h) ≡ pos 0 → IsFirstAbove (u + 1) (u + 1 + h) v → IsLexAbove (suc h) (λ i. v (list_column u h i))
list_above u h v z f = record {
  first = suc (f.first - (u + 1));
  in_range = omega (arith, f.in_range, f.not_before);
  zeros = below;
  above = subst (λ n. pos 0 <ℤ (v n)) (omega (arith, f.not_before)) f.above;
}
  where
    below : (i : ℕ) → i < suc (f.first - (u + 1)) → v (list_column u h i) ≡ pos 0
    below zero lt = z
    below (suc i) lt = f.zeros (u + 1 + i) (omega arith) (omega (arith, f.not_before))

pub right_above : (u h : ℕ) (v : ℕ → ℤ) → pos 0 <ℤ (v (u + 1 + h)) → IsLexAbove (suc h) (λ i. v (list_column u h i))
right_above u h v p = record { first = 0; in_range = omega arith; zeros = λ i lt. absurd (omega arith); above = p }

pub list_same : (u h : ℕ) (v : ℕ → ℤ) → v (u + 1 + h) ≡ pos 0 → ((j : ℕ) → u + 1 ≤ j → j < u + 1 + h → v j ≡ pos 0) → (i : ℕ) → i < suc h → v (list_column u h i) ≡ pos 0
list_same u h v z f zero lt = z
list_same u h v z f (suc i) lt = f (u + 1 + i) (omega arith) (omega arith)

pub divided_seen : (f g h k : ℕ → ℤ) → ((j : ℕ) → f j ≡ h j) → ((j : ℕ) → g j ≡ k j) → IsDivided f g → IsDivided h k
divided_seen f g h k ef eg d = coe 0 1 (i. IsDivided (λ j. ef j i) (λ j. eg j i)) d

abbrev pub IsBelow : Option ℕ → ℕ → (ℕ → ℤ) → Type 0
IsBelow r end f = MatchOption r ((j : ℕ) → j < end → pos 0 ≤ℤ (f j)) (λ c. (c < end) × ((f c) <ℤ pos 0) × ((j : ℕ) → j < c → pos 0 ≤ℤ (f j)))

pub below_seen : (r : Option ℕ) (end : ℕ) (f g : ℕ → ℤ) → ((j : ℕ) → f j ≡ g j) → IsBelow r end f → IsBelow r end g
below_seen r end f g e h = coe 0 1 (i. IsBelow r end (λ j. e j i)) h

abbrev pub IsOrder : Ordering → ℕ → ℕ → ℤ → ℤ → (ℕ → ℤ) → (ℕ → ℤ) → Type 0
IsOrder r from end p q f g = MatchOrdering r (IsFirstAbove from end (λ j. p *ℤ g j -ℤ q *ℤ f j)) ((j : ℕ) → from ≤ j → j < end → p *ℤ g j -ℤ q *ℤ f j ≡ pos 0) (IsFirstAbove from end (λ j. q *ℤ f j -ℤ p *ℤ g j))

list_order : (r : Ordering) (u h : ℕ) (p q : ℤ) (f g : ℕ → ℤ) → p *ℤ g (u + 1 + h) -ℤ q *ℤ f (u + 1 + h) ≡ pos 0 → IsOrder r (u + 1) (u + 1 + h) p q f g
    → MatchOrdering r (IsRatioBelow (suc h) (λ i. f (list_column u h i)) p (λ i. g (list_column u h i)) q) (IsRatioSame (suc h) (λ i. f (list_column u h i)) p (λ i. g (list_column u h i)) q) (IsRatioBelow (suc h) (λ i. g (list_column u h i)) q (λ i. f (list_column u h i)) p)
list_order Less u h p q f g z o = list_above u h (λ j. p *ℤ g j -ℤ q *ℤ f j) z o
list_order Equal u h p q f g z o = list_same u h (λ j. p *ℤ g j -ℤ q *ℤ f j) z o
list_order Greater u h p q f g z o = list_above u h (λ j. q *ℤ f j -ℤ p *ℤ g j) (turn (p *ℤ g (u + 1 + h)) (q *ℤ f (u + 1 + h)) z) o

pub order_seen : (r : Ordering) (u h : ℕ) (p q : ℤ) (f g k l : ℕ → ℤ) → ((j : ℕ) → f j ≡ k j) → ((j : ℕ) → g j ≡ l j) → p *ℤ l (u + 1 + h) -ℤ q *ℤ k (u + 1 + h) ≡ pos 0 → IsOrder r (u + 1) (u + 1 + h) p q f g
    → MatchOrdering r (IsRatioBelow (suc h) (λ i. k (list_column u h i)) p (λ i. l (list_column u h i)) q) (IsRatioSame (suc h) (λ i. k (list_column u h i)) p (λ i. l (list_column u h i)) q) (IsRatioBelow (suc h) (λ i. l (list_column u h i)) q (λ i. k (list_column u h i)) p)
order_seen r u h p q f g k l ef eg z o = list_order r u h p q k l z (coe 0 1 (i. IsOrder r (u + 1) (u + 1 + h) p q (λ j. ef j i) (λ j. eg j i)) o)

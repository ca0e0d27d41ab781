-- The least list of a scan: what one more row changes.
use Rattle.std.proofs.Common.{ℕ, suc, ◌+◌, ◌<◌, ◌≡◌, ◌∙◌, ◌⊎◌, inl, inr, ap, sym, subst, arith, ℤ, pos, ◌+ℤ◌, ◌-ℤ◌, ◌*ℤ◌, ◌<ℤ◌, ◌≤ℤ◌, Option, None, Some, MatchOption, Ordering, Less, Equal, Greater}
use Rattle.std.specs.Ordering.{MatchOrdering, int_cmp}
use Rattle.std.specs.Cmp.{int_cmp_is}
use Rattle.std.proofs.lemmas.Bool.{cases_lt}
use Rattle.slice_linear.proofs.Ring.{linear, out, mul_zero, mul_comm_z, sign}
use Rattle.slice_tableau.specs.Lex.{IsLexAbove, IsRatioBelow}
use Rattle.slice_tableau.specs.Inside.{IsRatioSame, IsLeastOf}
use Rattle.slice_tableau.proofs.LexLaws.{lex_add, lex_scale, lex_part}

-- what the order of two numbers says
pub cmp_out : (x y : ℤ) (r : Ordering) → r ≡ int_cmp x y → MatchOrdering r (x <ℤ y) (x ≡ y) (y <ℤ x)
cmp_out x y r e = elim (sign (x -ℤ y)) [
  | inl below ↦ let h : x <ℤ y = omega (arith, linear) in subst (λ z. MatchOrdering z (x <ℤ y) (x ≡ y) (y <ℤ x)) (int_cmp_is x y Less h ∙ sym e) h
  | inr (inl same) ↦ let h : x ≡ y = omega (arith, linear) in subst (λ z. MatchOrdering z (x <ℤ y) (x ≡ y) (y <ℤ x)) (int_cmp_is x y Equal h ∙ sym e) h
  | inr (inr above) ↦ let h : y <ℤ x = omega (arith, linear) in subst (λ z. MatchOrdering z (x <ℤ y) (x ≡ y) (y <ℤ x)) (int_cmp_is x y Greater h ∙ sym e) h
]

pub ratio_cmp : (x p y q : ℤ) (r : Ordering) → r ≡ int_cmp (x *ℤ q) (y *ℤ p) → MatchOrdering r (pos 0 <ℤ (p *ℤ y -ℤ q *ℤ x)) (p *ℤ y -ℤ q *ℤ x ≡ pos 0) (pos 0 <ℤ (q *ℤ x -ℤ p *ℤ y))
ratio_cmp x p y q r e = turned r (cmp_out (x *ℤ q) (y *ℤ p) r e)
  where
    turned : (r : Ordering) → MatchOrdering r ((x *ℤ q) <ℤ (y *ℤ p)) (x *ℤ q ≡ y *ℤ p) ((y *ℤ p) <ℤ (x *ℤ q)) → MatchOrdering r (pos 0 <ℤ (p *ℤ y -ℤ q *ℤ x)) (p *ℤ y -ℤ q *ℤ x ≡ pos 0) (pos 0 <ℤ (q *ℤ x -ℤ p *ℤ y))
    turned Less h = omega (arith, linear, mul_comm_z x q, mul_comm_z y p)
    turned Equal h = omega (arith, linear, mul_comm_z x q, mul_comm_z y p)
    turned Greater h = omega (arith, linear, mul_comm_z x q, mul_comm_z y p)

both : (p q r u v w : ℤ) → q *ℤ (p *ℤ w -ℤ r *ℤ u) ≡ r *ℤ (p *ℤ v -ℤ q *ℤ u) +ℤ p *ℤ (q *ℤ w -ℤ r *ℤ v)
both p q r u v w = simp out (omega (arith, linear))

plus_zero : (x p y : ℤ) → y ≡ pos 0 → x +ℤ p *ℤ y ≡ x
plus_zero x p y e = omega (arith, linear, ap (λ (z : ℤ). p *ℤ z) e, mul_zero p)

lex_within : (n : ℕ) (v s : ℕ → ℤ) → ((i : ℕ) → i < n → s i ≡ v i) → IsLexAbove n v → IsLexAbove n s
lex_within n v s e a = let lt = a.in_range in record { first = a.first; in_range = lt; zeros = λ i l. e i (omega arith) ∙ a.zeros i l; above = rw (e a.first lt) a.above }

-- below the best is below what the best is at most
pub below_all : (n : ℕ) (a : ℕ → ℤ) (p : ℤ) (b : ℕ → ℤ) (q : ℤ) (c : ℕ → ℤ) (r : ℤ) → pos 0 <ℤ p → pos 0 <ℤ q → pos 0 <ℤ r
    → IsRatioBelow n a p b q → IsRatioSame n b q c r ⊎ IsRatioBelow n b q c r → IsRatioBelow n a p c r
below_all n a p b q c r pp qp rp h k = lex_part n q _ (λ i. p *ℤ c i -ℤ r *ℤ a i) qp (λ i. both p q r (a i) (b i) (c i)) (elim k [
  | inl same ↦ lex_within n (λ i. r *ℤ (p *ℤ b i -ℤ q *ℤ a i)) _ (λ i li. plus_zero (r *ℤ (p *ℤ b i -ℤ q *ℤ a i)) p (q *ℤ c i -ℤ r *ℤ b i) (same i li)) (lex_scale n r _ rp h)
  | inr below ↦ lex_add n (λ i. r *ℤ (p *ℤ b i -ℤ q *ℤ a i)) (λ i. p *ℤ (q *ℤ c i -ℤ r *ℤ b i)) (lex_scale n r _ rp h) (lex_scale n p _ pp below)
])

-- a list is the same as itself
pub ratio_refl : (n : ℕ) (a : ℕ → ℤ) (p : ℤ) → IsRatioSame n a p a p
ratio_refl n a p i li = omega (arith, linear)

pub turn : (x y : ℤ) → x -ℤ y ≡ pos 0 → y -ℤ x ≡ pos 0
turn x y e = omega (arith, linear)

pub ratio_sym : (n : ℕ) (a : ℕ → ℤ) (p : ℤ) (b : ℕ → ℤ) (q : ℤ) → IsRatioSame n a p b q → IsRatioSame n b q a p
ratio_sym n a p b q h i li = turn (p *ℤ b i) (q *ℤ a i) (h i li)

-- the first row with a number above 0
pub first_of : (n row : ℕ) (v : ℕ → ℕ → ℤ) (c : ℕ → ℤ) → ((l : ℕ) → l < row → (c l) ≤ℤ pos 0) → pos 0 <ℤ (c row) → IsLeastOf n (suc row) v c row
first_of n row v c none p = record {
  in_range = omega arith;
  above = p;
  least = λ l ll q. elim (cases_lt l row) [
    | inl before ↦ absurd (let h = none l before in omega (arith, linear))
    | inr after ↦ let e : l ≡ row = omega arith in subst (λ (x : ℕ). IsRatioSame n (v row) (c row) (v x) (c x) ⊎ IsRatioBelow n (v row) (c row) (v x) (c x)) (sym e) (inl (ratio_refl n (v row) (c row)))
  ];
}

-- the next row is below the best
pub next_below : (n row r : ℕ) (v : ℕ → ℕ → ℤ) (c : ℕ → ℤ) → IsLeastOf n row v c r → pos 0 <ℤ (c row) → IsRatioBelow n (v row) (c row) (v r) (c r) → IsLeastOf n (suc row) v c row
next_below n row r v c b p h = record {
  in_range = omega arith;
  above = p;
  least = λ l ll q. elim (cases_lt l row) [
    | inl before ↦ inr (below_all n (v row) (c row) (v r) (c r) (v l) (c l) p b.above q h (b.least l before q))
    | inr after ↦ let e : l ≡ row = omega arith in subst (λ (x : ℕ). IsRatioSame n (v row) (c row) (v x) (c x) ⊎ IsRatioBelow n (v row) (c row) (v x) (c x)) (sym e) (inl (ratio_refl n (v row) (c row)))
  ];
}

-- the next row isn't
pub next_not : (n row r : ℕ) (v : ℕ → ℕ → ℤ) (c : ℕ → ℤ) → IsLeastOf n row v c r → IsRatioSame n (v r) (c r) (v row) (c row) ⊎ IsRatioBelow n (v r) (c r) (v row) (c row) → IsLeastOf n (suc row) v c r
next_not n row r v c b h = record {
  in_range = (let lt = b.in_range in omega arith);
  above = b.above;
  least = λ l ll q. elim (cases_lt l row) [
    | inl before ↦ b.least l before q
    | inr after ↦ let e : l ≡ row = omega arith in subst (λ (x : ℕ). IsRatioSame n (v r) (c r) (v x) (c x) ⊎ IsRatioBelow n (v r) (c r) (v x) (c x)) (sym e) h
  ];
}

-- a row that isn't above 0 changes nothing
pub next_low : (n row : ℕ) (v : ℕ → ℕ → ℤ) (c : ℕ → ℤ) (best : Option ℕ) → (c row) ≤ℤ pos 0
    → MatchOption best ((l : ℕ) → l < row → (c l) ≤ℤ pos 0) (λ r. IsLeastOf n row v c r) → MatchOption best ((l : ℕ) → l < row + 1 → (c l) ≤ℤ pos 0) (λ r. IsLeastOf n (row + 1) v c r)
next_low n row v c None low h = λ l ll. elim (cases_lt l row) [ inl before ↦ h l before | inr after ↦ let e : l ≡ row = omega arith in subst (λ (x : ℕ). (c x) ≤ℤ pos 0) (sym e) low ]
next_low n row v c (Some r) low b = record {
  in_range = (let lt = b.in_range in omega arith);
  above = b.above;
  least = λ l ll q. elim (cases_lt l row) [
    | inl before ↦ b.least l before q
    | inr after ↦ let e : l ≡ row = omega arith in let h : pos 0 <ℤ (c row) = subst (λ (x : ℕ). pos 0 <ℤ (c x)) e q in absurd (omega (arith, linear))
  ];
}

-- The numbers that make the end solution, row by row.
use Rattle.std.proofs.Common.{ℕ, zero, suc, ◌+◌, ◌/◌, ◌<◌, ◌≤◌, ◌≡◌, ◌≢◌, ◌∙◌, ◌^◌, ap, sym, refl, subst, arith, add-one, Bool, cond, eqb, List, [], ◌∷◌, length, set, ℤ, pos, ◌+ℤ◌, ◌*ℤ◌, inl, inr, get_or-set_same, get_or-set_other}
use Rattle.std.proofs.lemmas.Bool.{cases_eq, eq-eqb, ne_eqb, lt-ltb, le-ltb}
use Rattle.std.specs.Prelude.{unsigned_abs}
use Rattle.slice_num.specs.Rational.{Fits}
use Rattle.slice_linear.proofs.Ring.{linear}
use Rattle.slice_linear.proofs.SumLaws.{sum_zero}
use Rattle.slice_linear.specs.Sums.{at, sum_to}
use Rattle.slice_tableau.specs.Table.{Table, basic_at}
use Rattle.slice_num.specs.Gcd.{lcm_of}
use Rattle.slice_simplex.specs.Ends.{basic_value, multiple_to, whole_at}
use Rattle.slice_simplex.specs.Working.{HasBasis}

pub multiple_unknown : (t : Table) (n : ℕ) → basic_at t n < t.unknowns → multiple_to t (n + 1) ≡ lcm_of (multiple_to t n) (basic_value t n).den
multiple_unknown t n lt = ap (multiple_to t) (add-one n) ∙ rw (lt-ltb (basic_at t n) t.unknowns lt) refl

pub multiple_other : (t : Table) (n : ℕ) → t.unknowns ≤ basic_at t n → multiple_to t (n + 1) ≡ multiple_to t n
multiple_other t n le = ap (multiple_to t) (add-one n) ∙ rw (le-ltb (basic_at t n) t.unknowns le) refl

pub whole_unknown : (t : Table) (l : ℕ) → basic_at t l < t.unknowns → whole_at t l ≡ (basic_value t l).num *ℤ pos (multiple_to t t.height / (basic_value t l).den)
whole_unknown t l lt = rw (lt-ltb (basic_at t l) t.unknowns lt) refl

pub whole_other : (t : Table) (l : ℕ) → t.unknowns ≤ basic_at t l → whole_at t l ≡ pos 0
whole_other t l le = rw (le-ltb (basic_at t l) t.unknowns le) refl

-- what row k adds to the number of unknown j
abbrev pub part : Table → ℕ → ℕ → ℤ
part t j k = cond (eqb (basic_at t k) j) (whole_at t k) (pos 0)

part_here : (t : Table) (j k : ℕ) → basic_at t k ≡ j → part t j k ≡ whole_at t k
part_here t j k e = ap (λ (b : Bool). cond b (whole_at t k) (pos 0)) (eq-eqb (basic_at t k) j e)

part_away : (t : Table) (j k : ℕ) → basic_at t k ≢ j → part t j k ≡ pos 0
part_away t j k ne = ap (λ (b : Bool). cond b (whole_at t k) (pos 0)) (ne_eqb (basic_at t k) j ne)

-- the numbers after one more row whose basic column is an unknown
pub numbers_set : (t : Table) (row : ℕ) (xs : List ℤ) (v : ℤ) → HasBasis t → row < t.height → length xs ≡ t.unknowns → v ≡ whole_at t row → basic_at t row < t.unknowns
    → ((j : ℕ) → j < t.unknowns → at xs j ≡ sum_to row (part t j)) → (j : ℕ) → j < t.unknowns → at (set xs (basic_at t row) v) j ≡ sum_to (row + 1) (part t j)
numbers_set t row xs v has lr len is lt each j lj =
    let c = basic_at t row in
    let there : c < length xs = omega arith in
    let more : sum_to (row + 1) (part t j) ≡ sum_to row (part t j) +ℤ part t j row = ap (λ (n : ℕ). sum_to n (part t j)) (add-one row) in
    elim (cases_eq j c) [
      | inl same ↦
          let none : sum_to row (part t j) ≡ pos 0 = sum_zero row (part t j) (λ k lk. part_away t j k (λ e. let s = has.apart k row (omega arith) lr (e ∙ same) in omega arith)) in
          let here = part_here t j row (sym same) in
          ap (λ (x : ℕ). at (set xs c v) x) same ∙ get_or-set_same xs c v (pos 0) there ∙ omega (arith, linear)
      | inr ne ↦
          let away = part_away t j row (λ e. ne (sym e)) in
          get_or-set_other xs c j v (pos 0) ne ∙ each j lj ∙ omega (arith, linear)
    ]

-- and after one whose basic column is no unknown
pub numbers_keep : (t : Table) (row : ℕ) (xs : List ℤ) → t.unknowns ≤ basic_at t row
    → ((j : ℕ) → j < t.unknowns → at xs j ≡ sum_to row (part t j)) → (j : ℕ) → j < t.unknowns → at xs j ≡ sum_to (row + 1) (part t j)
numbers_keep t row xs le each j lj =
    let more : sum_to (row + 1) (part t j) ≡ sum_to row (part t j) +ℤ part t j row = ap (λ (n : ℕ). sum_to n (part t j)) (add-one row) in
    let away = part_away t j row (λ e. omega arith) in
    each j lj ∙ omega (arith, linear)

-- one more row whose basic column is an unknown
pub record IsMultipleAfter (t : Table) (n : ℕ) (m : ℤ) : Type 0 where
  pub value : m ≡ pos (multiple_to t n)
  pub before : (k : ℕ) → k ≤ n → multiple_to t k < 2 ^ 127

before_more : (t : Table) (n : ℕ) → ((k : ℕ) → k ≤ n → multiple_to t k < 2 ^ 127) → multiple_to t (n + 1) < 2 ^ 127 → (k : ℕ) → k ≤ n + 1 → multiple_to t k < 2 ^ 127
before_more t n h more k le = elim (cases_eq k (n + 1)) [
  | inl same ↦ subst (λ (x : ℕ). multiple_to t x < 2 ^ 127) (sym same) more
  | inr ne ↦ h k (omega arith)
]

pub multiple_taken : (t : Table) (n : ℕ) (m den more : ℤ) → basic_at t n < t.unknowns → m ≡ pos (multiple_to t n) → den ≡ pos (basic_value t n).den → ((k : ℕ) → k ≤ n → multiple_to t k < 2 ^ 127)
    → more ≡ pos (lcm_of (unsigned_abs m) (unsigned_abs den)) → lcm_of (unsigned_abs m) (unsigned_abs den) < 2 ^ 127 → IsMultipleAfter t (n + 1) more
multiple_taken t n m den more lt e f h is fits =
    let next : lcm_of (unsigned_abs m) (unsigned_abs den) ≡ multiple_to t (n + 1) = (λ i. lcm_of (unsigned_abs (e i)) (unsigned_abs (f i))) ∙ sym (multiple_unknown t n lt) in
    record { value = is ∙ ap pos next; before = before_more t n h (subst (λ (x : ℕ). x < 2 ^ 127) next fits) }

pub multiple_kept : (t : Table) (n : ℕ) (m : ℤ) → t.unknowns ≤ basic_at t n → m ≡ pos (multiple_to t n) → ((k : ℕ) → k ≤ n → multiple_to t k < 2 ^ 127) → IsMultipleAfter t (n + 1) m
multiple_kept t n m le e h =
    let same = multiple_other t n le in
    record { value = e ∙ ap pos (sym same); before = before_more t n h (subst (λ (x : ℕ). x < 2 ^ 127) (sym same) (h n (omega arith))) }

pub fits_set : (xs : List ℤ) (i : ℕ) (v : ℤ) → ((j : ℕ) → Fits (at xs j)) → Fits v → (j : ℕ) → Fits (at (set xs i v) j)
fits_set [] i v f g j = f j
fits_set (x ∷ xs) zero v f g zero = g
fits_set (x ∷ xs) zero v f g (suc j) = f (suc j)
fits_set (x ∷ xs) (suc i) v f g zero = f 0
fits_set (x ∷ xs) (suc i) v f g (suc j) = fits_set xs i v (λ k. f (suc k)) g j

pub products_more : (t : Table) (row : ℕ) → ((k : ℕ) → k < row → Fits (whole_at t k)) → Fits (whole_at t row) → (k : ℕ) → k < row + 1 → Fits (whole_at t k)
products_more t row h here k lk = elim (cases_eq k row) [
  | inl same ↦ subst (λ (x : ℕ). Fits (whole_at t x)) (sym same) here
  | inr ne ↦ h k (omega arith)
]

-- A column enters or none does, and for one that enters a row leaves.
use Rattle.std.proofs.Common.{ℕ, zero, suc, ◌<◌, ◌≡◌, sym, subst, arith, List, ℤ, pos, ◌-ℤ◌, ◌*ℤ◌, neg_ℤ, ◌<ℤ◌, ◌≤ℤ◌, ◌⊎◌, inl, inr}
use Rattle.std.proofs.lemmas.Bool.{cases_eq}
use Rattle.slice_linear.proofs.Ring.{linear}
use Rattle.slice_linear.specs.Rows.{LinearRow}
use Rattle.slice_tableau.specs.Inside.{IsLeastOf}
use Rattle.slice_tableau.specs.Table.{Table, IsTableauOf, IsEntering, IsLeaving, NoneEnters, cell_at, list_at, right_column}
use Rattle.slice_tableau.proofs.LexLaws.{lex_cases, lex_same}
use Rattle.slice_tableau.proofs.LeastLaws.{first_of, next_below, next_not}
use Rattle.slice_tableau.proofs.LeavingLaws.{some_leaves, leaves_alone}
use Rattle.slice_simplex.proofs.FirstNot.{first_not, above_or_not, tell_not_below, below_of_not}

pub some_column : (t : Table) → NoneEnters t ⊎ ((c : ℕ) × IsEntering t c)
some_column t = elim (first_not (λ j. pos 0 ≤ℤ (cell_at t t.height j)) (λ j. tell_not_below (cell_at t t.height j)) (right_column t)) [
  | inl none ↦ inl none
  | inr some ↦ inr (some.0, record { in_range = some.1.in_range; below = below_of_not (cell_at t t.height some.0) some.1.not; least = some.1.before })
]

-- a row that isn't above 0 changes nothing
next_low : (n row r : ℕ) (v : ℕ → ℕ → ℤ) (c : ℕ → ℤ) → (c row) ≤ℤ pos 0 → IsLeastOf n row v c r → IsLeastOf n (suc row) v c r
next_low n row r v c low b = record {
  in_range = (let lt = b.in_range in omega arith);
  above = b.above;
  least = λ l ll p. elim (cases_eq l row) [
    | inl same ↦ absurd (let h : pos 0 <ℤ (c row) = subst (λ (x : ℕ). pos 0 <ℤ (c x)) same p in omega (arith, linear))
    | inr ne ↦ b.least l (omega arith) p
  ];
}

none_more : (row : ℕ) (c : ℕ → ℤ) → (c row) ≤ℤ pos 0 → ((l : ℕ) → l < row → (c l) ≤ℤ pos 0) → (l : ℕ) → l < suc row → (c l) ≤ℤ pos 0
none_more row c low none l ll = elim (cases_eq l row) [
  | inl same ↦ subst (λ (x : ℕ). (c x) ≤ℤ pos 0) (sym same) low
  | inr ne ↦ none l (omega arith)
]

turned : (x y : ℤ) → x -ℤ y ≡ neg_ℤ (y -ℤ x)
turned x y = omega (arith, linear)

-- the better one of the best so far and the next row
one_more : (n row r : ℕ) (v : ℕ → ℕ → ℤ) (c : ℕ → ℤ) → IsLeastOf n row v c r → pos 0 <ℤ (c row) → (s : ℕ) × IsLeastOf n (suc row) v c s
one_more n row r v c b above = elim (lex_cases n (λ i. c r *ℤ v row i -ℤ c row *ℤ v r i)) [
  | inl same ↦ (r, next_not n row r v c b (inl same))
  | inr (inl more) ↦ (r, next_not n row r v c b (inr more))
  | inr (inr less) ↦ (row, next_below n row r v c b above (lex_same n _ (λ i. c row *ℤ v r i -ℤ c r *ℤ v row i) (λ i. turned (c row *ℤ v r i) (c r *ℤ v row i)) less))
]

-- among the first rows the least list of those with a number above 0
some_least : (n count : ℕ) (v : ℕ → ℕ → ℤ) (c : ℕ → ℤ) → ((l : ℕ) → l < count → (c l) ≤ℤ pos 0) ⊎ ((r : ℕ) × IsLeastOf n count v c r)
some_least n zero v c = inl (λ l ll. absurd (omega arith))
some_least n (suc row) v c = elim (some_least n row v c) [
  | inl none ↦ elim (above_or_not (c row)) [
    | inl above ↦ inr (row, first_of n row v c none above)
    | inr low ↦ inl (none_more row c low none)
  ]
  | inr some ↦ elim (above_or_not (c row)) [
    | inl above ↦ inr (one_more n row some.0 v c some.1 above)
    | inr low ↦ inr (some.0, next_low n row some.0 v c low some.1)
  ]
]

pub some_row : (rows : List LinearRow) (t : Table) (col : ℕ) → IsTableauOf rows t → IsEntering t col → (r : ℕ) × IsLeaving t col r
some_row rows t col of enters = elim (some_least (suc t.height) t.height (list_at t) (λ l. cell_at t l col)) [
  | inl none ↦ absurd (some_leaves rows t col of enters none)
  | inr some ↦ (some.0, leaves_alone rows t col some.0 of some.1)
]

-- Rows have an answer of the prover, for each limit: their pivot run ends, or it reaches the limit, or a number doesn't fit.
use Rattle.std.proofs.Common.{ℕ, zero, suc, ◌+◌, ◌<◌, ◌≤◌, ◌≡◌, ◌^◌, refl, subst, arith, List, ℤ, pos, ◌-ℤ◌, ◌*ℤ◌, ◌<ℤ◌, ◌⊎◌, inl, inr}
use Rattle.std.proofs.lemmas.Bool.{cases_eq}
use Rattle.slice_num.specs.Rational.{Fits}
use Rattle.slice_linear.proofs.Ring.{linear, sign}
use Rattle.slice_linear.specs.Rows.{LinearRow}
use Rattle.slice_tableau.specs.Cells.{IsCellFit, FitsAt, times_of, less_of}
use Rattle.slice_tableau.specs.Table.{Table, IsFirstMisfit, PivotFits, cell_at, columns, right_column}
use Rattle.slice_simplex.specs.Made.{IsMade, IsLast}
use Rattle.slice_simplex.specs.Ends.{objective_right, end_multipliers, end_solution, multiple_to, whole_at, EndFits, IsEndRowUnfit}
use Rattle.slice_simplex.specs.ProverAnswer.{ProverAnswer, RefutedBy, SolvedBy, AtLimit, Unfit, IsProverAnswer}
use Rattle.slice_simplex.proofs.FirstNot.{IsFirstNot, first_not, tell_zero, tell_below, tell_fits}
use Rattle.slice_simplex.proofs.SomeRow.{some_column, some_row}
use Rattle.slice_simplex.proofs.SomeStep.{some_first, some_step}
use Rattle.slice_simplex.proofs.Made.{made_none, made_of, made_more, fits_all, end_of}
use Rattle.slice_simplex.proofs.EndFacts.{objective_right_not_below}

-- rows have an answer
abbrev HasAnswer : List LinearRow → ℕ → Type 0
HasAnswer rows limit = (a : ProverAnswer) × IsProverAnswer rows limit a

-- ---- whether a pivot's numbers fit

tell_cell : (times x less y : ℤ) → IsCellFit times x less y ⊎ (IsCellFit times x less y → ⊥)
tell_cell times x less y = elim (tell_fits (times *ℤ x)) [
  | inr not ↦ inr (λ f. not f.left)
  | inl left ↦ elim (tell_fits (less *ℤ y)) [
    | inr not ↦ inr (λ f. not f.right)
    | inl right ↦ elim (tell_fits (times *ℤ x -ℤ less *ℤ y)) [
      | inr not ↦ inr (λ f. not f.difference)
      | inl difference ↦ inl record { left = left; right = right; difference = difference }
    ]
  ]
]

tell_at : (c : ℕ) (row pivot : ℕ → ℤ) (j : ℕ) → FitsAt c row pivot j ⊎ (FitsAt c row pivot j → ⊥)
tell_at c row pivot j = elim (tell_zero (row c)) [
  | inl same ↦ inl (λ ne. absurd (ne same))
  | inr ne ↦ elim (tell_cell (times_of (pivot c) (row c)) (row j) (less_of (pivot c) (row c)) (pivot j)) [
    | inl fit ↦ inl (λ _. fit)
    | inr not ↦ inr (λ f. not (f ne))
  ]
]

tell_pivot : (t : Table) (r c i j : ℕ) → PivotFits t r c i j ⊎ (PivotFits t r c i j → ⊥)
tell_pivot t r c i j = elim (tell_at c (cell_at t i) (cell_at t r) j) [
  | inl fit ↦ inl (λ _. fit)
  | inr not ↦ elim (cases_eq i r) [
    | inl same ↦ inl (λ ne. absurd (ne same))
    | inr ne ↦ inr (λ f. not (f ne))
  ]
]

-- the numbers that a pivot makes in row i fit
abbrev RowFits : Table → ℕ → ℕ → ℕ → Type 0
RowFits t r c i = (j : ℕ) → j < columns t → PivotFits t r c i j

first_in_row : (t : Table) (r c i : ℕ) → RowFits t r c i ⊎ ((j : ℕ) × IsFirstNot (PivotFits t r c i) (columns t) j)
first_in_row t r c i = first_not (PivotFits t r c i) (tell_pivot t r c i) (columns t)

tell_row : (t : Table) (r c i : ℕ) → RowFits t r c i ⊎ (RowFits t r c i → ⊥)
tell_row t r c i = elim (first_in_row t r c i) [
  | inl fit ↦ inl fit
  | inr some ↦ inr (λ f. some.1.not (f some.0 some.1.in_range))
]

-- all of them, or there is a first cell at which they don't
some_misfit : (t : Table) (r c : ℕ) → ((i j : ℕ) → i ≤ t.height → j < columns t → PivotFits t r c i j) ⊎ ((i : ℕ) × (j : ℕ) × IsFirstMisfit t r c i j)
some_misfit t r c = elim (first_not (RowFits t r c) (tell_row t r c) (suc t.height)) [
  | inl all ↦ inl (λ i j li lj. all i (omega arith) j lj)
  | inr some ↦ elim (first_in_row t r c some.0) [
    | inl fit ↦ absurd (some.1.not fit)
    | inr at ↦ inr (
      some.0,
      at.0,
      record {
        row_there = (let lt = some.1.in_range in omega arith);
        column_there = at.1.in_range;
        misfit = at.1.not;
        rows_before = λ k l lk ll. some.1.before k lk l ll;
        columns_before = at.1.before;
      },
    )
  ]
]

-- ---- whether the numbers that make the end solution fit

multiples : (t : Table) → multiple_to t t.height < 2 ^ 127 ⊎ ((i : ℕ) × IsEndRowUnfit t i)
multiples t = elim (first_not (λ l. multiple_to t l < 2 ^ 127) (λ l. tell_below (multiple_to t l) (2 ^ 127)) (suc t.height)) [
  | inl all ↦ inl (all t.height (omega arith))
  | inr some ↦ inr (unfit some.0 some.1)
]
  where
    unfit : (i : ℕ) → IsFirstNot (λ l. multiple_to t l < 2 ^ 127) (suc t.height) i → (i : ℕ) × IsEndRowUnfit t i
    unfit zero h = absurd (h.not (omega arith))
    unfit (suc i) h = (i, inl record { row_there = (let lt = h.in_range in omega arith); unfit = h.not; before = λ l le. h.before l (omega arith) })

end_fits : (t : Table) → EndFits t ⊎ ((i : ℕ) × IsEndRowUnfit t i)
end_fits t = elim (multiples t) [
  | inr some ↦ inr some
  | inl multiple ↦ elim (first_not (λ l. Fits (whole_at t l)) (λ l. tell_fits (whole_at t l)) t.height) [
    | inl products ↦ inl record { multiple = multiple; products = products }
    | inr some ↦ inr (some.0, inr record { row_there = some.1.in_range; multiple = multiple; unfit = some.1.not; before = some.1.before })
  ]
]

-- ---- the run

-- at its end the rows are refuted or solved, or a number that makes the end solution doesn't fit
refuted : (rows : List LinearRow) (limit n : ℕ) (t : Table) → IsLast rows n t → n ≤ limit → objective_right t ≡ pos 0 → HasAnswer rows limit
refuted rows limit n t last le same = (
  RefutedBy (end_multipliers rows t),
  (
    record { last = t; ends = end_of rows n t last; right_zero = same; multipliers_are = refl },
    record { pivots = n; last = t; ends = last; within = le; solution_fits = λ p. absurd (omega (arith, linear)) },
  ),
)

solved : (rows : List LinearRow) (limit n : ℕ) (t : Table) → IsLast rows n t → n ≤ limit → pos 0 <ℤ (objective_right t) → EndFits t → HasAnswer rows limit
solved rows limit n t last le above fits = (
  SolvedBy (end_solution t),
  (
    record { last = t; ends = end_of rows n t last; right_above = above; solution_is = refl },
    record { pivots = n; last = t; ends = last; within = le; solution_fits = λ p. fits },
  ),
)

answer_at_end : (rows : List LinearRow) (limit n : ℕ) (t : Table) → IsLast rows n t → n ≤ limit → HasAnswer rows limit
answer_at_end rows limit n t last le =
    let high = objective_right_not_below rows t (end_of rows n t last) in
    elim (sign (objective_right t)) [
      | inl below ↦ absurd (omega (arith, linear))
      | inr (inl same) ↦ refuted rows limit n t last le same
      | inr (inr above) ↦ elim (end_fits t) [
        | inl fits ↦ solved rows limit n t last le above fits
        | inr some ↦ (Unfit n some.0 (right_column t), inr record { last = t; ends = last; within = le; right_above = above; column = refl; unfit = some.1 })
      ]
    ]

-- so many pivots before the limit: none follows, the next one makes a number that doesn't fit, or the run goes on
answer_from : (rows : List LinearRow) (limit more n : ℕ) (t : Table) → n + more ≡ limit → IsMade rows n t → HasAnswer rows limit
answer_from rows limit zero n t e made = elim (some_column t) [
  | inl none ↦ answer_at_end rows limit n t record { made = made; none = none } (omega arith)
  | inr col ↦ (AtLimit, record { last = t; made = subst (λ (x : ℕ). IsMade rows x t) (the_limit n limit e) made; col = col.0; enters = col.1 })
]
  where
    the_limit : (n limit : ℕ) → n + zero ≡ limit → n ≡ limit
    the_limit n limit e = omega arith
answer_from rows limit (suc more) n t e made = elim (some_column t) [
  | inl none ↦ answer_at_end rows limit n t record { made = made; none = none } (omega arith)
  | inr col ↦
      let of = made_of rows n t made in
      let row = some_row rows t col.0 of col.1 in
      elim (some_misfit t row.0 col.0) [
        | inr cell ↦ (Unfit n cell.0 cell.1, inl record { last = t; made = made; below = omega arith; row = row.0; col = col.0; enters = col.1; leaves = row.1; misfit = cell.2 })
        | inl fit ↦
            let next = some_step rows t row.0 col.0 of col.1 row.1 in
            answer_from rows limit more (n + 1) next.0 (omega arith) (made_more rows n t next.0 made next.1 (fits_all t row.0 col.0 col.1 row.1 fit))
      ]
]

pub answer_exists : (rows : List LinearRow) (limit : ℕ) → (a : ProverAnswer) × IsProverAnswer rows limit a
answer_exists rows limit = let first = some_first rows in answer_from rows limit limit 0 first.0 (omega arith) (made_none rows first.0 first.1)

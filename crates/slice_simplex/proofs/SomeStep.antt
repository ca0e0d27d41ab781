-- Rows have a first tableau, and each lawful choice of a row and a column leads to a next one.
use Rattle.std.proofs.Common.{ℕ, suc, ◌+◌, ◌<◌, ◌≤◌, ◌≡◌, ◌≢◌, ◌∙◌, ap, sym, refl, subst, arith, cond, eqb, List, [], length, map, get_or, ℤ, pos, ◌-ℤ◌, ◌*ℤ◌, ◌<ℤ◌, unsigned_abs, inl, inr}
use Prim.Native.Nat.{◌∣◌}
use Rattle.std.specs.List.{range_with_len}
use Rattle.std.proofs.lemmas.Bool.{cases_eq, eq-eqb, ne_eqb}
use Rattle.std.proofs.lemmas.Int.{ints}
use Rattle.std.proofs.lemmas.List.{length-set}
use Rattle.std.proofs.lemmas.List.FromFn.{length-map-range_with_len, get_or-map-range_with_len}
use Rattle.std.proofs.lemmas.Nat.Gcd.{dvd_trans, dvd-zero, le_of_dvd}
use Rattle.std.proofs.Math.Nat.{eq-one_of_dvd-one}
use Rattle.slice_linear.specs.Sums.{at}
use Rattle.slice_linear.specs.Rows.{LinearRow, width}
use Rattle.slice_linear.specs.LowestRow.{gcd_all, reduced}
use Rattle.slice_linear.proofs.Ring.{mul_comm_z, zero_mul}
use Rattle.slice_linear.proofs.Reduced.{gcd_all_divides, gcd_all_greatest, reduced_is}
use Rattle.slice_tableau.specs.System.{lines, own_column}
use Rattle.slice_tableau.specs.First.{lines_items}
use Rattle.slice_tableau.specs.Pivot.{IsCleared, IsClearable}
use Rattle.slice_tableau.specs.Table.{Table, HasSizes, IsTableauOf, IsFirst, IsEntering, IsLeaving, cell_at, columns}
use Rattle.slice_tableau.specs.Run.{IsLawfulStep}
use Rattle.slice_tableau.proofs.FirstTableau.{first_is}
use Rattle.slice_tableau.proofs.PivotTable.{after, pivoted, clearable}
use Rattle.slice_tableau.proofs.ClearLaws.{made_past, made_nonzero}

-- ---- the first tableau

pub some_first : (rows : List LinearRow) → (t : Table) × IsFirst rows t
some_first rows =
    let w = width rows in
    let h = length (lines rows) in
    let basis : List ℕ = map (own_column w h) (range_with_len 0 (h + 1)) in (
      record { unknowns = w; height = h; cells = lines_items w h (lines rows) 0; basis = basis },
      first_is rows w h (lines_items w h (lines rows) 0) basis refl refl refl (length-map-range_with_len (own_column w h) 0 (h + 1))
          (λ l le. get_or-map-range_with_len (own_column w h) 0 (h + 1) l l 0 (omega arith) (omega arith)),
    )

-- ---- one row

abs_above : (z : ℤ) → z ≢ pos 0 → 0 < unsigned_abs z
abs_above z ne = elim (cases_eq (unsigned_abs z) 0) [
  | inl none ↦ absurd (ne (omega (arith, ints)))
  | inr some ↦ omega arith
]

-- numbers in lowest form that aren't all 0: only 1 divides them all
lowest_one : (xs : List ℤ) (own : ℕ) → at xs own ≢ pos 0 → gcd_all xs ≤ 1 → (d : ℕ) → ((j : ℕ) → d ∣ unsigned_abs (at xs j)) → d ≡ 1
lowest_one xs own ne le d h = elim (cases_eq (gcd_all xs) 0) [
  | inl none ↦ absurd (
      let big = suc (unsigned_abs (at xs own)) in
      let there : big ∣ gcd_all xs = subst (λ (x : ℕ). big ∣ x) (sym none) (dvd-zero big) in
      let small = le_of_dvd (abs_above (at xs own) ne) (dvd_trans big there (gcd_all_divides xs own)) in
      omega arith)
  | inr some ↦ let one : gcd_all xs ≡ 1 = omega arith in eq-one_of_dvd-one (subst (λ (x : ℕ). d ∣ x) one (gcd_all_greatest xs d h))
]

-- of row r by row q: 0 at column c
abbrev made_cell : ℕ → List ℤ → List ℤ → ℕ → ℤ
made_cell c r q j = at q c *ℤ at r j -ℤ at r c *ℤ at q j

abbrev made_row : ℕ → ℕ → List ℤ → List ℤ → List ℤ
made_row n c r q = map (made_cell c r q) (range_with_len 0 n)

-- in lowest numbers
abbrev cleared_row : ℕ → ℕ → List ℤ → List ℤ → List ℤ
cleared_row n c r q = reduced (made_row n c r q)

made_at : (n c : ℕ) (r q : List ℤ) → length r ≡ n → length q ≡ n → (j : ℕ) → at (made_row n c r q) j ≡ made_cell c r q j
made_at n c r q lr lq = made_past r q (made_row n c r q) (at q c) (at r c) (lr ∙ sym lq) (length-map-range_with_len (made_cell c r q) 0 n ∙ sym lr)
    (λ j lt. get_or-map-range_with_len (made_cell c r q) 0 n j j (pos 0) (omega arith) (omega arith))

row_wide : (n c : ℕ) (r q : List ℤ) → length (cleared_row n c r q) ≡ n
row_wide n c r q = (reduced_is (made_row n c r q)).same_length ∙ length-map-range_with_len (made_cell c r q) 0 n

row_cleared : (n c : ℕ) (r q : List ℤ) → length r ≡ n → length q ≡ n → pos 0 <ℤ (at q c) → IsClearable (at r) (at q) → IsCleared c (at r) (at q) (at (cleared_row n c r q))
row_cleared n c r q lr lq above k =
    let x = reduced_is (made_row n c r q) in
    let s = cleared_row n c r q in
    let made = made_at n c r q lr lq in
    let g = x.above in
    let ne : at s k.own ≢ pos 0 = λ e. made_nonzero (at r k.own) (at q k.own) (at q c) (at r c) (at (made_row n c r q) k.own) above k.above k.zero (made k.own)
    (sym (x.each k.own) ∙ ap (λ (z : ℤ). z *ℤ pos x.divisor) e ∙ zero_mul (pos x.divisor)) in
    record {
      divisor = pos x.divisor;
      times = at q c;
      less = at r c;
      divisor_above = omega (arith, ints, g);
      times_above = above;
      cells = λ j. mul_comm_z (pos x.divisor) (at s j) ∙ x.each j ∙ made j;
      at_column = mul_comm_z (at q c) (at r c);
      lowest = lowest_one s k.own ne x.lowest;
    }

-- ---- all rows

-- the pivot row stays
abbrev next_row : Table → ℕ → ℕ → ℕ → List ℤ
next_row t row col l = cond (eqb l row) (get_or t.cells row []) (cleared_row (columns t) col (get_or t.cells l []) (get_or t.cells row []))

abbrev next_cells : Table → ℕ → ℕ → List (List ℤ)
next_cells t row col = map (next_row t row col) (range_with_len 0 (suc t.height))

next_at : (t : Table) (row col l : ℕ) → l ≤ t.height → get_or (next_cells t row col) l [] ≡ next_row t row col l
next_at t row col l le = get_or-map-range_with_len (next_row t row col) 0 (suc t.height) l l [] (omega arith) (omega arith)

next_kept : (t : Table) (row col : ℕ) → row ≤ t.height → get_or (next_cells t row col) row [] ≡ get_or t.cells row []
next_kept t row col le = next_at t row col row le ∙ ap (λ b. cond b (get_or t.cells row []) (cleared_row (columns t) col (get_or t.cells row []) (get_or t.cells row []))) (eq-eqb row row refl)

next_other : (t : Table) (row col l : ℕ) → l ≤ t.height → l ≢ row → get_or (next_cells t row col) l [] ≡ cleared_row (columns t) col (get_or t.cells l []) (get_or t.cells row [])
next_other t row col l le ne = next_at t row col l le ∙ ap (λ b. cond b (get_or t.cells row []) (cleared_row (columns t) col (get_or t.cells l []) (get_or t.cells row []))) (ne_eqb l row ne)

next_sizes : (t : Table) (row col : ℕ) → row < t.height → HasSizes t → HasSizes (after t (next_cells t row col) row col)
next_sizes t row col lt sizes = record {
  rows = length-map-range_with_len (next_row t row col) 0 (suc t.height);
  width = λ i le. elim (cases_eq i row) [
    | inl same ↦ subst (λ (x : ℕ). length (get_or (next_cells t row col) x []) ≡ columns t) (sym same) (ap length (next_kept t row col (omega arith)) ∙ sizes.width row (omega arith))
    | inr ne ↦ ap length (next_other t row col i le ne) ∙ row_wide (columns t) col (get_or t.cells i []) (get_or t.cells row [])
  ];
  basics = length-set t.basis row col ∙ sizes.basics;
}

-- the next tableau
pub some_step : (rows : List LinearRow) (t : Table) (row col : ℕ) → IsTableauOf rows t → IsEntering t col → IsLeaving t col row → (u : Table) × IsLawfulStep rows t u
some_step rows t row col of enters leaves =
    let cells = next_cells t row col in
    let lt = leaves.in_range in
    let wide = of.sizes.width in (
      after t cells row col,
      record {
        old = of;
        new = pivoted rows t cells row col lt enters.in_range leaves.above (next_sizes t row col lt of.sizes) of (next_kept t row col (omega arith))
            (λ l ll ne. subst (λ (x : List ℤ). IsCleared col (cell_at t l) (cell_at t row) (at x)) (sym (next_other t row col l (omega arith) ne))
            (row_cleared (columns t) col (get_or t.cells l []) (get_or t.cells row []) (wide l (omega arith)) (wide row (omega arith)) leaves.above (clearable rows t row (omega arith) of l (omega arith) ne)));
        row = row;
        col = col;
        enters = enters;
        leaves = leaves;
        basis_is = refl;
      },
    )

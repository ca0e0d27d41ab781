-- The numbers of each tableau that a pivot run makes fit, and so do its end multipliers.
use Rattle.std.proofs.Common.{ℕ, suc, ◌+◌, ◌<◌, ◌≤◌, ◌≡◌, ◌≢◌, ◌∙◌, ap, sym, refl, subst, arith, List, [], ◌∷◌, length, map, get_or, ℤ, pos, ◌-ℤ◌, ◌*ℤ◌, ◌<ℤ◌, ◌≤ℤ◌, unsigned_abs, inl, inr}
use Prim.Native.Nat.{◌∣◌}
use Rattle.std.specs.List.{range_with_len}
use Rattle.std.proofs.lemmas.Bool.{cases_lt, cases_eq}
use Rattle.std.proofs.lemmas.Int.{ints}
use Rattle.std.proofs.lemmas.List.{get_or_past, length-set}
use Rattle.std.proofs.lemmas.List.FromFn.{length-map-range_with_len, get_or-map-range_with_len}
use Rattle.std.proofs.lemmas.Nat.Gcd.{dvd_trans, dvd-zero, le_of_dvd}
use Rattle.std.proofs.Math.Nat.{eq-one_of_dvd-one}
use Rattle.slice_num.specs.Gcd.{gcd_of}
use Rattle.slice_num.specs.GcdLaws.{IsGcd-gcd_of}
use Rattle.slice_num.specs.Lowest.{gcd_of_pos}
use Rattle.slice_num.specs.Rational.{Fits}
use Rattle.slice_linear.specs.Sums.{at}
use Rattle.slice_linear.specs.Rows.{LinearRow, AreRowsOver, width, kind_at}
use Rattle.slice_linear.specs.declared.row.RowKind.{RowKind}
use Rattle.slice_linear.specs.declared.row.RowKind.TheVariants.{Zero, AtLeast, Above}
use Rattle.slice_linear.specs.LowestRow.{gcd_all, reduced}
use Rattle.slice_linear.proofs.Ring.{zero_mul, mul_comm_z}
use Rattle.slice_linear.proofs.Reduced.{gcd_all_divides, gcd_all_greatest, reduced_is, reduced_fits}
use Rattle.slice_tableau.specs.Cells.{FitsAt, times_of, less_of}
use Rattle.slice_tableau.specs.First.{lines_items}
use Rattle.slice_tableau.specs.Pivot.{IsCleared, IsClearable}
use Rattle.slice_tableau.specs.Run.{IsLawfulStep, IsPivotRun, begins, goes_on}
use Rattle.slice_tableau.specs.System.{lines, own_column}
use Rattle.slice_tableau.specs.Table.{Table, CellsFit, HasSizes, IsTableauOf, IsFirst, cell_at, columns}
use Rattle.slice_tableau.proofs.ClearLaws.{made_past, made_fits, made_nonzero, quotients, stays}
use Rattle.slice_tableau.proofs.FirstTableau.{first_is, first_fits}
use Rattle.slice_tableau.proofs.OneTableau.{same_basis}
use Rattle.slice_tableau.proofs.PivotTable.{after, pivoted, clearable}
use Rattle.slice_simplex.specs.Ends.{end_multiplier, end_multipliers, slack_at}
use Rattle.slice_simplex.specs.Made.{EachStepFits, IsLast, StepFits}
use Rattle.slice_simplex.specs.Slacks.{line_count, lines_before, read_off}
use Rattle.slice_simplex.proofs.Same.{same_first}
use Rattle.slice_simplex.proofs.SlackLaws.{lines_room}
use Rattle.slice_simplex.proofs.Tables.{run_is_of}

-- ---- the first tableau

first_cells_fit : (rows : List LinearRow) (t : Table) → AreRowsOver (width rows) rows → IsFirst rows t → CellsFit t
first_cells_fit rows t are first =
    let w = width rows in
    let h = length (lines rows) in
    let basis : List ℕ = map (own_column w h) (range_with_len 0 (h + 1)) in
    let u : Table = record { unknowns = w; height = h; cells = lines_items w h (lines rows) 0; basis = basis } in
    let is : IsFirst rows u =
    first_is rows w h (lines_items w h (lines rows) 0) basis refl refl refl (length-map-range_with_len (own_column w h) 0 (h + 1))
    (λ l le. get_or-map-range_with_len (own_column w h) 0 (h + 1) l l 0 (omega arith) (omega arith)) in
    subst CellsFit (same_first rows u t is first) (first_fits rows w h (lines_items w h (lines rows) 0) basis refl are refl)

-- ---- one row after a pivot

-- numbers in lowest form that aren't all 0: only 1 divides them all
lowest_one : (xs : List ℤ) (own : ℕ) → at xs own ≢ pos 0 → gcd_all xs ≤ 1 → (d : ℕ) → ((j : ℕ) → d ∣ unsigned_abs (at xs j)) → d ≡ 1
lowest_one xs own ne le d h = elim (cases_eq (gcd_all xs) 0) [
  | inl none ↦ absurd (
      let big = suc (unsigned_abs (at xs own)) in
      let there : big ∣ gcd_all xs = subst (λ (x : ℕ). big ∣ x) (sym none) (dvd-zero big) in
      let small = le_of_dvd (abs_above (at xs own) ne) (dvd_trans big there (gcd_all_divides xs own)) in
      omega arith)
  | inr some ↦ let one : gcd_all xs ≡ 1 = omega arith in eq-one_of_dvd-one (subst (λ (x : ℕ). d ∣ x) one (gcd_all_greatest xs d h))
]
  where
    abs_above : (z : ℤ) → z ≢ pos 0 → 0 < unsigned_abs z
    abs_above z ne = elim (cases_eq (unsigned_abs z) 0) [
      | inl none ↦ absurd (ne (omega (arith, ints)))
      | inr some ↦ omega arith
    ]

-- the numbers of a row that a pivot on row q and column c makes of row r, which fit
record FittingRow (c : ℕ) (r q : List ℤ) : Type 0 where
  items : List ℤ
  wide : length items ≡ length r
  fit : (j : ℕ) → Fits (at items j)
  cleared : IsCleared c (at r) (at q) (at items)

module _ (c : ℕ) (r q : List ℤ) (long : length r ≡ length q) (above : pos 0 <ℤ (at q c)) (k : IsClearable (at r) (at q)) where
  -- a row with 0 at the column stays
  row_stays : at r c ≡ pos 0 → ((j : ℕ) → Fits (at r j)) → FittingRow c r q
  row_stays z fit = record { items = r; wide = refl; fit = fit; cleared = stays c (at r) (at q) z k.lowest }

  -- another one is cleared
  row_made : 0 < unsigned_abs (at r c) → at r c ≢ pos 0 → ((j : ℕ) → j < length r → FitsAt c (at r) (at q) j) → FittingRow c r q
  row_made size ne fits =
      let p = at q c in
      let a = at r c in
      let g = gcd_of (unsigned_abs p) (unsigned_abs a) in
      let divides = IsGcd-gcd_of (unsigned_abs p) (unsigned_abs a) in
      let some : 0 < g = gcd_of_pos (unsigned_abs p) (unsigned_abs a) size in
      let parts = quotients p a (pos g) above (omega (arith, ints, some)) divides.0 divides.1 in
      let times = times_of p a in
      let less = less_of p a in
      let cell : ℕ → ℤ = λ j. times *ℤ at r j -ℤ less *ℤ at q j in
      let made : List ℤ = map cell (range_with_len 0 (length r)) in
      let wide : length made ≡ length r = length-map-range_with_len cell 0 (length r) in
      let each : (j : ℕ) → j < length r → at made j ≡ cell j = λ j lt. get_or-map-range_with_len cell 0 (length r) j j (pos 0) lt (omega arith) in
      let all = made_past r q made times less long wide each in
      let x = reduced_is made in
      let s = reduced made in
      let divisor_above : pos 0 <ℤ pos x.divisor = (let h = x.above in omega (arith, ints, h)) in
      let nonzero : at s k.own ≢ pos 0 = λ e. made_nonzero (at r k.own) (at q k.own) times less (at made k.own) parts.0 k.above k.zero (all k.own)
      (sym (x.each k.own) ∙ ap (λ (z : ℤ). z *ℤ pos x.divisor) e ∙ zero_mul (pos x.divisor)) in
      record {
        items = s;
        wide = x.same_length ∙ wide;
        fit = reduced_fits made (made_fits r q made times less long wide each (λ j lt. fits j lt ne));
        cleared = record {
          divisor = pos x.divisor;
          times = times;
          less = less;
          divisor_above = divisor_above;
          times_above = parts.0;
          cells = λ j. mul_comm_z (pos x.divisor) (at s j) ∙ x.each j ∙ all j;
          at_column = parts.1;
          lowest = lowest_one s k.own nonzero x.lowest;
        };
      }

  some_row : ((j : ℕ) → Fits (at r j)) → ((j : ℕ) → j < length r → FitsAt c (at r) (at q) j) → FittingRow c r q
  some_row fit fits = elim (cases_eq (unsigned_abs (at r c)) 0) [
    | inl none ↦ row_stays (omega (arith, ints, none)) fit
    | inr some ↦ row_made (omega (arith, some)) (λ e. some (ap unsigned_abs e)) fits
  ]

-- ---- a pivot

module _ (rows : List LinearRow) (t u : Table) (fit : CellsFit t) (steps : StepFits t) (s : IsLawfulStep rows t u) where
  -- the row of that number in the next tableau
  record NextRow (l : ℕ) : Type 0 where
    items : List ℤ
    wide : length items ≡ columns t
    fits : (j : ℕ) → Fits (at items j)
    kept : l ≡ s.row → items ≡ get_or t.cells s.row []
    cleared : l ≢ s.row → IsCleared s.col (cell_at t l) (cell_at t s.row) (at items)

  next_row : (l : ℕ) → l ≤ t.height → NextRow l
  next_row l le = elim (cases_eq l s.row) [
    | inl same ↦ record {
      items = get_or t.cells s.row [];
      wide = s.old.sizes.width s.row (let lt = s.leaves.in_range in omega (arith, lt));
      fits = fit s.row;
      kept = λ e. refl;
      cleared = λ ne. absurd (ne same);
    }
    | inr ne ↦
        let lt = s.leaves.in_range in
        let wide = s.old.sizes.width l le in
        let row = some_row s.col (get_or t.cells l []) (get_or t.cells s.row []) (wide ∙ sym (s.old.sizes.width s.row (omega (arith, lt)))) s.leaves.above
        (clearable rows t s.row (omega (arith, lt)) s.old l le ne) (fit l) (λ j lj. steps s.row s.col l j s.enters s.leaves le (subst (λ (n : ℕ). j < n) wide lj) ne) in
        record { items = row.items; wide = row.wide ∙ wide; fits = row.fit; kept = λ e. absurd (ne e); cleared = λ _. row.cleared }
  ]

  -- a row for each number; past the last one it is empty
  chosen : (l : ℕ) → (xs : List ℤ) × (l ≤ t.height → (n : NextRow l) × (xs ≡ n.items))
  chosen l = elim (cases_lt t.height l) [
    | inl past ↦ ([], λ le. absurd (omega (arith, past, le)))
    | inr within ↦ let n = next_row l within in (n.items, λ le. (n, refl))
  ]

  abbrev next_cells : List (List ℤ)
  next_cells = map (λ l. (chosen l).0) (range_with_len 0 (suc t.height))

  next_at : (l : ℕ) → l ≤ t.height → (n : NextRow l) × (get_or next_cells l [] ≡ n.items)
  next_at l le = let n = (chosen l).1 le in (n.0, get_or-map-range_with_len (λ l. (chosen l).0) 0 (suc t.height) l l [] (omega arith) (omega arith) ∙ n.1)

  next_sizes : HasSizes (after t next_cells s.row s.col)
  next_sizes = record {
    rows = length-map-range_with_len (λ l. (chosen l).0) 0 (suc t.height);
    width = λ i le. let n = next_at i le in ap length n.1 ∙ n.0.wide;
    basics = length-set t.basis s.row s.col ∙ s.old.sizes.basics;
  }

  next_is : IsTableauOf rows (after t next_cells s.row s.col)
  next_is =
      let lt = s.leaves.in_range in
      let row = next_at s.row (omega (arith, lt)) in
      pivoted rows t next_cells s.row s.col lt s.enters.in_range s.leaves.above next_sizes s.old (row.1 ∙ row.0.kept refl)
      (λ l ll ne. let n = next_at l (omega (arith, ll)) in subst (λ (xs : List ℤ). IsCleared s.col (cell_at t l) (cell_at t s.row) (at xs)) (sym n.1) (n.0.cleared ne))

  next_fits : CellsFit (after t next_cells s.row s.col)
  next_fits i j = elim (cases_lt t.height i) [
    | inl past ↦ subst (λ (xs : List ℤ). Fits (at xs j)) (sym (get_or_past next_cells i [] (let e = length-map-range_with_len (λ l. (chosen l).0) 0 (suc t.height) in omega (arith, e, past)))) (omega arith)
    | inr within ↦ let n = next_at i within in subst (λ (xs : List ℤ). Fits (at xs j)) (sym n.1) (n.0.fits j)
  ]

  -- it is the next tableau
  step_fits : CellsFit u
  step_fits = subst CellsFit (same_basis rows (after t next_cells s.row s.col) u next_is s.new (sym s.basis_is)) next_fits

run_fits : (rows : List LinearRow) (t : Table) (before : List Table) → AreRowsOver (width rows) rows → IsPivotRun rows (t ∷ before) → EachStepFits before → CellsFit t
run_fits rows t before are (begins x first) fit = first_cells_fit rows x are first
run_fits rows t before are (goes_on x xs y run step) fit = step_fits rows x y (run_fits rows x xs are run fit.1) fit.0 step

-- ---- the end multipliers

read_fits : (k : RowKind) (x y : ℤ) → Fits x → Fits y → pos 0 ≤ℤ x → (line_count k ≡ 2 → pos 0 ≤ℤ y) → Fits (read_off k x y)
read_fits Zero x y f g p q = let r = q refl in omega (arith, ints, f, g, p, r)
read_fits AtLeast x y f g p q = f
read_fits Above x y f g p q = f

pub multipliers_fit : (rows : List LinearRow) (pivots : ℕ) (t : Table) → AreRowsOver (width rows) rows → IsLast rows pivots t → (i : ℕ) → i < length rows → Fits (at (end_multipliers rows t) i)
multipliers_fit rows pivots t are last i lt =
    let of = run_is_of rows t last.made.before last.made.run in
    let fit = run_fits rows t last.made.before are last.made.run last.made.fit in
    let room = lines_room rows i lt in
    let high = of.height_is in
    let first = lines_before rows i in
    let kind = kind_at rows i in
    let some : 1 ≤ line_count kind = one kind in
    subst Fits (sym (get_or-map-range_with_len (end_multiplier rows t) 0 (length rows) i i (pos 0) lt (omega arith)))
    (read_fits kind (slack_at t first) (slack_at t (first + 1)) (fit t.height (t.unknowns + 1 + first)) (fit t.height (t.unknowns + 1 + (first + 1)))
    (last.none (t.unknowns + 1 + first) (omega (arith, room, high, some)))
    (λ two. last.none (t.unknowns + 1 + (first + 1)) (omega (arith, room, high, two))))
  where
    one : (k : RowKind) → 1 ≤ line_count k
    one Zero = omega arith
    one AtLeast = omega arith
    one Above = omega arith

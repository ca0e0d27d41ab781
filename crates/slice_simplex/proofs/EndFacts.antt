-- What the last tableau of a pivot run shows of the rows.
use Rattle.std.proofs.Common.{◌⊎◌, ℕ, zero, suc, ◌+◌, ◌/◌, ◌<◌, ◌≤◌, ◌≡◌, ◌∙◌, ap, sym, refl, subst, arith, Bool, true, false, cond, eqb, List, [], ◌∷◌, length, map, ℤ, pos, negsuc, ◌*ℤ◌, ◌<ℤ◌, ◌≤ℤ◌, inl, inr, unsigned_abs}
use Prim.Native.Nat.{◌∣◌}
use Rattle.std.specs.List.{range_with_len}
use Rattle.std.proofs.lemmas.Bool.{cases_lt, cases_eq, eq-eqb, ne_eqb}
use Rattle.std.proofs.lemmas.Int.{ints}
use Rattle.std.proofs.lemmas.List.{get_or_past}
use Rattle.std.proofs.lemmas.List.FromFn.{length-map-range_with_len, get_or-map-range_with_len}
use Rattle.std.proofs.Math.Nat.{mul-div_cancel'}
use Rattle.std.proofs.lemmas.Nat.Gcd.{dvd_trans, dvd_refl, le_of_dvd}
use Rattle.slice_num.proofs.Ratio.{ratio_cross}
use Rattle.slice_linear.proofs.Ring.{sign, linear, mul_pos, mul_nonneg, mul_zero, mul_assoc_z, mul_comm_z}
use Rattle.slice_linear.proofs.SumLaws.{sum_ext, sum_scale, sum_nonneg}
use Rattle.slice_linear.specs.Sums.{at}
use Rattle.slice_linear.specs.Rows.{LinearRow, AreRowsOver, Refutes, IsSolution, coefs_at, width}
use Rattle.slice_tableau.specs.Basis.{IsCombination}
use Rattle.slice_tableau.specs.Lex.{IsLexAbove}
use Rattle.slice_tableau.specs.System.{lines, start_cell, own_column, list_column, multiplier}
use Rattle.slice_tableau.specs.Table.{Table, IsTableauOf, NoneEnters, cell_at, basic_at, right_column}
use Rattle.slice_tableau.specs.Run.{IsPivotRun}
use Rattle.slice_tableau.proofs.ByBasis.{IsCommon, common}
use Rattle.slice_tableau.proofs.EndLaws.{end_refutes, scaled_solution}
use Rattle.slice_tableau.proofs.EndSolution.{value, end_values}
use Rattle.slice_linear.specs.LowestRow.{IsInLowestForm}
use Rattle.slice_simplex.specs.Made.{IsEndOf}
use Rattle.slice_simplex.specs.Ends.{objective_right, slack_at, end_multiplier, end_multipliers, basic_value, multiple_to, whole_at, whole_of, end_solution}
use Rattle.slice_simplex.specs.Working.{HasBasis}
use Rattle.slice_simplex.specs.ProverAnswer.{AreEndMultipliers, IsEndSolution, IsLowestSolution}
use Rattle.slice_tableau.proofs.RunBridge.{table_is}
use Rattle.slice_simplex.proofs.Tables.{run_is_of, run_is_high, right_not_below}
use Rattle.slice_linear.proofs.LowestLaws.{lcm_left}
use Rattle.slice_linear.proofs.Multiples.{lcm_pos}
use Rattle.slice_simplex.proofs.Numbers.{lcm_right, den_above}
use Rattle.slice_simplex.proofs.Wholes.{multiple_unknown, multiple_other, whole_unknown, whole_other, part}
use Rattle.slice_simplex.proofs.SlackLaws.{multiplier_is}
use Rattle.slice_linear.proofs.Reduced.{reduced_is, part_not_below}
use Rattle.slice_num.specs.Gcd.{lcm_of}

coefs_past : (rows : List LinearRow) (i : ℕ) → length rows ≤ i → coefs_at rows i ≡ []
coefs_past [] i le = refl
coefs_past (r ∷ rs) zero le = absurd (omega arith)
coefs_past (r ∷ rs) (suc i) le = coefs_past rs i (omega arith)

past_width : (rows : List LinearRow) (w : ℕ) → AreRowsOver w rows → (i j : ℕ) → w ≤ j → at (coefs_at rows i) j ≡ pos 0
past_width rows w are i j le = elim (cases_lt i (length rows)) [
  | inl lt ↦ get_or_past (coefs_at rows i) j (pos 0) (let e = are.widths i lt in omega arith)
  | inr ge ↦ ap (λ (xs : List ℤ). at xs j) (coefs_past rows i ge)
]

-- the objective row, told with the widths of the rows
pub record IsObjective (rows : List LinearRow) (r : ℕ → ℤ) : Type 0 where
  pub combination : IsCombination (suc (length (lines rows))) (start_cell (width rows) rows) (own_column (width rows) (length (lines rows))) r
  pub not_below : (j : ℕ) → j < width rows + 1 + length (lines rows) → pos 0 ≤ℤ (r j)
  pub z_above : pos 0 <ℤ (r (width rows + 2 + length (lines rows)))

objective_is : (rows : List LinearRow) (t : Table) → IsTableauOf rows t → NoneEnters t → IsObjective rows (cell_at t t.height)
objective_is rows t of none =
    let m = length (lines rows) in
    let w = width rows in
    let row = (table_is rows t of).rows t.height (let e = of.height_is in omega arith) in
    let last : basic_at t t.height ≡ w + 2 + m = of.last_basic ∙ (λ i. of.unknowns_is i + 2 + of.height_is i) in
    record {
      combination = row.combination;
      not_below = λ j lt. none j (let e = of.height_is in let f = of.unknowns_is in omega arith);
      z_above = subst (λ (x : ℕ). pos 0 <ℤ (cell_at t t.height x)) last row.above;
    }

right_is : (rows : List LinearRow) (t : Table) → IsTableauOf rows t → right_column t ≡ width rows + 1 + length (lines rows)
right_is rows t of = λ i. of.unknowns_is i + 1 + of.height_is i

-- the end multipliers refute the rows
pub last_refutes : (rows : List LinearRow) (t : Table) → AreRowsOver (width rows) rows → IsEndOf rows t → objective_right t ≡ pos 0 → Refutes rows (end_multipliers rows t)
last_refutes rows t are last zero_right =
    let of = run_is_of rows t last.before last.run in
    let o = objective_is rows t of last.none in
    let right = right_is rows t of in
    end_refutes (width rows) rows (cell_at t t.height) (end_multipliers rows t) o.combination
    record { not_below = o.not_below; right_zero = ap (cell_at t t.height) (sym right) ∙ zero_right; z_above = o.z_above }
    (past_width rows (width rows) are)
    (length-map-range_with_len (end_multiplier rows t) 0 (length rows))
    (λ i lt. get_or-map-range_with_len (end_multiplier rows t) 0 (length rows) i i (pos 0) lt (omega arith)
    ∙ sym (multiplier_is rows (slack_at t) i lt)
    ∙ (λ x. multiplier rows (λ k. cell_at t t.height (of.unknowns_is x + 1 + k)) i))

-- the objective's right side isn't below 0 at the end
pub objective_right_not_below : (rows : List LinearRow) (t : Table) → IsEndOf rows t → pos 0 ≤ℤ (objective_right t)
objective_right_not_below rows t last =
    let of = run_is_of rows t last.before last.run in
    let m = length (lines rows) in
    let w = width rows in
    let r = cell_at t t.height in
    let o = objective_is rows t of last.none in
    let own : (i : ℕ) → i < suc m → pos 0 ≤ℤ (r (own_column w m i)) = λ i li. elim (cases_eq i m) [
      | inl same ↦ rw (eq-eqb i m same) (let h = o.z_above in omega (arith, linear))
      | inr ne ↦ rw (ne_eqb i m ne) (o.not_below (w + 1 + i) (omega arith))
    ] in
    let sum = sum_nonneg (suc m) (λ i. r (own_column w m i) *ℤ start_cell w rows i (w + 1 + m)) (λ i li. mul_nonneg (r (own_column w m i)) (start_cell w rows i (w + 1 + m)) (own i li) (right_not_below w rows i)) in
    subst (λ (z : ℤ). pos 0 ≤ℤ z) (sym (o.combination.each (w + 1 + m)) ∙ ap r (sym (right_is rows t of))) sum

-- the rows are those of a basis, with right sides that aren't below 0
pub has_basis : (rows : List LinearRow) (t : Table) (before : List Table) → IsPivotRun rows (t ∷ before) → HasBasis t
has_basis rows t before run =
    let of = run_is_of rows t before run in
    let m = length (lines rows) in
    let w = width rows in
    let table = of.basis_rows in
    let high = run_is_high rows t before run in
    record {
      basics_in = of.basics_in;
      above = λ l ll. (table.rows l (omega arith)).above;
      apart = λ l k ll lk e. elim (cases_eq l k) [
        | inl same ↦ same
        | inr ne ↦ absurd (
            let row = table.rows l (omega arith) in
            let p = row.above in
            let z = ap (cell_at t l) e ∙ row.elsewhere k (omega arith) (λ s. ne (sym s)) in
            omega (arith, linear, z))
      ];
      right_not_below = λ l ll.
          let h = high l (let e = of.height_is in omega arith) in
          subst (λ (x : ℕ). pos 0 ≤ℤ (cell_at t l x)) (sym (right_is rows t of)) (first_not_below m (λ i. cell_at t l (list_column w m i)) h);
    }
  where
    first_not_below : (m : ℕ) (v : ℕ → ℤ) → IsLexAbove (suc m) v → pos 0 ≤ℤ (v 0)
    first_not_below m v h = elim (cases_eq h.first 0) [
      | inl same ↦ let p = subst (λ (i : ℕ). pos 0 <ℤ (v i)) same h.above in omega (arith, linear)
      | inr ne ↦ let z = h.zeros 0 (omega arith) in omega (arith, linear)
    ]

-- the denominators divide the multiple
den_divides : (t : Table) (n l : ℕ) → l < n → basic_at t l < t.unknowns → (basic_value t l).den ∣ multiple_to t n
den_divides t zero l ll lt = absurd (omega arith)
den_divides t (suc n) l ll lt = elim (cases_lt (basic_at t n) t.unknowns) [
  | inl unknown ↦
      let is : multiple_to t (suc n) ≡ lcm_of (multiple_to t n) (basic_value t n).den = ap (multiple_to t) (one n) ∙ multiple_unknown t n unknown in
      subst (λ (x : ℕ). (basic_value t l).den ∣ x) (sym is) (elim (cases_eq l n) [
        | inl same ↦ subst (λ (k : ℕ). (basic_value t k).den ∣ lcm_of (multiple_to t n) (basic_value t n).den) (sym same) (lcm_right (multiple_to t n) (basic_value t n).den)
        | inr ne ↦ dvd_trans (basic_value t l).den (den_divides t n l (omega arith) lt) (lcm_left (multiple_to t n) (basic_value t n).den)
      ])
  | inr other ↦
      let is : multiple_to t (suc n) ≡ multiple_to t n = ap (multiple_to t) (one n) ∙ multiple_other t n other in
      subst (λ (x : ℕ). (basic_value t l).den ∣ x) (sym is) (elim (cases_eq l n) [
        | inl same ↦ absurd (let e = ap (basic_at t) same in omega arith)
        | inr ne ↦ den_divides t n l (omega arith) lt
      ])
]
  where
    one : (n : ℕ) → suc n ≡ n + 1
    one n = omega arith

pub multiple_above : (t : Table) (n : ℕ) → 0 < multiple_to t n
multiple_above t zero = omega arith
multiple_above t (suc n) = elim (cases_lt (basic_at t n) t.unknowns) [
  | inl unknown ↦ subst (λ (x : ℕ). 0 < x) (sym (ap (multiple_to t) (one n) ∙ multiple_unknown t n unknown)) (lcm_pos (multiple_to t n) (basic_value t n).den (multiple_above t n) (let p = den_above (basic_value t n) in omega (arith, ints)))
  | inr other ↦ subst (λ (x : ℕ). 0 < x) (sym (ap (multiple_to t) (one n) ∙ multiple_other t n other)) (multiple_above t n)
]
  where
    one : (n : ℕ) → suc n ≡ n + 1
    one n = omega arith

-- the whole number of a row: times the basic coefficient it is the right side times the multiple
whole_cross : (t : Table) (l : ℕ) → l < t.height → basic_at t l < t.unknowns → pos 0 <ℤ (cell_at t l (basic_at t l))
    → cell_at t l (basic_at t l) *ℤ whole_at t l ≡ cell_at t l (right_column t) *ℤ pos (multiple_to t t.height)
whole_cross t l ll lt p =
    let c = cell_at t l (basic_at t l) in
    let b = cell_at t l (right_column t) in
    let q = basic_value t l in
    let k = multiple_to t t.height in
    let abs = above_abs c p in
    let cross : q.num *ℤ c ≡ b *ℤ pos q.den = ap (λ (x : ℤ). q.num *ℤ x) abs.1 ∙ ratio_cross b (unsigned_abs c) abs.0 in
    let exact : pos q.den *ℤ pos (k / q.den) ≡ pos k = ap pos (mul-div_cancel' q.den (den_divides t t.height l ll lt)) in
    ap (λ (x : ℤ). c *ℤ x) (whole_unknown t l lt) ∙ ring c q.num (pos (k / q.den)) b (pos q.den) (pos k) cross exact
  where
    above_abs : (x : ℤ) → pos 0 <ℤ x → (0 < unsigned_abs x) × (x ≡ pos (unsigned_abs x))
    above_abs (pos n) p = (omega (arith, linear), refl)
    above_abs (negsuc n) p = absurd (omega (arith, linear))

    ring : (c n q b d k : ℤ) → n *ℤ c ≡ b *ℤ d → d *ℤ q ≡ k → c *ℤ (n *ℤ q) ≡ b *ℤ k
    ring c n q b d k e f = sym (mul_assoc_z c n q) ∙ ap (λ (x : ℤ). x *ℤ q) (mul_comm_z c n ∙ e) ∙ mul_assoc_z b d q ∙ ap (λ (x : ℤ). b *ℤ x) f

-- a common multiple of the basic coefficients times a whole number is the multiple times the value
whole_value : (t : Table) (e : ℕ → ℤ) (d : ℤ) → HasBasis t → ((l : ℕ) → l < t.height → e l *ℤ cell_at t l (basic_at t l) ≡ d)
    → (l : ℕ) → l < t.height → basic_at t l < t.unknowns → d *ℤ whole_at t l ≡ pos (multiple_to t t.height) *ℤ (e l *ℤ cell_at t l (right_column t))
whole_value t e d has same l ll lt =
    ring (e l) (cell_at t l (basic_at t l)) d (whole_at t l) (cell_at t l (right_column t)) (pos (multiple_to t t.height)) (same l ll) (whole_cross t l ll lt (has.above l ll))
  where
    ring : (e p d v b k : ℤ) → e *ℤ p ≡ d → p *ℤ v ≡ b *ℤ k → d *ℤ v ≡ k *ℤ (e *ℤ b)
    ring e p d v b k f g = ap (λ (x : ℤ). x *ℤ v) (sym f) ∙ mul_assoc_z e p v ∙ ap (λ (x : ℤ). e *ℤ x) g ∙ sym (mul_assoc_z e b k) ∙ mul_comm_z (e *ℤ b) k

-- the same by unknown
whole_values : (t : Table) (e : ℕ → ℤ) (d : ℤ) → HasBasis t → basic_at t t.height ≡ t.unknowns + 2 + t.height → ((l : ℕ) → l < t.height → e l *ℤ cell_at t l (basic_at t l) ≡ d)
    → (j : ℕ) → j < t.unknowns → d *ℤ whole_of t j ≡ pos (multiple_to t t.height) *ℤ value (suc t.height) (basic_at t) (λ l. e l *ℤ cell_at t l (right_column t)) j
whole_values t e d has last same j lj =
    let k : ℤ = pos (multiple_to t t.height) in
    let v : ℕ → ℤ = λ l. e l *ℤ cell_at t l (right_column t) in
    let f : ℕ → ℤ = λ l. cond (eqb (basic_at t l) j) (v l) (pos 0) in
    let none : f t.height ≡ pos 0 = ap (λ (b : Bool). cond b (v t.height) (pos 0)) (ne_eqb (basic_at t t.height) j (λ s. omega arith)) in
    let each : (l : ℕ) → l < t.height → d *ℤ part t j l ≡ k *ℤ f l = λ l ll. elim (cases_eq (basic_at t l) j) [
      | inl here ↦ rw (eq-eqb (basic_at t l) j here) (whole_value t e d has same l ll (omega arith))
      | inr away ↦ rw (ne_eqb (basic_at t l) j away) (mul_zero d ∙ sym (mul_zero k))
    ] in
    sym (sum_scale t.height d (part t j)) ∙ sum_ext t.height (λ l. d *ℤ part t j l) (λ l. k *ℤ f l) each ∙ sum_scale t.height k f
    ∙ ap (λ (x : ℤ). k *ℤ x) (omega (arith, linear))

-- no whole number is below 0
whole_not_below : (t : Table) → HasBasis t → (l : ℕ) → l < t.height → pos 0 ≤ℤ (whole_at t l)
whole_not_below t has l ll = elim (cases_lt (basic_at t l) t.unknowns) [
  | inl lt ↦
      let p = has.above l ll in
      let b = mul_nonneg (cell_at t l (right_column t)) (pos (multiple_to t t.height)) (has.right_not_below l ll) (omega (arith, ints)) in
      part_not_below (cell_at t l (basic_at t l)) (whole_at t l) p (subst (λ (z : ℤ). pos 0 ≤ℤ z) (sym (whole_cross t l ll lt p)) b)
  | inr ge ↦ subst (λ (z : ℤ). pos 0 ≤ℤ z) (sym (whole_other t l ge)) (omega (arith, linear))
]

wholes_not_below : (t : Table) → HasBasis t → (j : ℕ) → pos 0 ≤ℤ (whole_of t j)
wholes_not_below t has j = sum_nonneg t.height (part t j) (λ l ll. either (eqb (basic_at t l) j) (whole_at t l) (whole_not_below t has l ll))
  where
    either : (b : Bool) (z : ℤ) → pos 0 ≤ℤ z → pos 0 ≤ℤ (cond b z (pos 0))
    either true z p = p
    either false z p = omega (arith, linear)

-- the end solution is one of the rows
pub last_solves : (rows : List LinearRow) (t : Table) → IsEndOf rows t → pos 0 <ℤ (objective_right t) → IsSolution rows (end_solution t)
last_solves rows t last above =
    let of = run_is_of rows t last.before last.run in
    let m = length (lines rows) in
    let w = width rows in
    let has = has_basis rows t last.before last.run in
    let high = of.height_is in
    let wide = of.unknowns_is in
    let table = table_is rows t of in
    let right = right_is rows t of in
    let all = common (suc m) (λ l. cell_at t l (basic_at t l)) (λ l ll. (table.rows l ll).above) in
    let e : ℕ → ℤ = all.0 in
    let d : ℤ = all.1 in
    let c : IsCommon (suc m) (λ l. cell_at t l (basic_at t l)) e d = all.2 in
    let k : ℕ = multiple_to t t.height in
    let zs : List ℤ = map (whole_of t) (range_with_len 0 t.unknowns) in
    let r = reduced_is zs in
    let zs_long : length zs ≡ t.unknowns = length-map-range_with_len (whole_of t) 0 t.unknowns in
    let zs_at : (j : ℕ) → j < t.unknowns → at zs j ≡ whole_of t j = λ j lj. get_or-map-range_with_len (whole_of t) 0 t.unknowns j j (pos 0) lj (omega arith) in
    let divisor_above : pos 0 <ℤ pos r.divisor = (let p = r.above in omega (arith, ints)) in
    let x : ℕ → ℤ = value (suc m) (basic_at t) (λ l. e l *ℤ cell_at t l (w + 1 + m)) in
    let values : (j : ℕ) → j < t.unknowns → d *ℤ whole_of t j ≡ pos k *ℤ x j = λ j lj.
    whole_values t e d has of.last_basic (λ l ll. c.same l (omega arith)) j lj
    ∙ (λ i. pos k *ℤ value (suc (high i)) (basic_at t) (λ l. e l *ℤ cell_at t l (right i)) j) in
    let holds = end_values w rows (basic_at t) (cell_at t) table
    (λ l ll. subst (λ (y : ℕ). basic_at t l < y) right (of.basics_in l (omega arith)))
    (ap (basic_at t) (sym high) ∙ of.last_basic ∙ (λ i. wide i + 2 + high i))
    (λ l ll. subst (λ (y : ℕ). pos 0 ≤ℤ (cell_at t l y)) right (has.right_not_below l (omega arith)))
    (subst (λ (y : ℕ). pos 0 <ℤ (cell_at t m y)) right (subst (λ (y : ℕ). pos 0 <ℤ (cell_at t y (right_column t))) high above)) e d c in
    scaled_solution w rows x (end_solution t) (d *ℤ pos r.divisor) (pos k) (mul_pos d (pos r.divisor) c.above divisor_above) (let p = multiple_above t t.height in omega (arith, ints))
    (r.same_length ∙ zs_long ∙ wide)
    (λ j lj. let lt : j < t.unknowns = omega arith in factor d (pos r.divisor) (at (end_solution t) j) (at zs j) (r.each j) ∙ ap (λ (z : ℤ). d *ℤ z) (zs_at j lt) ∙ values j lt)
    (λ j. part_not_below (pos r.divisor) (at (end_solution t) j) divisor_above
    (subst (λ (z : ℤ). pos 0 ≤ℤ z) (sym (mul_comm_z (pos r.divisor) (at (end_solution t) j) ∙ r.each j)) (elim (cases_lt j t.unknowns) [
      | inl lt ↦ subst (λ (z : ℤ). pos 0 ≤ℤ z) (sym (zs_at j lt)) (wholes_not_below t has j)
      | inr ge ↦ subst (λ (z : ℤ). pos 0 ≤ℤ z) (sym (get_or_past zs j (pos 0) (omega arith))) (omega (arith, linear))
    ])))
    holds
  where
    factor : (d g y z : ℤ) → y *ℤ g ≡ z → (d *ℤ g) *ℤ y ≡ d *ℤ z
    factor d g y z e = mul_assoc_z d g y ∙ ap (λ (x : ℤ). d *ℤ x) (mul_comm_z g y ∙ e)

-- in lowest numbers
pub last_lowest : (t : Table) → IsInLowestForm (end_solution t)
last_lowest t = (reduced_is (map (whole_of t) (range_with_len 0 t.unknowns))).lowest

-- the multiple grows from row to row
multiple_divides : (t : Table) (n : ℕ) → multiple_to t n ∣ multiple_to t (n + 1)
multiple_divides t n = elim (cases_lt (basic_at t n) t.unknowns) [
  | inl unknown ↦ subst (λ (x : ℕ). multiple_to t n ∣ x) (sym (multiple_unknown t n unknown)) (lcm_left (multiple_to t n) (basic_value t n).den)
  | inr other ↦ subst (λ (x : ℕ). multiple_to t n ∣ x) (sym (multiple_other t n other)) (dvd_refl (multiple_to t n))
]

pub multiple_grows : (t : Table) (n k : ℕ) → n ≤ k → multiple_to t n ≤ multiple_to t k
multiple_grows t n zero le = let e : n ≡ 0 = omega arith in subst (λ (x : ℕ). multiple_to t x ≤ 1) (sym e) (omega arith)
multiple_grows t n (suc k) le = elim (cases_eq n (suc k)) [
  | inl same ↦ subst (λ (x : ℕ). multiple_to t x ≤ multiple_to t (suc k)) (sym same) (omega arith)
  | inr ne ↦
      let a = multiple_grows t n k (omega arith) in
      let b : multiple_to t k ≤ multiple_to t (k + 1) = le_of_dvd (multiple_above t (k + 1)) (multiple_divides t k) in
      let e : multiple_to t (k + 1) ≡ multiple_to t (suc k) = ap (multiple_to t) (one k) in
      omega (arith, a, b, e)
]
  where
    one : (n : ℕ) → n + 1 ≡ suc n
    one n = omega arith

-- an end refutes the rows or solves them
pub end_decides : (rows : List LinearRow) (t : Table) → IsEndOf rows t → AreEndMultipliers rows (end_multipliers rows t) ⊎ IsEndSolution rows (end_solution t)
end_decides rows t e =
    let le = objective_right_not_below rows t e in
    elim (sign (objective_right t)) [
      | inl below ↦ absurd (omega (arith, linear))
      | inr (inl same) ↦ inl record { last = t; ends = e; right_zero = same; multipliers_are = refl }
      | inr (inr above) ↦ inr record { last = t; ends = e; right_above = above; solution_is = refl }
    ]

pub multipliers_refute : (rows : List LinearRow) (m : List ℤ) → AreRowsOver (width rows) rows → AreEndMultipliers rows m → Refutes rows m
multipliers_refute rows m are a = subst (Refutes rows) (sym a.multipliers_are) (last_refutes rows a.last are a.ends a.right_zero)

-- a solution of the rows in lowest form
pub last_is_lowest : (rows : List LinearRow) (t : Table) → IsEndOf rows t → pos 0 <ℤ (objective_right t) → IsLowestSolution rows (end_solution t)
last_is_lowest rows t last above =
    let zs = map (whole_of t) (range_with_len 0 t.unknowns) in
    record {
      one_each = (reduced_is zs).same_length ∙ length-map-range_with_len (whole_of t) 0 t.unknowns ∙ (run_is_of rows t last.before last.run).unknowns_is;
      solves = last_solves rows t last above;
      lowest = last_lowest t;
    }

pub solution_solves : (rows : List LinearRow) (xs : List ℤ) → IsEndSolution rows xs → IsLowestSolution rows xs
solution_solves rows xs a = subst (IsLowestSolution rows) (sym a.solution_is) (last_is_lowest rows a.last a.ends a.right_above)

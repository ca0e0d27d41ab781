-- A row that leaves: there is one, and it is alone.
use Rattle.std.proofs.Common.{Bool, true, false, ℕ, zero, suc, ◌+◌, ◌<◌, ◌≡◌, ◌∙◌, inl, inr, ap, sym, subst, refl, arith, List, [], ◌∷◌, length, cond, eqb, ltb, ℤ, pos, ◌+ℤ◌, ◌*ℤ◌, ◌<ℤ◌, ◌≤ℤ◌}
use Rattle.std.proofs.lemmas.Bool.{cases_eq, eq-eqb, ne_eqb, le-ltb}
use Rattle.std.proofs.lemmas.Int.{ints}
use Rattle.slice_linear.proofs.Ring.{linear}
use Rattle.slice_linear.specs.Rows.{LinearRow}
use Rattle.slice_linear.specs.declared.row.RowKind.{RowKind}
use Rattle.slice_linear.specs.declared.row.RowKind.TheVariants.{Zero, AtLeast, Above}
use Rattle.slice_tableau.specs.System.{Line, lines, lines_of, line_cell, lines_cell, start_cell, objective_cell, own_column, list_column}
use Rattle.slice_tableau.specs.Basis.{IsBasisTable}
use Rattle.slice_tableau.specs.Table.{Table, IsTableauOf, IsEntering, IsLeaving, cell_at, basic_at, list_at}
use Rattle.slice_tableau.specs.Inside.{IsLeastOf}
use Rattle.slice_tableau.proofs.BasisLaws.{combination_of_two}
use Rattle.slice_tableau.proofs.ByBasis.{leaving_exists, no_tie}
use Rattle.slice_tableau.proofs.EndSolution.{start_combination}
use Rattle.slice_tableau.proofs.SystemLaws.{objective_at_end}

-- the line t + s = 1
abbrev last_line : Line
last_line = record { sign = pos 1; coefs = []; t = pos 1; right = pos 1 }

-- it is the last line of each system
last_of : (k : RowKind) (a : List ℤ) (w m : ℕ) (rest : List Line) (n j i : ℕ) → suc i ≡ length rest
    → ((n : ℕ) → lines_cell w m rest n i j ≡ line_cell w m (n + i) last_line j)
    → (x : ℕ) → suc x ≡ length (lines_of k a rest) → lines_cell w m (lines_of k a rest) n x j ≡ line_cell w m (n + x) last_line j
last_of Zero a w m rest n j i e h x ex =
    let s : x ≡ suc (suc i) = omega arith in
    let q : suc (suc n) + i ≡ n + x = omega arith in
    ap (λ y. lines_cell w m (lines_of Zero a rest) n y j) s ∙ h (suc (suc n)) ∙ ap (λ y. line_cell w m y last_line j) q
last_of AtLeast a w m rest n j i e h x ex =
    let s : x ≡ suc i = omega arith in
    let q : suc n + i ≡ n + x = omega arith in
    ap (λ y. lines_cell w m (lines_of AtLeast a rest) n y j) s ∙ h (suc n) ∙ ap (λ y. line_cell w m y last_line j) q
last_of Above a w m rest n j i e h x ex =
    let s : x ≡ suc i = omega arith in
    let q : suc n + i ≡ n + x = omega arith in
    ap (λ y. lines_cell w m (lines_of Above a rest) n y j) s ∙ h (suc n) ∙ ap (λ y. line_cell w m y last_line j) q

some_line : (rows : List LinearRow) → (i : ℕ) × (suc i ≡ length (lines rows))
some_line [] = (0, refl)
some_line (r ∷ rs) = some_of r.kind r.coefs (lines rs)
  where
    some_of : (k : RowKind) (a : List ℤ) (rest : List Line) → (i : ℕ) × (suc i ≡ length (lines_of k a rest))
    some_of Zero a rest = (suc (length rest), refl)
    some_of AtLeast a rest = (length rest, refl)
    some_of Above a rest = (length rest, refl)

last_is : (rows : List LinearRow) (w m n j i : ℕ) → suc i ≡ length (lines rows) → lines_cell w m (lines rows) n i j ≡ line_cell w m (n + i) last_line j
last_is [] w m n j zero e = ap (λ y. line_cell w m y last_line j) (plus_zero n)
  where
    plus_zero : (n : ℕ) → n ≡ n + 0
    plus_zero n = omega arith
last_is [] w m n j (suc i) e = absurd (omega arith)
last_is (r ∷ rs) w m n j i e = let s = some_line rs in last_of r.kind r.coefs w m (lines rs) n j s.0 s.1 (λ n. last_is rs w m n j s.0 s.1) i e

cond_nonneg : (b : Bool) (x y : ℤ) → pos 0 ≤ℤ x → pos 0 ≤ℤ y → pos 0 ≤ℤ (cond b x y)
cond_nonneg true x y p q = p
cond_nonneg false x y p q = q

-- z + s = 1: the sum of the last line and the objective row is nowhere below 0
sum_nonneg : (w m i j : ℕ) → pos 0 ≤ℤ (line_cell w m i last_line j +ℤ objective_cell w m j)
sum_nonneg w m i j = elim (cases_eq j w) [
  | inl same ↦ rw (le-ltb j w (omega arith), eq-eqb j w same) (omega (arith, linear))
  | inr away ↦
      let left : pos 0 ≤ℤ (line_cell w m i last_line j) = cond_nonneg (ltb j w) _ _ (times_zero) (cond_nonneg (eqb j w) _ _ (omega (arith, linear)) (cond_nonneg (eqb j (w + 1 + i)) _ _ (omega (arith, linear)) (cond_nonneg (eqb j (w + 1 + m)) _ _ (omega (arith, linear)) (omega (arith, linear))))) in
      let right : pos 0 ≤ℤ (objective_cell w m j) = rw (ne_eqb j w away) (cond_nonneg (eqb j (w + 2 + m)) _ _ (omega (arith, linear)) (omega (arith, linear))) in
      omega (arith, linear)
]
  where
    times_zero : pos 0 ≤ℤ (pos 1 *ℤ pos 0)
    times_zero = omega (arith, ints)

sum_at_z : (w m i : ℕ) → i < m → line_cell w m i last_line (w + 2 + m) +ℤ objective_cell w m (w + 2 + m) ≡ pos 1
sum_at_z w m i lt = rw (le-ltb (w + 2 + m) w (omega arith), ne_eqb (w + 2 + m) w (λ s. omega arith), ne_eqb (w + 2 + m) (w + 1 + i) (λ s. omega arith), ne_eqb (w + 2 + m) (w + 1 + m) (λ s. omega arith), eq-eqb (w + 2 + m) (w + 2 + m) refl) refl

-- some row has a number above 0 in a column that enters
pub some_leaves : (rows : List LinearRow) (t : Table) (col : ℕ) → IsTableauOf rows t → IsEntering t col → ((l : ℕ) → l < t.height → (cell_at t l col) ≤ℤ pos 0) → ⊥
some_leaves rows t col of enters none =
    let w = t.unknowns in
    let m = length (lines rows) in
    let start = start_cell w rows in
    let s = some_line rows in
    let q : ℕ → ℤ = λ j. pos 1 *ℤ start s.0 j +ℤ pos 1 *ℤ start m j in
    let table = subst (λ h. IsBasisTable (suc h) (start_cell w rows) (own_column w h) (basic_at t) (cell_at t)) of.height_is of.basis_rows in
    let eh = of.height_is in
    let end : basic_at t m ≡ w + 2 + m = subst (λ h. basic_at t h ≡ w + 2 + h) eh of.last_basic in
    let is : (j : ℕ) → q j ≡ line_cell w m s.0 last_line j +ℤ objective_cell w m j = λ j.
    (λ k. one_times ((last_is rows w m 0 j s.0 s.1 ∙ ap (λ y. line_cell w m y last_line j) (zero_plus s.0)) k) k +ℤ one_times (objective_at_end w m (lines rows) 0 j k) k) in
    leaving_exists m start (own_column w m) (basic_at t) (cell_at t) col q table
    (combination_of_two (suc m) start (own_column w m) (pos 1) (pos 1) (start s.0) (start m) (start_combination w rows s.0 (let e = s.1 in omega arith)) (start_combination w rows m (omega arith)))
    (rw (is col) (sum_nonneg w m s.0 col)) (λ l ll. rw (is (basic_at t l)) (sum_nonneg w m s.0 (basic_at t l)))
    (subst (λ (x : ℕ). pos 0 <ℤ (q x)) (sym end) (rw (is (w + 2 + m) ∙ sum_at_z w m s.0 (let e = s.1 in omega arith)) (omega (arith, linear))))
    (subst (λ h. (cell_at t h col) <ℤ pos 0) eh enters.below) (λ l ll. none l (omega arith))
  where
    zero_plus : (n : ℕ) → 0 + n ≡ n
    zero_plus n = omega arith

    one_times : (x : ℤ) → pos 1 *ℤ x ≡ x
    one_times x = omega (arith, ints)

-- the least row is the lawful one
pub leaves_alone : (rows : List LinearRow) (t : Table) (col r : ℕ) → IsTableauOf rows t → IsLeastOf (suc t.height) t.height (list_at t) (λ l. cell_at t l col) r → IsLeaving t col r
leaves_alone rows t col r of b = record {
  in_range = b.in_range;
  above = b.above;
  least = λ l ll ne q. elim (b.least l ll q) [
    | inr below ↦ below
    | inl same ↦ absurd (no_tie t.height (start_cell t.unknowns rows) (own_column t.unknowns t.height) (basic_at t) (cell_at t) (list_column t.unknowns t.height) l r (cell_at t l col) (cell_at t r col)
        of.basis_rows (λ k lk. own_is t.unknowns t.height k lk) (own_end t.unknowns t.height ∙ sym of.last_basic) ll b.in_range ne b.above same)
  ];
}
  where
    own_is : (w m k : ℕ) → k < m → own_column w m k ≡ list_column w m (suc k)
    own_is w m k lt = rw (ne_eqb k m (λ s. omega arith)) refl

    own_end : (w m : ℕ) → own_column w m m ≡ w + 2 + m
    own_end w m = rw (eq-eqb m m refl) refl

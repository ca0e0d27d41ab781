-- Pivot runs of tables are runs of stages: what is known of each tableau on the run.
use Rattle.std.proofs.Common.{ℕ, zero, suc, ◌+◌, ◌<◌, ◌≤◌, ◌≡◌, ◌∙◌, ap, subst, refl, arith, List, [], ◌∷◌, length, get_or, ℤ, pos, ◌<ℤ◌, ◌≤ℤ◌, get_or-set_same, get_or-set_other}
use Rattle.slice_linear.proofs.Ring.{linear}
use Rattle.slice_linear.specs.Rows.{LinearRow, width}
use Rattle.slice_linear.specs.declared.row.RowKind.{RowKind}
use Rattle.slice_linear.specs.declared.row.RowKind.TheVariants.{Zero, AtLeast, Above}
use Rattle.slice_tableau.specs.System.{Line, lines, lines_of, lines_cell, start_cell, own_column, list_column}
use Rattle.slice_tableau.specs.Basis.{IsBasisTable}
use Rattle.slice_tableau.specs.Lex.{IsRatioBelow}
use Rattle.slice_tableau.specs.Table.{Table, IsTableauOf, IsFirst, cell_at, basic_at}
use Rattle.slice_tableau.specs.Run.{IsLawfulStep, IsPivotRun, begins, goes_on}
use Rattle.slice_tableau.proofs.FirstTable.{first_table, first_high}
use Rattle.slice_tableau.proofs.FirstTableau.{same_table}
use Rattle.slice_tableau.proofs.SystemLaws.{cell_right}
use Rattle.slice_tableau.proofs.Unique.{basis_row_is_unique}
use Rattle.slice_tableau.proofs.RunLaws.{Stage, IsStep, IsHigh, step_keeps_high}

-- the tableau as a stage
abbrev pub stage : Table → Stage
stage t = record { basis = basic_at t; table = cell_at t }

-- the rows of a tableau, over the rows' own width and height
pub table_is : (rows : List LinearRow) (t : Table) → IsTableauOf rows t → let m = length (lines rows) in let w = width rows in IsBasisTable (suc m) (start_cell w rows) (own_column w m) (basic_at t) (cell_at t)
table_is rows t of =
    subst (λ w. IsBasisTable (suc (length (lines rows))) (start_cell w rows) (own_column w (length (lines rows))) (basic_at t) (cell_at t)) of.unknowns_is
    (subst (λ m. IsBasisTable (suc m) (start_cell t.unknowns rows) (own_column t.unknowns m) (basic_at t) (cell_at t)) of.height_is of.basis_rows)

-- a lawful pivot as a step of stages
pub step_is : (rows : List LinearRow) (t u : Table) → IsLawfulStep rows t u → let m = length (lines rows) in let w = width rows in IsStep m (start_cell w rows) (own_column w m) (list_column w m) (stage t) (stage u)
step_is rows t u s =
    let m = length (lines rows) in
    let w = width rows in
    let eh = s.old.height_is in
    let eu = s.old.unknowns_is in
    let k = s.row in
    let c = s.col in
    let lt = s.leaves.in_range in
    let long = s.old.sizes.basics in
    let there : k < length t.basis = omega arith in
    record {
      old = table_is rows t s.old;
      new = table_is rows u s.new;
      row = k;
      col = c;
      row_there = omega arith;
      enters = subst (λ h. (cell_at t h c) <ℤ pos 0) eh s.enters.below;
      above = s.leaves.above;
      least = λ l ll ne p. subst (λ h. IsRatioBelow (suc h) (λ i. cell_at t k (list_column w h i)) (cell_at t k c) (λ i. cell_at t l (list_column w h i)) (cell_at t l c)) eh
          (subst (λ x. IsRatioBelow (suc t.height) (λ i. cell_at t k (list_column x t.height i)) (cell_at t k c) (λ i. cell_at t l (list_column x t.height i)) (cell_at t l c)) eu (s.leaves.least l (omega arith) ne p));
      taken = ap (λ b. get_or b k 0) s.basis_is ∙ (rw get_or-set_same);
      others = λ l ll ne. ap (λ b. get_or b l 0) s.basis_is ∙ (rw get_or-set_other);
    }

-- the right sides of the first rows aren't below 0
abbrev pub RightsHigh : List Line → Type 0
RightsHigh [] = Unit {0}
RightsHigh (l ∷ ls) = (pos 0 ≤ℤ l.right) × RightsHigh ls

rights_of : (k : RowKind) (a : List ℤ) (rest : List Line) → RightsHigh rest → RightsHigh (lines_of k a rest)
rights_of Zero a rest h = (omega (arith, linear), (omega (arith, linear), h))
rights_of AtLeast a rest h = (omega (arith, linear), h)
rights_of Above a rest h = (omega (arith, linear), h)

pub rights : (rows : List LinearRow) → RightsHigh (lines rows)
rights [] = (omega (arith, linear), tt)
rights (r ∷ rs) = rights_of r.kind r.coefs (lines rs) (rights rs)

cell_high : (w m : ℕ) (ls : List Line) (n i : ℕ) → n + length ls ≤ m → i < length ls → RightsHigh ls → pos 0 ≤ℤ (lines_cell w m ls n i (w + 1 + m))
cell_high w m [] n i le lt h = absurd (omega arith)
cell_high w m (l ∷ ls) n zero le lt h = rw (cell_right w m n l (omega arith)) h.0
cell_high w m (l ∷ ls) n (suc i) le lt h = cell_high w m ls (suc n) i (omega arith) (omega arith) h.1

-- the rows of the first tableau
first_rows : (rows : List LinearRow) (t : Table) → IsFirst rows t → let m = length (lines rows) in (l : ℕ) → l ≤ m → (j : ℕ) → cell_at t l j ≡ start_cell (width rows) rows l j
first_rows rows t f l le j =
    let m = length (lines rows) in
    let w = width rows in
    let slacks : (k : ℕ) → k < suc m → basic_at t k ≡ own_column w m k = λ k lk.
    subst (λ h. k ≤ h → basic_at t k ≡ own_column w h k) f.of_rows.height_is (subst (λ x. k ≤ t.height → basic_at t k ≡ own_column x t.height k) f.of_rows.unknowns_is (f.slacks k)) (omega arith) in
    let mine = table_is rows t f.of_rows in
    let first = same_table (suc m) (start_cell w rows) (own_column w m) (own_column w m) (basic_at t) (start_cell w rows) (start_cell w rows) (first_table w rows) slacks (λ l ll j. refl) in
    basis_row_is_unique (suc m) (start_cell w rows) (own_column w m) (basic_at t) l (cell_at t l) (start_cell w rows l) mine.independent (mine.rows l (omega arith)) (first.rows l (omega arith)) j

-- each tableau of a run is one of the rows, with lists above the zeros
pub record Known (rows : List LinearRow) (t : Table) : Type 0 where
  pub of_rows : IsTableauOf rows t
  pub high : IsHigh (length (lines rows)) (list_column (width rows) (length (lines rows))) (stage t)

pub known : (rows : List LinearRow) (t : Table) (before : List Table) → IsPivotRun rows (t ∷ before) → Known rows t
known rows t before (begins u f) =
    let m = length (lines rows) in
    let w = width rows in record {
      of_rows = f.of_rows;
      high = λ l ll. let a = first_high w rows l ll (cell_high w m (lines rows) 0 l (omega arith) ll (rights rows)) in
          record {
            first = a.first;
            in_range = a.in_range;
            zeros = λ i li. first_rows rows u f l (omega arith) (list_column w m i) ∙ a.zeros i li;
            above = rw (first_rows rows u f l (omega arith) (list_column w m a.first)) a.above;
          };
    }
known rows t before (goes_on x xs u run s) =
    let k = known rows x xs run in
    let m = length (lines rows) in
    let w = width rows in record {
      of_rows = s.new;
      high = step_keeps_high m (start_cell w rows) (own_column w m) (list_column w m) (stage x) (stage u) (step_is rows x u s) k.high;
    }

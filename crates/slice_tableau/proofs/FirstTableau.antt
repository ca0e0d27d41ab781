-- The first tableau of rows is theirs.
use Rattle.std.proofs.Common.{Bool, true, false, ℕ, zero, suc, ◌+◌, ◌<◌, ◌≤◌, ◌≡◌, ◌∙◌, inl, inr, ap, sym, subst, refl, arith, List, [], ◌∷◌, length, get_or, cond, eqb, ltb, ℤ, pos, negsuc, ◌*ℤ◌}
use Rattle.std.proofs.lemmas.Bool.{cases_lt, eq-eqb, ne_eqb, le-ltb}
use Rattle.std.proofs.lemmas.Int.{unsigned_abs-mul}
use Rattle.std.proofs.lemmas.List.{get_or_past}
use Rattle.std.proofs.lemmas.List.FromFn.{get_or-map-range_with_len, length-map-range_with_len}
use Rattle.slice_num.specs.Rational.{Fits}
use Rattle.slice_linear.specs.Sums.{at}
use Rattle.slice_linear.specs.Rows.{LinearRow, coefs_at, AreRowsOver, width}
use Rattle.slice_linear.specs.declared.row.RowKind.{RowKind}
use Rattle.slice_linear.specs.declared.row.RowKind.TheVariants.{Zero, AtLeast, Above}
use Rattle.slice_tableau.specs.System.{Line, lines, lines_of, line_cell, lines_cell, start_cell, objective_cell, own_column}
use Rattle.slice_tableau.specs.Basis.{IsBasisRow, IsBasisTable}
use Rattle.slice_tableau.specs.First.{line_items, objective_items, lines_items}
use Rattle.slice_tableau.specs.Table.{Table, HasSizes, CellsFit, IsFirst, cell_at, basic_at}
use Rattle.slice_tableau.proofs.FirstTable.{first_table}

-- the numbers of a line, past the last column too
line_at : (w m i : ℕ) (l : Line) (j : ℕ) → i < m → at (line_items w m i l) j ≡ line_cell w m i l j
line_at w m i l j im = elim (cases_lt j (w + m + 3)) [
  | inl lt ↦ get_or-map-range_with_len (line_cell w m i l) 0 (w + m + 3) j j (pos 0) lt (omega arith)
  | inr ge ↦ get_or_past (line_items w m i l) j (pos 0) (omega (arith, length-map-range_with_len (line_cell w m i l) 0 (w + m + 3)))
      ∙ sym (rw (le-ltb j w (omega arith), ne_eqb j w (λ s. omega arith), ne_eqb j (w + 1 + i) (λ s. omega arith), ne_eqb j (w + 1 + m) (λ s. omega arith)) refl)
]

objective_at : (w m j : ℕ) → at (objective_items w m) j ≡ objective_cell w m j
objective_at w m j = elim (cases_lt j (w + m + 3)) [
  | inl lt ↦ get_or-map-range_with_len (objective_cell w m) 0 (w + m + 3) j j (pos 0) lt (omega arith)
  | inr ge ↦ get_or_past (objective_items w m) j (pos 0) (omega (arith, length-map-range_with_len (objective_cell w m) 0 (w + m + 3)))
      ∙ sym (rw (ne_eqb j w (λ s. omega arith), ne_eqb j (w + 2 + m) (λ s. omega arith)) refl)
]

items_at : (w m : ℕ) (ls : List Line) (n i j : ℕ) → n + length ls ≤ m → i ≤ length ls → at (get_or (lines_items w m ls n) i []) j ≡ lines_cell w m ls n i j
items_at w m [] n zero j le il = objective_at w m j
items_at w m [] n (suc i) j le il = absurd (omega arith)
items_at w m (l ∷ ls) n zero j le il = line_at w m n l j (omega arith)
items_at w m (l ∷ ls) n (suc i) j le il = items_at w m ls (suc n) i j (omega arith) (omega arith)

items_tall : (w m : ℕ) (ls : List Line) (n : ℕ) → length (lines_items w m ls n) ≡ suc (length ls)
items_tall w m [] n = refl
items_tall w m (l ∷ ls) n = ap suc (items_tall w m ls (suc n))

items_wide : (w m : ℕ) (ls : List Line) (n i : ℕ) → i ≤ length ls → length (get_or (lines_items w m ls n) i []) ≡ w + m + 3
items_wide w m [] n zero il = length-map-range_with_len (objective_cell w m) 0 (w + m + 3)
items_wide w m [] n (suc i) il = absurd (omega arith)
items_wide w m (l ∷ ls) n zero il = length-map-range_with_len (line_cell w m n l) 0 (w + m + 3)
items_wide w m (l ∷ ls) n (suc i) il = items_wide w m ls (suc n) i (omega arith)

-- the numbers of lines fit
record LineFits (l : Line) : Type 0 where
  coefs : (j : ℕ) → Fits (l.sign *ℤ at l.coefs j)
  t : Fits l.t
  right : Fits l.right

cond_fits : (b : Bool) (x y : ℤ) → Fits x → Fits y → Fits (cond b x y)
cond_fits true x y p q = p
cond_fits false x y p q = q

line_fits : (w m i : ℕ) (l : Line) (j : ℕ) → LineFits l → Fits (line_cell w m i l j)
line_fits w m i l j f =
    cond_fits (ltb j w) _ _ (f.coefs j) (cond_fits (eqb j w) _ _ f.t (cond_fits (eqb j (w + 1 + i)) (pos 1) _ (omega arith) (cond_fits (eqb j (w + 1 + m)) _ (pos 0) f.right (omega arith))))

objective_fits : (w m j : ℕ) → Fits (objective_cell w m j)
objective_fits w m j = cond_fits (eqb j w) (negsuc 0) _ (omega arith) (cond_fits (eqb j (w + 2 + m)) (pos 1) (pos 0) (omega arith) (omega arith))

-- each line fits
abbrev EachFits : List Line → Type 0
EachFits [] = Unit {0}
EachFits (l ∷ ls) = LineFits l × EachFits ls

cells_fit : (w m : ℕ) (ls : List Line) (n i j : ℕ) → EachFits ls → Fits (lines_cell w m ls n i j)
cells_fit w m [] n i j f = objective_fits w m j
cells_fit w m (l ∷ ls) n zero j f = line_fits w m n l j f.0
cells_fit w m (l ∷ ls) n (suc i) j f = cells_fit w m ls (suc n) i j f.1

sign_fits : (z : ℤ) → Fits z → (Fits (pos 1 *ℤ z)) × (Fits (negsuc 0 *ℤ z))
sign_fits z f = (omega (arith, unsigned_abs-mul (pos 1) z), omega (arith, unsigned_abs-mul (negsuc 0) z))

lines_of_fit : (k : RowKind) (a : List ℤ) (rest : List Line) → ((j : ℕ) → Fits (at a j)) → EachFits rest → EachFits (lines_of k a rest)
lines_of_fit Zero a rest f g = (record { coefs = λ j. (sign_fits (at a j) (f j)).1; t = omega arith; right = omega arith }, (record { coefs = λ j. (sign_fits (at a j) (f j)).0; t = omega arith; right = omega arith }, g))
lines_of_fit AtLeast a rest f g = (record { coefs = λ j. (sign_fits (at a j) (f j)).1; t = omega arith; right = omega arith }, g)
lines_of_fit Above a rest f g = (record { coefs = λ j. (sign_fits (at a j) (f j)).1; t = omega arith; right = omega arith }, g)

lines_fit : (rows : List LinearRow) → ((i j : ℕ) → i < length rows → Fits (at (coefs_at rows i) j)) → EachFits (lines rows)
lines_fit [] f = (record { coefs = λ j. (sign_fits (pos 0) (omega arith)).0; t = omega arith; right = omega arith }, tt)
lines_fit (r ∷ rs) f = lines_of_fit r.kind r.coefs (lines rs) (λ j. f 0 j (omega arith)) (lines_fit rs (λ i j lt. f (suc i) j (omega arith)))

-- a table that agrees with a basis table
pub same_table : (n : ℕ) (start : ℕ → ℕ → ℤ) (own basis next : ℕ → ℕ) (table made : ℕ → ℕ → ℤ) → IsBasisTable n start own basis table
    → ((l : ℕ) → l < n → next l ≡ basis l) → ((l : ℕ) → l < n → (j : ℕ) → made l j ≡ table l j) → IsBasisTable n start own next made
same_table n start own basis next table made t b e = record {
  independent = record { no_other = λ r c z. t.independent.no_other r c (λ l ll. ap r (sym (b l ll)) ∙ z l ll) };
  rows = λ l ll. let row = t.rows l ll in let q : made l ≡ table l = λ i j. e l ll j i in
      subst (λ (r : ℕ → ℤ). IsBasisRow n start own next l r) (sym q) record {
        combination = row.combination;
        above = rw (b l ll) row.above;
        elsewhere = λ k lk ne. ap (table l) (b k lk) ∙ row.elsewhere k lk ne;
        lowest = row.lowest;
      };
}

pub own_below : (w m l : ℕ) → l < m → own_column w m l ≡ w + 1 + l
own_below w m l lt = rw (ne_eqb l m (λ s. omega arith)) refl

pub own_last : (w m : ℕ) → own_column w m m ≡ w + 2 + m
own_last w m = rw (eq-eqb m m refl) refl

pub first_sizes : (rows : List LinearRow) (u h : ℕ) (cells : List (List ℤ)) (basis : List ℕ) → h ≡ length (lines rows)
    → cells ≡ lines_items u h (lines rows) 0 → length basis ≡ h + 1 → HasSizes (record { unknowns = u; height = h; cells = cells; basis = basis })
first_sizes rows u h cells basis eh made long = record {
  rows = ap length made ∙ items_tall u h (lines rows) 0 ∙ ap suc (sym eh);
  width = λ i le. ap (λ x. length (get_or x i [])) made ∙ items_wide u h (lines rows) 0 i (omega arith);
  basics = long ∙ omega arith;
}

pub first_fits : (rows : List LinearRow) (u h : ℕ) (cells : List (List ℤ)) (basis : List ℕ) → h ≡ length (lines rows) → AreRowsOver u rows
    → cells ≡ lines_items u h (lines rows) 0 → CellsFit (record { unknowns = u; height = h; cells = cells; basis = basis })
first_fits rows u h cells basis eh are made i j = elim (cases_lt h i) [
  | inl past ↦ subst (λ (x : List (List ℤ)). Fits (at (get_or x i []) j)) (sym made) (subst (λ (x : List ℤ). Fits (at x j)) (sym (get_or_past (lines_items u h (lines rows) 0) i [] (omega (arith, items_tall u h (lines rows) 0)))) (omega arith))
  | inr within ↦ subst (λ (x : List (List ℤ)). Fits (at (get_or x i []) j)) (sym made) (rw (items_at u h (lines rows) 0 i j (omega arith) (omega arith)) (cells_fit u h (lines rows) 0 i j (lines_fit rows are.fit)))
]

pub first_is : (rows : List LinearRow) (u h : ℕ) (cells : List (List ℤ)) (basis : List ℕ) → u ≡ width rows → h ≡ length (lines rows)
    → cells ≡ lines_items u h (lines rows) 0 → length basis ≡ h + 1 → ((l : ℕ) → l ≤ h → get_or basis l 0 ≡ own_column u h l) → IsFirst rows (record { unknowns = u; height = h; cells = cells; basis = basis })
first_is rows u h cells basis eu eh made long slacks =
    let t : Table = record { unknowns = u; height = h; cells = cells; basis = basis } in
    let first : IsBasisTable (suc h) (start_cell u rows) (own_column u h) (own_column u h) (start_cell u rows) =
    subst (λ m. IsBasisTable (suc m) (start_cell u rows) (own_column u m) (own_column u m) (start_cell u rows)) (sym eh) (first_table u rows) in
    let cell : (l j : ℕ) → l ≤ h → cell_at t l j ≡ start_cell u rows l j = λ l j le.
    ap (λ x. at (get_or x l []) j) made ∙ items_at u h (lines rows) 0 l j (omega arith) (omega arith) ∙ ap (λ m. lines_cell u m (lines rows) 0 l j) eh in
    record {
      of_rows = record {
        unknowns_is = eu;
        height_is = eh;
        sizes = first_sizes rows u h cells basis eh made long;
        basis_rows = same_table (suc h) (start_cell u rows) (own_column u h) (own_column u h) (basic_at t) (start_cell u rows) (cell_at t) first (λ l ll. slacks l (omega arith)) (λ l ll j. cell l j (omega arith));
        basics_in = λ l ll. let e = slacks l (omega arith) ∙ own_below u h l ll in omega arith;
        last_basic = slacks h (omega arith) ∙ own_last u h;
      };
      slacks = slacks;
    }

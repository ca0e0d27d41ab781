-- One answer fits a system.
use Rattle.std.proofs.Common.{ℕ, suc, ◌<◌, ◌≤◌, ◌≡◌, ◌∙◌, ◌^◌, ap, sym, refl, subst, arith, List, ◌∷◌, length, ℤ, pos, ◌<ℤ◌, ◌⊎◌, inl, inr}
use Rattle.std.proofs.lemmas.Bool.{cases_order, cases_eq, cases_lt}
use Rattle.slice_linear.proofs.Ring.{linear}
use Rattle.slice_linear.specs.Rows.{LinearRow}
use Rattle.slice_tableau.specs.Table.{Table, IsEntering, IsLeaving, IsFirstMisfit, NoneEnters, PivotFits, right_column}
use Rattle.slice_tableau.specs.Run.{IsPivotRun, begins, goes_on}
use Rattle.slice_simplex.specs.Made.{StepFits, EachStepFits, IsEndOf, IsMade, IsLast}
use Rattle.slice_simplex.specs.Ends.{objective_right, end_multipliers, end_solution, multiple_to, EndFits, IsEndRowUnfit}
use Rattle.slice_simplex.specs.ProverAnswer.{ProverAnswer, RefutedBy, SolvedBy, AtLimit, Unfit, IsProverAnswer, AreEndMultipliers, IsEndSolution, RunFits, IsAtLimit, IsPivotUnfit, IsEndUnfit}
use Rattle.slice_tableau.proofs.OneTableau.{same_column, same_row}
use Rattle.slice_simplex.proofs.Same.{same_run, not_longer}
use Rattle.slice_simplex.proofs.EndFacts.{multiple_grows}

pub made_is_one : (rows : List LinearRow) (n : ℕ) (t u : Table) → IsMade rows n t → IsMade rows n u → t ≡ u
made_is_one rows n t u a b = (same_run rows t a.before a.run u b.before b.run (a.count ∙ sym b.count)).0

-- a run that ends isn't shorter than another
no_further : (rows : List LinearRow) (n k : ℕ) (t u : Table) → IsLast rows n t → IsMade rows k u → k ≤ n
no_further rows n k t u a b =
    let le = not_longer rows t a.made.before a.made.run a.none u b.before b.run in
    let p = a.made.count in
    let q = b.count in
    omega arith

pub last_is_one : (rows : List LinearRow) (n k : ℕ) (t u : Table) → IsLast rows n t → IsLast rows k u → (n ≡ k) × (t ≡ u)
last_is_one rows n k t u a b =
    let x = no_further rows n k t u a b.made in
    let y = no_further rows k n u t b a.made in
    let e : n ≡ k = omega arith in
    (e, made_is_one rows k t u (subst (λ (z : ℕ). IsMade rows z t) e a.made) b.made)

-- the numbers of each pivot before the last tableau fit
run_fits : (rows : List LinearRow) (t : Table) (xs : List Table) → IsPivotRun rows (t ∷ xs) → EachStepFits xs → (u : Table) (ys : List Table) → IsPivotRun rows (u ∷ ys) → length ys < length xs → StepFits u
run_fits rows t xs (begins x f) fit u ys more lt = absurd (omega arith)
run_fits rows t xs (goes_on b bs y run s) fit u ys more lt = elim (cases_eq (length bs) (length ys)) [
  | inl same ↦ subst StepFits (same_run rows b bs run u ys more same).0 fit.0
  | inr ne ↦ run_fits rows b bs run fit.1 u ys more (omega arith)
]

earlier_fits : (rows : List LinearRow) (n k : ℕ) (t u : Table) → IsMade rows n t → IsMade rows k u → k < n → StepFits u
earlier_fits rows n k t u a b lt = run_fits rows t a.before a.run a.fit u b.before b.run (let p = a.count in let q = b.count in omega arith)

-- a pivot whose numbers don't fit isn't followed by another tableau
not_passed : (rows : List LinearRow) (limit n p i j : ℕ) (t : Table) → IsMade rows n t → IsPivotUnfit rows limit p i j → n ≤ p
not_passed rows limit n p i j t a b = elim (cases_lt p n) [
  | inl lt ↦ absurd (b.misfit.misfit (earlier_fits rows n p t b.last a b.made lt b.row b.col i j b.enters b.leaves b.misfit.row_there b.misfit.column_there))
  | inr le ↦ le
]

-- a column doesn't enter where none does
none_or_one : (t : Table) (c : ℕ) → NoneEnters t → IsEntering t c → ⊥
none_or_one t c none e = let p = none c e.in_range in let q = e.below in omega (arith, linear)

-- a run that ends makes no further pivot
last_or_enters : (rows : List LinearRow) (n k c : ℕ) (t u : Table) → IsLast rows n t → IsMade rows k u → IsEntering u c → k < n
last_or_enters rows n k c t u a b e = elim (cases_eq k n) [
  | inl same ↦ absurd (none_or_one u c (subst NoneEnters (made_is_one rows n t u a.made (subst (λ (z : ℕ). IsMade rows z u) same b)) a.none) e)
  | inr ne ↦ let le = no_further rows n k t u a b in omega arith
]

last_or_limit : (rows : List LinearRow) (limit n : ℕ) (t : Table) → IsLast rows n t → n ≤ limit → IsAtLimit rows limit → ⊥
last_or_limit rows limit n t a le b = let lt = last_or_enters rows n limit b.col t b.last a b.made b.enters in omega arith

last_or_unfit : (rows : List LinearRow) (limit n p i j : ℕ) (t : Table) → IsLast rows n t → IsPivotUnfit rows limit p i j → ⊥
last_or_unfit rows limit n p i j t a b =
    let lt = last_or_enters rows n p b.col t b.last a b.made b.enters in
    let le = not_passed rows limit n p i j t a.made b in
    omega arith

limit_or_unfit : (rows : List LinearRow) (limit p i j : ℕ) → IsAtLimit rows limit → IsPivotUnfit rows limit p i j → ⊥
limit_or_unfit rows limit p i j a b = let le = not_passed rows limit limit p i j a.last a.made b in let lt = b.below in omega arith

-- one cell is the first
same_cell : (t : Table) (r c i j k l : ℕ) → IsFirstMisfit t r c i j → IsFirstMisfit t r c k l → (i ≡ k) × (j ≡ l)
same_cell t r c i j k l a b = elim (cases_order i k) [
  | inr (inl before) ↦ absurd (a.misfit (b.rows_before i j before a.column_there))
  | inr (inr after) ↦ absurd (b.misfit (a.rows_before k l after b.column_there))
  | inl same ↦ elim (cases_order j l) [
    | inl e ↦ (same, e)
    | inr (inl before) ↦ absurd (a.misfit (subst (λ (x : ℕ). PivotFits t r c x j) (sym same) (b.columns_before j before)))
    | inr (inr after) ↦ absurd (b.misfit (subst (λ (x : ℕ). PivotFits t r c x l) same (a.columns_before l after)))
  ]
]

same_unfit : (rows : List LinearRow) (limit p i j q k l : ℕ) → IsPivotUnfit rows limit p i j → IsPivotUnfit rows limit q k l → Unfit p i j ≡ Unfit q k l
same_unfit rows limit p i j q k l a b =
    let x = not_passed rows limit p q k l a.last a.made b in
    let y = not_passed rows limit q p i j b.last b.made a in
    let e : p ≡ q = omega arith in
    let t = b.last in
    let same : a.last ≡ t = made_is_one rows q a.last t (subst (λ (z : ℕ). IsMade rows z a.last) e a.made) b.made in
    let enters = subst (λ (z : Table). IsEntering z a.col) same a.enters in
    let leaves = subst (λ (z : Table). IsLeaving z a.col a.row) same a.leaves in
    let misfit = subst (λ (z : Table). IsFirstMisfit z a.row a.col i j) same a.misfit in
    let col : a.col ≡ b.col = same_column t a.col b.col enters b.enters in
    let row : a.row ≡ b.row = same_row t b.col a.row b.row (subst (λ (z : ℕ). IsLeaving t z a.row) col leaves) b.leaves in
    let cell = same_cell t b.row b.col i j k l (subst (λ (z : ℕ). IsFirstMisfit t z b.col i j) row (subst (λ (z : ℕ). IsFirstMisfit t a.row z i j) col misfit)) b.misfit in
    λ z. Unfit (e z) (cell.0 z) (cell.1 z)

-- one row is the first whose number for the end solution doesn't fit
multiple_fits : (t : Table) (i : ℕ) → i < t.height → multiple_to t t.height < 2 ^ 127 → multiple_to t (suc i) < 2 ^ 127
multiple_fits t i lt f = let le = multiple_grows t (suc i) t.height (omega arith) in omega arith

not_fits : (t : Table) (i : ℕ) → EndFits t → IsEndRowUnfit t i → ⊥
not_fits t i f (inl a) = a.unfit (multiple_fits t i a.row_there f.multiple)
not_fits t i f (inr a) = a.unfit (f.products i a.row_there)

same_end_row : (t : Table) (i k : ℕ) → IsEndRowUnfit t i → IsEndRowUnfit t k → i ≡ k
same_end_row t i k (inl a) (inl b) = elim (cases_order i k) [
  | inl same ↦ same
  | inr (inl before) ↦ absurd (a.unfit (b.before (suc i) (omega arith)))
  | inr (inr after) ↦ absurd (b.unfit (a.before (suc k) (omega arith)))
]
same_end_row t i k (inl a) (inr b) = absurd (a.unfit (multiple_fits t i a.row_there b.multiple))
same_end_row t i k (inr a) (inl b) = absurd (b.unfit (multiple_fits t k b.row_there a.multiple))
same_end_row t i k (inr a) (inr b) = elim (cases_order i k) [
  | inl same ↦ same
  | inr (inl before) ↦ absurd (a.unfit (b.before i before))
  | inr (inr after) ↦ absurd (b.unfit (a.before k after))
]

same_end : (rows : List LinearRow) (limit p i j q k l : ℕ) → IsEndUnfit rows limit p i j → IsEndUnfit rows limit q k l → Unfit p i j ≡ Unfit q k l
same_end rows limit p i j q k l a b =
    let e = last_is_one rows p q a.last b.last a.ends b.ends in
    let row = same_end_row b.last i k (subst (λ (z : Table). IsEndRowUnfit z i) e.1 a.unfit) b.unfit in
    let col : j ≡ l = a.column ∙ ap right_column e.1 ∙ sym b.column in
    λ z. Unfit (e.0 z) (row z) (col z)

-- the last tableau, without regard to fit
same_ends : (rows : List LinearRow) (t u : Table) → IsEndOf rows t → IsEndOf rows u → t ≡ u
same_ends rows t u a b =
    let x = not_longer rows t a.before a.run a.none u b.before b.run in
    let y = not_longer rows u b.before b.run b.none t a.before a.run in
    (same_run rows t a.before a.run u b.before b.run (omega arith)).0

-- one list is the end multipliers, or one is the end solution
pub same_multipliers : (rows : List LinearRow) (m n : List ℤ) → AreEndMultipliers rows m → AreEndMultipliers rows n → m ≡ n
same_multipliers rows m n a b = a.multipliers_are ∙ ap (end_multipliers rows) (same_ends rows a.last b.last a.ends b.ends) ∙ sym b.multipliers_are

pub same_solution : (rows : List LinearRow) (xs ys : List ℤ) → IsEndSolution rows xs → IsEndSolution rows ys → xs ≡ ys
same_solution rows xs ys a b = a.solution_is ∙ ap end_solution (same_ends rows a.last b.last a.ends b.ends) ∙ sym b.solution_is

zero_or_above : (t u : Table) → t ≡ u → objective_right t ≡ pos 0 → pos 0 <ℤ (objective_right u) → ⊥
zero_or_above t u e z p = let h = ap objective_right e in omega (arith, linear)

pub not_both_ends : (rows : List LinearRow) (m xs : List ℤ) → AreEndMultipliers rows m → IsEndSolution rows xs → ⊥
not_both_ends rows m xs a b = zero_or_above a.last b.last (same_ends rows a.last b.last a.ends b.ends) a.right_zero b.right_above

-- a run that fits isn't given up
pub fits_or_limit : (rows : List LinearRow) (limit : ℕ) → RunFits rows limit → IsAtLimit rows limit → ⊥
fits_or_limit rows limit a b = last_or_limit rows limit a.pivots a.last a.ends a.within b

pub fits_or_unfit : (rows : List LinearRow) (limit p i j : ℕ) → RunFits rows limit → IsPivotUnfit rows limit p i j ⊎ IsEndUnfit rows limit p i j → ⊥
fits_or_unfit rows limit p i j a (inl b) = last_or_unfit rows limit a.pivots p i j a.last a.ends b
fits_or_unfit rows limit p i j a (inr b) =
    let e = (last_is_one rows a.pivots p a.last b.last a.ends b.ends).1 in
    not_fits b.last i (subst EndFits e (a.solution_fits (subst (λ (z : Table). pos 0 <ℤ (objective_right z)) (sym e) b.right_above))) b.unfit

limit_or_any : (rows : List LinearRow) (limit p i j : ℕ) → IsAtLimit rows limit → IsPivotUnfit rows limit p i j ⊎ IsEndUnfit rows limit p i j → ⊥
limit_or_any rows limit p i j a (inl b) = limit_or_unfit rows limit p i j a b
limit_or_any rows limit p i j a (inr b) = last_or_limit rows limit p b.last b.ends b.within a

unfit_is_one : (rows : List LinearRow) (limit p i j q k l : ℕ) → IsPivotUnfit rows limit p i j ⊎ IsEndUnfit rows limit p i j → IsPivotUnfit rows limit q k l ⊎ IsEndUnfit rows limit q k l → Unfit p i j ≡ Unfit q k l
unfit_is_one rows limit p i j q k l (inl a) (inl b) = same_unfit rows limit p i j q k l a b
unfit_is_one rows limit p i j q k l (inl a) (inr b) = absurd (last_or_unfit rows limit q p i j b.last b.ends a)
unfit_is_one rows limit p i j q k l (inr a) (inl b) = absurd (last_or_unfit rows limit p q k l a.last a.ends b)
unfit_is_one rows limit p i j q k l (inr a) (inr b) = same_end rows limit p i j q k l a b

pub answer_is_one : (rows : List LinearRow) (limit : ℕ) (a b : ProverAnswer) → IsProverAnswer rows limit a → IsProverAnswer rows limit b → a ≡ b
answer_is_one rows limit (RefutedBy m) (RefutedBy n) a b = ap RefutedBy (same_multipliers rows m n a.0 b.0)
answer_is_one rows limit (RefutedBy m) (SolvedBy xs) a b = absurd (not_both_ends rows m xs a.0 b.0)
answer_is_one rows limit (RefutedBy m) AtLimit a b = absurd (fits_or_limit rows limit a.1 b)
answer_is_one rows limit (RefutedBy m) (Unfit p i j) a b = absurd (fits_or_unfit rows limit p i j a.1 b)
answer_is_one rows limit (SolvedBy xs) (RefutedBy m) a b = absurd (not_both_ends rows m xs b.0 a.0)
answer_is_one rows limit (SolvedBy xs) (SolvedBy ys) a b = ap SolvedBy (same_solution rows xs ys a.0 b.0)
answer_is_one rows limit (SolvedBy xs) AtLimit a b = absurd (fits_or_limit rows limit a.1 b)
answer_is_one rows limit (SolvedBy xs) (Unfit p i j) a b = absurd (fits_or_unfit rows limit p i j a.1 b)
answer_is_one rows limit AtLimit (RefutedBy m) a b = absurd (fits_or_limit rows limit b.1 a)
answer_is_one rows limit AtLimit (SolvedBy xs) a b = absurd (fits_or_limit rows limit b.1 a)
answer_is_one rows limit AtLimit AtLimit a b = refl
answer_is_one rows limit AtLimit (Unfit p i j) a b = absurd (limit_or_any rows limit p i j a b)
answer_is_one rows limit (Unfit p i j) (RefutedBy m) a b = absurd (fits_or_unfit rows limit p i j b.1 a)
answer_is_one rows limit (Unfit p i j) (SolvedBy xs) a b = absurd (fits_or_unfit rows limit p i j b.1 a)
answer_is_one rows limit (Unfit p i j) AtLimit a b = absurd (limit_or_any rows limit p i j b a)
answer_is_one rows limit (Unfit p i j) (Unfit q k l) a b = unfit_is_one rows limit p i j q k l a b

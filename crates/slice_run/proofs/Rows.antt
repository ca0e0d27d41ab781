-- The rows of share-values as the loops make them, after those so far.
use Rattle.std.proofs.Common.{◌≡◌, ◌∙◌, ℕ, zero, suc, ◌+◌, ◌-◌, ◌++◌, ◌∷◌, List, [], drop, ap, sym, arith, refl, append_assoc, append-nil, Some}
use Rattle.std.specs.Prelude.{slice_get}
use Rattle.slice_num.specs.Rational.{Rational}
use Rattle.slice_num.specs.Fitting.{Fitting, Fitted, Unfit, next}
use Rattle.slice_num.specs.Valuation.{Valuation}
use Rattle.slice_step.specs.Arithmetic.{share_in}
use Rattle.slice_core.specs.Run.{Piece}
use Rattle.slice_run.specs.Walk.{row_in, values_in}
use Rattle.slice_run.specs.Outcomes.{ValueFault}
use Rattle.slice_run.specs.declared.outcome.RunFault.{RunFault}
use Rattle.slice_run.specs.declared.outcome.RunFault.TheVariants.{Overflow, BadAnswer, TooFewAnswers, TooManyAnswers, Memory}

abbrev pub row_from : Valuation → List Rational → List Piece → Fitting (List Rational)
row_from v row [] = Fitted row
row_from v row (p ∷ ps) = next (share_in v p) (λ x. row_from v (row ++ x ∷ []) ps)

abbrev pub rows_from : List Piece → List (List Rational) → List Valuation → Fitting (List (List Rational))
rows_from shares rows [] = Fitted rows
rows_from shares rows (v ∷ vs) = next (row_in v shares) (λ row. rows_from shares (rows ++ row ∷ []) vs)

-- those so far, and then the others
after_all : {X : Type 0} (xs : List X) (m : Fitting X) (o : Fitting (List X)) (f : X → Fitting (List X)) → ((x : X) → f x ≡ next o (λ ys. Fitted ((xs ++ x ∷ []) ++ ys)))
    → next m f ≡ next (next m (λ x. next o (λ ys. Fitted (x ∷ ys)))) (λ ys. Fitted (xs ++ ys))
after_all xs Unfit o f h = refl
after_all xs (Fitted x) Unfit f h = h x
after_all xs (Fitted x) (Fitted ys) f h = h x ∙ ap Fitted (append_assoc xs (x ∷ []) ys)

none_before : {X : Type 0} (m : Fitting (List X)) → next m (λ ys. Fitted ([] ++ ys)) ≡ m
none_before Unfit = refl
none_before (Fitted xs) = refl

row_from-after : (v : Valuation) (row : List Rational) (ps : List Piece) → row_from v row ps ≡ next (row_in v ps) (λ xs. Fitted (row ++ xs))
row_from-after v row [] = ap Fitted (sym (append-nil row))
row_from-after v row (p ∷ ps) = after_all row (share_in v p) (row_in v ps) (λ x. row_from v (row ++ x ∷ []) ps) (λ x. row_from-after v (row ++ x ∷ []) ps)

rows_from-after : (shares : List Piece) (rows : List (List Rational)) (vs : List Valuation) → rows_from shares rows vs ≡ next (values_in vs shares) (λ rs. Fitted (rows ++ rs))
rows_from-after shares rows [] = ap Fitted (sym (append-nil rows))
rows_from-after shares rows (v ∷ vs) = after_all rows (row_in v shares) (values_in vs shares) (λ row. rows_from shares (rows ++ row ∷ []) vs) (λ row. rows_from-after shares (rows ++ row ∷ []) vs)

pub row_from-is : (v : Valuation) (ps : List Piece) → row_from v [] ps ≡ row_in v ps
row_from-is v ps = row_from-after v [] ps ∙ none_before (row_in v ps)

pub rows_from-is : (shares : List Piece) (vs : List Valuation) → rows_from shares [] vs ≡ values_in vs shares
rows_from-is shares vs = rows_from-after shares [] vs ∙ none_before (values_in vs shares)

-- ---- steps of the loops
drop_suc : {X : Type 0} (xs : List X) (i : ℕ) (x : X) → slice_get xs i ≡ Some x → drop i xs ≡ x ∷ drop (suc i) xs
drop_suc [] i x h = cc
drop_suc (y ∷ ys) zero x h = let e : y ≡ x = cc in ap (λ z. z ∷ ys) e
drop_suc (y ∷ ys) (suc i) x h = drop_suc ys i x h

pub drop_at : {X : Type 0} (xs : List X) (i : ℕ) (x : X) → slice_get xs (i + 1 - 1) ≡ Some x → drop i xs ≡ x ∷ drop (i + 1) xs
drop_at xs i x h =
    let e : i + 1 - 1 ≡ i = omega arith in
    let f : suc i ≡ i + 1 = omega arith in
    drop_suc xs i x (ap (slice_get xs) (sym e) ∙ h) ∙ ap (λ n. x ∷ drop n xs) f

pub row_step : (v : Valuation) (row : List Rational) (shares : List Piece) (i : ℕ) (p : Piece) → slice_get shares (i + 1 - 1) ≡ Some p
    → row_from v row (drop i shares) ≡ next (share_in v p) (λ x. row_from v (row ++ x ∷ []) (drop (i + 1) shares))
row_step v row shares i p h = ap (row_from v row) (drop_at shares i p h)

pub row_more : (v : Valuation) (row : List Rational) (shares : List Piece) (i : ℕ) (p : Piece) (x : Rational) → slice_get shares (i + 1 - 1) ≡ Some p → Fitted x ≡ share_in v p
    → row_from v (row ++ x ∷ []) (drop (i + 1) shares) ≡ row_from v row (drop i shares)
row_more v row shares i p x h e = ap (λ m. next m (λ y. row_from v (row ++ y ∷ []) (drop (i + 1) shares))) e ∙ sym (row_step v row shares i p h)

pub row_unfit : (v : Valuation) (row : List Rational) (shares : List Piece) (i : ℕ) (p : Piece) → slice_get shares (i + 1 - 1) ≡ Some p → Unfit ≡ share_in v p → row_from v row (drop i shares) ≡ Unfit
row_unfit v row shares i p h e = row_step v row shares i p h ∙ ap (λ m. next m (λ y. row_from v (row ++ y ∷ []) (drop (i + 1) shares))) (sym e)

pub rows_step : (shares : List Piece) (rows : List (List Rational)) (vs : List Valuation) (i : ℕ) (v : Valuation) → slice_get vs (i + 1 - 1) ≡ Some v
    → rows_from shares rows (drop i vs) ≡ next (row_in v shares) (λ row. rows_from shares (rows ++ row ∷ []) (drop (i + 1) vs))
rows_step shares rows vs i v h = ap (rows_from shares rows) (drop_at vs i v h)

pub rows_more : (shares : List Piece) (rows : List (List Rational)) (vs : List Valuation) (i : ℕ) (v : Valuation) (row : List Rational) → slice_get vs (i + 1 - 1) ≡ Some v → row_in v shares ≡ Fitted row
    → rows_from shares (rows ++ row ∷ []) (drop (i + 1) vs) ≡ rows_from shares rows (drop i vs)
rows_more shares rows vs i v row h e = sym (rows_step shares rows vs i v h ∙ ap (λ m. next m (λ r. rows_from shares (rows ++ r ∷ []) (drop (i + 1) vs))) e)

pub rows_fault : (query : ℕ) (f : RunFault) (shares : List Piece) (rows : List (List Rational)) (vs : List Valuation) (i : ℕ) (v : Valuation) → slice_get vs (i + 1 - 1) ≡ Some v → ValueFault query f (row_in v shares)
    → ValueFault query f (rows_from shares rows (drop i vs))
rows_fault query (Overflow q) shares rows vs i v h e = (e.0, rows_step shares rows vs i v h ∙ ap (λ m. next m (λ r. rows_from shares (rows ++ r ∷ []) (drop (i + 1) vs))) e.1)
rows_fault query (BadAnswer q) shares rows vs i v h e = absurd e
rows_fault query (TooFewAnswers q) shares rows vs i v h e = absurd e
rows_fault query TooManyAnswers shares rows vs i v h e = absurd e
rows_fault query Memory shares rows vs i v h e = tt

pub value_fault_along : {A : Type 0} (query : ℕ) (f : RunFault) (m n : Fitting A) → m ≡ n → ValueFault query f m → ValueFault query f n
value_fault_along query (Overflow q) m n e h = (h.0, sym e ∙ h.1)
value_fault_along query (BadAnswer q) m n e h = absurd h
value_fault_along query (TooFewAnswers q) m n e h = absurd h
value_fault_along query TooManyAnswers m n e h = absurd h
value_fault_along query Memory m n e h = tt

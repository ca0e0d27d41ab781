-- Steps over the items of a list.
use Rattle.std.proofs.Common.{◌≡◌, ℕ, ◌+◌, ◌<◌, ◌≤◌, List, [], ◌∷◌, ◌++◌, length, get_or, drop, drop-cons, add-one, refl, ap, ◌∙◌}
use Rattle.std.proofs.lemmas.List.{drop_all}
use Rattle.slice_affine.specs.Pass.{State, stepped, Ledger, cleared, changed_at, unused_by}
use Rattle.slice_affine.specs.declared.trail.Use.{Use}

pub stepped_next : {A : Type 0} (step : A → State → State) (xs : List A) (i : ℕ) (x : A) (s : State) → i < length xs → x ≡ get_or xs i x
    → stepped step (drop i xs) s ≡ stepped step (drop (i + 1) xs) (step x s)
stepped_next step xs i x s h e =
    ap (λ ys. stepped step ys s) (drop-cons xs i x h) ∙ rw (add-one, ← e) refl

pub stepped_end : {A : Type 0} (step : A → State → State) (xs : List A) (i : ℕ) (s : State) → length xs ≤ i → stepped step (drop i xs) s ≡ s
stepped_end step xs i s h = ap (λ ys. stepped step ys s) (drop_all i xs h)

pub stepped_append : {A : Type 0} (step : A → State → State) (xs ys : List A) (s : State) → stepped step (xs ++ ys) s ≡ stepped step ys (stepped step xs s)
stepped_append step [] ys s = refl
stepped_append step (x ∷ xs) ys s = stepped_append step xs ys (step x s)

pub cleared_next : (xs : List Use) (i : ℕ) (x : Use) (l : Ledger) → i < length xs → x ≡ get_or xs i x → cleared (drop i xs) l ≡ cleared (drop (i + 1) xs) (changed_at unused_by x.index l)
cleared_next xs i x l h e = ap (λ ys. cleared ys l) (drop-cons xs i x h) ∙ rw (add-one, ← e) refl

pub cleared_end : (xs : List Use) (i : ℕ) (l : Ledger) → length xs ≤ i → cleared (drop i xs) l ≡ l
cleared_end xs i l h = ap (λ ys. cleared ys l) (drop_all i xs h)

-- Ends of steps of width 1, one after another.
use Rattle.std.proofs.Common.{◌≡◌, ◌∙◌, ℕ, suc, ◌+◌, ◌-◌, ◌<◌, arith, ap, sym, subst, refl, List, [], ◌∷◌, ◌++◌, append_assoc, map, length}
use Rattle.std.specs.List.{All}
use Rattle.std.proofs.lemmas.List.{map-append}
use Rattle.slice_num.specs.Valuation.{Valuation, IsValuation, IsSmall}
use Rattle.slice_step.specs.ValuationShape.{IsSmallValuation, IsSmallList}
use Rattle.slice_step.specs.UnitSteps.{unit_ends}

unit_next : (i k j : ℕ) → k ≡ suc j → unit_ends i k ≡ (i + 1) ∷ unit_ends (i + 1) j
unit_next i k j e = ap (unit_ends i) e ∙ ap (λ s. s ∷ unit_ends s j) (omega arith)

pub unit_step : (xs ys : List ℕ) (i n : ℕ) → i < n → xs ++ unit_ends i (n - i) ≡ ys → (xs ++ (i + 1) ∷ []) ++ unit_ends (i + 1) (n - (i + 1)) ≡ ys
unit_step xs ys i n h e = append_assoc xs ((i + 1) ∷ []) (unit_ends (i + 1) (n - (i + 1))) ∙ (ap (λ zs. xs ++ zs) (sym (unit_next i (n - i) (n - (i + 1)) (omega arith))) ∙ e)

-- ---- lists of heights, one after another

pub nothing_left : {A : Type 0} (xs : List A) → length xs ≡ 0 → xs ≡ []
nothing_left [] h = refl
nothing_left (x ∷ xs) h = absurd (omega arith)

at_head : {A B : Type 0} (f : A → B) (P : B → Type 0) (ys : List A) (x : A) (zs : List A) → All P (map f (ys ++ x ∷ zs)) → P (f x)
at_head f P [] x zs h = h 0 (f x) (omega arith)
at_head f P (y ∷ ys) x zs h = at_head f P ys x zs (λ j d l. h (suc j) d (omega (arith, l)))

-- what holds of each holds of the one that comes next
pub next_all : {A B : Type 0} (f : A → B) (P : B → Type 0) (all ys : List A) (x : A) (zs : List A) → ys ++ x ∷ zs ≡ all → All P (map f all) → P (f x)
next_all {A = A} f P all ys x zs e h = at_head f P ys x zs (subst (λ (xs : List A). All P (map f xs)) (sym e) h)

pub next_small : {A : Type 0} (f : A → Valuation) (all ys : List A) (x : A) (zs : List A) (v : Valuation) → ys ++ x ∷ zs ≡ all → IsSmallList (map f all) → v ≡ f x → IsSmallValuation v
next_small f all ys x zs v e h is = subst IsSmallValuation (sym is) (next_all f IsValuation all ys x zs e h.1.valuations, next_all f IsSmall all ys x zs e h.2)

-- one more at the end
pub map_more : {A B : Type 0} (f : A → B) (ys : List A) (x : A) (us : List B) (v : B) → us ≡ map f ys → v ≡ f x → us ++ v ∷ [] ≡ map f (ys ++ x ∷ [])
map_more f ys x us v e is = ap (λ ws. ws ++ v ∷ []) e ∙ (ap (λ w. map f ys ++ w ∷ []) is ∙ sym (map-append f ys (x ∷ [])))

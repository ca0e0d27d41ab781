-- Lists of terms merged by key, step by step, and what that does to coefficients.
use Rattle.std.proofs.Common.{◌≡◌, ◌&&◌, refl, ap, Bool, true, List, [], ◌∷◌}
use Rattle.std.specs.Prelude.{if◌then◌else◌}
use Rattle.slice_linear.specs.declared.forms.Term.{Term}
use Rattle.slice_linear.specs.TermOrder.{is_before}
use Rattle.slice_linear.specs.Terms.{raw_sum_fits}
use Rattle.slice_linear.specs.TermSteps.{both, kept}

abbrev pub into : Term → (List Term → List Term) → List Term → List Term
into x rest [] = x ∷ rest []
into x rest (y ∷ ys) = if is_before x.key y.key then x ∷ rest (y ∷ ys) else (if is_before y.key x.key then y ∷ into x rest ys else kept (both x y) (rest ys))

abbrev pub merge : List Term → List Term → List Term
merge [] ys = ys
merge (x ∷ xs) ys = into x (merge xs) ys

abbrev pub into_fits : Term → (List Term → Bool) → List Term → Bool
into_fits x rest [] = rest []
into_fits x rest (y ∷ ys) = if is_before x.key y.key then rest (y ∷ ys) else (if is_before y.key x.key then into_fits x rest ys else raw_sum_fits x.coef y.coef && rest ys)

abbrev pub merge_fits : List Term → List Term → Bool
merge_fits [] ys = true
merge_fits (x ∷ xs) ys = into_fits x (merge_fits xs) ys

pub merge_right : (xs : List Term) → merge xs [] ≡ xs
merge_right [] = refl
merge_right (x ∷ xs) = ap (λ (ys : List Term). x ∷ ys) (merge_right xs)

pub merge_fits_right : (xs : List Term) → merge_fits xs [] ≡ true
merge_fits_right [] = refl
merge_fits_right (x ∷ xs) = merge_fits_right xs

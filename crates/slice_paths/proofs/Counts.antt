-- What each step does to the parts of pieces.
use Rattle.std.proofs.Common.{◌≡◌, ℕ, zero, suc, ◌+◌, ◌<◌, arith, refl, sym, ap, List, [], ◌∷◌, ◌++◌, map, length}
use Rattle.std.proofs.lemmas.List.{map-append}
use Rattle.slice_num.specs.Pieces.{piece_at, emptied, given}
use Rattle.slice_atoms.specs.Addresses.{Address}
pub use Rattle.slice_atoms.proofs.Addressed.{piece_map, emptied_map}
use Rattle.slice_atoms.proofs.PartCounts.{count_in, all_of}

pub count_append : (g : Address → ℕ) (xs ys : List Address) → count_in g (xs ++ ys) ≡ count_in g xs + count_in g ys
count_append g [] ys = omega arith
count_append g (x ∷ xs) ys = omega (arith, count_append g xs ys)

pub all_append : (g : Address → ℕ) (xs ys : List (List Address)) → all_of g (xs ++ ys) ≡ all_of g xs + all_of g ys
all_append g [] ys = omega arith
all_append g (x ∷ xs) ys = omega (arith, all_append g xs ys)

pub all_emptied : (g : Address → ℕ) (xs : List (List Address)) (p : ℕ) → all_of g (emptied xs p) + count_in g (piece_at xs p) ≡ all_of g xs
all_emptied g [] p = refl
all_emptied g (x ∷ xs) zero = omega arith
all_emptied g (x ∷ xs) (suc p) = omega (arith, all_emptied g xs p)

-- maps go through a gift
pub given_map : {A B : Type 0} (f : A → B) (xs : List (List A)) (a : ℕ) (ps : List A) → given (map (map f) xs) a (map f ps) ≡ map (map f) (given xs a ps)
given_map f [] a ps = refl
given_map f (x ∷ xs) zero ps = ap (λ y. y ∷ map (map f) xs) (sym (map-append f x ps))
given_map f (x ∷ xs) (suc a) ps = ap (λ ys. map f x ∷ ys) (given_map f xs a ps)

pub all_given : (g : Address → ℕ) (xs : List (List Address)) (a : ℕ) (ps : List Address) → a < length xs → all_of g (given xs a ps) ≡ all_of g xs + count_in g ps
all_given g [] a ps h = absurd (omega arith)
all_given g (x ∷ xs) zero ps h = omega (arith, count_append g x ps)
all_given g (x ∷ xs) (suc a) ps h = omega (arith, all_given g xs a ps (omega arith))

pub length_given : {A : Type 0} (xs : List (List A)) (a : ℕ) (ps : List A) → length (given xs a ps) ≡ length xs
length_given [] a ps = refl
length_given (x ∷ xs) zero ps = refl
length_given (x ∷ xs) (suc a) ps = ap suc (length_given xs a ps)

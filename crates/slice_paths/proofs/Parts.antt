-- Lists of parts, and lists of what was chosen or is one of some.
use Rattle.std.proofs.Common.{◌≡◌, ℕ, zero, suc, arith, refl, sym, ap, Bool, true, false, List, [], ◌∷◌, ◌++◌, map, ◌⊎◌, inl, inr}
use Rattle.std.specs.Prelude.{if◌then◌else◌}
use Rattle.std.specs.List.{Contains}
use Rattle.slice_num.specs.Pieces.{piece_at, emptied, passed}
use Rattle.slice_num.specs.declared.choice.Choice.{Choice}
use Rattle.slice_num.specs.declared.choice.Choice.TheVariants.{No}
use Rattle.slice_atoms.specs.Addresses.{Address}
use Rattle.slice_atoms.proofs.PartCounts.{AllParts, AllPieces}
use Rattle.slice_paths.proofs.Fits.{IsIn}

pub choose : {A : Type 0} (P : A → Type 0) (b : Bool) (x y : A) → (b ≡ true → P x) → (b ≡ false → P y) → P (if b then x else y)
choose P true x y h k = h refl
choose P false x y h k = k refl

-- ---- one of a list
pub in_left : {A : Type 0} (x : A) (xs ys : List A) → IsIn x xs → IsIn x (xs ++ ys)
in_left x [] ys h = absurd h
in_left x (z ∷ xs) ys (inl e) = inl e
in_left x (z ∷ xs) ys (inr h) = inr (in_left x xs ys h)

pub in_right : {A : Type 0} (x : A) (xs ys : List A) → IsIn x ys → IsIn x (xs ++ ys)
in_right x [] ys h = h
in_right x (z ∷ xs) ys h = inr (in_right x xs ys h)

pub in_either : {A : Type 0} (x : A) (xs ys : List A) → IsIn x (xs ++ ys) → IsIn x xs ⊎ IsIn x ys
in_either x [] ys h = inr h
in_either x (z ∷ xs) ys (inl e) = inl (inl e)
in_either x (z ∷ xs) ys (inr h) = elim (in_either x xs ys h) [ inl l ↦ inl (inr l) | inr r ↦ inr r ]

pub in_map : {A B : Type 0} (f : A → B) (x : A) (xs : List A) → IsIn x xs → IsIn (f x) (map f xs)
in_map f x [] h = absurd h
in_map f x (y ∷ xs) (inl e) = inl (ap f e)
in_map f x (y ∷ xs) (inr h) = inr (in_map f x xs h)

pub contains_in : {A : Type 0} (x : A) (xs : List A) → IsIn x xs → Contains xs x
contains_in x [] h = absurd h
contains_in x (y ∷ xs) (inl e) = (0, omega arith, sym e)
contains_in x (y ∷ xs) (inr h) = let k = contains_in x xs h in (suc k.0, omega (arith, k.1), k.2)

pub contains_out : {A : Type 0} (x : A) (xs : List A) → Contains xs x → IsIn x xs
contains_out x [] h = absurd (omega (arith, h.1))
contains_out x (y ∷ xs) (zero, less, e) = inl (sym e)
contains_out x (y ∷ xs) (suc k, less, e) = inr (contains_out x xs (k, omega (arith, less), e))

-- ---- parts
pub parts_all : {P Q : Address → Type 0} → ((A : Address) → P A → Q A) → (xs : List Address) → AllParts P xs → AllParts Q xs
parts_all f [] h = tt
parts_all f (x ∷ xs) h = (f x h.0, parts_all f xs h.1)

pub piece_all : (P : Address → Type 0) (xs : List (List Address)) (p : ℕ) → AllPieces P xs → AllParts P (piece_at xs p)
piece_all P [] p h = tt
piece_all P (x ∷ xs) zero h = h.0
piece_all P (x ∷ xs) (suc p) h = piece_all P xs p h.1

pub emptied_all : (P : Address → Type 0) (xs : List (List Address)) (p : ℕ) → AllPieces P xs → AllPieces P (emptied xs p)
emptied_all P [] p h = tt
emptied_all P (x ∷ xs) zero h = (tt, h.1)
emptied_all P (x ∷ xs) (suc p) h = (h.0, emptied_all P xs p h.1)

pub append_all : (P : Address → Type 0) (xs ys : List Address) → AllParts P (xs ++ ys) → AllParts P xs × AllParts P ys
append_all P [] ys h = (tt, h)
append_all P (x ∷ xs) ys h = ((h.0, (append_all P xs ys h.1).0), (append_all P xs ys h.1).1)

pub all_append_in : (P : Address → Type 0) (xs ys : List Address) → AllParts P xs → AllParts P ys → AllParts P (xs ++ ys)
all_append_in P [] ys h k = k
all_append_in P (x ∷ xs) ys h k = (h.0, all_append_in P xs ys h.1 k)

pub map_same : {A : Type 0} (f g : Address → A) (xs : List Address) → AllParts (λ B. f B ≡ g B) xs → map f xs ≡ map g xs
map_same f g [] h = refl
map_same f g (x ∷ xs) h = λ i. h.0 i ∷ map_same f g xs h.1 i

pub map_all_same : {A : Type 0} (f g : Address → A) (xs : List (List Address)) → AllPieces (λ B. f B ≡ g B) xs → map (map f) xs ≡ map (map g) xs
map_all_same f g [] h = refl
map_all_same f g (x ∷ xs) h = λ i. map_same f g x h.0 i ∷ map_all_same f g xs h.1 i

pub pieces_all : {P Q : Address → Type 0} → ((A : Address) → P A → Q A) → (xs : List (List Address)) → AllPieces P xs → AllPieces Q xs
pieces_all f [] h = tt
pieces_all f (x ∷ xs) h = (parts_all f x h.0, pieces_all f xs h.1)

pub passed_map : {A B : Type 0} (f : A → B) (xs : List A) → passed (map f xs) ≡ passed xs
passed_map f [] = refl
passed_map f (x ∷ xs) = ap (λ (cs : List Choice). No ∷ cs) (passed_map f xs)

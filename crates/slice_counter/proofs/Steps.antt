-- Steps of the loops of a trail.
use Rattle.std.proofs.Common.{◌≡◌, ℕ, zero, suc, ◌+◌, ◌<◌, arith, ◌∙◌, refl, sym, ap, subst, ◌≤◌, List, [], ◌∷◌, map, take, drop, length, get_or}
use Rattle.std.proofs.Math.ListN.{set}
use Rattle.std.specs.List.{All, slice_get}
use Rattle.std.proofs.lemmas.List.{length-drop, length-map}
use Rattle.slice_paths.proofs.Counts.{piece_map}
use Rattle.std.proofs.lemmas.Option.{slice_get_within, get_or_from_slice_get}
use Rattle.slice_num.specs.Pieces.{piece_at}
use Rattle.std.specs.Prelude.{Option, Some, None, option_map}

-- where the first i elements are f of what they were, and the next is put in, one more is
mapped_one : {A : Type 0} (f : A → A) (xs ys : List A) (i : ℕ) (v d : A) → i < length xs → take i xs ≡ map f (take i ys) → drop i xs ≡ drop i ys → v ≡ f (get_or xs i d)
    → (take (suc i) (set xs i v) ≡ map f (take (suc i) ys)) × (drop (suc i) (set xs i v) ≡ drop (suc i) ys)
mapped_one f [] ys i v d l h g e = absurd (omega arith)
mapped_one f (x ∷ xs) [] zero v d l h g e = let z : x ∷ xs ≡ [] = g in cc
mapped_one f (x ∷ xs) (y ∷ ys) zero v d l h g e =
    let z : x ∷ xs ≡ y ∷ ys = g in
    let first : x ≡ y = cc in
    let rest : xs ≡ ys = cc in
    let is : v ≡ f x = e in
    (cc, rest)
mapped_one f (x ∷ xs) [] (suc i) v d l h g e = let z : x ∷ take i xs ≡ [] = h in cc
mapped_one f (x ∷ xs) (y ∷ ys) (suc i) v d l h g e =
    let z : x ∷ take i xs ≡ f y ∷ map f (take i ys) = h in
    let first : x ≡ f y = cc in
    let rest : take i xs ≡ map f (take i ys) = cc in
    let more = mapped_one f xs ys i v d (omega (arith, l)) rest g e in
    (ap (λ u. u ∷ take (suc i) (set xs i v)) first ∙ ap (λ us. f y ∷ us) more.0, more.1)

pub mapped_step : {A : Type 0} (f : A → A) (xs ys : List A) (i j : ℕ) (v d : A) → j ≡ suc i → i < length xs → take i xs ≡ map f (take i ys) → drop i xs ≡ drop i ys → v ≡ f (get_or xs i d)
    → (take j (set xs i v) ≡ map f (take j ys)) × (drop j (set xs i v) ≡ drop j ys)
mapped_step {A = A} f xs ys i j v d next l h g e =
    subst (λ (k : ℕ). (take k (set xs i v) ≡ map f (take k ys)) × (drop k (set xs i v) ≡ drop k ys)) (sym next) (mapped_one f xs ys i v d l h g e)

pub count_more : (k j : ℕ) (o : Option ℕ) → j ≡ suc k → option_map (λ n. k + n) (option_map suc o) ≡ option_map (λ n. j + n) o
count_more k j None e = refl
count_more k j (Some n) e = ap Some (omega (arith, e))

nothing_there : {A : Type 0} (xs : List A) (i : ℕ) (d : A) → drop i xs ≡ [] → get_or xs i d ≡ d
nothing_there [] i d e = refl
nothing_there (x ∷ xs) zero d e = let z : x ∷ xs ≡ [] = e in cc
nothing_there (x ∷ xs) (suc i) d e = nothing_there xs i d e

pub same_there : {A : Type 0} (xs ys : List A) (i : ℕ) (d : A) → drop i xs ≡ drop i ys → get_or xs i d ≡ get_or ys i d
same_there [] [] i d e = refl
same_there [] (y ∷ ys) zero d e = let z : [] ≡ y ∷ ys = e in cc
same_there [] (y ∷ ys) (suc i) d e = sym (nothing_there ys i d (sym e))
same_there (x ∷ xs) [] zero d e = let z : x ∷ xs ≡ [] = e in cc
same_there (x ∷ xs) [] (suc i) d e = nothing_there xs i d e
same_there (x ∷ xs) (y ∷ ys) zero d e = let z : x ∷ xs ≡ y ∷ ys = e in cc
same_there (x ∷ xs) (y ∷ ys) (suc i) d e = same_there xs ys i d e

pub there_too : {A : Type 0} (xs ys : List A) (i : ℕ) → i < length xs → drop i xs ≡ drop i ys → i < length ys
there_too xs ys i l e = omega (arith, ap length e, length-drop i xs, length-drop i ys, l)

-- what holds of each of some elements holds of those that are left
pub holds_there : {A : Type 0} (P : A → Type 0) (xs ys : List A) (i : ℕ) (d : A) → i < length xs → drop i xs ≡ drop i ys → All P ys → P (get_or xs i d)
holds_there P xs ys i d l e h = subst P (sym (same_there xs ys i d e)) (h i d (there_too xs ys i l e))

-- ---- the parts of pieces

pub small_atom : (xss : List (List ℕ)) (p i n : ℕ) → All (λ (xs : List ℕ). All (λ (m : ℕ). m ≤ 64) xs) xss → slice_get (piece_at xss p) i ≡ Some n → n ≤ 64
small_atom [] p i n h e = let z : None ≡ Some n = e in cc
small_atom (xs ∷ xss) zero i n h e =
    subst (λ (m : ℕ). m ≤ 64) (get_or_from_slice_get xs i n 0 e) (h 0 [] (omega arith) i 0 (slice_get_within xs i n e))
small_atom (xs ∷ xss) (suc p) i n h e = small_atom xss p i n (λ j d l. h (suc j) d (omega (arith, l))) e

pub part_there : (f : ℕ → ℕ) (xss yss : List (List ℕ)) (p i n : ℕ) (ys zs : List ℕ) → slice_get (piece_at xss p) i ≡ Some n → yss ≡ map (map f) xss → ys ≡ piece_at yss p → zs ≡ ys → i < length zs
part_there f xss yss p i n ys zs e moved_ is same =
    let there = slice_get_within (piece_at xss p) i n e in
    let long : length zs ≡ length (piece_at xss p) = ap length (same ∙ is ∙ ap (λ (us : List (List ℕ)). piece_at us p) moved_ ∙ piece_map f xss p) ∙ length-map (piece_at xss p) f in
    omega (arith, there, long)

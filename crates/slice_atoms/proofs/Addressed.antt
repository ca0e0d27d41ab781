-- What a cut and a join do to pieces as lists of addresses.
use Rattle.std.proofs.Common.{◌≡◌, ◌∙◌, ℕ, zero, suc, ◌+◌, ◌*◌, ◌≤◌, ◌<◌, arith, refl, sym, ap, List, [], ◌∷◌, ◌++◌, length, map, take, drop}
use Rattle.std.specs.Prelude.{slice_index_or}
use Rattle.std.proofs.lemmas.List.{map-append}
use Rattle.slice_num.specs.Pieces.{piece_at, emptied, join_pieces}
use Rattle.slice_atoms.specs.Addresses.{Address, left_of, right_of}
use Rattle.slice_atoms.specs.Numbers.{Numbering, IsNumbering, name_of, addresses_of, part_of, next_atom, cut_at, cut_addresses, one_at, sum_over, sum_over_all}
use Rattle.slice_atoms.proofs.Cuts.{name_stays, name_left, name_right, number_given, piece_among, all_emptied, sum_part, one_same}
use Rattle.slice_atoms.proofs.Items.{map_at}

-- ---- maps go through each step
pub piece_map : {A B : Type 0} (f : A → B) (xs : List (List A)) (p : ℕ) → piece_at (map (map f) xs) p ≡ map f (piece_at xs p)
piece_map f [] p = refl
piece_map f (x ∷ xs) zero = refl
piece_map f (x ∷ xs) (suc p) = piece_map f xs p

pub emptied_map : {A B : Type 0} (f : A → B) (xs : List (List A)) (p : ℕ) → emptied (map (map f) xs) p ≡ map (map f) (emptied xs p)
emptied_map f [] p = refl
emptied_map f (x ∷ xs) zero = refl
emptied_map f (x ∷ xs) (suc p) = ap (λ ys. map f x ∷ ys) (emptied_map f xs p)

pub joined_map : (f : ℕ → Address) (ps : List (List ℕ)) (p q : ℕ) → map (map f) (join_pieces ps p q) ≡ join_pieces (map (map f) ps) p q
joined_map f ps p q =
    let y : map f (piece_at ps p) ++ map f (piece_at (emptied ps p) q) ≡ piece_at (map (map f) ps) p ++ piece_at (emptied (map (map f) ps) p) q =
    λ j. sym (piece_map f ps p) j ++ (sym (piece_map f (emptied ps p) q) ∙ ap (λ (xs : List (List Address)). piece_at xs q) (sym (emptied_map f ps p))) j in
    map-append (map f) (emptied (emptied ps p) q) ((piece_at ps p ++ piece_at (emptied ps p) q) ∷ [])
    ∙ (λ i. (sym (emptied_map f (emptied ps p) q) ∙ ap (λ (xs : List (List Address)). emptied xs q) (sym (emptied_map f ps p))) i
    ++ (map-append f (piece_at ps p) (piece_at (emptied ps p) q)
    ∙ y) i ∷ [])

map_take : (f : ℕ → Address) (xs : List ℕ) (i : ℕ) → map f (take i xs) ≡ take i (map f xs)
map_take f xs zero = refl
map_take f [] (suc i) = refl
map_take f (x ∷ xs) (suc i) = ap (λ ys. f x ∷ ys) (map_take f xs i)

map_drop : (f : ℕ → Address) (xs : List ℕ) (i : ℕ) → map f (drop i xs) ≡ drop i (map f xs)
map_drop f xs zero = refl
map_drop f [] (suc i) = refl
map_drop f (x ∷ xs) (suc i) = map_drop f xs i

-- ---- a cut
stay : (v : Numbering) (old : ℕ) (ms : List ℕ) → IsNumbering v → ((m : ℕ) → sum_over (one_at m) ms ≤ sum_over (one_at m) v.order) → map (name_of (v.olds ++ old ∷ [])) ms ≡ map (name_of v.olds) ms
stay v old [] h l = refl
stay v old (m ∷ ms) h l =
    let o = one_same m in
    let c : 1 ≤ sum_over (one_at m) v.order = omega (arith, o, l m) in
    let g = number_given (2 * length v.olds + 1) m v.order h.given c in
    λ i. name_stays v.olds old m g.0 g.1 i ∷ stay v old ms h (λ j. omega (arith, l j)) i

stay_all : (v : Numbering) (old : ℕ) (ps : List (List ℕ)) → IsNumbering v → ((m : ℕ) → sum_over_all (one_at m) ps ≤ sum_over (one_at m) v.order) → map (map (name_of (v.olds ++ old ∷ []))) ps ≡ map (map (name_of v.olds)) ps
stay_all v old [] h l = refl
stay_all v old (p ∷ ps) h l = λ i. stay v old p h (λ j. omega (arith, l j)) i ∷ stay_all v old ps h (λ j. omega (arith, l j)) i

left_cut : (v : Numbering) (p part : ℕ) → IsNumbering v → part < length (piece_at v.pieces p)
    → map (name_of (cut_at p part v).olds) (take part (piece_at v.pieces p) ++ next_atom v ∷ []) ≡ take part (map (name_of v.olds) (piece_at v.pieces p)) ++ left_of (name_of v.olds (part_of v p part)) ∷ []
left_cut v p part h q =
    let old = part_of v p part in
    let ms = piece_at v.pieces p in
    let few : (m : ℕ) → sum_over (one_at m) (take part ms) ≤ sum_over (one_at m) v.order = λ m.
    omega (arith, sum_part (one_at m) ms part q, piece_among (one_at m) v.pieces p, h.held (one_at m)) in
    map-append (name_of (v.olds ++ old ∷ [])) (take part ms) (next_atom v ∷ [])
    ∙ (λ i. (stay v old (take part ms) h few ∙ map_take (name_of v.olds) ms part) i ++ name_left v.olds old i ∷ [])

right_cut : (v : Numbering) (p part : ℕ) → IsNumbering v → part < length (piece_at v.pieces p)
    → map (name_of (cut_at p part v).olds) ((next_atom v + 1) ∷ drop (part + 1) (piece_at v.pieces p)) ≡ right_of (name_of v.olds (part_of v p part)) ∷ drop (part + 1) (map (name_of v.olds) (piece_at v.pieces p))
right_cut v p part h q =
    let old = part_of v p part in
    let ms = piece_at v.pieces p in
    let few : (m : ℕ) → sum_over (one_at m) (drop (part + 1) ms) ≤ sum_over (one_at m) v.order = λ m.
    omega (arith, sum_part (one_at m) ms part q, piece_among (one_at m) v.pieces p, h.held (one_at m)) in
    λ i. name_right v.olds old i ∷ (stay v old (drop (part + 1) ms) h few ∙ map_drop (name_of v.olds) ms (part + 1)) i

pub addresses_cut : (v : Numbering) (p part : ℕ) → IsNumbering v → part < length (piece_at v.pieces p) → addresses_of (cut_at p part v) ≡ cut_addresses p part (addresses_of v)
addresses_cut v p part h q =
    let old = part_of v p part in
    let ms = piece_at v.pieces p in
    let x : List ℕ = take part ms ++ next_atom v ∷ [] in
    let y : List ℕ = (next_atom v + 1) ∷ drop (part + 1) ms in
    let few : (m : ℕ) → sum_over_all (one_at m) (emptied v.pieces p) ≤ sum_over (one_at m) v.order = λ m. omega (arith, all_emptied (one_at m) v.pieces p, h.held (one_at m)) in
    let e : map (name_of v.olds) ms ≡ piece_at (addresses_of v) p = sym (piece_map (name_of v.olds) v.pieces p) in
    let a : name_of v.olds old ≡ slice_index_or (piece_at (addresses_of v) p) part [] = sym (map_at (name_of v.olds) ms part 0 [] q) ∙ ap (λ (xs : List Address). slice_index_or xs part []) e in
    map-append (map (name_of (v.olds ++ old ∷ []))) (emptied v.pieces p) (x ∷ y ∷ [])
    ∙ (λ i. (stay_all v old (emptied v.pieces p) h few ∙ sym (emptied_map (name_of v.olds) v.pieces p)) i ++ left_cut v p part h q i ∷ right_cut v p part h q i ∷ [])
    ∙ (λ i. emptied (addresses_of v) p ++ (take part (e i) ++ left_of (a i) ∷ []) ∷ (right_of (a i) ∷ drop (part + 1) (e i)) ∷ [])

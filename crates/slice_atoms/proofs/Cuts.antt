-- What a cut does to atoms and their numbers.
use Rattle.std.proofs.Common.{◌≡◌, ◌∙◌, ℕ, zero, suc, ◌+◌, ◌-◌, ◌*◌, ◌<◌, ◌≤◌, ◌==◌, nat_lt, arith, refl, sym, ap, subst, Bool, true, false, List, [], ◌∷◌, ◌++◌, append_assoc, length, length-append, map, take, drop}
use Rattle.std.specs.Prelude.{if◌then◌else◌, slice_index_or}
use Rattle.std.proofs.lemmas.Bool.Decides.{nat_tests}
use Rattle.std.proofs.lemmas.List.{map-append}
use Rattle.slice_num.specs.Pieces.{piece_at, emptied, join_pieces}
use Rattle.slice_atoms.specs.Addresses.{Letter, L, R, Address, Cake, Atom, Halves, atoms, halved, left_of, right_of}
use Rattle.slice_atoms.specs.Numbers.{Numbering, IsNumbering, name_in, halves, names_from, names, name_of, cake_from, cake_of, split_in, next_atom, part_of, cut_at, one_at, sum_over, sum_over_all, AllNumbers, unknowns}
use Rattle.slice_linear.specs.Terms.{is_among, AreDifferent}

-- ---- names
pub names_put : (ns : List Address) (olds : List ℕ) (old : ℕ) → names_from ns (olds ++ old ∷ []) ≡ names_from ns olds ++ halves (name_in (names_from ns olds) old)
names_put ns [] old = refl
names_put ns (m ∷ ms) old = names_put (ns ++ halves (name_in ns m)) ms old

pub cake_put : (ns : List Address) (k : Cake) (olds : List ℕ) (old : ℕ) → cake_from ns k (olds ++ old ∷ []) ≡ halved (name_in (names_from ns olds) old) (cake_from ns k olds)
cake_put ns k [] old = refl
cake_put ns k (m ∷ ms) old = cake_put (ns ++ halves (name_in ns m)) (halved (name_in ns m) k) ms old

length_names : (ns : List Address) (olds : List ℕ) → length (names_from ns olds) ≡ length ns + 2 * length olds
length_names ns [] = omega arith
length_names ns (m ∷ ms) = let h = length_names (ns ++ halves (name_in ns m)) ms in let g = length-append ns (halves (name_in ns m)) in omega (arith, h, g)

index_front : (xs ys : List Address) (i : ℕ) → i < length xs → slice_index_or (xs ++ ys) i [] ≡ slice_index_or xs i []
index_front [] ys i h = absurd (omega arith)
index_front (x ∷ xs) ys zero h = refl
index_front (x ∷ xs) ys (suc i) h = index_front xs ys i (omega arith)

index_back : (xs ys : List Address) (i : ℕ) → slice_index_or (xs ++ ys) (length xs + i) [] ≡ slice_index_or ys i []
index_back [] ys i = ap (λ (n : ℕ). slice_index_or ys n []) (omega arith)
index_back (x ∷ xs) ys i = ap (λ (n : ℕ). slice_index_or (x ∷ (xs ++ ys)) n []) (let e : length (x ∷ xs) + i ≡ suc (length xs + i) = omega arith in e) ∙ index_back xs ys i

-- older numbers keep their addresses
pub name_stays : (olds : List ℕ) (old m : ℕ) → 1 ≤ m → m ≤ 2 * length olds + 1 → name_of (olds ++ old ∷ []) m ≡ name_of olds m
name_stays olds old m p q =
    let n = length_names ([] ∷ []) olds in
    ap (λ (ns : List Address). name_in ns m) (names_put ([] ∷ []) olds old) ∙ index_front (names olds) (halves (name_of olds old)) (m - 1) (omega (arith, n))

pub name_left : (olds : List ℕ) (old : ℕ) → name_of (olds ++ old ∷ []) (2 * length olds + 2) ≡ left_of (name_of olds old)
name_left olds old =
    let n = length_names ([] ∷ []) olds in
    ap (λ (ns : List Address). name_in ns (2 * length olds + 2)) (names_put ([] ∷ []) olds old)
    ∙ ap (λ (i : ℕ). slice_index_or (names olds ++ halves (name_of olds old)) i []) (omega (arith, n))
    ∙ index_back (names olds) (halves (name_of olds old)) 0

pub name_right : (olds : List ℕ) (old : ℕ) → name_of (olds ++ old ∷ []) (2 * length olds + 2 + 1) ≡ right_of (name_of olds old)
name_right olds old =
    let n = length_names ([] ∷ []) olds in
    ap (λ (ns : List Address). name_in ns (2 * length olds + 2 + 1)) (names_put ([] ∷ []) olds old)
    ∙ ap (λ (i : ℕ). slice_index_or (names olds ++ halves (name_of olds old)) i []) (omega (arith, n))
    ∙ index_back (names olds) (halves (name_of olds old)) 1

-- ---- atoms
data SplitAt (xs ys before : List Address) (A : Address) (after : List Address) : Type 0 where
  InLeft : (rest : List Address) → xs ≡ before ++ A ∷ rest → after ≡ rest ++ ys → SplitAt xs ys before A after
  InRight : (rest : List Address) → before ≡ xs ++ rest → ys ≡ rest ++ A ∷ after → SplitAt xs ys before A after

one_more : (x y : Address) (xs ys : List Address) → x ≡ y → xs ≡ ys → x ∷ xs ≡ y ∷ ys
one_more x y xs ys e f = λ i. e i ∷ f i

split_at : (xs ys before : List Address) (A : Address) (after : List Address) → xs ++ ys ≡ before ++ A ∷ after → SplitAt xs ys before A after
split_at [] ys before A after e = InRight before refl e
split_at (x ∷ xs) ys [] A after e = InLeft xs (one_more x A xs xs (cc) refl) (cc)
split_at (x ∷ xs) ys (b ∷ before) A after e = by (cc) (split_at xs ys before A after (cc))
  where
    by : x ≡ b → SplitAt xs ys before A after → SplitAt (x ∷ xs) ys (b ∷ before) A after
    by f (InLeft rest p q) = InLeft rest (one_more x b xs (before ++ A ∷ rest) f p) q
    by f (InRight rest p q) = InRight rest (one_more b x before (xs ++ rest) (sym f) p) q

record MapSplit (d : Letter) (xs before : List Address) (A : Address) (after : List Address) : Type 0 where
  pub b0 : List Address
  pub a0 : Address
  pub c0 : List Address
  pub was : xs ≡ b0 ++ a0 ∷ c0
  pub before_is : before ≡ map (λ B. d ∷ B) b0
  pub at_is : A ≡ d ∷ a0
  pub after_is : after ≡ map (λ B. d ∷ B) c0

map_split : (d : Letter) (xs before : List Address) (A : Address) (after : List Address) → map (λ B. d ∷ B) xs ≡ before ++ A ∷ after → MapSplit d xs before A after
map_split d [] [] A after e = let w : ⊥ = cc in absurd w
map_split d [] (b ∷ before) A after e = let w : ⊥ = cc in absurd w
map_split d (x ∷ xs) [] A after e = record { b0 = []; a0 = x; c0 = xs; was = refl; before_is = refl; at_is = cc; after_is = cc }
map_split d (x ∷ xs) (b ∷ before) A after e =
    let h = map_split d xs before A after (cc) in
    record {
      b0 = x ∷ h.b0;
      a0 = h.a0;
      c0 = h.c0;
      was = one_more x x xs (h.b0 ++ h.a0 ∷ h.c0) refl h.was;
      before_is = one_more b (d ∷ x) before (map (λ B. d ∷ B) h.b0) (cc) h.before_is;
      at_is = h.at_is;
      after_is = h.after_is;
    }

-- a cut puts the two halves in the place of its atom
pub atoms_cut : (k : Cake) (before : List Address) (A : Address) (after : List Address) → atoms k ≡ before ++ A ∷ after → atoms (halved A k) ≡ before ++ left_of A ∷ right_of A ∷ after
atoms_cut Atom [] A after e = let f : A ≡ [] = cc in let g : after ≡ [] = cc in rw (f, g) refl
atoms_cut Atom (b ∷ []) A after e = let w : ⊥ = cc in absurd w
atoms_cut Atom (b ∷ c ∷ before) A after e = let w : ⊥ = cc in absurd w
atoms_cut (Halves l r) before A after e = by (split_at (map (λ B. L ∷ B) (atoms l)) (map (λ B. R ∷ B) (atoms r)) before A after e) (atoms_cut l) (atoms_cut r)
  where
    by : SplitAt (map (λ B. L ∷ B) (atoms l)) (map (λ B. R ∷ B) (atoms r)) before A after
        → ((b0 : List Address) (a0 : Address) (c0 : List Address) → atoms l ≡ b0 ++ a0 ∷ c0 → atoms (halved a0 l) ≡ b0 ++ left_of a0 ∷ right_of a0 ∷ c0)
        → ((b0 : List Address) (a0 : Address) (c0 : List Address) → atoms r ≡ b0 ++ a0 ∷ c0 → atoms (halved a0 r) ≡ b0 ++ left_of a0 ∷ right_of a0 ∷ c0)
        → atoms (halved A (Halves l r)) ≡ before ++ left_of A ∷ right_of A ∷ after
    by (InLeft rest p q) in_l in_r =
        let m = map_split L (atoms l) before A rest p in
        let f : Address → Address = λ B. L ∷ B in
        let g = map (λ (B : Address). R ∷ B) (atoms r) in
        ap (λ (B : Address). atoms (halved B (Halves l r))) m.at_is
        ∙ ap (λ (xs : List Address). map f xs ++ g) (in_l m.b0 m.a0 m.c0 m.was)
        ∙ ap (λ (xs : List Address). xs ++ g) (map-append f m.b0 (left_of m.a0 ∷ right_of m.a0 ∷ m.c0))
        ∙ append_assoc (map f m.b0) (map f (left_of m.a0 ∷ right_of m.a0 ∷ m.c0)) g
        ∙ sym (λ i. m.before_is i ++ left_of (m.at_is i) ∷ right_of (m.at_is i) ∷ (q ∙ ap (λ (xs : List Address). xs ++ g) m.after_is) i)
    by (InRight rest p q) in_l in_r =
        let m = map_split R (atoms r) rest A after q in
        let f : Address → Address = λ B. R ∷ B in
        let g = map (λ (B : Address). L ∷ B) (atoms l) in
        ap (λ (B : Address). atoms (halved B (Halves l r))) m.at_is
        ∙ ap (λ (xs : List Address). g ++ map f xs) (in_r m.b0 m.a0 m.c0 m.was)
        ∙ ap (λ (xs : List Address). g ++ xs) (map-append f m.b0 (left_of m.a0 ∷ right_of m.a0 ∷ m.c0))
        ∙ sym (append_assoc g (map f m.b0) (map f (left_of m.a0 ∷ right_of m.a0 ∷ m.c0)))
        ∙ sym (λ i. (p ∙ ap (λ (xs : List Address). g ++ xs) m.before_is) i ++ left_of (m.at_is i) ∷ right_of (m.at_is i) ∷ m.after_is i)

-- ---- sums over numbers
pub sum_append : (g : ℕ → ℕ) (xs ys : List ℕ) → sum_over g (xs ++ ys) ≡ sum_over g xs + sum_over g ys
sum_append g [] ys = omega arith
sum_append g (x ∷ xs) ys = omega (arith, sum_append g xs ys)

pub all_append : (g : ℕ → ℕ) (xs ys : List (List ℕ)) → sum_over_all g (xs ++ ys) ≡ sum_over_all g xs + sum_over_all g ys
all_append g [] ys = omega arith
all_append g (x ∷ xs) ys = omega (arith, all_append g xs ys)

pub all_emptied : (g : ℕ → ℕ) (xs : List (List ℕ)) (p : ℕ) → sum_over_all g (emptied xs p) + sum_over g (piece_at xs p) ≡ sum_over_all g xs
all_emptied g [] p = refl
all_emptied g (x ∷ xs) zero = omega arith
all_emptied g (x ∷ xs) (suc p) = omega (arith, all_emptied g xs p)

pub sum_part : (g : ℕ → ℕ) (xs : List ℕ) (i : ℕ) → i < length xs → sum_over g (take i xs) + g (slice_index_or xs i 0) + sum_over g (drop (i + 1) xs) ≡ sum_over g xs
sum_part g [] i h = absurd (omega arith)
sum_part g (x ∷ xs) zero h = omega arith
sum_part g (x ∷ xs) (suc i) h = let k : sum_over g (take i xs) + g (slice_index_or xs i 0) + sum_over g (drop (i + 1) xs) ≡ sum_over g xs = sum_part g xs i (omega arith) in
    let e : sum_over g (drop (suc i + 1) (x ∷ xs)) ≡ sum_over g (drop (i + 1) xs) = ap (λ (n : ℕ). sum_over g (drop n (x ∷ xs))) (let d : suc i + 1 ≡ suc (i + 1) = omega arith in d) in
    omega (arith, k, e)

pub one_same : (m : ℕ) → one_at m m ≡ 1
one_same m = grind (arith, nat_tests)

-- ---- two numbers in the place of one
pub record SplitIn (old l r : ℕ) (xs : List ℕ) : Type 0 where
  pub before : List ℕ
  pub after : List ℕ
  pub was : xs ≡ before ++ old ∷ after
  pub is : split_in old l r xs ≡ before ++ l ∷ r ∷ after

pub split_there : (old l r : ℕ) (xs : List ℕ) → 1 ≤ sum_over (one_at old) xs → SplitIn old l r xs
split_there old l r [] h = absurd (omega arith)
split_there old l r (x ∷ xs) h = by (x == old) refl (split_there old l r xs)
  where
    by : (b : Bool) → (x == old) ≡ b → (1 ≤ sum_over (one_at old) xs → SplitIn old l r xs) → SplitIn old l r (x ∷ xs)
    by true e go = let f : x ≡ old = grind (arith, nat_tests) in record { before = []; after = xs; was = ap (λ (y : ℕ). y ∷ xs) f; is = ap (λ (b : Bool). if b then l ∷ r ∷ xs else x ∷ split_in old l r xs) e }
    by false e go =
        let f : one_at old x ≡ 0 = grind (arith, nat_tests) in
        let k = go (omega (arith, h, f)) in
        record { before = x ∷ k.before; after = k.after; was = ap (λ (ys : List ℕ). x ∷ ys) k.was; is = ap (λ (b : Bool). if b then l ∷ r ∷ xs else x ∷ split_in old l r xs) e ∙ ap (λ (ys : List ℕ). x ∷ ys) k.is }

all_numbers_split : (most : ℕ) (xs ys : List ℕ) → AllNumbers most (xs ++ ys) → AllNumbers most xs × AllNumbers most ys
all_numbers_split most [] ys h = (tt, h)
all_numbers_split most (x ∷ xs) ys h = let k = all_numbers_split most xs ys h.2 in ((h.0, h.1, k.0), k.1)

all_numbers_join : (most : ℕ) (xs ys : List ℕ) → AllNumbers most xs → AllNumbers most ys → AllNumbers most (xs ++ ys)
all_numbers_join most [] ys h k = k
all_numbers_join most (x ∷ xs) ys h k = (h.0, h.1, all_numbers_join most xs ys h.2 k)

all_numbers_more : (most more : ℕ) (xs : List ℕ) → most ≤ more → AllNumbers most xs → AllNumbers more xs
all_numbers_more most more [] p h = tt
all_numbers_more most more (x ∷ xs) p h = (h.0, omega (arith, h.1, p), all_numbers_more most more xs p h.2)

none_beyond : (most m : ℕ) (xs : List ℕ) → most < m → AllNumbers most xs → sum_over (one_at m) xs ≡ 0
none_beyond most m [] p h = refl
none_beyond most m (x ∷ xs) p h = let e : one_at m x ≡ 0 = (let q = h.1 in grind (arith, nat_tests)) in omega (arith, e, none_beyond most m xs p h.2)

map_stays : (olds : List ℕ) (old : ℕ) (xs : List ℕ) → AllNumbers (2 * length olds + 1) xs → map (name_of (olds ++ old ∷ [])) xs ≡ map (name_of olds) xs
map_stays olds old [] h = refl
map_stays olds old (x ∷ xs) h = one_more (name_of (olds ++ old ∷ []) x) (name_of olds x) _ _ (name_stays olds old x h.0 h.1) (map_stays olds old xs h.2)

pub part_there : (v : Numbering) (p part : ℕ) → IsNumbering v → part < length (piece_at v.pieces p) → 1 ≤ sum_over (one_at (part_of v p part)) v.order
part_there v p part h q =
    let old = part_of v p part in
    let a = h.held (one_at old) in
    let b = all_emptied (one_at old) v.pieces p in
    let c = sum_part (one_at old) (piece_at v.pieces p) part q in
    let d = one_same old in
    omega (arith, a, b, c, d)

cases_lt_of : {P : Type 0} (a b : ℕ) → (a < b → P) → (b ≤ a → P) → P
cases_lt_of {P = P} a b f g = by (nat_lt a b) refl
  where
    by : (t : Bool) → nat_lt a b ≡ t → P
    by true e = f (grind (arith, nat_tests))
    by false e = g (grind (arith, nat_tests))

pub numbering_cut : (v : Numbering) (p part : ℕ) → IsNumbering v → part < length (piece_at v.pieces p) → IsNumbering (cut_at p part v)
numbering_cut v p part h q =
    let old = part_of v p part in
    let l = next_atom v in
    let r = next_atom v + 1 in
    let s = split_there old l r v.order (part_there v p part h q) in
    let most = 2 * length v.olds + 1 in
    let len : length (v.olds ++ old ∷ []) ≡ length v.olds + 1 = length-append v.olds (old ∷ []) in
    let g = all_numbers_split most s.before (old ∷ s.after) (subst (AllNumbers most) s.was h.given) in
    let old_name = name_of v.olds in
    let new_name = name_of (v.olds ++ old ∷ []) in
    let was : atoms (cake_of v.olds) ≡ map old_name s.before ++ old_name old ∷ map old_name s.after =
    sym h.named ∙ ap (map old_name) s.was ∙ map-append old_name s.before (old ∷ s.after) in
    let named : map new_name (split_in old l r v.order) ≡ atoms (cake_of (v.olds ++ old ∷ [])) =
    ap (map new_name) s.is
    ∙ map-append new_name s.before (l ∷ r ∷ s.after)
    ∙ (λ i. map_stays v.olds old s.before g.0 i ++ name_left v.olds old i ∷ name_right v.olds old i ∷ map_stays v.olds old s.after g.1.2 i)
    ∙ sym (atoms_cut (cake_of v.olds) (map old_name s.before) (old_name old) (map old_name s.after) was)
    ∙ sym (ap atoms (cake_put ([] ∷ []) Atom v.olds old)) in
    let sums : (f : ℕ → ℕ) → sum_over f (split_in old l r v.order) + f old ≡ sum_over f v.order + f l + f r = λ f.
    (let a = ap (sum_over f) s.is in
    let b = ap (sum_over f) s.was in
    let c = sum_append f s.before (old ∷ s.after) in
    let d = sum_append f s.before (l ∷ r ∷ s.after) in
    omega (arith, a, b, c, d)) in
    record {
      named = named;
      given =
          subst (AllNumbers (2 * length (v.olds ++ old ∷ []) + 1)) (sym s.is)
          (all_numbers_join (2 * length (v.olds ++ old ∷ []) + 1) s.before (l ∷ r ∷ s.after) (all_numbers_more most (2 * length (v.olds ++ old ∷ []) + 1) s.before (omega (arith, len)) g.0)
          (omega arith, omega (arith, len), (omega arith, omega (arith, len), all_numbers_more most (2 * length (v.olds ++ old ∷ []) + 1) s.after (omega (arith, len)) g.1.2)));
      once = λ m. once v m old l r refl refl h.given (sums (one_at m)) (h.once m) (none_beyond most m v.order);
      held = λ f.
          (let a = all_append f (emptied v.pieces p) ((take part (piece_at v.pieces p) ++ l ∷ []) ∷ (r ∷ drop (part + 1) (piece_at v.pieces p)) ∷ []) in
          let b = all_emptied f v.pieces p in
          let c = sum_part f (piece_at v.pieces p) part q in
          let d = sum_append f (take part (piece_at v.pieces p)) (l ∷ []) in
          omega (arith, a, b, c, d, sums f, h.held f));
    }
  where
    two : (m l : ℕ) → one_at m l + one_at m (l + 1) ≤ 1
    two m l = grind (arith, nat_tests)

    apart : (m l most : ℕ) → l ≡ most + 1 → m ≤ most → one_at m l + one_at m (l + 1) ≡ 0
    apart m l most e h = grind (arith, nat_tests)

    once : (v : Numbering) (m old l r : ℕ) → l ≡ 2 * length v.olds + 2 → r ≡ l + 1 → AllNumbers (2 * length v.olds + 1) v.order
        → sum_over (one_at m) (split_in old l r v.order) + one_at m old ≡ sum_over (one_at m) v.order + one_at m l + one_at m r
        → sum_over (one_at m) v.order ≤ 1 → (2 * length v.olds + 1 < m → AllNumbers (2 * length v.olds + 1) v.order → sum_over (one_at m) v.order ≡ 0) → sum_over (one_at m) (split_in old l r v.order) ≤ 1
    once v m old l r d e n f g h =
        let t : one_at m l + one_at m r ≤ 1 = subst (λ (x : ℕ). one_at m l + one_at m x ≤ 1) (sym e) (two m l) in
        cases_lt_of (2 * length v.olds + 1) m
        (λ less. let z = h less n in omega (arith, z, f, t))
        (λ most. let y : one_at m l + one_at m r ≡ 0 = subst (λ (x : ℕ). one_at m l + one_at m x ≡ 0) (sym e) (apart m l (2 * length v.olds + 1) (omega arith) most) in omega (arith, f, g, y))

-- what a sum gains and loses at a cut
pub split_sums : (v : Numbering) (p part : ℕ) → IsNumbering v → part < length (piece_at v.pieces p) → (f : ℕ → ℕ)
    → sum_over f (split_in (part_of v p part) (next_atom v) (next_atom v + 1) v.order) + f (part_of v p part) ≡ sum_over f v.order + f (next_atom v) + f (next_atom v + 1)
split_sums v p part h q f =
    let old = part_of v p part in
    let l = next_atom v in
    let r = next_atom v + 1 in
    let s = split_there old l r v.order (part_there v p part h q) in
    let a = ap (sum_over f) s.is in
    let b = ap (sum_over f) s.was in
    let c = sum_append f s.before (old ∷ s.after) in
    let d = sum_append f s.before (l ∷ r ∷ s.after) in
    omega (arith, a, b, c, d)

pub number_given : (most m : ℕ) (xs : List ℕ) → AllNumbers most xs → 1 ≤ sum_over (one_at m) xs → (1 ≤ m) × (m ≤ most)
number_given most m [] h c = absurd (omega arith)
number_given most m (x ∷ xs) h c = by (x == m) refl (number_given most m xs h.2)
  where
    by : (b : Bool) → (x == m) ≡ b → (1 ≤ sum_over (one_at m) xs → (1 ≤ m) × (m ≤ most)) → (1 ≤ m) × (m ≤ most)
    by true e go = let f : x ≡ m = grind (arith, nat_tests) in let a = h.0 in let b = h.1 in (omega (arith, f, a), omega (arith, f, b))
    by false e go = let f : one_at m x ≡ 0 = grind (arith, nat_tests) in go (omega (arith, c, f))

pub numbering_join : (v : Numbering) (p q : ℕ) → IsNumbering v → IsNumbering (record v { pieces = join_pieces v.pieces p q })
numbering_join v p q h = record {
  named = h.named;
  given = h.given;
  once = h.once;
  held = λ g.
      (let a = all_append g (emptied (emptied v.pieces p) q) ((piece_at v.pieces p ++ piece_at (emptied v.pieces p) q) ∷ []) in
      let b = all_emptied g v.pieces p in
      let c = all_emptied g (emptied v.pieces p) q in
      let d = sum_append g (piece_at v.pieces p) (piece_at (emptied v.pieces p) q) in
      omega (arith, a, b, c, d, h.held g));
}

-- ---- unknowns
pub piece_among : (g : ℕ → ℕ) (xs : List (List ℕ)) (p : ℕ) → sum_over g (piece_at xs p) ≤ sum_over_all g xs
piece_among g xs p = let e = all_emptied g xs p in omega (arith, e)

pub among_counts : (a m : ℕ) (ms : List ℕ) → is_among (unknowns a ms) (record { agent = a; atom = m }) ≡ true → 1 ≤ sum_over (one_at m) ms
among_counts a m [] e = let w : ⊥ = cc in absurd w
among_counts a m (x ∷ xs) e = by (x == m) refl (among_counts a m xs)
  where
    by : (b : Bool) → (x == m) ≡ b → (is_among (unknowns a xs) (record { agent = a; atom = m }) ≡ true → 1 ≤ sum_over (one_at m) xs) → 1 ≤ sum_over (one_at m) (x ∷ xs)
    by true f go = let g : one_at m x ≡ 1 = grind (arith, nat_tests) in omega (arith, g)
    by false f go =
        let h : is_among (unknowns a xs) (record { agent = a; atom = m }) ≡ true = grind (arith, nat_tests) in
        let k = go h in omega (arith, k)

different : (a : ℕ) (ms : List ℕ) → ((m : ℕ) → sum_over (one_at m) ms ≤ 1) → AreDifferent (unknowns a ms)
different a [] h = tt
different a (x ∷ xs) h = (by (is_among (unknowns a xs) (record { agent = a; atom = x })) refl, different a xs (λ m. omega (arith, h m)))
  where
    by : (b : Bool) → is_among (unknowns a xs) (record { agent = a; atom = x }) ≡ b → b ≡ false
    by true e = let k = among_counts a x xs e in let o = one_same x in let w : ⊥ = omega (arith, k, o, h x) in absurd w
    by false e = refl

pub unknowns_differ : (v : Numbering) (a p : ℕ) → IsNumbering v → AreDifferent (unknowns a (piece_at v.pieces p))
unknowns_differ v a p h = different a (piece_at v.pieces p) (λ m. omega (arith, piece_among (one_at m) v.pieces p, h.held (one_at m), h.once m))

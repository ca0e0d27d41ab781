-- The unknowns of a piece's parts stand for the form of the piece.
use Rattle.std.proofs.Common.{◌≡◌, ◌∙◌, ℕ, ◌≤◌, ◌==◌, arith, refl, sym, ap, subst, Bool, true, false, List, [], ◌∷◌, ◌++◌, pos, ◌⊎◌, inl, inr}
use Rattle.std.specs.Prelude.{map, if◌then◌else◌, ◌||◌}
use Rattle.std.proofs.lemmas.Bool.Decides.{nat_tests}
use Rattle.slice_num.specs.Rational.{Rational, plus, whole}
use Rattle.slice_num.proofs.Laws.{plus_zero}
use Rattle.slice_num.proofs.FieldLaws.{plus_zero_right}
use Rattle.slice_num.specs.Pieces.{piece_at}
use Rattle.slice_linear.specs.declared.forms.Term.{Term}
use Rattle.slice_num.specs.declared.key.Key.{Key}
use Rattle.slice_linear.specs.Terms.{coef_of, whole_key, is_same, is_among, IsKeySum}
use Rattle.slice_atoms.specs.Addresses.{L, R, Address, Cake, Atom, Halves, atoms, begins, times_held}
use Rattle.slice_atoms.specs.Forms.{piece_form}
use Rattle.slice_atoms.specs.Numbers.{Numbering, IsNumbering, name_of, cake_of, unknowns, one_at, sum_over}
use Rattle.slice_atoms.proofs.Cuts.{among_counts, one_same, piece_among}
use Rattle.slice_paths.specs.Same.{LiesIn, SameAt}
use Rattle.slice_paths.specs.Spots.{coef_in, form_of}
use Rattle.slice_paths.proofs.Means.{ApartFrom, Apart, atoms_apart}

abbrev pub SomeIn : List Address → Address → Type 0
SomeIn [] B = ⊥
SomeIn (A ∷ As) B = (begins B A ≡ true) ⊎ SomeIn As B

some_left : (As Bs : List Address) (B : Address) → SomeIn As B → SomeIn (As ++ Bs) B
some_left [] Bs B h = absurd h
some_left (A ∷ As) Bs B (inl e) = inl e
some_left (A ∷ As) Bs B (inr h) = inr (some_left As Bs B h)

some_right : (As Bs : List Address) (B : Address) → SomeIn Bs B → SomeIn (As ++ Bs) B
some_right [] Bs B h = h
some_right (A ∷ As) Bs B h = inr (some_right As Bs B h)

some_l : (As : List Address) (B : Address) → SomeIn As B → SomeIn (map (λ A. L ∷ A) As) (L ∷ B)
some_l [] B h = h
some_l (A ∷ As) B (inl e) = inl e
some_l (A ∷ As) B (inr h) = inr (some_l As B h)

some_r : (As : List Address) (B : Address) → SomeIn As B → SomeIn (map (λ A. R ∷ A) As) (R ∷ B)
some_r [] B h = h
some_r (A ∷ As) B (inl e) = inl e
some_r (A ∷ As) B (inr h) = inr (some_r As B h)

pub lies_some : (k : Cake) (B : Address) → LiesIn k B → SomeIn (atoms k) B
lies_some Atom [] h = inl refl
lies_some Atom (L ∷ B) h = inl refl
lies_some Atom (R ∷ B) h = inl refl
lies_some (Halves l r) [] h = absurd h
lies_some (Halves l r) (L ∷ B) h = some_left (map (λ A. L ∷ A) (atoms l)) (map (λ A. R ∷ A) (atoms r)) (L ∷ B) (some_l (atoms l) B (lies_some l B h))
lies_some (Halves l r) (R ∷ B) h = some_right (map (λ A. L ∷ A) (atoms l)) (map (λ A. R ∷ A) (atoms r)) (R ∷ B) (some_r (atoms r) B (lies_some r B h))

-- two that an address begins with aren't apart
not_apart : (B A C : Address) → begins B A ≡ true → begins B C ≡ true → begins A C ≡ false → begins C A ≡ false → ⊥
not_apart B [] C p q r s = by C s
  where
    by : (D : Address) → begins D [] ≡ false → ⊥
    by [] e = cc
    by (L ∷ D) e = cc
    by (R ∷ D) e = cc
not_apart B (x ∷ A) [] p q r s = cc
not_apart [] (x ∷ A) (y ∷ C) p q r s = cc
not_apart (L ∷ B) (L ∷ A) (L ∷ C) p q r s = not_apart B A C p q r s
not_apart (R ∷ B) (R ∷ A) (R ∷ C) p q r s = not_apart B A C p q r s
not_apart (L ∷ B) (R ∷ A) (y ∷ C) p q r s = cc
not_apart (R ∷ B) (L ∷ A) (y ∷ C) p q r s = cc
not_apart (L ∷ B) (L ∷ A) (R ∷ C) p q r s = cc
not_apart (R ∷ B) (R ∷ A) (L ∷ C) p q r s = cc

from_in : (name : ℕ → Address) (A : Address) (ms : List ℕ) (m : ℕ) → ApartFrom A (map name ms) → 1 ≤ sum_over (one_at m) ms → (begins A (name m) ≡ false) × (begins (name m) A ≡ false)
from_in name A [] m h c = absurd (omega arith)
from_in name A (x ∷ xs) m h c = by (x == m) refl (from_in name A xs m h.1.1)
  where
    by : (b : Bool) → (x == m) ≡ b → (1 ≤ sum_over (one_at m) xs → (begins A (name m) ≡ false) × (begins (name m) A ≡ false)) → (begins A (name m) ≡ false) × (begins (name m) A ≡ false)
    by true e go = let f : x ≡ m = grind (arith, nat_tests) in subst (λ (y : ℕ). (begins A (name y) ≡ false) × (begins (name y) A ≡ false)) f (h.0, h.1.0)
    by false e go = let f : one_at m x ≡ 0 = grind (arith, nat_tests) in go (omega (arith, c, f))

-- the atom in which an address lies
pub record Hit (name : ℕ → Address) (order : List ℕ) (B : Address) : Type 0 where
  pub m : ℕ
  pub inside : 1 ≤ sum_over (one_at m) order
  pub is : begins B (name m) ≡ true
  pub at : (ts : List Term) (a : ℕ) → coef_in name order ts a B ≡ coef_of ts (record { agent = a; atom = m })
  pub others : (j : ℕ) → 1 ≤ sum_over (one_at j) order → (j == m) ≡ false → begins B (name j) ≡ false

pub hit_of : (name : ℕ → Address) (order : List ℕ) (B : Address) → Apart (map name order) → SomeIn (map name order) B → Hit name order B
hit_of name [] B h s = absurd s
hit_of name (x ∷ xs) B h s = by (begins B (name x)) refl s (hit_of name xs B h.1)
  where
    none_else : begins B (name x) ≡ true → (j : ℕ) → 1 ≤ sum_over (one_at j) (x ∷ xs) → (j == x) ≡ false → begins B (name j) ≡ false
    none_else e j c n = by_case (begins B (name j)) refl
      where
        by_case : (b : Bool) → begins B (name j) ≡ b → b ≡ false
        by_case true f =
            let z : one_at j x ≡ 0 = grind (arith, nat_tests) in
            let i : 1 ≤ sum_over (one_at j) xs = omega (arith, c, z) in
            let g = from_in name (name x) xs j h.0 i in
            absurd (not_apart B (name x) (name j) e f g.0 g.1)
        by_case false f = refl

    by : (b : Bool) → begins B (name x) ≡ b → (b ≡ true) ⊎ SomeIn (map name xs) B → (SomeIn (map name xs) B → Hit name xs B) → Hit name (x ∷ xs) B
    by true e s go = record { m = x; inside = (let o = one_same x in omega (arith, o)); is = e; at = λ ts a. ap (λ (b : Bool). if b then coef_of ts (record { agent = a; atom = x }) else coef_in name xs ts a B) e; others = none_else e }
    by false e (inl f) go = let w : ⊥ = cc in absurd w
    by false e (inr s) go =
        let k = go s in
        record {
          m = k.m;
          inside = (let o = k.inside in omega (arith, o));
          is = k.is;
          at = λ ts a. ap (λ (b : Bool). if b then coef_of ts (record { agent = a; atom = x }) else coef_in name xs ts a B) e ∙ k.at ts a;
          others = λ j c n. later k j c n (j == x) refl;
        }
      where
        later : (k : Hit name xs B) (j : ℕ) → 1 ≤ sum_over (one_at j) (x ∷ xs) → (j == k.m) ≡ false → (b : Bool) → (j == x) ≡ b → begins B (name j) ≡ false
        later k j c n true f = let g : x ≡ j = grind (arith, nat_tests) in subst (λ (y : ℕ). begins B (name y) ≡ false) g e
        later k j c n false f = let z : one_at j x ≡ 0 = grind (arith, nat_tests) in k.others j (omega (arith, c, z)) n

among_other : (a : ℕ) (ms : List ℕ) (k : Key) → (a == k.agent) ≡ false → is_among (unknowns a ms) k ≡ false
among_other a [] k e = refl
among_other a (m ∷ ms) k e = let h = among_other a ms k e in let f : is_same (record { agent = a; atom = m }) k ≡ false = grind (arith, nat_tests) in λ i. f i || h i

-- of a piece's parts at most one holds it: that atom
held_once :
    (name : ℕ → Address) (order : List ℕ) (B : Address) (k : Hit name order B) (a : ℕ) (ms : List ℕ) → ((j : ℕ) → sum_over (one_at j) ms ≤ sum_over (one_at j) order) → ((j : ℕ) → sum_over (one_at j) ms ≤ 1)
    → times_held (map name ms) B ≡ (if is_among (unknowns a ms) (record { agent = a; atom = k.m }) then whole (pos 1) else whole (pos 0))
held_once name order B k a [] sub once = refl
held_once name order B k a (x ∷ xs) sub once =
    by (x == k.m) (is_among (unknowns a xs) (record { agent = a; atom = k.m })) refl refl (held_once name order B k a xs (λ j. omega (arith, sub j)) (λ j. omega (arith, once j)))
  where
    by :
        (b c : Bool) → (x == k.m) ≡ b → is_among (unknowns a xs) (record { agent = a; atom = k.m }) ≡ c
        → times_held (map name xs) B ≡ (if is_among (unknowns a xs) (record { agent = a; atom = k.m }) then whole (pos 1) else whole (pos 0))
        → plus (if begins B (name x) then whole (pos 1) else whole (pos 0)) (times_held (map name xs) B)
        ≡ (if is_among (unknowns a (x ∷ xs)) (record { agent = a; atom = k.m }) then whole (pos 1) else whole (pos 0))
    by true true e f h =
        let i = among_counts a k.m xs f in
        let z : one_at k.m x ≡ 1 = grind (arith, nat_tests) in
        let w : ⊥ = omega (arith, i, z, once k.m) in
        absurd w
    by true false e f h =
        let y : x ≡ k.m = grind (arith, nat_tests) in
        let n : begins B (name x) ≡ true = ap (λ (z : ℕ). begins B (name z)) y ∙ k.is in
        let q : is_same (record { agent = a; atom = x }) (record { agent = a; atom = k.m }) ≡ true = grind (arith, nat_tests) in
        (λ i. plus (if n i then whole (pos 1) else whole (pos 0)) ((h ∙ ap (λ (z : Bool). if z then whole (pos 1) else whole (pos 0)) f) i))
        ∙ plus_zero_right (whole (pos 1))
        ∙ sym (ap (λ (z : Bool). if z || is_among (unknowns a xs) (record { agent = a; atom = k.m }) then whole (pos 1) else whole (pos 0)) q)
    by false c e f h =
        let y = one_same x in
        let n : begins B (name x) ≡ false = k.others x (omega (arith, y, sub x)) e in
        let q : is_same (record { agent = a; atom = x }) (record { agent = a; atom = k.m }) ≡ false = grind (arith, nat_tests) in
        (λ i. plus (if n i then whole (pos 1) else whole (pos 0)) (h i))
        ∙ plus_zero (if is_among (unknowns a xs) (record { agent = a; atom = k.m }) then whole (pos 1) else whole (pos 0))
        ∙ sym (ap (λ (z : Bool). if z || is_among (unknowns a xs) (record { agent = a; atom = k.m }) then whole (pos 1) else whole (pos 0)) q)

-- the sum of a piece's unknowns stands for the form of the piece
pub pieces_mean_pieces :
    (v : Numbering) (a p : ℕ) (zs : List Term) → IsNumbering v → 1 ≤ a → IsKeySum (unknowns a (piece_at v.pieces p)) zs
    → SameAt (cake_of v.olds) (form_of v zs) (piece_form a (map (name_of v.olds) (piece_at v.pieces p)))
pieces_mean_pieces v a p zs h one s = record {
  whole = s whole_key ∙ ap (λ (z : Bool). if z then whole (pos 1) else whole (pos 0)) (among_other a (piece_at v.pieces p) whole_key (grind (arith, nat_tests)));
  parts = λ b B l.
      (let name = name_of v.olds in
      let ms = piece_at v.pieces p in
      let k = hit_of name v.order B (subst Apart (sym h.named) (atoms_apart (cake_of v.olds))) (subst (λ (As : List Address). SomeIn As B) (sym h.named) (lies_some (cake_of v.olds) B l)) in
      let sub : (j : ℕ) → sum_over (one_at j) ms ≤ sum_over (one_at j) v.order = λ j. omega (arith, piece_among (one_at j) v.pieces p, h.held (one_at j)) in
      k.at zs b ∙ s (record { agent = b; atom = k.m }) ∙ by b (times_held (map name ms) B) k.m (held_once name v.order B k a ms sub (λ j. omega (arith, sub j, h.once j))) (b == a) refl);
}
  where
    by : (b : ℕ) (t : Rational) (m : ℕ) → t ≡ (if is_among (unknowns a (piece_at v.pieces p)) (record { agent = a; atom = m }) then whole (pos 1) else whole (pos 0)) → (z : Bool) → (b == a) ≡ z
        → (if is_among (unknowns a (piece_at v.pieces p)) (record { agent = b; atom = m }) then whole (pos 1) else whole (pos 0)) ≡ (if z then t else whole (pos 0))
    by b t m h true e =
        let y : b ≡ a = grind (arith, nat_tests) in
        ap (λ (x : ℕ). if is_among (unknowns a (piece_at v.pieces p)) (record { agent = x; atom = m }) then whole (pos 1) else whole (pos 0)) y ∙ sym h
    by b t m h false e = ap (λ (x : Bool). if x then whole (pos 1) else whole (pos 0)) (among_other a (piece_at v.pieces p) (record { agent = b; atom = m }) (grind (arith, nat_tests)))

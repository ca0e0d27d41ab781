-- The places of a form's coefficients, and what stands for them where the cake is cut further.
use Rattle.std.proofs.Common.{◌≡◌, ◌∙◌, ℕ, zero, suc, refl, sym, ap, subst, List, [], ◌∷◌, ◌++◌, map, ℤ, pos, ◌⊎◌, inl, inr, append_assoc}
use Rattle.std.proofs.lemmas.List.{map-append}
use Rattle.std.proofs.lemmas.Simd.{map-map}
use Rattle.slice_num.specs.Rational.{Rational}
use Rattle.slice_linear.specs.LowestRow.{lowest}
use Rattle.slice_linear.specs.Sums.{at}
use Rattle.slice_atoms.specs.Addresses.{L, R, Address, Cake, Atom, Halves, atoms}
use Rattle.slice_atoms.specs.Forms.{Form, agent_coefs, all_coefs}
use Rattle.slice_paths.proofs.Fits.{IsIn}
use Rattle.slice_paths.proofs.Later.{Refines}
use Rattle.slice_paths.proofs.Parts.{in_left, in_right, in_either, in_map}
use Rattle.slice_paths.proofs.SameLowest.{Within, same_scale}
use Rattle.slice_paths.proofs.Solutions.{map_out}

-- ---- atoms of a cake that was cut further
abbrev lefts : Cake → List Address
lefts k = map (λ (A : Address). L ∷ A) (atoms k)

abbrev rights : Cake → List Address
rights k = map (λ (A : Address). R ∷ A) (atoms k)

some_atom : (k : Cake) → (A : Address) × IsIn A (atoms k)
some_atom Atom = ([], inl refl)
some_atom (Halves l r) = let g = some_atom l in (L ∷ g.0, in_left (L ∷ g.0) (lefts l) (rights r) (in_map (λ (A : Address). L ∷ A) g.0 (atoms l) g.1))

-- each atom has one of the further atoms in it
finer : (k m : Cake) → Refines k m → (A : Address) → IsIn A (atoms k) → (B : Address) × IsIn (A ++ B) (atoms m)
finer Atom m h A (inl e) = let g = some_atom m in (g.0, subst (λ (C : Address). IsIn (C ++ g.0) (atoms m)) (sym e) g.1)
finer Atom m h A (inr i) = absurd i
finer (Halves l r) Atom h A i = absurd h
finer (Halves l r) (Halves x y) h A i = elim (in_either A (lefts l) (rights r) i) [
  | inl j ↦
      let o = map_out (λ (C : Address). L ∷ C) A (atoms l) j in
      let g = finer l x h.0 o.0 o.1 in
      (g.0, subst (λ (C : Address). IsIn (C ++ g.0) (atoms (Halves x y))) (sym o.2) (in_left (L ∷ (o.0 ++ g.0)) (lefts x) (rights y) (in_map (λ (C : Address). L ∷ C) (o.0 ++ g.0) (atoms x) g.1)))
  | inr j ↦
      let o = map_out (λ (C : Address). R ∷ C) A (atoms r) j in
      let g = finer r y h.1 o.0 o.1 in
      (g.0, subst (λ (C : Address). IsIn (C ++ g.0) (atoms (Halves x y))) (sym o.2) (in_right (R ∷ (o.0 ++ g.0)) (lefts x) (rights y) (in_map (λ (C : Address). R ∷ C) (o.0 ++ g.0) (atoms y) g.1)))
]

-- each of the further atoms lies in an atom
coarser : (k m : Cake) → Refines k m → (X : Address) → IsIn X (atoms m) → (A : Address) × (B : Address) × IsIn A (atoms k) × (X ≡ A ++ B)
coarser Atom m h X i = ([], X, inl refl, refl)
coarser (Halves l r) Atom h X i = absurd h
coarser (Halves l r) (Halves x y) h X i = elim (in_either X (lefts x) (rights y) i) [
  | inl j ↦
      let o = map_out (λ (C : Address). L ∷ C) X (atoms x) j in
      let g = coarser l x h.0 o.0 o.1 in
      (L ∷ g.0, g.1, in_left (L ∷ g.0) (lefts l) (rights r) (in_map (λ (C : Address). L ∷ C) g.0 (atoms l) g.2), o.2 ∙ ap (λ (C : Address). L ∷ C) g.3)
  | inr j ↦
      let o = map_out (λ (C : Address). R ∷ C) X (atoms y) j in
      let g = coarser r y h.1 o.0 o.1 in
      (R ∷ g.0, g.1, in_right (R ∷ g.0) (lefts l) (rights r) (in_map (λ (C : Address). R ∷ C) g.0 (atoms r) g.2), o.2 ∙ ap (λ (C : Address). R ∷ C) g.3)
]

-- ---- forms that were made on a cake
-- the form has the same coefficients in all that lies in an atom
abbrev pub IsSettled : Cake → Form → Type 0
IsSettled k f = (a : ℕ) (A B : Address) → IsIn A (atoms k) → f.at a (A ++ B) ≡ f.at a A

pub settled_finer : (k m : Cake) → Refines k m → (f : Form) → IsSettled k f → IsSettled m f
settled_finer k m h f s a X B i =
    let g = coarser k m h X i in
    ap (λ (Y : Address). f.at a (Y ++ B)) g.3
    ∙ ap (f.at a) (append_assoc g.0 g.1 B)
    ∙ s a g.0 (g.1 ++ B) g.2
    ∙ sym (s a g.0 g.1 g.2)
    ∙ ap (f.at a) (sym g.3)

-- ---- where coefficients stand
data Slot : Type 0 where
  Whole : Slot
  Part : (agent : ℕ) (address : Address) → Slot

abbrev coef_in : Form → Slot → Rational
coef_in f Whole = f.whole_of
coef_in f (Part a A) = f.at a A

abbrev agent_slots : ℕ → Cake → List Slot
agent_slots zero k = []
agent_slots (suc n) k = agent_slots n k ++ map (Part (suc n)) (atoms k)

abbrev slots : ℕ → Cake → List Slot
slots n k = Whole ∷ agent_slots n k

agents_are : (n : ℕ) (k : Cake) (f : Form) → agent_coefs n k f.at ≡ map (coef_in f) (agent_slots n k)
agents_are zero k f = refl
agents_are (suc n) k f =
    (λ i. agents_are n k f i ++ sym (map-map (coef_in f) (Part (suc n)) (atoms k)) i) ∙ sym (map-append (coef_in f) (agent_slots n k) (map (Part (suc n)) (atoms k)))

coefs_are : (n : ℕ) (k : Cake) (f : Form) → all_coefs n k f ≡ map (coef_in f) (slots n k)
coefs_are n k f = ap (λ (qs : List Rational). f.whole_of ∷ qs) (agents_are n k f)

-- a slot on the one cake, and one on the other with the same coefficient of each form that was made on the first of them
record Stands (base : Cake) (n : ℕ) (k : Cake) (s : Slot) : Type 0 where
  slot : Slot
  is_one : IsIn slot (slots n k)
  same : (f : Form) → IsSettled base f → coef_in f s ≡ coef_in f slot

record PartStands (base : Cake) (n : ℕ) (k : Cake) (s : Slot) : Type 0 where
  slot : Slot
  is_one : IsIn slot (agent_slots n k)
  same : (f : Form) → IsSettled base f → coef_in f s ≡ coef_in f slot

one_more : (base : Cake) (n : ℕ) (k : Cake) (s : Slot) → PartStands base n k s → PartStands base (suc n) k s
one_more base n k s h = record { slot = h.slot; is_one = in_left h.slot (agent_slots n k) (map (Part (suc n)) (atoms k)) h.is_one; same = h.same }

last_stands : (base : Cake) (n : ℕ) (k : Cake) (s : Slot) (A : Address) → IsIn A (atoms k) → ((f : Form) → IsSettled base f → coef_in f s ≡ f.at (suc n) A) → PartStands base (suc n) k s
last_stands base n k s A i e = record { slot = Part (suc n) A; is_one = in_right (Part (suc n) A) (agent_slots n k) (map (Part (suc n)) (atoms k)) (in_map (Part (suc n)) A (atoms k) i); same = e }

fine_part : (n : ℕ) (k m : Cake) → Refines k m → (s : Slot) → IsIn s (agent_slots n k) → PartStands k n m s
fine_part zero k m h s i = absurd i
fine_part (suc n) k m h s i = elim (in_either s (agent_slots n k) (map (Part (suc n)) (atoms k)) i) [
  | inl j ↦ one_more k n m s (fine_part n k m h s j)
  | inr j ↦
      let o = map_out (Part (suc n)) s (atoms k) j in
      let g = finer k m h o.0 o.1 in
      last_stands k n m s (o.0 ++ g.0) g.1 (λ f t. ap (coef_in f) o.2 ∙ sym (t (suc n) o.0 g.0 o.1))
]

fine_slot : (n : ℕ) (k m : Cake) → Refines k m → (s : Slot) → IsIn s (slots n k) → Stands k n m s
fine_slot n k m h s (inl e) = record { slot = Whole; is_one = inl refl; same = λ f t. ap (coef_in f) e }
fine_slot n k m h s (inr i) = let g = fine_part n k m h s i in record { slot = g.slot; is_one = inr g.is_one; same = g.same }

coarse_part : (n : ℕ) (k m : Cake) → Refines k m → (s : Slot) → IsIn s (agent_slots n m) → PartStands k n k s
coarse_part zero k m h s i = absurd i
coarse_part (suc n) k m h s i = elim (in_either s (agent_slots n m) (map (Part (suc n)) (atoms m)) i) [
  | inl j ↦ one_more k n k s (coarse_part n k m h s j)
  | inr j ↦
      let o = map_out (Part (suc n)) s (atoms m) j in
      let g = coarser k m h o.0 o.1 in
      last_stands k n k s g.0 g.2 (λ f t. ap (coef_in f) o.2 ∙ ap (f.at (suc n)) g.3 ∙ t (suc n) g.0 g.1 g.2)
]

coarse_slot : (n : ℕ) (k m : Cake) → Refines k m → (s : Slot) → IsIn s (slots n m) → Stands k n k s
coarse_slot n k m h s (inl e) = record { slot = Whole; is_one = inl refl; same = λ f t. ap (coef_in f) e }
coarse_slot n k m h s (inr i) = let g = coarse_part n k m h s i in record { slot = g.slot; is_one = inr g.is_one; same = g.same }

-- ---- the rows of a form on both cakes
record Numbered (n : ℕ) (k m : Cake) (f : Form) : Type 0 where
  number : Rational → ℤ
  coarse : lowest (all_coefs n k f) ≡ map (λ (s : Slot). number (coef_in f s)) (slots n k)
  fine : lowest (all_coefs n m f) ≡ map (λ (s : Slot). number (coef_in f s)) (slots n m)

within : (base : Cake) (n : ℕ) (k m : Cake) (f : Form) → IsSettled base f → ((s : Slot) → IsIn s (slots n k) → Stands base n m s) → Within (all_coefs n k f) (all_coefs n m f)
within base n k m f t to q i =
    let o = map_out (coef_in f) q (slots n k) (subst (IsIn q) (coefs_are n k f) i) in
    let g = to o.0 o.1 in
    subst (λ (p : Rational). IsIn p (all_coefs n m f)) (sym (o.2 ∙ g.same f t)) (subst (IsIn (coef_in f g.slot)) (sym (coefs_are n m f)) (in_map (coef_in f) g.slot (slots n m) g.is_one))

numbered : (n : ℕ) (k m : Cake) → Refines k m → (f : Form) → IsSettled k f → Numbered n k m f
numbered n k m h f t =
    let c = same_scale (all_coefs n k f) (all_coefs n m f) (within k n k m f t (fine_slot n k m h)) (within k n m k f t (coarse_slot n k m h)) in
    record {
      number = c.number;
      coarse = c.first ∙ ap (map c.number) (coefs_are n k f) ∙ map-map c.number (coef_in f) (slots n k);
      fine = c.second ∙ ap (map c.number) (coefs_are n m f) ∙ map-map c.number (coef_in f) (slots n m);
    }

-- ---- by number
-- what stands at a place of each list that is made from this one
record Stood {A : Type 0} (xs : List A) (j : ℕ) : Type 0 where
  one_ : A
  is_one : IsIn one_ xs
  look : (f : A → ℤ) → at (map f xs) j ≡ f one_

stood : {A : Type 0} (xs : List A) (j : ℕ) → Stood xs j ⊎ ((f : A → ℤ) → at (map f xs) j ≡ pos 0)
stood [] j = inr (λ f. refl)
stood (x ∷ xs) zero = inl (record { one_ = x; is_one = inl refl; look = λ f. refl })
stood (x ∷ xs) (suc j) = elim (stood xs j) [
  | inl h ↦ inl (record { one_ = h.one_; is_one = inr h.is_one; look = h.look })
  | inr h ↦ inr h
]

place_of : {A : Type 0} (x : A) (xs : List A) → IsIn x xs → (j : ℕ) × ((f : A → ℤ) → at (map f xs) j ≡ f x)
place_of x [] h = absurd h
place_of x (y ∷ xs) (inl e) = (0, λ f. ap f (sym e))
place_of x (y ∷ xs) (inr h) = let g = place_of x xs h in (suc g.0, g.1)

past : {A : Type 0} (xs : List A) → (j : ℕ) × ((f : A → ℤ) → at (map f xs) j ≡ pos 0)
past [] = (0, λ f. refl)
past (x ∷ xs) = let g = past xs in (suc g.0, g.1)

-- each unknown of the coarser cake has one of the finer with the same coefficient in each row
pub column : (n : ℕ) (k m : Cake) → Refines k m → (j : ℕ) → (i : ℕ) × ((f : Form) → IsSettled k f → at (lowest (all_coefs n k f)) j ≡ at (lowest (all_coefs n m f)) i)
column n k m h j = elim (stood (slots n k) j) [
  | inl s ↦
      let t = fine_slot n k m h s.one_ s.is_one in
      let p = place_of t.slot (slots n m) t.is_one in (
        p.0,
        λ f d.
            let c = numbered n k m h f d in
            ap (λ (zs : List ℤ). at zs j) c.coarse ∙ s.look (λ (u : Slot). c.number (coef_in f u)) ∙ ap c.number (t.same f d) ∙ sym (ap (λ (zs : List ℤ). at zs p.0) c.fine ∙ p.1 (λ (u : Slot). c.number (coef_in f u))),
      )
  | inr none ↦
      let p = past (slots n m) in (
        p.0,
        λ f d.
            let c = numbered n k m h f d in
            ap (λ (zs : List ℤ). at zs j) c.coarse ∙ none (λ (u : Slot). c.number (coef_in f u)) ∙ sym (ap (λ (zs : List ℤ). at zs p.0) c.fine ∙ p.1 (λ (u : Slot). c.number (coef_in f u))),
      )
]

-- How many atoms lie to the left of parts and cuts, when one more atom is cut.
use Rattle.std.proofs.Common.{◌≡◌, ◌∙◌, ℕ, ◌+◌, ◌<◌, ◌≤◌, arith, refl, sym, ap, [], ◌∷◌, inl, inr}
use Rattle.std.proofs.lemmas.Bool.Decides.{nat_tests}
use Rattle.std.proofs.lemmas.Bool.{cases_lt}
use Rattle.slice_atoms.specs.Addresses.{L, R, Address, Cake, Atom, Halves, halved, atom_count, left_of, right_of}
use Rattle.slice_atoms.specs.AtomLaws.{IsMade}
use Rattle.slice_atoms.proofs.AtomOrder.{IsAtom}
use Rattle.slice_counter.specs.Counter.{boundary}
use Rattle.slice_counter.specs.Marks.{atoms_before, moved, IsCut}

pub moved_low : (j n : ℕ) → n ≤ j → moved j n ≡ n
moved_low j n h = grind (arith, nat_tests)

pub moved_high : (j n : ℕ) → j < n → moved j n ≡ n + 1
moved_high j n h = grind (arith, nat_tests)

moved_more : (k j n : ℕ) → k + moved j n ≡ moved (k + j) (k + n)
moved_more k j n = elim (cases_lt j n) [
  | inl l ↦ ap (λ m. k + m) (moved_high j n l) ∙ omega arith ∙ sym (moved_high (k + j) (k + n) (omega (arith, l)))
  | inr l ↦ ap (λ m. k + m) (moved_low j n l) ∙ sym (moved_low (k + j) (k + n) (omega (arith, l)))
]

some_atom : (k : Cake) → 0 < atom_count k
some_atom Atom = omega arith
some_atom (Halves l r) = omega (arith, some_atom l)

pub before_below : (k : Cake) (A : Address) → atoms_before k A < atom_count k
before_below Atom A = omega arith
before_below (Halves l r) [] = omega (arith, some_atom l)
before_below (Halves l r) (L ∷ A) = omega (arith, before_below l A)
before_below (Halves l r) (R ∷ A) = omega (arith, before_below r A)

pub boundary_below : (k : Cake) (A : Address) → boundary k A < atom_count k
boundary_below Atom A = omega arith
boundary_below (Halves l r) [] = omega (arith, some_atom r)
boundary_below (Halves l r) (L ∷ A) = omega (arith, boundary_below l A)
boundary_below (Halves l r) (R ∷ A) = omega (arith, boundary_below r A)

pub one_more_atom : (A : Address) (k : Cake) → IsAtom k A → atom_count (halved A k) ≡ atom_count k + 1
one_more_atom [] Atom h = refl
one_more_atom [] (Halves l r) h = absurd h
one_more_atom (b ∷ A) Atom h = absurd h
one_more_atom (L ∷ A) (Halves l r) h = let e = one_more_atom A l h in omega (arith, e)
one_more_atom (R ∷ A) (Halves l r) h = let e = one_more_atom A r h in omega (arith, e)

-- the parts that were made before
pub before_moved : (A : Address) (k : Cake) (B : Address) → IsAtom k A → IsMade k B → atoms_before (halved A k) B ≡ moved (atoms_before k A) (atoms_before k B)
before_moved [] Atom [] h g = refl
before_moved [] Atom (b ∷ B) h g = absurd g
before_moved [] (Halves l r) B h g = absurd h
before_moved (a ∷ A) Atom B h g = absurd h
before_moved (L ∷ A) (Halves l r) [] h g = sym (moved_low (atoms_before l A) 0 (omega arith))
before_moved (R ∷ A) (Halves l r) [] h g = sym (moved_low (atom_count l + atoms_before r A) 0 (omega arith))
before_moved (L ∷ A) (Halves l r) (L ∷ B) h g = before_moved A l B h g
before_moved (R ∷ A) (Halves l r) (R ∷ B) h g = ap (λ m. atom_count l + m) (before_moved A r B h g) ∙ moved_more (atom_count l) (atoms_before r A) (atoms_before r B)
before_moved (L ∷ A) (Halves l r) (R ∷ B) h g =
    let e = one_more_atom A l h in
    let low = before_below l A in
    omega (arith, e) ∙ sym (moved_high (atoms_before l A) (atom_count l + atoms_before r B) (omega (arith, low)))
before_moved (R ∷ A) (Halves l r) (L ∷ B) h g = let low = before_below l B in sym (moved_low (atom_count l + atoms_before r A) (atoms_before l B) (omega (arith, low)))

-- the two halves
pub left_before : (A : Address) (k : Cake) → IsAtom k A → atoms_before (halved A k) (left_of A) ≡ atoms_before k A
left_before [] Atom h = refl
left_before [] (Halves l r) h = absurd h
left_before (b ∷ A) Atom h = absurd h
left_before (L ∷ A) (Halves l r) h = left_before A l h
left_before (R ∷ A) (Halves l r) h = ap (λ m. atom_count l + m) (left_before A r h)

pub right_before : (A : Address) (k : Cake) → IsAtom k A → atoms_before (halved A k) (right_of A) ≡ atoms_before k A + 1
right_before [] Atom h = refl
right_before [] (Halves l r) h = absurd h
right_before (b ∷ A) Atom h = absurd h
right_before (L ∷ A) (Halves l r) h = right_before A l h
right_before (R ∷ A) (Halves l r) h = let e = right_before A r h in omega (arith, e)

-- ---- cuts
pub cut_here : (A : Address) (k : Cake) → IsAtom k A → IsCut (halved A k) A
cut_here [] Atom h = tt
cut_here [] (Halves l r) h = absurd h
cut_here (b ∷ A) Atom h = absurd h
cut_here (L ∷ A) (Halves l r) h = cut_here A l h
cut_here (R ∷ A) (Halves l r) h = cut_here A r h

pub cut_stays : (A : Address) (k : Cake) (B : Address) → IsCut k B → IsCut (halved A k) B
cut_stays A Atom B h = absurd h
cut_stays [] (Halves l r) B h = h
cut_stays (L ∷ A) (Halves l r) [] h = tt
cut_stays (R ∷ A) (Halves l r) [] h = tt
cut_stays (L ∷ A) (Halves l r) (L ∷ B) h = cut_stays A l B h
cut_stays (L ∷ A) (Halves l r) (R ∷ B) h = h
cut_stays (R ∷ A) (Halves l r) (L ∷ B) h = h
cut_stays (R ∷ A) (Halves l r) (R ∷ B) h = cut_stays A r B h

pub boundary_here : (A : Address) (k : Cake) → IsAtom k A → boundary (halved A k) A ≡ atoms_before k A + 1
boundary_here [] Atom h = refl
boundary_here [] (Halves l r) h = absurd h
boundary_here (b ∷ A) Atom h = absurd h
boundary_here (L ∷ A) (Halves l r) h = boundary_here A l h
boundary_here (R ∷ A) (Halves l r) h = let e = boundary_here A r h in omega (arith, e)

pub boundary_moved : (A : Address) (k : Cake) (B : Address) → IsAtom k A → IsCut k B → boundary (halved A k) B ≡ moved (atoms_before k A) (boundary k B)
boundary_moved A Atom B h g = absurd g
boundary_moved [] (Halves l r) B h g = absurd h
boundary_moved (L ∷ A) (Halves l r) [] h g =
    let low = before_below l A in
    one_more_atom A l h ∙ sym (moved_high (atoms_before l A) (atom_count l) low)
boundary_moved (R ∷ A) (Halves l r) [] h g = sym (moved_low (atom_count l + atoms_before r A) (atom_count l) (omega arith))
boundary_moved (L ∷ A) (Halves l r) (L ∷ B) h g = boundary_moved A l B h g
boundary_moved (R ∷ A) (Halves l r) (R ∷ B) h g = ap (λ m. atom_count l + m) (boundary_moved A r B h g) ∙ moved_more (atom_count l) (atoms_before r A) (boundary r B)
boundary_moved (L ∷ A) (Halves l r) (R ∷ B) h g =
    let e = one_more_atom A l h in
    let low = before_below l A in
    omega (arith, e) ∙ sym (moved_high (atoms_before l A) (atom_count l + boundary r B) (omega (arith, low)))
boundary_moved (R ∷ A) (Halves l r) (L ∷ B) h g = let low = boundary_below l B in sym (moved_low (atom_count l + atoms_before r A) (boundary l B) (omega (arith, low)))

-- Forms that have the same coefficients in the atoms of a cake.
use Rattle.std.specs.Prelude.{◌≡◌, ℕ, List, [], ◌∷◌, ⊤}
use Rattle.slice_atoms.specs.Addresses.{L, R, Address, Cake, Atom, Halves}
use Rattle.slice_atoms.specs.Forms.{Form}
use Rattle.slice_paths.specs.Places.{Condition}

-- the address is that of an atom, or of a part of one
abbrev pub LiesIn : Cake → Address → Type 0
LiesIn Atom B = ⊤
LiesIn (Halves l r) [] = ⊥
LiesIn (Halves l r) (L ∷ B) = LiesIn l B
LiesIn (Halves l r) (R ∷ B) = LiesIn r B

-- the two forms have the same coefficients in the atoms
pub record SameAt (k : Cake) (f g : Form) : Type 0 where
  pub whole : f.whole_of ≡ g.whole_of
  pub parts : (a : ℕ) (B : Address) → LiesIn k B → f.at a B ≡ g.at a B

-- so do the forms of two lists, one by one
abbrev pub SameForms : Cake → List Form → List Form → Type 0
SameForms k [] [] = ⊤
SameForms k (f ∷ fs) (g ∷ gs) = SameAt k f g × SameForms k fs gs
SameForms k [] (g ∷ gs) = ⊥
SameForms k (f ∷ fs) [] = ⊥

-- and two lists of conditions, of the same kinds
abbrev pub SameConditions : Cake → List Condition → List Condition → Type 0
SameConditions k [] [] = ⊤
SameConditions k (c ∷ cs) (d ∷ ds) = (c.kind ≡ d.kind) × (SameAt k c.form d.form × SameConditions k cs ds)
SameConditions k [] (d ∷ ds) = ⊥
SameConditions k (c ∷ cs) [] = ⊥

-- What each step of the walk does to what is known.
use Rattle.std.specs.Prelude.{◌≡◌, ◌≢◌, ◌<◌, ℕ, nat_le, ◌&&◌, pos, true, false, List, [], ◌∷◌, ◌++◌, length, map, take, drop, ◌+◌, ⊤}
use Rattle.slice_num.specs.Pieces.{piece_at}
use Rattle.slice_num.specs.Rational.{whole}
use Rattle.slice_num.specs.declared.choice.Choice.{Choice}
use Rattle.slice_core.specs.Agents.{IsAgent}
use Rattle.slice_core.specs.Tree.{Tree, Ask}
use Rattle.slice_core.specs.declared.node.LinTerm.{LinTerm}
use Rattle.slice_linear.specs.Terms.{coef_of}
use Rattle.slice_linear.specs.declared.forms.Term.{Term}
use Rattle.slice_linear.specs.declared.row.RowKind.{RowKind}
use Rattle.slice_atoms.specs.Addresses.{Address}
use Rattle.slice_atoms.specs.FormFits.{sub_fits}
use Rattle.slice_atoms.specs.Forms.{piece_form, sub_form}
use Rattle.slice_atoms.specs.Numbers.{IsNumbering, all_keys, cake_of, name_of, part_of, next_atom, cut_at}
use Rattle.slice_paths.specs.Events.{events, sum_fits, cut_fits}
use Rattle.slice_paths.specs.Places.{Way, sum_form, ask_way, test_way, give_way, join_way, cut_way}
use Rattle.slice_paths.specs.Same.{SameAt, SameForms, SameConditions}
use Rattle.slice_paths.specs.Spots.{Known, form_of, regs_of, way_of, IsWithin, IsSplit}
use Rattle.slice_paths.specs.Sums.{AllWithin}
use Rattle.slice_paths.specs.declared.spot.Condition as held
use Rattle.slice_paths.specs.declared.spot.Gift.{Gift}

-- ---- what is always so

-- the piece was given to nobody
abbrev pub IsNotGiven : ℕ → List Gift → Type 0
IsNotGiven p [] = ⊤
IsNotGiven p (g ∷ gs) = (g.piece ≢ p) × IsNotGiven p gs

-- the gifts are of pieces that were made, each of another one
abbrev pub AreGifts : ℕ → List Gift → Type 0
AreGifts made [] = ⊤
AreGifts made (g ∷ gs) = (g.piece < made) × IsNotGiven g.piece gs × AreGifts made gs

-- each gift went to one of so many agents
abbrev pub AreOwned : ℕ → List Gift → Type 0
AreOwned agents [] = ⊤
AreOwned agents (g ∷ gs) = IsAgent agents g.agent × AreOwned agents gs

-- what is always so at a spot: its atoms are numbered as cuts do it, its forms have coefficients at the atoms' unknowns
-- alone, and its gifts are of different pieces, each to an agent
pub record IsKnown (s : Known) : Type 0 where
  pub numbering : IsNumbering s.atoms
  pub regs : AllWithin s.atoms.agents s.atoms.order s.regs
  pub conditions : AllWithin s.atoms.agents s.atoms.order (map (λ c. c.form) s.conditions)
  pub gifts : AreGifts (length s.atoms.pieces) s.gifts
  pub owners : AreOwned s.atoms.agents s.gifts

-- a form has coefficients at the unknowns of a spot alone
abbrev pub IsOver : Known → List Term → Type 0
IsOver s ts = IsWithin (all_keys s.atoms.agents s.atoms.order) ts

-- the form of what the agent values these parts at
pub record IsValueOf (a : ℕ) (parts : List Address) (s : Known) (zs : List Term) : Type 0 where
  pub same : SameAt (cake_of s.atoms.olds) (form_of s.atoms zs) (piece_form a parts)
  pub over : IsOver s zs

-- ---- steps

-- the agent was asked for the piece's value: a register has the coefficients of the piece's form in the atoms, and the same
-- comes up as before the question
pub record AskedTo (a p : ℕ) (s t : Known) : Type 0 where
  pub same_regs : SameForms (cake_of s.atoms.olds) (regs_of t) (regs_of s ++ piece_form a (piece_at (way_of s).pieces p) ∷ [])
  pub way : way_of t ≡ ask_way (way_of s)
  pub comes : (n r : ℕ) (next : Tree) → events n next (regs_of t) (way_of t) ≡ events n (Ask a p r next) (regs_of s) (way_of s)
  pub known : IsKnown t

-- that, where the spot is one
abbrev pub IsAsked : ℕ → ℕ → Known → Known → Type 0
IsAsked a p s t = IsKnown s → AskedTo a p s t

-- a register was set to a sum whose numbers fit
pub record SetTo (ts : List LinTerm) (s t : Known) : Type 0 where
  pub fit : sum_fits s.atoms.agents (cake_of s.atoms.olds) (regs_of s) ts ≡ true
  pub regs : regs_of t ≡ regs_of s ++ sum_form (regs_of s) ts ∷ []
  pub way : way_of t ≡ way_of s
  pub known : IsKnown t

-- that, where the spot is one
abbrev pub IsSet : List LinTerm → Known → Known → Type 0
IsSet ts s t = IsKnown s → SetTo ts s t

-- the numbers of the sum don't fit
abbrev pub IsBroken : List LinTerm → Known → Type 0
IsBroken ts s = IsKnown s → sum_fits s.atoms.agents (cake_of s.atoms.olds) (regs_of s) ts ≡ false

-- the piece went to the agent
pub record GivenTo (a p : ℕ) (s t : Known) : Type 0 where
  pub regs : regs_of t ≡ regs_of s
  pub way : way_of t ≡ give_way p a (way_of s)
  pub known : IsKnown s → IsKnown t

-- two pieces became one
pub record JoinedTo (p q : ℕ) (s t : Known) : Type 0 where
  pub regs : regs_of t ≡ regs_of s
  pub way : way_of t ≡ join_way p q (way_of s)
  pub known : IsKnown t

-- that, where the spot is one
abbrev pub IsJoined : ℕ → ℕ → Known → Known → Type 0
IsJoined p q s t = IsKnown s → JoinedTo p q s t

-- the difference of two forms was told by a choice, and its numbers fit
pub record PassedTo (kind : RowKind) (upper lower : List Term) (c : Choice) (s t : Known) : Type 0 where
  pub fit : sub_fits s.atoms.agents (cake_of s.atoms.olds) (form_of s.atoms upper) (form_of s.atoms lower) ≡ true
  pub regs : regs_of t ≡ regs_of s
  pub way : way_of t ≡ test_way kind (sub_form (form_of s.atoms upper) (form_of s.atoms lower)) c (way_of s)
  pub known : IsKnown t

-- that, where the spot is one and both forms are over its unknowns
abbrev pub IsPassed : RowKind → List Term → List Term → Choice → Known → Known → Type 0
IsPassed kind upper lower c s t = IsKnown s → IsOver s upper → IsOver s lower → PassedTo kind upper lower c s t

-- the numbers of the difference don't fit
abbrev pub IsNoDifference : List Term → List Term → Known → Type 0
IsNoDifference upper lower s =
    IsKnown s → IsOver s upper → sub_fits s.atoms.agents (cake_of s.atoms.olds) (form_of s.atoms upper) (form_of s.atoms lower) ≡ false

-- ---- cuts

-- an atom can make way for two others in a form: these have no coefficients, and the atom has some to the agents alone
pub record CanSplit (agents old left right : ℕ) (xs : List Term) : Type 0 where
  pub left_new : (a : ℕ) → coef_of xs (record { agent = a; atom = left }) ≡ whole (pos 0)
  pub right_new : (a : ℕ) → coef_of xs (record { agent = a; atom = right }) ≡ whole (pos 0)
  pub nobody : (a : ℕ) → nat_le 1 a && nat_le a agents ≡ false → coef_of xs (record { agent = a; atom = old }) ≡ whole (pos 0)

-- so in each form
abbrev pub AllCanSplit : ℕ → ℕ → ℕ → ℕ → List (List Term) → Type 0
AllCanSplit agents old left right [] = ⊤
AllCanSplit agents old left right (x ∷ xs) = CanSplit agents old left right x × AllCanSplit agents old left right xs

-- in each form the atom made way for the two
abbrev pub AllSplit : ℕ → ℕ → ℕ → List (List Term) → List (List Term) → Type 0
AllSplit old left right [] [] = ⊤
AllSplit old left right (x ∷ xs) (z ∷ zs) = IsSplit old left right x z × AllSplit old left right xs zs
AllSplit old left right [] (z ∷ zs) = ⊥
AllSplit old left right (x ∷ xs) [] = ⊥

-- and in each condition, whose kind stays
abbrev pub ConditionsSplit : ℕ → ℕ → ℕ → List held.Condition → List held.Condition → Type 0
ConditionsSplit old left right [] [] = ⊤
ConditionsSplit old left right (c ∷ cs) (d ∷ ds) = (c.kind ≡ d.kind) × IsSplit old left right c.form d.form × ConditionsSplit old left right cs ds
ConditionsSplit old left right [] (d ∷ ds) = ⊥
ConditionsSplit old left right (c ∷ cs) [] = ⊥

-- a piece was cut at that part, and in all forms its halves took the place of its atom
pub record HalvedTo (p part : ℕ) (s t : Known) : Type 0 where
  pub regs : AllSplit (part_of s.atoms p part) (next_atom s.atoms) (next_atom s.atoms + 1) s.regs t.regs
  pub conditions : ConditionsSplit (part_of s.atoms p part) (next_atom s.atoms) (next_atom s.atoms + 1) s.conditions t.conditions
  pub is : t ≡ record s { atoms = cut_at p part s.atoms; regs = t.regs; conditions = t.conditions }

-- the parts of a piece, by their addresses
abbrev pub parts_at : Known → ℕ → List Address
parts_at s p = map (name_of s.atoms.olds) (piece_at s.atoms.pieces p)

-- the way of a cut that is answered in that part of the piece
abbrev pub answer_way : ℕ → ℕ → ℕ → List Term → Known → Way
answer_way a p part amount s =
    cut_way a p (form_of s.atoms amount) (take part (parts_at s p)) (name_of s.atoms.olds (part_of s.atoms p part)) (drop (part + 1) (parts_at s p)) (way_of s)

-- a cut was answered in that part of the piece: the numbers of what its answer tells fit; registers and conditions have the
-- coefficients in the atoms that they have on the way behind it; and the same comes up as on that way
pub record CutTo (a p part : ℕ) (amount : List Term) (s t : Known) : Type 0 where
  pub piece : piece_at (way_of s).pieces p ≡ take part (parts_at s p) ++ name_of s.atoms.olds (part_of s.atoms p part) ∷ drop (part + 1) (parts_at s p)
  pub fit : cut_fits s.atoms.agents a (form_of s.atoms amount) (take part (parts_at s p)) (name_of s.atoms.olds (part_of s.atoms p part)) (way_of s) ≡ true
  pub same_regs : SameForms (answer_way a p part amount s).cake (regs_of s) (regs_of t)
  pub same_conditions : SameConditions (answer_way a p part amount s).cake (answer_way a p part amount s).conditions (way_of t).conditions
  pub way : way_of t ≡ record (answer_way a p part amount s) { conditions = (way_of t).conditions; cuts = [] }
  pub comes : (n : ℕ) (next : Tree) → events n next (regs_of t) (way_of t) ≡ events n next (regs_of s) (answer_way a p part amount s)
  pub known : IsKnown t

-- the numbers of what the answer tells don't fit
abbrev pub IsNoCut : ℕ → ℕ → ℕ → List Term → Known → Type 0
IsNoCut a p part amount s =
    cut_fits s.atoms.agents a (form_of s.atoms amount) (take part (parts_at s p)) (name_of s.atoms.olds (part_of s.atoms p part)) (way_of s) ≡ false

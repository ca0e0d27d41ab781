-- Where a way cuts the cake, told by numbers of atoms from the left.
use Rattle.std.specs.Prelude.{◌≡◌, ℕ, suc, ◌+◌, ◌≤◌, nat_lt, Bool, true, false, if◌then◌else◌, List, [], ◌∷◌, ◌++◌, map, take, drop, length, Option, Some, None, option_map, ⊤}
use Rattle.slice_num.specs.declared.choice.Choice.{Choice}
use Rattle.slice_num.specs.declared.choice.Choice.TheVariants.{Low, High, Go, Yes, No}
use Rattle.slice_core.specs.Sizes.{most_cuts}
use Rattle.slice_num.specs.Pieces.{piece_at, cut_pieces}
use Rattle.slice_core.specs.Tree.{Tree}
use Rattle.slice_atoms.specs.Addresses.{L, R, Address, Cake, Atom, Halves, atom_count}
use Rattle.slice_atoms.specs.Counts.{over, all_of}
use Rattle.slice_atoms.specs.Forms.{Form}
use Rattle.slice_paths.specs.Places.{PassedCut, Way}
use Rattle.slice_paths.specs.Ways.{way_by}
use Rattle.slice_counter.specs.Counter.{boundary}
use Rattle.slice_counter.specs.declared.trail.Mark.{Mark}
use Rattle.slice_counter.specs.declared.trail.Trail.{Trail}

-- how many atoms lie to the left of the part of that address
abbrev pub atoms_before : Cake → Address → ℕ
atoms_before Atom A = 0
atoms_before (Halves l r) [] = 0
atoms_before (Halves l r) (L ∷ A) = atoms_before l A
atoms_before (Halves l r) (R ∷ A) = atom_count l + atoms_before r A

-- the cuts of a way: the number of the part in its piece, and how many atoms lie to the left of the cut
abbrev pub marks_of : Way → List Mark
marks_of k = map (λ (d : PassedCut). record { part = d.part; left = boundary k.cake d.address }) k.cuts

-- so many atoms to the left, after that atom was cut, which is one more where it is among them
abbrev pub moved : ℕ → ℕ → ℕ
moved atom n = if nat_lt atom n then n + 1 else n

abbrev pub moved_mark : ℕ → Mark → Mark
moved_mark atom m = record { part = m.part; left = moved atom m.left }

-- the parts of the pieces: how many atoms lie to the left of each
abbrev pub parts_of : Trail → List (List ℕ)
parts_of t = map (λ p. p.items) t.pieces.items

-- the pieces after the atom was cut that is the part of that number in piece p
abbrev pub cut_parts : ℕ → ℕ → ℕ → List (List ℕ) → List (List ℕ)
cut_parts p part atom pieces = cut_pieces pieces p (take part (piece_at pieces p) ++ atom ∷ []) ((atom + 1) ∷ drop (part + 1) (piece_at pieces p))

-- ---- choices

-- which part the next choices take: so many times No, then Go
abbrev pub part_taken : List Choice → Option ℕ
part_taken [] = None
part_taken (Low ∷ cs) = None
part_taken (High ∷ cs) = None
part_taken (Go ∷ cs) = Some 0
part_taken (Yes ∷ cs) = None
part_taken (No ∷ cs) = option_map suc (part_taken cs)

-- whether the next choice is yes
abbrev pub arm_taken : List Choice → Option Bool
arm_taken [] = None
arm_taken (Low ∷ cs) = None
arm_taken (High ∷ cs) = None
arm_taken (Go ∷ cs) = None
arm_taken (Yes ∷ cs) = Some true
arm_taken (No ∷ cs) = Some false

-- ---- on a way

-- the part of that address was cut
abbrev pub IsCut : Cake → Address → Type 0
IsCut Atom A = ⊥
IsCut (Halves l r) [] = ⊤
IsCut (Halves l r) (L ∷ A) = IsCut l A
IsCut (Halves l r) (R ∷ A) = IsCut r A

abbrev pub AreCut : Cake → List PassedCut → Type 0
AreCut k [] = ⊤
AreCut k (d ∷ ds) = IsCut k d.address × AreCut k ds

-- it tells the pieces and the cuts of the way, whose parts are counted no more often than its atoms
pub record Shows (k : Way) (t : Trail) : Type 0 where
  pub pieces : parts_of t ≡ map (map (atoms_before k.cake)) k.pieces
  pub marks : t.cuts.items ≡ marks_of k
  pub atoms : atom_count k.cake ≡ 1 + length t.cuts.items
  pub cut : AreCut k.cake k.cuts
  pub counted : (g : Address → ℕ) → all_of g k.pieces ≤ over k.cake g

-- what is left of the tree and of the choices leads on to that way
pub record LeadsTo (end : Way) (tree : Tree) (choices : List Choice) (t : Trail) : Type 0 where
  pub regs : List Form
  pub way : Way
  pub same : way_by tree regs way choices ≡ end
  pub shows : Shows way t
  pub few : length t.cuts.items + most_cuts tree ≤ 64

-- it tells the cuts of the way
pub record Tells (end : Way) (t : Trail) : Type 0 where
  pub marks : t.cuts.items ≡ marks_of end
  pub atoms : atom_count end.cake ≡ 1 + length t.cuts.items
  pub few : length t.cuts.items ≤ 64

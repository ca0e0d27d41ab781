-- Atoms by number, and what their numbers stand for.
use Rattle.std.specs.Prelude.{◌≡◌, ℕ, zero, suc, ◌+◌, ◌-◌, ◌*◌, ◌≤◌, ◌==◌, if◌then◌else◌, List, [], ◌∷◌, ◌++◌, length, map, take, drop, slice_index_or, ⊤}
use Rattle.slice_num.specs.declared.key.Key.{Key}
use Rattle.slice_num.specs.Pieces.{piece_at, cut_pieces}
use Rattle.slice_atoms.specs.Addresses.{Address, Cake, Atom, atoms, halved, left_of, right_of}

-- the cake as it was cut so far, for so many agents: which atoms were cut, in order of time; the atoms from left to right;
-- and the pieces by number, each with the atoms of its parts. The cake is atom 1, and a cut makes the next two numbers. A
-- piece that was cut or joined has no part
pub record Numbering : Type 0 where
  pub agents : ℕ
  pub olds : List ℕ
  pub order : List ℕ
  pub pieces : List (List ℕ)

-- ---- what the numbers stand for

abbrev pub name_in : List Address → ℕ → Address
name_in names m = slice_index_or names (m - 1) []

-- the two halves of an atom that is cut
abbrev pub halves : Address → List Address
halves A = left_of A ∷ right_of A ∷ []

abbrev pub names_from : List Address → List ℕ → List Address
names_from names [] = names
names_from names (old ∷ olds) = names_from (names ++ halves (name_in names old)) olds

-- the addresses of all atoms by number
abbrev pub names : List ℕ → List Address
names olds = names_from ([] ∷ []) olds

-- the address of an atom
abbrev pub name_of : List ℕ → ℕ → Address
name_of olds m = name_in (names olds) m

abbrev pub cake_from : List Address → Cake → List ℕ → Cake
cake_from names cake [] = cake
cake_from names cake (old ∷ olds) = cake_from (names ++ halves (name_in names old)) (halved (name_in names old) cake) olds

-- the cake as it was cut
abbrev pub cake_of : List ℕ → Cake
cake_of olds = cake_from ([] ∷ []) Atom olds

-- the pieces as lists of addresses
abbrev pub addresses_of : Numbering → List (List Address)
addresses_of v = map (map (name_of v.olds)) v.pieces

-- ---- what a cut does

-- two atoms in the place of one
abbrev pub split_in : ℕ → ℕ → ℕ → List ℕ → List ℕ
split_in old left right [] = []
split_in old left right (m ∷ ms) = if m == old then left ∷ right ∷ ms else m ∷ split_in old left right ms

-- the next number of an atom
abbrev pub next_atom : Numbering → ℕ
next_atom v = 2 * length v.olds + 2

-- the atom of a part
abbrev pub part_of : Numbering → ℕ → ℕ → ℕ
part_of v p part = slice_index_or (piece_at v.pieces p) part 0

-- a piece is cut at a part: the left piece has the parts before it and its left half, the right one the rest
abbrev pub cut_at : ℕ → ℕ → Numbering → Numbering
cut_at p part v = record {
  agents = v.agents;
  olds = v.olds ++ part_of v p part ∷ [];
  order = split_in (part_of v p part) (next_atom v) (next_atom v + 1) v.order;
  pieces = cut_pieces v.pieces p (take part (piece_at v.pieces p) ++ next_atom v ∷ []) ((next_atom v + 1) ∷ drop (part + 1) (piece_at v.pieces p));
}

-- the same of pieces as lists of addresses
abbrev pub cut_addresses : ℕ → ℕ → List (List Address) → List (List Address)
cut_addresses p part pieces =
    cut_pieces pieces p (take part (piece_at pieces p) ++ left_of (slice_index_or (piece_at pieces p) part []) ∷ [])
    (right_of (slice_index_or (piece_at pieces p) part []) ∷ drop (part + 1) (piece_at pieces p))

-- the unknowns of some atoms, to an agent
abbrev pub unknowns : ℕ → List ℕ → List Key
unknowns agent ms = map (λ m. record { agent = agent; atom = m }) ms

-- those of all agents, one after another
abbrev pub agent_keys : ℕ → List ℕ → List Key
agent_keys zero order = []
agent_keys (suc n) order = agent_keys n order ++ unknowns (suc n) order

-- all unknowns in their order: the whole comes first
abbrev pub all_keys : ℕ → List ℕ → List Key
all_keys agents order = record { agent = 0; atom = 0 } ∷ agent_keys agents order

-- ---- what is always so

abbrev pub one_at : ℕ → ℕ → ℕ
one_at m k = if m == k then 1 else 0

-- the sum of a function over a list, and over lists
abbrev pub sum_over : (ℕ → ℕ) → List ℕ → ℕ
sum_over g [] = 0
sum_over g (m ∷ ms) = g m + sum_over g ms

abbrev pub sum_over_all : (ℕ → ℕ) → List (List ℕ) → ℕ
sum_over_all g [] = 0
sum_over_all g (p ∷ ps) = sum_over g p + sum_over_all g ps

abbrev pub AllNumbers : ℕ → List ℕ → Type 0
AllNumbers most [] = ⊤
AllNumbers most (m ∷ ms) = (1 ≤ m) × (m ≤ most) × AllNumbers most ms

-- the order is that of the addresses in the dictionary; each number is one that was given; the pieces hold each atom of the
-- order once, and nothing else
pub record IsNumbering (v : Numbering) : Type 0 where
  pub named : map (name_of v.olds) v.order ≡ atoms (cake_of v.olds)
  pub given : AllNumbers (2 * length v.olds + 1) v.order
  pub once : (m : ℕ) → sum_over (one_at m) v.order ≤ 1
  pub held : (g : ℕ → ℕ) → sum_over_all g v.pieces ≡ sum_over g v.order

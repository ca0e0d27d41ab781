-- What a spot of the stream stands for: registers and conditions as forms over addresses, and the way to it.
use Rattle.std.specs.Prelude.{ℕ, pos, ◌≡◌, ◌-◌, ◌==◌, ◌||◌, false, if◌then◌else◌, List, [], ◌∷◌, ◌++◌, length, map, replicate}
use Rattle.slice_num.specs.Rational.{Rational, whole}
use Rattle.slice_num.specs.Pieces.{piece_at, emptied, given}
use Rattle.slice_num.specs.declared.choice.Choice.{Choice}
use Rattle.slice_num.specs.declared.key.Key.{Key}
use Rattle.slice_linear.specs.Terms.{coef_of, whole_key, is_among}
use Rattle.slice_linear.specs.declared.forms.Term.{Term}
use Rattle.slice_atoms.specs.Addresses.{Address, begins}
use Rattle.slice_atoms.specs.Forms.{Form}
use Rattle.slice_atoms.specs.Numbers.{Numbering, name_of, cake_of, addresses_of}
use Rattle.slice_paths.specs.Places.{Condition, Way, first_conditions}
use Rattle.slice_paths.specs.declared.spot.Gift.{Gift}
use Rattle.slice_paths.specs.declared.spot.Condition as held

-- what is known at a spot: the atoms; the registers and the conditions of the choices that were made, both as terms over
-- these atoms; what was given, in order; the choices; and how many queries were answered
pub record Known : Type 0 where
  pub atoms : Numbering
  pub regs : List (List Term)
  pub conditions : List held.Condition
  pub gifts : List Gift
  pub trace : List Choice
  pub queries : ℕ

-- ---- forms

-- the coefficient of the first of these atoms in which the address lies; 0 where it lies in none
abbrev pub coef_in : (ℕ → Address) → List ℕ → List Term → ℕ → Address → Rational
coef_in name [] ts a B = whole (pos 0)
coef_in name (m ∷ ms) ts a B = if begins B (name m) then coef_of ts (record { agent = a; atom = m }) else coef_in name ms ts a B

-- the form that terms over the atoms stand for
abbrev pub form_of : Numbering → List Term → Form
form_of v ts = record { whole_of = coef_of ts whole_key; at = λ a B. coef_in (name_of v.olds) v.order ts a B }

-- the condition that one over the atoms stands for
abbrev pub condition_of : Numbering → held.Condition → Condition
condition_of v c = record { kind = c.kind; form = form_of v c.form }

-- the forms of the registers
abbrev pub regs_of : Known → List Form
regs_of s = map (form_of s.atoms) s.regs

-- all keys that have a coefficient are among these
abbrev pub IsWithin : List Key → List Term → Type 0
IsWithin ks ts = (k : Key) → is_among ks k ≡ false → coef_of ts k ≡ whole (pos 0)

-- zs is xs with two atoms in the place of one, to every agent: both have its coefficient
abbrev pub IsSplit : ℕ → ℕ → ℕ → List Term → List Term → Type 0
IsSplit old left right xs zs =
    (coef_of zs whole_key ≡ coef_of xs whole_key)
    × ((a m : ℕ) → coef_of zs (record { agent = a; atom = m })
    ≡ (if m == left || m == right then coef_of xs (record { agent = a; atom = old })
    else (if m == old then whole (pos 0) else coef_of xs (record { agent = a; atom = m }))))

-- ---- the way

-- the pieces after these gifts
abbrev pub without_gifts : List (List Address) → List Gift → List (List Address)
without_gifts pieces [] = pieces
without_gifts pieces (g ∷ gs) = without_gifts (emptied pieces g.piece) gs

-- the shares after these gifts, each of a piece by its number
abbrev pub with_gifts : List (List Address) → List (List Address) → List Gift → List (List Address)
with_gifts pieces shares [] = shares
with_gifts pieces shares (g ∷ gs) = with_gifts pieces (given shares (g.agent - 1) (piece_at pieces g.piece)) gs

-- the way to a spot, but for the list of its cuts: no goal depends on that, so a spot doesn't keep it
abbrev pub way_of : Known → Way
way_of s = record {
  pieces = without_gifts (addresses_of s.atoms) s.gifts;
  shares = with_gifts (addresses_of s.atoms) (replicate s.atoms.agents []) s.gifts;
  cake = cake_of s.atoms.olds;
  conditions = first_conditions s.atoms.agents ++ map (condition_of s.atoms) s.conditions;
  queries = s.queries;
  cuts = [];
  trace = s.trace;
}

-- ---- counts

-- what is counted up to a spot: its agents, the pieces that were made, the cuts, the registers that were set, the queries
-- that were answered, and the gifts
pub record Tally : Type 0 where
  pub agents : ℕ
  pub pieces : ℕ
  pub cuts : ℕ
  pub regs : ℕ
  pub queries : ℕ
  pub gifts : List Gift

abbrev pub tally_of : Known → Tally
tally_of s = record {
  agents = s.atoms.agents;
  pieces = length s.atoms.pieces;
  cuts = length s.atoms.olds;
  regs = length s.regs;
  queries = s.queries;
  gifts = s.gifts;
}

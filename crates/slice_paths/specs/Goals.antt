-- The goals of a core, with their rows.
use Rattle.std.specs.Prelude.{ℕ, zero, suc, ◌+◌, ◌-◌, ◌==◌, if◌then◌else◌, List, [], ◌∷◌, ◌++◌, map}
use Rattle.slice_num.specs.declared.choice.Side.{Side}
use Rattle.slice_num.specs.declared.choice.Side.TheVariants as side
use Rattle.slice_num.specs.declared.choice.Choice.{Choice}
use Rattle.slice_core.specs.Tree.{Core}
use Rattle.slice_num.specs.Pieces.{piece_at}
use Rattle.slice_linear.specs.declared.row.RowKind.TheVariants.{Above}
use Rattle.slice_linear.specs.Rows.{LinearRow}
use Rattle.slice_linear.specs.LowestRow.{lowest}
use Rattle.slice_atoms.specs.Addresses.{Cake}
use Rattle.slice_atoms.specs.Forms.{Form, piece_form, sub_form, all_coefs}
use Rattle.slice_paths.specs.Places.{Condition, Way, Stop, AtEnd, AtCut, Place, places, first_way}
use Rattle.slice_paths.specs.declared.goal.GoalKind.{GoalKind}
use Rattle.slice_paths.specs.declared.goal.GoalKind.TheVariants as goal_kind

-- ---- rows

-- a condition as a row of lowest whole numbers
abbrev pub row_of : ℕ → Cake → Condition → LinearRow
row_of agents cake c = record { kind = c.kind; coefs = lowest (all_coefs agents cake c.form) }

-- the rows of a way, over the atoms at its end, and last the row that says that this form is above 0
abbrev pub rows_of : ℕ → Way → Form → List LinearRow
rows_of agents k own = map (row_of agents k.cake) (k.conditions ++ record { kind = Above; form = own } ∷ [])

-- ---- goals

-- agent a with each other agent, in order
abbrev pub pairs_with : ℕ → ℕ → List (ℕ × ℕ)
pairs_with a zero = []
pairs_with a (suc n) = pairs_with a n ++ (if a == suc n then [] else (a, suc n) ∷ [])

-- the first m of n agents, each with each other one, in order
abbrev pub pairs : ℕ → ℕ → List (ℕ × ℕ)
pairs n zero = []
pairs n (suc m) = pairs n m ++ pairs_with (suc m) n

-- what a's share lacks of b's share, as a values them
abbrev pub envy_form : ℕ → ℕ → Way → Form
envy_form a b k = sub_form (piece_form a (piece_at k.shares (b - 1))) (piece_form a (piece_at k.shares (a - 1)))

-- what has to be refuted at the end of a way: that this form is above 0
pub record Aim : Type 0 where
  pub way : Way
  pub kind : GoalKind
  pub own : Form

abbrev pub stuck_kind : Side → GoalKind
stuck_kind side.Low = goal_kind.Low
stuck_kind side.High = goal_kind.High

-- at a cut that it is stuck so; at an end each pair's envy
abbrev pub aims_at : ℕ → Stop → Way → List Aim
aims_at agents (AtCut at own) k = record { way = k; kind = stuck_kind at; own = own } ∷ []
aims_at agents AtEnd k = map (λ p. record { way = k; kind = goal_kind.Envy p.0 p.1; own = envy_form p.0 p.1 k }) (pairs agents agents)

abbrev pub aims : ℕ → List Place → List Aim
aims agents [] = []
aims agents (p ∷ ps) = aims_at agents p.stop p.way ++ aims agents ps

-- a goal: its number from 0, the choices to it, what it speaks of, how many queries were asked before, and its rows
pub record Goal : Type 0 where
  pub number : ℕ
  pub trace : List Choice
  pub kind : GoalKind
  pub query : ℕ
  pub rows : List LinearRow

abbrev pub goal_of : ℕ → ℕ → Aim → Goal
goal_of agents number a = record { number = number; trace = a.way.trace; kind = a.kind; query = a.way.queries; rows = rows_of agents a.way a.own }

abbrev pub numbered : ℕ → ℕ → List Aim → List Goal
numbered agents number [] = []
numbered agents number (a ∷ as_) = goal_of agents number a ∷ numbered agents (number + 1) as_

-- what has to be refuted in a core, in order
abbrev pub aims_of : Core → List Aim
aims_of core = aims core.agents (places core.tree [] (first_way core.agents))

-- the goals of a core in order
abbrev pub goals : Core → List Goal
goals core = numbered core.agents 0 (aims_of core)

-- What the rows behind the first passed choices are on the way of a run, and what they say of goals.
use Rattle.std.specs.Prelude.{◌≡◌, ◌≤◌, ◌+◌, ◌↔◌, ℕ, Some, None, ℤ, pos, List, ◌++◌, length, take}
use Rattle.std.specs.List.{All, Contains}
use Rattle.slice_num.specs.declared.choice.Choice.{Choice}
use Rattle.slice_core.specs.Tree.{Core}
use Rattle.slice_linear.specs.Rows.{LinearRow, Refutes, width}
use Rattle.slice_linear.specs.Sums.{at}
use Rattle.slice_paths.specs.Fronts.{cover_rows, front_of}
use Rattle.slice_paths.specs.Goals.{Goal, goals}
use Rattle.slice_paths.specs.Ways.{rows_after}

-- the rows behind the first passed choices of a trace are those after these choices, which are a front of it, and they are
-- all over as many unknowns
abbrev pub CoversAreFronts : Type 0
CoversAreFronts =
    (core : Core) (passed : ℕ) (trace : List Choice) (rows : List LinearRow) → cover_rows core passed trace ≡ Some rows
    → (front : List Choice) × (rest : List Choice) × (front_of passed core.tree trace ≡ Some front) × (front ++ rest ≡ trace) × (rows ≡ rows_after core front)
    × All (λ (r : LinearRow). length r.coefs ≡ width rows) rows

-- a goal has such rows exactly for as many passed choices as it has: there is one row for the whole, one for each agent and
-- one for each of these choices
abbrev pub GoalsHaveCovers : Type 0
GoalsHaveCovers =
    (core : Core) (g : Goal) (passed : ℕ) → Contains (goals core) g
    → (cover_rows core passed g.trace ≡ None ↔ front_of passed core.tree g.trace ≡ None)
    × ((rows : List LinearRow) → cover_rows core passed g.trace ≡ Some rows → length rows ≡ 1 + core.agents + passed)
    × (1 + core.agents + passed + 1 ≤ length g.rows → cover_rows core passed g.trace ≡ None → ⊥)

-- multipliers of a goal that are 0 after these rows refute them, where they refute the goal
abbrev pub ShortFormsRefute : Type 0
ShortFormsRefute =
    (core : Core) (g : Goal) (passed : ℕ) (rows : List LinearRow) (m : List ℤ) → Contains (goals core) g → cover_rows core passed g.trace ≡ Some rows
    → Refutes g.rows m → ((i : ℕ) → length rows ≤ i → at m i ≡ pos 0) → Refutes rows (take (length rows) m)

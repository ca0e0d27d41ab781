-- What contracts see of a stream of goals.
use Rattle.std.specs.Prelude.{◌≡◌, ◌≤◌, ℕ, ◌+◌, ◌∷◌, Option, Some, None, List, drop, length}
use Rattle.slice_num.specs.declared.choice.Choice.{Choice}
use Rattle.slice_core.specs.declared.core_tree.Core.{Core}
use Rattle.slice_core.specs.Cores.{core_of}
use Rattle.slice_paths.specs.Events.{Event, Tell}
use Rattle.slice_paths.specs.Goals.{Goal, goals}
use Rattle.slice_paths.specs.declared.goal.GoalKind.{GoalKind}

-- a stream of a core's goals: what is ahead, how many goals were given, and the choices to the one given last and its kind;
-- before the first no choices, and a kind that says nothing
pub record Stream : Type 0 where
  pub ahead : List Event
  pub given : ℕ
  pub core : Core
  pub last : List Choice
  pub kind : GoalKind

-- the choices to the goal given last, after a call that gave this
abbrev pub last_after : Option Goal → List Choice → List Choice
last_after None cs = cs
last_after (Some g) cs = g.trace

-- and its kind
abbrev pub kind_after : Option Goal → GoalKind → GoalKind
kind_after None kind = kind
kind_after (Some g) kind = g.kind

-- what is ahead tells the goals of the core that weren't given
pub record TellsRest (s : Stream) : Type 0 where
  pub tells : Tell s.ahead (drop s.given (goals (core_of s.core))) s.given
  pub within : s.given ≤ length (goals (core_of s.core))

-- the goal was given last: it stands in the core's goals before those that weren't given, and its choices and its kind are
-- kept
pub record IsGivenLast (s : Stream) (g : Goal) : Type 0 where
  pub stands : drop g.number (goals (core_of s.core)) ≡ g ∷ drop s.given (goals (core_of s.core))
  pub number : s.given ≡ g.number + 1
  pub last : s.last ≡ g.trace
  pub kind : s.kind ≡ g.kind

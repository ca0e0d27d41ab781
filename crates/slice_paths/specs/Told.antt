-- What a call of a stream of goals gave, beside what comes up next.
use Rattle.std.specs.Prelude.{◌≡◌, ℕ, ⊤, Option, Some, None, List}
use Rattle.slice_paths.specs.Goals.{Goal}
use Rattle.slice_paths.specs.Events.{Event, NextGoal, Gives, NoMore, Overflows, OverLimit}
use Rattle.slice_paths.specs.declared.goal.GoalFault.{GoalFault}
use Rattle.slice_paths.specs.declared.goal.GoalFault.TheVariants.{GoalLimit, Overflow, Memory}

-- what was given is the next goal, and these events are ahead then
abbrev pub IsNextGoal : Option Goal → List Event → NextGoal → Type 0
IsNextGoal None ahead n = n ≡ NoMore
IsNextGoal (Some g) ahead n = n ≡ Gives g ahead

-- a refusal is what comes next, want of memory aside
abbrev pub IsRefusal : GoalFault → ℕ → NextGoal → Type 0
IsRefusal GoalLimit given n = n ≡ OverLimit
IsRefusal (Overflow goal) given n = (n ≡ Overflows) × (goal ≡ given)
IsRefusal Memory given n = ⊤

-- Why no goal is given.
use Rattle.std.specs.Prelude.{Option, Some, None}
use Rattle.slice_paths.specs.declared.goal.GoalFault.{GoalFault}
use Rattle.slice_paths.specs.declared.goal.GoalFault.TheVariants as fault
use Rattle.slice_report.specs.declared.refusal.Refusal.{Refusal}
use Rattle.slice_report.specs.declared.refusal.Refusal.TheVariants.{GoalLimit, FormOverflow}

-- the refusal for it; want of memory is none
abbrev pub goal_refusal : GoalFault → Option Refusal
goal_refusal fault.GoalLimit = Some GoalLimit
goal_refusal (fault.Overflow goal) = Some (FormOverflow goal)
goal_refusal fault.Memory = None

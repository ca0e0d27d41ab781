-- What a run comes to.
use Rattle.std.specs.Prelude.{◌≡◌, ℕ, List, [], ◌∷◌, Option, Some, None}
use Rattle.slice_run.specs.declared.outcome.RunFault.{RunFault}
use Rattle.slice_run.specs.declared.outcome.RunFault.TheVariants as fault
use Rattle.slice_run.specs.Walk.{Told, Divided, Halted, Walked, Refused}
use Rattle.slice_report.specs.RunReport.{envy}
use Rattle.slice_report.specs.declared.refusal.Refusal.{Refusal}
use Rattle.slice_report.specs.declared.refusal.Refusal.TheVariants.{RunOverflow, BadAnswer, TooFewAnswers, TooManyAnswers}
use Rattle.slice_top.specs.declared.status.Status.{Status}
use Rattle.slice_top.specs.declared.status.Status.TheVariants as status

-- the refusal for a run that was given up; want of memory is none
abbrev pub run_refusal : RunFault → Option Refusal
run_refusal (fault.Overflow query) = Some (RunOverflow query)
run_refusal (fault.BadAnswer query) = Some (BadAnswer query)
run_refusal (fault.TooFewAnswers query) = Some (TooFewAnswers query)
run_refusal fault.TooManyAnswers = Some TooManyAnswers
run_refusal fault.Memory = None

-- the walk was given up
abbrev pub RefusesRun : Walked Told → Refusal → Type 0
RefusesRun w r = (f : RunFault) × ((run_refusal f ≡ Some r) × (w ≡ Refused f))

-- good where nobody is envied
abbrev pub envy_status : List (ℕ × ℕ) → Status
envy_status [] = status.Good
envy_status (p ∷ ps) = status.Negative

-- good where the cake was divided without envy
abbrev pub told_status : Told → Status
told_status (Divided queries shares left values) = envy_status (envy values)
told_status (Halted queries query at) = status.Negative

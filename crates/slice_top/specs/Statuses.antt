-- The exit status, that of a refusal, and kinds of statuses.
use Rattle.std.specs.Prelude.{ℕ, ⊤, Bool, true, false, if◌then◌else◌}
use Rattle.slice_report.specs.declared.refusal.Refusal.{Refusal}
use Rattle.slice_report.specs.declared.refusal.Refusal.TheVariants.{Usage, ReadFault, NodeLimit, DepthLimit, CutLimit, CallLimit, GoalLimit, RunOverflow, FormOverflow, ProverOverflow, CheckOverflow, PivotLimit, HeightLimit}
use Rattle.slice_top.specs.declared.status.Status.{Status}
use Rattle.slice_top.specs.declared.status.Status.TheVariants as status

abbrev pub code_of : Status → ℕ
code_of status.Good = 0
code_of status.Negative = 1
code_of status.Usage = 2
code_of status.ReadFault = 3
code_of status.WriteFault = 4
code_of status.Refused = 5
code_of status.Limit = 6
code_of status.Memory = 7

-- a limit of the work was passed, or a number doesn't fit
abbrev pub is_limit : Refusal → Bool
is_limit NodeLimit = true
is_limit DepthLimit = true
is_limit CutLimit = true
is_limit CallLimit = true
is_limit GoalLimit = true
is_limit (RunOverflow query) = true
is_limit (FormOverflow goal) = true
is_limit (ProverOverflow goal pivots row col) = true
is_limit (CheckOverflow goal unknown) = true
is_limit (PivotLimit goal) = true
is_limit (HeightLimit goal agent atom) = true
is_limit r = false

abbrev pub refused_status : Refusal → Status
refused_status Usage = status.Usage
refused_status (ReadFault file) = status.ReadFault
refused_status r = if is_limit r then status.Limit else status.Refused

-- a status of work that was done
abbrev pub IsWorked : Status → Type 0
IsWorked status.Good = ⊤
IsWorked status.Negative = ⊤
IsWorked s = ⊥

-- a status whose line the work gives
abbrev pub IsWritten : Status → Type 0
IsWritten status.WriteFault = ⊥
IsWritten status.Memory = ⊥
IsWritten s = ⊤

-- usage, or an answer of the sink or the memory
abbrev pub IsUsageOrFree : Status → Type 0
IsUsageOrFree status.Usage = ⊤
IsUsageOrFree status.WriteFault = ⊤
IsUsageOrFree status.Memory = ⊤
IsUsageOrFree s = ⊥

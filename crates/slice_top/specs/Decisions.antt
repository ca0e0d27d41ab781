-- What a decision means for the program's end.
use Rattle.slice_verify.specs.declared.verifier.Decision.{Decision}
use Rattle.slice_verify.specs.declared.verifier.Decision.TheVariants.{EnvyFree, Found}
use Rattle.slice_verify.specs.declared.verifier.VerifyFault.{VerifyFault}
use Rattle.slice_verify.specs.declared.verifier.VerifyFault.TheVariants as fault
use Rattle.slice_report.specs.declared.refusal.Refusal.TheVariants.{GoalLimit, FormOverflow, ProverOverflow, PivotLimit, HeightLimit}
use Rattle.slice_top.specs.declared.status.Status.{Status}
use Rattle.slice_top.specs.declared.status.Status.TheVariants as status
use Rattle.slice_top.specs.declared.stop.Stop.{Stop}
use Rattle.slice_top.specs.declared.stop.Stop.TheVariants as stop

-- good where no run is stuck or leaves envy
abbrev pub decided_status : Decision → Status
decided_status (EnvyFree goals) = status.Good
decided_status (Found c) = status.Negative

-- why nothing is decided
abbrev pub verify_stop : VerifyFault → Stop
verify_stop fault.GoalLimit = stop.Refused GoalLimit
verify_stop (fault.FormOverflow goal) = stop.Refused (FormOverflow goal)
verify_stop (fault.PivotLimit goal) = stop.Refused (PivotLimit goal)
verify_stop (fault.PivotOverflow goal pivots row col) = stop.Refused (ProverOverflow goal pivots row col)
verify_stop (fault.HeightLimit goal agent atom) = stop.Refused (HeightLimit goal agent atom)
verify_stop fault.WriteFault = stop.Unwritten
verify_stop fault.Memory = stop.Memory

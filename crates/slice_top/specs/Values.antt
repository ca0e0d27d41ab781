-- How a second file is read.
use Rattle.std.specs.Prelude.{◌≡◌, ℕ, List, Option, Some, None}
use Rattle.slice_step.specs.ValuationFile.{valuations_fault, replay_fault}
use Rattle.slice_step.specs.declared.fault.ValuationFault.{ValuationFault}
use Rattle.slice_step.specs.declared.fault.ValuationFault.TheVariants as values
use Rattle.slice_report.specs.declared.refusal.Refusal.{Refusal}
use Rattle.slice_report.specs.declared.refusal.Refusal.TheVariants.{Json, Shape, AgentCount, NotWhole, EndsOrder, HeightRange, NoTotal, LengthsDiffer, CutForm}

-- the refusal for a fault of the second file; want of memory is none
abbrev pub values_refusal : ValuationFault → Option Refusal
values_refusal values.Json = Some Json
values_refusal (values.Shape agent) = Some (Shape agent)
values_refusal values.AgentCount = Some AgentCount
values_refusal (values.NotWhole agent) = Some (NotWhole agent)
values_refusal (values.EndsOrder agent) = Some (EndsOrder agent)
values_refusal (values.HeightRange agent) = Some (HeightRange agent)
values_refusal (values.NoTotal agent) = Some (NoTotal agent)
values_refusal (values.LengthsDiffer agent) = Some (LengthsDiffer agent)
values_refusal (values.CutForm index) = Some (CutForm index)
values_refusal values.Memory = None

-- the bytes aren't those of valuations for so many agents: they have this fault first
abbrev pub RefusesValues : List ℕ → ℕ → Refusal → Type 0
RefusesValues bytes agents r = (f : ValuationFault) × ((values_refusal f ≡ Some r) × (valuations_fault bytes agents ≡ Some f))

-- the bytes aren't those of a replay file for so many agents: they have this fault first
abbrev pub RefusesReplay : List ℕ → ℕ → Refusal → Type 0
RefusesReplay bytes agents r = (f : ValuationFault) × ((values_refusal f ≡ Some r) × (replay_fault bytes agents ≡ Some f))

-- One pass over a flow: for each binding the least place of a use on some way so far, and at the first stage with a fault the one that is told.
use Rattle.std.specs.Prelude.{ℕ, ◌&&◌, ◌==◌, if◌then◌else◌, List, [], ◌∷◌, ◌++◌, Option, Some, None}
use Rattle.slice_affine.specs.Scope.{Binding}
use Rattle.slice_affine.specs.Pass.{earlier, lesser}
use Rattle.slice_affine.specs.Ways.{Event, Stage, Flow, Stop, Then, Split}
use Rattle.slice_affine.specs.declared.fault.AffineFault.{AffineFault}
use Rattle.slice_affine.specs.declared.fault.AffineFault.TheVariants.{UsedTwice}

-- of a list of faults the one that is told
unfoldable pub least : List AffineFault → Option AffineFault
least [] = None
least (f ∷ fs) = earlier (Some f) (least fs)

-- the least place of a use of each binding, where it was used
abbrev pub Used : Type 0
Used = Binding → Option ℕ

-- nothing was used
abbrev pub unused : Used
unused k = None

-- after one more event
abbrev pub noted : Used → Event → Used
noted us e k = if e.is_use && (e.piece == k) then lesser (us k) (Some e.name.at) else us k

-- after these events
abbrev pub noted_all : Used → List Event → Used
noted_all us [] = us
noted_all us (e ∷ es) = noted_all (noted us e) es

-- the fault of an event whose piece was used
abbrev pub told : Option ℕ → Event → List AffineFault
told None e = []
told (Some first) e = UsedTwice e.name.word e.name.at first ∷ []

-- the faults of events, one after the other
abbrev pub twice : Used → List Event → List AffineFault
twice us [] = []
twice us (e ∷ es) = told (us e.piece) e ++ twice (noted us e) es

-- the faults of a stage
abbrev pub stage_faults : Used → Stage → List AffineFault
stage_faults us l = l.faults ++ (twice us l.events ++ l.rebinds)

pub data Scanned : Type 0 where
  Fine : (used : Used) → Scanned
  Bad : (fault : AffineFault) → Scanned

abbrev pub and_then : Scanned → (Used → Scanned) → Scanned
and_then (Fine us) f = f us
and_then (Bad e) f = Bad e

abbrev pub unless_fault : Option AffineFault → Scanned → Scanned
unless_fault None next = next
unless_fault (Some f) next = Bad f

abbrev pub scan : Flow → Used → Scanned
scan Stop us = Fine us
scan (Then l rest) us = unless_fault (least (stage_faults us l)) (scan rest (noted_all us l.events))
scan (Split one other rest) us = and_then (scan one us) (λ u. and_then (scan other us) (λ v. scan rest (λ k. lesser (u k) (v k))))

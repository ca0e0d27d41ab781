-- The pass finds the first fault of a program, or there is none.
use Rattle.std.proofs.Common.{◌≡◌, Option, Some, None, refl, ap, sym, subst, ◌∙◌}
use Rattle.slice_ast.specs.Code.{PlainProgram}
use Rattle.slice_affine.specs.Rules.{flow_of, MeetsRules, IsFirstFault}
use Rattle.slice_affine.proofs.Scan.{unused, Scanned, Fine, Bad, scan}
use Rattle.slice_affine.specs.Conditions.{HasRisingPlaces, IsParsed}
use Rattle.slice_affine.specs.ProgramPass.{program_fault}
use Rattle.slice_affine.proofs.ScanLemmas.{scan_fine, scan_bad}
use Rattle.slice_affine.proofs.ProgramLemmas.{Alike, program_same}
use Rattle.slice_affine.proofs.SpanLemmas.{program_span}
use Rattle.slice_affine.proofs.MarkLemmas.{program_placed}
use Rattle.slice_affine.specs.declared.fault.AffineFault.{AffineFault}

-- what the pass tells
abbrev pub IsTold : PlainProgram → Option AffineFault → Type 0
IsTold p None = MeetsRules p
IsTold p (Some f) = IsFirstFault p f

told : (p : PlainProgram) (o : Option AffineFault) (r : Scanned) → HasRisingPlaces p → scan (flow_of p) unused ≡ r → Alike o r → IsTold p o
told p None (Fine vs) h e a = let q = program_placed p h in scan_fine (flow_of p) 0 q.0 (program_span p q.0 q.1) vs e
told p None (Bad g) h e a = absurd a
told p (Some f) (Fine vs) h e a = absurd a
told p (Some f) (Bad g) h e a = let q = program_placed p h in scan_bad (flow_of p) 0 q.0 (program_span p q.0 q.1) f (e ∙ ap Bad (sym a))

pub program_told : (p : PlainProgram) → HasRisingPlaces p → IsTold p (program_fault p)
program_told p h = let q = program_placed p h in told p (program_fault p) (scan (flow_of p) unused) h refl (program_same p q.0 q.1)

pub meets_rules : (p : PlainProgram) → IsParsed p → program_fault p ≡ None → MeetsRules p
meets_rules p h e = subst (λ (o : Option AffineFault). IsTold p o) e (program_told p h.places)

pub first_fault : (p : PlainProgram) (f : AffineFault) → IsParsed p → program_fault p ≡ Some f → IsFirstFault p f
first_fault p f h e = subst (λ (o : Option AffineFault). IsTold p o) e (program_told p h.places)

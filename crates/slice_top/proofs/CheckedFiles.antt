-- What the checker says of a certificate's file.
use Rattle.std.proofs.Common.{◌≡◌, ◌∙◌, ℕ, List, Option, Some, None, sym, refl, subst}
use Rattle.slice_io.specs.Files.{Files, told_file}
use Rattle.slice_core.specs.Tree.{Core}
use Rattle.slice_check.specs.Faults.{Fails, IsUnread}
use Rattle.slice_check.specs.declared.answer.CertFault.{CertFault}
use Rattle.slice_check.specs.declared.answer.CertFault.TheVariants as fault
use Rattle.slice_report.specs.declared.refusal.Refusal.{Refusal}
use Rattle.slice_report.specs.declared.refusal.Refusal.TheVariants as refusal
use Rattle.slice_top.specs.Certificates.{RefusesCertificate, SaysOfFile, given_up, checker_refusal, IsCheckerStop}
use Rattle.slice_top.specs.Stops.{StopsBy}
use Rattle.slice_top.specs.declared.stop.Stop.{Stop}
use Rattle.slice_top.specs.declared.stop.Stop.TheVariants as stop

-- neither a failed read nor want of memory is a refusal
pub not_refused : (name : List ℕ) (f : CertFault) (r : Refusal) → IsUnread f → checker_refusal name f ≡ Some r → ⊥
not_refused name fault.ReadFault r u e = cc
not_refused name fault.Memory r u e = cc
not_refused name fault.TooLong r u e = absurd u
not_refused name fault.GoalLimit r u e = absurd u
not_refused name (fault.FormOverflow goal) r u e = absurd u
not_refused name (fault.Overflow goal unknown) r u e = absurd u

-- each other fault is one
pub checker_refused : (name : List ℕ) (f : CertFault) → (IsUnread f → ⊥) → (r : Refusal) × (checker_refusal name f ≡ Some r)
checker_refused name fault.ReadFault h = absurd (h tt)
checker_refused name fault.TooLong h = (refusal.TooLong name, refl)
checker_refused name fault.GoalLimit h = (refusal.GoalLimit, refl)
checker_refused name (fault.FormOverflow goal) h = (refusal.FormOverflow goal, refl)
checker_refused name (fault.Overflow goal unknown) h = (refusal.CheckOverflow goal unknown, refl)
checker_refused name fault.Memory h = absurd (h tt)

-- ---- what is said of a file

-- of its bytes, where they are told
pub says_of : (told : Option Files) (name bytes : List ℕ) (Says : List ℕ → Type 0) → told_file told name ≡ Some (Some bytes) → Says bytes → SaysOfFile told name Says
says_of told name bytes Says e h = record {
  there = λ none. let bad : Some (Some bytes) ≡ Some None = sym e ∙ none in cc;
  says = λ others is. let same : Some (Some bytes) ≡ Some (Some others) = sym e ∙ is in let one : bytes ≡ others = cc in subst Says one h;
}

-- and of bytes that aren't told
pub says_nothing : (told : Option Files) (name : List ℕ) (Says : List ℕ → Type 0) → told_file told name ≡ None → SaysOfFile told name Says
says_nothing told name Says e = record {
  there = λ none. let bad : ◌≡◌ {A = Option (Option (List ℕ))} None (Some None) = sym e ∙ none in absurd cc;
  says = λ bytes is. let bad : ◌≡◌ {A = Option (Option (List ℕ))} None (Some (Some bytes)) = sym e ∙ is in absurd cc;
}

-- ---- the checker's stop

-- the checker gives the file up
pub checker_stops : (told : Option Files) (name : List ℕ) (core : Core) (rose : Type 0) (f : CertFault) (s : Stop)
    → ((bytes : List ℕ) → told_file told name ≡ Some (Some bytes) → Fails core bytes f) → (told_file told name ≡ Some None → IsUnread f) → (f ≡ fault.ReadFault → rose)
    → IsCheckerStop name f s → StopsBy (RefusesCertificate told name core) (λ file. file ≡ name) rose s
checker_stops told name core rose f (stop.Refused r) fails unread read h =
    (given_up f h.0 (record { there = λ e. not_refused name f r (unread e) h.0; says = fails }), h.1)
checker_stops told name core rose f (stop.Unread file) fails unread read h = (h.1.0, (read h.0, h.1.1))
checker_stops told name core rose f stop.Memory fails unread read h = tt
checker_stops told name core rose f stop.Unwritten fails unread read h = absurd h

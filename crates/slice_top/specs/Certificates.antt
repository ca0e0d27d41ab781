-- How a certificate is checked, and upgraded.
use Rattle.std.specs.Prelude.{◌≡◌, ◌≢◌, ℕ, ⊤, List, [], map, Option, Some, None}
use Rattle.std.specs.Str.{IsUtf8}
use Rattle.slice_io.specs.Files.{Files, told_file}
use Rattle.slice_num.specs.Pieces.{joined}
use Rattle.slice_core.specs.Tree.{Core}
use Rattle.slice_cert.specs.declared.line.Line.{Line}
use Rattle.slice_cert.specs.CertLines.{line_text}
use Rattle.slice_check.specs.Faults.{Fails, IsAnswer}
use Rattle.slice_check.specs.declared.answer.CertAnswer.{CertAnswer}
use Rattle.slice_check.specs.declared.answer.CertAnswer.TheVariants.{Accepted, Rejected}
use Rattle.slice_check.specs.declared.answer.CertFault.{CertFault}
use Rattle.slice_check.specs.declared.answer.CertFault.TheVariants as fault
use Rattle.slice_check.specs.Upgrades.{AreWritten, UpgradeFails, UpgradeIs}
use Rattle.slice_check.specs.declared.upgrade.UpgradeFault.{UpgradeFault}
use Rattle.slice_check.specs.declared.upgrade.UpgradeFault.TheVariants.{Cert, WriteFault}
use Rattle.slice_report.specs.declared.refusal.Refusal.{Refusal}
use Rattle.slice_report.specs.declared.refusal.Refusal.TheVariants.{ReadFault, TooLong, GoalLimit, FormOverflow, CheckOverflow}
use Rattle.slice_top.specs.Stops.{IsOfWork}
use Rattle.slice_top.specs.declared.stop.Stop.{Stop}
use Rattle.slice_top.specs.declared.stop.Stop.TheVariants as stop
use Rattle.slice_top.specs.declared.status.Status.{Status}
use Rattle.slice_top.specs.declared.status.Status.TheVariants as status

-- something is said of the bytes of a file that is there; where the shelf doesn't tell them, nothing is said
pub record SaysOfFile (told : Option Files) (name : List ℕ) (Says : List ℕ → Type 0) : Type 0 where
  pub there : told_file told name ≢ Some None
  pub says : (bytes : List ℕ) → told_file told name ≡ Some (Some bytes) → Says bytes

-- what the checker says of the certificate in a file, for a core
abbrev pub ChecksFile : Option Files → List ℕ → Core → CertAnswer → Type 0
ChecksFile told name core x = SaysOfFile told name (λ bytes. IsAnswer core bytes x)

-- the refusal for the checker's fault on the file of that name; a failed read and want of memory are none
abbrev pub checker_refusal : List ℕ → CertFault → Option Refusal
checker_refusal name fault.ReadFault = None
checker_refusal name fault.TooLong = Some (TooLong name)
checker_refusal name fault.GoalLimit = Some GoalLimit
checker_refusal name (fault.FormOverflow goal) = Some (FormOverflow goal)
checker_refusal name (fault.Overflow goal unknown) = Some (CheckOverflow goal unknown)
checker_refusal name fault.Memory = None

-- no file of that name is there, or the checker gives it up
pub data RefusesCertificate (told : Option Files) (name : List ℕ) (core : Core) (r : Refusal) : Type 0 where
  missing : told_file told name ≡ Some None → r ≡ ReadFault name → RefusesCertificate told name core r
  given_up : (f : CertFault) → checker_refusal name f ≡ Some r → SaysOfFile told name (λ bytes. Fails core bytes f) → RefusesCertificate told name core r

-- good where the certificate is accepted
abbrev pub checked_status : CertAnswer → Status
checked_status (Accepted goals) = status.Good
checked_status (Rejected r) = status.Negative

-- the stop for the checker's fault on the file of that name; it may be want of memory in any case
abbrev pub IsCheckerStop : List ℕ → CertFault → Stop → Type 0
IsCheckerStop name f (stop.Refused r) = (checker_refusal name f ≡ Some r) × IsOfWork r
IsCheckerStop name f (stop.Unread file) = (f ≡ fault.ReadFault) × ((file ≡ name) × IsUtf8 file)
IsCheckerStop name f stop.Memory = ⊤
IsCheckerStop name f stop.Unwritten = ⊥

-- what is said of the certificate in a file once it is upgraded, where these are all bytes of the lines of version 2 that were
-- written: put behind nothing
abbrev pub UpgradesFile : Option Files → List ℕ → Core → List ℕ → CertAnswer → Type 0
UpgradesFile told name core out x = SaysOfFile told name (λ bytes. UpgradeIs core bytes (Some []) (Some out) x)

-- the bytes that are out where the file of that name can't be read to its end: lines of a certificate, and where the shelf tells the
-- file those that are written of its first lines, all of which are right
pub record IsOutMeanwhile (told : Option Files) (name : List ℕ) (core : Core) (out : List ℕ) : Type 0 where
  pub lines : List Line
  pub are : out ≡ joined (map line_text lines)
  pub says : SaysOfFile told name (λ bytes. (i : ℕ) × (texts : List (List ℕ)) × AreWritten core bytes i texts × (out ≡ joined texts))

-- no file of that name is there, and nothing was written; or the checker gives it up after these bytes
pub data RefusesUpgrade (told : Option Files) (name : List ℕ) (core : Core) (out : List ℕ) (r : Refusal) : Type 0 where
  absent : told_file told name ≡ Some None → out ≡ [] → r ≡ ReadFault name → RefusesUpgrade told name core out r
  gives_up : (f : CertFault) → checker_refusal name f ≡ Some r → SaysOfFile told name (λ bytes. UpgradeFails core bytes (Some []) (Some out) (Cert f)) → RefusesUpgrade told name core out r

-- the stop where the upgrade of the file of that name is given up
abbrev pub IsUpgradeStop : List ℕ → UpgradeFault → Stop → Type 0
IsUpgradeStop name (Cert f) s = IsCheckerStop name f s
IsUpgradeStop name WriteFault s = s ≡ stop.Unwritten

-- Something is said of each file, whatever it holds.
use Rattle.std.specs.Prelude.{◌⊎◌, ℕ, ℤ, List}
use Rattle.slice_core.specs.Tree.{Core}
use Rattle.slice_linear.specs.Rows.{LinearRow}
use Rattle.slice_check.specs.declared.verdict.Verdict.{Verdict}
use Rattle.slice_check.specs.declared.answer.CertAnswer.{CertAnswer}
use Rattle.slice_check.specs.declared.answer.CertFault.{CertFault}
use Rattle.slice_check.specs.Verdicts.{HaveOneWidth, IsVerdict}
use Rattle.slice_check.specs.Faults.{Fails, IsAnswer, IsUnread}

-- an answer holds of the file, or a fault that is neither a failed read nor want of memory
abbrev pub IsDecided : Core → List ℕ → Type 0
IsDecided core file = ((a : CertAnswer) × IsAnswer core file a) ⊎ ((f : CertFault) × ((IsUnread f → ⊥) × Fails core file f))

-- for each core, each file has an answer or such a fault
abbrev pub FilesAreDecided : Type 0
FilesAreDecided = (core : Core) (file : List ℕ) → IsDecided core file

-- rows over as many unknowns, and multipliers, have a verdict
abbrev pub VerdictsExist : Type 0
VerdictsExist = (rows : List LinearRow) (m : List ℤ) → HaveOneWidth rows → (v : Verdict) × IsVerdict rows m v

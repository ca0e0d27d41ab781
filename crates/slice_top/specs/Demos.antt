-- What is told of a report that is made and checked in memory.
use Rattle.std.specs.Prelude.{◌≡◌, ℕ, List, [], ◌∷◌, ◌++◌, codes, Some}
use Rattle.slice_io.specs.Lines.{lines_of}
use Rattle.slice_core.specs.Tree.{Core}
use Rattle.slice_check.specs.Faults.{Fails, IsAnswer}
use Rattle.slice_check.specs.declared.answer.CertAnswer.TheVariants.{Accepted}
use Rattle.slice_check.specs.declared.answer.CertFault.{CertFault}
use Rattle.slice_report.specs.declared.refusal.Refusal.{Refusal}
use Rattle.slice_top.specs.Certificates.{checker_refusal}
use Rattle.slice_top.specs.declared.stop.Stop.{Stop}
use Rattle.slice_top.specs.declared.stop.Stop.TheVariants as stop

-- the name under which a refusal tells the report
abbrev pub report_name : List ℕ
report_name = codes "report"

-- the checker accepts the report on a core, for so many goals
abbrev pub AcceptsReport : Core → List ℕ → ℕ → Type 0
AcceptsReport core report n = IsAnswer core report (Accepted n)

-- the checker gives the report up: it is too long, a goal isn't given, or a number doesn't fit
abbrev pub RefusesReport : Core → List ℕ → Refusal → Type 0
RefusesReport core report r = (f : CertFault) × ((checker_refusal report_name f ≡ Some r) × Fails core report f)

-- the last of some lines, with its LF
abbrev pub last_of : List (List ℕ) → List ℕ
last_of [] = []
last_of (line ∷ []) = line ++ 10 ∷ []
last_of (line ∷ next ∷ lines) = last_of (next ∷ lines)

-- the last line of a report
abbrev pub last_line : List ℕ → List ℕ
last_line report = last_of (lines_of report)

-- the stop of work that writes into memory alone, where a write fails only for want of it
abbrev pub stop_in_memory : Stop → Stop
stop_in_memory stop.Unwritten = stop.Memory
stop_in_memory s = s

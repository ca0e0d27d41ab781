-- The line of a run, and its status.
use Rattle.std.proofs.Common.{◌≡◌, List, [], ◌∷◌, ℕ, Result, Ok, Err}
use Rattle.std.specs.Prelude.{IfOk, IfErr}
use Rattle.slice_json.specs.Texts.{line_of}
use Rattle.slice_run.specs.Walk.{Told, Divided, Halted, Walked, Good}
use Rattle.slice_report.specs.RunReport.{told_json, envy}
use Rattle.slice_report.specs.declared.refusal.Refusal.{Refusal}
use Rattle.slice_top.specs.Answers.{IsOutcome, goes, answer_of}
use Rattle.slice_top.specs.Runs.{envy_status, told_status}
use Rattle.slice_top.specs.Statuses.{IsWorked}
use Rattle.slice_top.specs.Stops.{StopsFor}
use Rattle.slice_top.specs.declared.stop.Stop.{Stop}
use Rattle.slice_top.specs.declared.stop.Stop.TheVariants as stop
use Rattle.slice_top.specs.declared.work.Output.{Output}

envy_worked : (ps : List (ℕ × ℕ)) → IsWorked (envy_status ps)
envy_worked [] = tt
envy_worked (p ∷ ps) = tt

told_worked : (t : Told) → IsWorked (told_status t)
told_worked (Divided queries shares left values) = envy_worked (envy values)
told_worked (Halted queries query at) = tt

-- what is written is the line of what is told
abbrev TellsLine : Told → Output → Type 0
TellsLine t l = (l.bytes.items ≡ line_of (told_json t)) × (l.status ≡ told_status t)

pub line_worked : (t : Told) (r : Result Output Stop) → IfOk r (TellsLine t) → IfOk r (λ l. IsWorked l.status)
line_worked t (Ok l) h = rw h.1 (told_worked t)
line_worked t (Err e) h = tt

pub line_told : (w : Walked Told) (t : Told) (r : Result Output Stop) → w ≡ Good t → IfOk r (TellsLine t) → IfOk r (λ l. IsOutcome w (answer_of l.bytes.items l.status))
line_told w t (Ok l) e h = goes t e (λ i. answer_of (h.0 i) (h.1 i))
line_told w t (Err s) e h = tt

pub memory_stops : (P : Refusal → Type 0) (r : Result Output Stop) → IfErr r (λ e. e ≡ stop.Memory) → IfErr r (StopsFor P)
memory_stops P (Ok l) h = tt
memory_stops P (Err e) h = rw h tt

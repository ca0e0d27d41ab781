-- What a report tells.
use Rattle.std.proofs.Common.{◌≡◌, ◌≢◌, ◌∙◌, ap, ℕ, List, Option}
use Rattle.slice_io.specs.Files.{Files}
use Rattle.slice_io.specs.Told.{appended}
use Rattle.slice_top.specs.Answers.{Answer, IsAnswer}
use Rattle.slice_top.specs.Commands.{Command}
use Rattle.slice_top.specs.Reports.{Reports, Report, whole, cut, answered, unread, starved}
use Rattle.slice_top.specs.declared.status.Status.{Status}
use Rattle.slice_top.specs.declared.status.Status.TheVariants as status

-- a report that no device and no memory cut short is an answer
pub reports_tell_answers : (told : Option Files) (c : Option Command) (before after : Option (List ℕ)) (s : Status) → Reports told c before after s → s ≢ status.ReadFault → s ≢ status.WriteFault → s ≢ status.Memory
    → (a : Answer) × (IsAnswer told c a × ((after ≡ appended before a.text) × (s ≡ a.status)))
reports_tell_answers told c before after s h read write memory = by h.is
  where
    by : Report told c h.bytes s → (a : Answer) × (IsAnswer told c a × ((after ≡ appended before a.text) × (s ≡ a.status)))
    by (whole (answered a is e t)) = (a, (is, (h.out ∙ ap (appended before) t, e)))
    by (whole (unread file out turn e t)) = absurd (read e)
    by (whole (starved out is e t)) = absurd (memory e)
    by (cut all other w count t e) = absurd (write e)

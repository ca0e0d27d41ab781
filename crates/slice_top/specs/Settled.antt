-- What the work on a command comes to: what it wrote, and what is still to be written.
use Rattle.std.specs.Prelude.{◌≡◌, ◌≢◌, ◌↔◌, ◌⊎◌, ℕ, ⊤, List, [], ◌++◌, Option, None}
use Rattle.std.specs.Str.{IsUtf8}
use Rattle.slice_io.specs.Files.{Files}
use Rattle.slice_io.specs.Told.{appended, FrontIsOut}
use Rattle.slice_core.specs.Tree.{Core}
use Rattle.slice_json.specs.Texts.{line_of}
use Rattle.slice_report.specs.Refusals.{refused_json}
use Rattle.slice_report.specs.declared.refusal.Refusal.{Refusal}
use Rattle.slice_top.specs.Answers.{Answer, IsAnswer, IsUpgradeAnswer, answer_of}
use Rattle.slice_top.specs.Certificates.{IsOutMeanwhile}
use Rattle.slice_top.specs.Commands.{Command}
use Rattle.slice_top.specs.Reports.{AreLines, IsOut, Whole}
use Rattle.slice_top.specs.Statuses.{IsWritten, refused_status}
use Rattle.slice_top.specs.Stops.{IsOfWork}
use Rattle.slice_top.specs.declared.ending.Ending.{Ending}
use Rattle.slice_top.specs.declared.ending.Ending.TheVariants as ending
use Rattle.slice_top.specs.declared.status.Status.{Status}
use Rattle.slice_top.specs.declared.status.Status.TheVariants as status
use Rattle.slice_top.specs.declared.stop.Stop.{Stop}
use Rattle.slice_top.specs.declared.stop.Stop.TheVariants as stop
use Rattle.slice_top.specs.declared.work.Output.{Output}

-- bytes of this kind were written after what was out before
pub record Wrote (before after : Option (List ℕ)) (Kind : List ℕ → Type 0) : Type 0 where
  pub out : List ℕ
  pub told : after ≡ appended before out
  pub is : Kind out

-- some front of such an answer was written after what was out before
pub record WroteFront (before after : Option (List ℕ)) (Kind : Answer → Type 0) : Type 0 where
  pub answer : Answer
  pub is : Kind answer
  pub front : FrontIsOut before after answer.text

-- ---- work that writes lines as they are made

-- whole lines were written, and with what is still to be written they are such an answer
abbrev pub Ends : (Answer → Type 0) → Option (List ℕ) → Option (List ℕ) → List ℕ → Status → Type 0
Ends Kind before after bytes s = Wrote before after (λ out. AreLines out × Kind (answer_of (out ++ bytes) s))

-- why such work stops: it is refused, where the refusal's line ends such an answer; a file whose turn came after what was
-- written couldn't be read; memory was wanted, and whole lines are out; or a write failed within such an answer
abbrev pub StopsIn : (Answer → Type 0) → (List ℕ → List ℕ → Type 0) → (shelf sink : Type 0) → Option (List ℕ) → Option (List ℕ) → Stop → Type 0
StopsIn Kind Turn shelf sink before after (stop.Refused r) = Ends Kind before after (line_of (refused_json r)) (refused_status r) × IsOfWork r
StopsIn Kind Turn shelf sink before after (stop.Unread file) = Wrote before after (Turn file) × (shelf × IsUtf8 file)
StopsIn Kind Turn shelf sink before after stop.Memory = Wrote before after (IsOut Kind)
StopsIn Kind Turn shelf sink before after stop.Unwritten = WroteFront before after Kind × sink

-- the same of work that reads no file
abbrev pub LinesStop : (Answer → Type 0) → (sink : Type 0) → Option (List ℕ) → Option (List ℕ) → Stop → Type 0
LinesStop Kind sink before after s = StopsIn Kind (λ file out. ⊥) ⊥ sink before after s

-- what is out where the file that is upgraded can't be read: nothing, or the lines that were written meanwhile
abbrev pub UpgradeLeaves : Option Files → List ℕ → Core → List ℕ → Type 0
UpgradeLeaves told name core out = (out ≡ []) ⊎ (IsOut (IsUpgradeAnswer told name core) out × IsOutMeanwhile told name core out)

-- why the upgrade of the file of that name stops
abbrev pub UpgradeStops : Option Files → List ℕ → Core → (shelf sink : Type 0) → Option (List ℕ) → Option (List ℕ) → Stop → Type 0
UpgradeStops told name core shelf sink before after s =
    StopsIn (IsUpgradeAnswer told name core) (λ file out. (file ≡ name) × UpgradeLeaves told name core out) shelf sink before after s

-- why the writing of one line stops: memory was wanted, and nothing of it is out; or a write failed
abbrev pub LineStops : List ℕ → (sink : Type 0) → Option (List ℕ) → Option (List ℕ) → Stop → Type 0
LineStops line sink before after (stop.Refused r) = ⊥
LineStops line sink before after (stop.Unread file) = ⊥
LineStops line sink before after stop.Memory = after ≡ before
LineStops line sink before after stop.Unwritten = FrontIsOut before after line × sink

-- ---- what is settled

-- a status that is neither usage nor an answer of a device or of the memory
pub record IsOwn (s : Status) : Type 0 where
  pub written : IsWritten s
  pub not_usage : s ≢ status.Usage
  pub not_read : s ≢ status.ReadFault

-- what was written and the output are all bytes of the report; it is usage exactly where there is no command, and a failed
-- read only where the shelf's count of faults rose
pub record IsLast (told : Option Files) (c : Option Command) (shelf : Type 0) (before after : Option (List ℕ)) (l : Output) : Type 0 where
  pub written : IsWritten l.status
  pub usage : (l.status ≡ status.Usage) ↔ (c ≡ None)
  pub read : l.status ≡ status.ReadFault → shelf
  pub whole : Wrote before after (λ out. Whole told c (out ++ l.bytes.items) l.status)

abbrev pub Settled : Option Files → Option Command → (shelf sink : Type 0) → Option (List ℕ) → Option (List ℕ) → Ending → Type 0
Settled told c shelf sink before after (ending.Last l) = IsLast told c shelf before after l
Settled told c shelf sink before after ending.Starved = Wrote before after (IsOut (IsAnswer told c))
Settled told c shelf sink before after ending.Unwritten = WroteFront before after (IsAnswer told c) × sink

-- the line of a refusal is still to be written, or memory was wanted
abbrev pub IsLineOf : Refusal → Output → Type 0
IsLineOf r l = (l.bytes.items ≡ line_of (refused_json r)) × (l.status ≡ refused_status r)

abbrev pub IsRefused : Refusal → Ending → Type 0
IsRefused r (ending.Last l) = IsLineOf r l
IsRefused r ending.Starved = ⊤
IsRefused r ending.Unwritten = ⊥

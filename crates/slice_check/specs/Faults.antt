-- What the checker says of a file: the first thing that is wrong, in the order of its lines and goals, or why it
-- says nothing.
use Rattle.std.specs.Prelude.{◌≡◌, ◌≢◌, ◌⊎◌, ℕ, ◌+◌, ◌<◌, ⊤, ℤ, List, [], length, drop, Option, Some, None}
use Rattle.slice_io.specs.Lines.{rest_from, LineIs, LineRefused}
use Rattle.slice_io.specs.declared.lines.LineFault.TheVariants as line_fault
use Rattle.slice_linear.specs.Rows.{LinearRow}
use Rattle.slice_core.specs.Tree.{Core}
use Rattle.slice_paths.specs.Events.{Event, Overflows, OverLimit, goal_limit, next_goal}
use Rattle.slice_paths.specs.Fronts.{ShareFirst, cover_rows}
use Rattle.slice_paths.specs.Goals.{Goal, goals}
use Rattle.slice_cert.specs.declared.line.Line.{Line}
use Rattle.slice_cert.specs.declared.line.Line.TheVariants.{Header, Refutation, Cover, Closing}
use Rattle.slice_cert.specs.CertLines.{IsLine}
use Rattle.slice_cert.specs.Kinds.{IsClosing, IsCover}
use Rattle.slice_check.specs.declared.verdict.Verdict.{Verdict}
use Rattle.slice_check.specs.declared.verdict.Verdict.TheVariants as verdict
use Rattle.slice_check.specs.declared.answer.HeaderField.{HeaderField}
use Rattle.slice_check.specs.declared.answer.HeaderField.TheVariants.{Kind, Version, Protocol, Agents}
use Rattle.slice_check.specs.declared.answer.Rejection.{Rejection}
use Rattle.slice_check.specs.declared.answer.Rejection.TheVariants as rejection
use Rattle.slice_check.specs.declared.answer.CertAnswer.{CertAnswer}
use Rattle.slice_check.specs.declared.answer.CertAnswer.TheVariants.{Accepted, Rejected}
use Rattle.slice_check.specs.declared.answer.CertFault.{CertFault}
use Rattle.slice_check.specs.declared.answer.CertFault.TheVariants as cert_fault
use Rattle.slice_check.specs.Verdicts.{IsVerdict}
use Rattle.slice_check.specs.Certificate.{Accepts, AtEnd, AtGoal, IsClosed, IsRead, IsVersion, SaysLine, Stands, line_limit, file_limit}

-- the first thing in which a line differs from the header
abbrev pub HeaderDiffers : List ℕ → ℕ → Line → HeaderField → Type 0
HeaderDiffers name agents (Header version protocol n) Kind = ⊥
HeaderDiffers name agents (Header version protocol n) Version = IsVersion version → ⊥
HeaderDiffers name agents (Header version protocol n) Protocol = IsVersion version × (protocol ≢ name)
HeaderDiffers name agents (Header version protocol n) Agents = IsVersion version × (protocol ≡ name) × (n ≢ agents)
HeaderDiffers name agents (Refutation goal multipliers) field = field ≡ Kind
HeaderDiffers name agents (Cover goal passed multipliers) field = field ≡ Kind
HeaderDiffers name agents (Closing goals) field = field ≡ Kind

-- where goal n is next: a header, or the line of another goal; a line that covers goals is none of version 1
abbrev pub IsOutOfOrder : (version n : ℕ) → Line → Type 0
IsOutOfOrder version n (Header v protocol agents) = ⊤
IsOutOfOrder version n (Refutation goal multipliers) = goal ≢ n
IsOutOfOrder version n (Cover goal passed multipliers) = (version ≡ 2) × (goal ≢ n)
IsOutOfOrder version n (Closing goals) = ⊥

-- the verdict on multipliers for the rows behind passed choices; where the goal has fewer, their number is wrong
abbrev pub CoverSays : Option (List LinearRow) → List ℤ → Verdict → Type 0
CoverSays None m v = v ≡ verdict.Length
CoverSays (Some rows) m v = IsVerdict rows m v

-- the verdict on the line of goal n, which comes next
abbrev pub LineSays : Core → (version n : ℕ) → Goal → Line → Verdict → Type 0
LineSays core version n g (Header v protocol agents) w = ⊥
LineSays core version n g (Refutation goal m) w = (goal ≡ n) × IsVerdict g.rows m w
LineSays core version n g (Cover goal passed m) w = (version ≡ 2) × (goal ≡ n) × CoverSays (cover_rows core passed g.trace) m w
LineSays core version n g (Closing goals) w = ⊥

-- goal n comes next, and that is the verdict on its line
abbrev pub GoalSays : Core → List ℕ → ℕ → Verdict → Type 0
GoalSays core file n v = (version i : ℕ) × (g : Goal) × (l : Line) × AtGoal core file version n i g × SaysLine file i l × LineSays core version n g l v

-- goal n comes next, its line covers goals, and with them they are more than the limit
abbrev pub CoversTooMany : Core → List ℕ → Type 0
CoversTooMany core file =
    (n i passed count : ℕ) × (g : Goal) × (m : List ℤ) × AtGoal core file 2 n i g × SaysLine file i (Cover n passed m)
    × CoverSays (cover_rows core passed g.trace) m verdict.Yes × ShareFirst core passed g.trace (drop n (goals core)) count × (goal_limit < n + count)

-- line i is there: a line, or one that is too long
abbrev pub IsThere : List ℕ → ℕ → Type 0
IsThere file i = ((text : List ℕ) × LineIs line_limit file_limit file i (Some text)) ⊎ LineRefused line_limit file_limit file i (line_fault.LineTooLong (i + 1))

-- the first thing that is wrong with the file, in the order of its lines; they are told by numbers from 1
abbrev pub Rejects : Core → List ℕ → Rejection → Type 0
Rejects core file rejection.NotClosed = (i : ℕ) × IsRead core file i × (rest_from i file ≡ [])
Rejects core file (rejection.LineTooLong line) =
    (i : ℕ) × (line ≡ i + 1) × IsRead core file i × LineRefused line_limit file_limit file i (line_fault.LineTooLong line)
Rejects core file (rejection.BadLine line) =
    (i : ℕ) × (line ≡ i + 1)
    × ((IsRead core file i × ((text : List ℕ) × LineIs line_limit file_limit file i (Some text) × ((l : Line) → IsLine text l → ⊥)))
    ⊎ ((n : ℕ) × (g : Goal) × (l : Line) × AtGoal core file 1 n i g × SaysLine file i l × IsCover l))
Rejects core file (rejection.HeaderDiffers field) = (l : Line) × SaysLine file 0 l × HeaderDiffers core.name core.agents l field
Rejects core file (rejection.Missing goal) =
    (version i total : ℕ) × (g : Goal) × AtGoal core file version goal i g × SaysLine file i (Closing total)
Rejects core file (rejection.GoalOrder line) =
    (version i n : ℕ) × (g : Goal) × (l : Line) × (line ≡ i + 1) × AtGoal core file version n i g × SaysLine file i l × IsOutOfOrder version n l
Rejects core file (rejection.Length goal) = GoalSays core file goal verdict.Length
Rejects core file (rejection.Sign goal row) = GoalSays core file goal (verdict.Sign row)
Rejects core file (rejection.Sum goal unknown) = GoalSays core file goal (verdict.Sum unknown)
Rejects core file (rejection.NoStrict goal) = GoalSays core file goal verdict.NoStrict
Rejects core file (rejection.Extra line) =
    (i n : ℕ) × (line ≡ i + 1)
    × ((AtEnd core file n i × ((l : Line) × SaysLine file i l × (IsClosing l → ⊥))) ⊎ (IsClosed core file n i × IsThere file i))
Rejects core file (rejection.ClosingDiffers line) =
    (i n total : ℕ) × (line ≡ i + 1) × AtEnd core file n i × SaysLine file i (Closing total) × (total ≢ n)

-- why nothing is said of the file. Of a failed read and of memory it says nothing: the shelf's count tells of the one
abbrev pub Fails : Core → List ℕ → CertFault → Type 0
Fails core file cert_fault.ReadFault = ⊤
Fails core file cert_fault.TooLong =
    (i : ℕ) × (IsRead core file i ⊎ ((n : ℕ) × IsClosed core file n i)) × LineRefused line_limit file_limit file i line_fault.TooLong
Fails core file cert_fault.GoalLimit =
    ((version n i : ℕ) × (ahead : List Event) × Stands core file version n ahead i × (next_goal ahead n ≡ OverLimit)) ⊎ CoversTooMany core file
Fails core file (cert_fault.FormOverflow goal) =
    (version i : ℕ) × (ahead : List Event) × Stands core file version goal ahead i × (next_goal ahead goal ≡ Overflows)
Fails core file (cert_fault.Overflow goal unknown) = GoalSays core file goal (verdict.Overflow unknown)
Fails core file cert_fault.Memory = ⊤

-- what an answer says: a certificate of all goals, which are so many, that closes within the limits and on whose lines
-- every sum fits; or what is wrong
abbrev pub IsAnswer : Core → List ℕ → CertAnswer → Type 0
IsAnswer core file (Accepted total) = Accepts core file × (total ≡ length (goals core)) × ((i : ℕ) × IsClosed core file total i × (rest_from i file ≡ []))
IsAnswer core file (Rejected r) = Rejects core file r

-- a read failed, or memory was wanted
abbrev pub IsUnread : CertFault → Type 0
IsUnread cert_fault.ReadFault = ⊤
IsUnread cert_fault.Memory = ⊤
IsUnread f = ⊥

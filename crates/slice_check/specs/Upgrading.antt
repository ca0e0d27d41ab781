-- For the clauses of private functions of the upgrade. No public clause speaks of these.
use Rattle.std.specs.Prelude.{◌≡◌, ◌⊎◌, ℕ, ◌+◌, ◌<◌, ◌≤◌, ⊤, ℤ, List, [], ◌∷◌, length, drop, map, min, None}
use Rattle.std.specs.declared.option.Option.{Option}
use Rattle.slice_num.specs.Pieces.{joined}
use Rattle.slice_io.specs.Told.{appended, FrontIsOut}
use Rattle.slice_core.specs.Cores.{core_of}
use Rattle.slice_core.specs.Tree.{Core}
use Rattle.slice_paths.specs.Events.{Event, goal_limit}
use Rattle.slice_paths.specs.Fronts.{ShareFirst, front_of}
use Rattle.slice_paths.specs.Goals.{Goal, goals}
use Rattle.slice_paths.specs.Streams.{Stream}
use Rattle.slice_cert.specs.declared.line.Line.{Line}
use Rattle.slice_cert.specs.declared.line.Line.TheVariants.{Header, Refutation, Cover, Closing}
use Rattle.slice_cert.specs.CertLines.{IsWrittenLine, line_text}
use Rattle.slice_cert.specs.ShortForms.{short_line}
use Rattle.slice_check.specs.declared.answer.HeaderField.{HeaderField}
use Rattle.slice_check.specs.declared.answer.HeaderField.TheVariants.{Version}
use Rattle.slice_check.specs.declared.answer.CertAnswer.TheVariants.{Rejected}
use Rattle.slice_check.specs.declared.answer.CertFault.TheVariants as cert_fault
use Rattle.slice_check.specs.declared.answer.Stop.{Stop}
use Rattle.slice_check.specs.declared.answer.Stop.TheVariants as stop
use Rattle.slice_check.specs.declared.upgrade.UpgradeFault.TheVariants.{Cert, WriteFault}
use Rattle.slice_check.specs.declared.upgrade.Halt.{Halt}
use Rattle.slice_check.specs.declared.upgrade.Halt.TheVariants as halt
use Rattle.slice_check.specs.declared.verdict.Verdict.TheVariants.{Yes}
use Rattle.slice_check.specs.Certificate.{SaysLine, Takes, line_limit}
use Rattle.slice_check.specs.Faults.{Fails, HeaderDiffers, IsUnread}
use Rattle.slice_check.specs.Steps.{Reached, Stops}
use Rattle.slice_check.specs.Upgrades.{AreOut, AreShortened, BeginsVersion2, IsLast, IsOfVersion2, RejectsVersion1, Shortens, UpgradeFails, UpgradeIs, WholeLinesOut}
use Rattle.slice_check.specs.Verdicts.{IsVerdict}

-- ---- lines

-- the text of the line is one line of a file, and read again it is the line
abbrev pub ReadsBack : Line → Type 0
ReadsBack l = IsWrittenLine (line_text l) l

-- a line isn't out for want of memory, or a front of it is
abbrev pub LineHalts : Option (List ℕ) → Option (List ℕ) → List ℕ → Halt → Type 0
LineHalts old new text (halt.Stopped s) = (s ≡ stop.Failed cert_fault.Memory) × (new ≡ old)
LineHalts old new text halt.WriteFault = FrontIsOut old new text

-- the work ends behind whole lines; with a fault of the sink within some
abbrev pub HaltsBehind : Option (List ℕ) → Option (List ℕ) → Halt → Type 0
HaltsBehind old new (halt.Stopped s) = WholeLinesOut old new
HaltsBehind old new halt.WriteFault = (ls : List Line) × FrontIsOut old new (joined (map line_text ls))

-- ---- the header

-- the first thing in which a line differs from a header of version 1
abbrev pub DiffersFirst : List ℕ → ℕ → Line → HeaderField → Type 0
DiffersFirst name agents l f = (IsOfVersion2 l × (f ≡ Version)) ⊎ ((IsOfVersion2 l → ⊥) × HeaderDiffers name agents l f)

-- ---- stops

-- a read failed, or memory was wanted
abbrev pub IsMoot : Stop → Type 0
IsMoot (stop.Rejected r) = ⊥
IsMoot (stop.Failed f) = IsUnread f

-- line i of the file isn't one that refutes the goal, which is next
abbrev pub RefutesNot : List ℕ → ℕ → Goal → Type 0
RefutesNot file i g = (m : List ℤ) → SaysLine file i (Refutation g.number m) → IsVerdict g.rows m Yes → ⊥

-- ---- goals that a line takes beside the one given last

-- so many goals that weren't given share their first passed choices with it
abbrev pub ShareThem : Stream → ℕ → ℕ → Type 0
ShareThem s passed count = ShareFirst (core_of s.core) passed s.last (drop s.given (goals (core_of s.core))) count

-- up to which goal all are taken then, no more than may be given
abbrev pub IsTakenBy : Stream → Line → ℕ → Type 0
IsTakenBy s (Header version protocol agents) t = t ≡ s.given
IsTakenBy s (Refutation goal multipliers) t = t ≡ s.given
IsTakenBy s (Cover goal passed multipliers) t = (count : ℕ) × ShareThem s passed count × (t ≡ min (s.given + count) goal_limit)
IsTakenBy s (Closing total) t = t ≡ s.given

-- the goal given last has the passed choices of a line that covers goals
abbrev pub HasPassed : Stream → Line → Type 0
HasPassed s (Header version protocol agents) = ⊤
HasPassed s (Refutation goal multipliers) = ⊤
HasPassed s (Cover goal passed multipliers) = front_of passed (core_of s.core).tree s.last ≡ None → ⊥
HasPassed s (Closing total) = ⊤

-- ---- one goal

-- the line of a goal in short form takes so many goals, reads back, and isn't too long
pub record IsShort (core : Core) (g : Goal) (m : List ℤ) (count : ℕ) : Type 0 where
  pub takes : Takes core 2 g.number (drop g.number (goals core)) (short_line core.agents g.number m) count
  pub some : 0 < count
  pub within : count ≤ length (drop g.number (goals core))
  pub brief : length (line_text (short_line core.agents g.number m)) ≤ line_limit

-- and is out; the goals before another one are taken then
pub record IsShortOut (core : Core) (g : Goal) (m : List ℤ) (old new : Option (List ℕ)) (t : ℕ) : Type 0 where
  pub count : ℕ
  pub short : IsShort core g m count
  pub reads : ReadsBack (short_line core.agents g.number m)
  pub out : new ≡ appended old (line_text (short_line core.agents g.number m))
  pub taken : t ≡ min (g.number + count) goal_limit

-- the line of a goal was read: where the goal was taken nothing is written; otherwise the short form is out
abbrev pub IsDone : Core → Goal → List ℤ → ℕ → Option (List ℕ) → Option (List ℕ) → ℕ → Type 0
IsDone core g m taken old new t = ((g.number < taken) × (t ≡ taken) × (new ≡ old)) ⊎ ((taken ≤ g.number) × IsShortOut core g m old new t)

-- why the short form isn't out, or why the goals that it takes aren't known
abbrev pub ShortHalts : Core → Goal → List ℤ → Option (List ℕ) → Option (List ℕ) → Halt → Type 0
ShortHalts core g m old new (halt.Stopped s) = (s ≡ stop.Failed cert_fault.Memory) × ((new ≡ old) ⊎ ((t : ℕ) × IsShortOut core g m old new t))
ShortHalts core g m old new halt.WriteFault =
    (count : ℕ) × IsShort core g m count × FrontIsOut old new (line_text (short_line core.agents g.number m))

-- why a goal isn't done: its line isn't accepted; or it is, and its short form isn't out
abbrev pub GoalHalts : Core → Goal → ℕ → Option (List ℕ) → Option (List ℕ) → Halt → List ℕ → ℕ → Type 0
GoalHalts core g taken old new h file i =
    ((s : Stop) × (h ≡ halt.Stopped s) × (new ≡ old) × Stops core file s × (IsMoot s ⊎ RefutesNot file i g))
    ⊎ ((m : List ℤ) × SaysLine file i (Refutation g.number m) × IsVerdict g.rows m Yes × (taken ≤ g.number) × ShortHalts core g m old new h)

-- ---- all goals

abbrev pub AllReadBack : List Line → Type 0
AllReadBack [] = ⊤
AllReadBack (l ∷ ls) = ReadsBack l × AllReadBack ls

abbrev pub AllBrief : List Line → Type 0
AllBrief [] = ⊤
AllBrief (l ∷ ls) = (length (line_text l) ≤ line_limit) × AllBrief ls

-- these lines of the first n goals were read; what is written of them is out, and takes the goals before another one
pub record IsPut (core : Core) (old now : Option (List ℕ)) (n taken : ℕ) (body : List Line) : Type 0 where
  pub written : List Line
  pub last : ℕ
  pub short : AreShortened core 0 0 body written last
  pub long : length body ≡ n
  pub some : n ≤ last
  pub within : last ≤ length (goals core)
  pub counted : taken ≡ min last goal_limit
  pub read : AllReadBack written
  pub brief : AllBrief written
  pub out : AreOut old now (map line_text written)

-- these are the file's lines before line i, which are right
pub record IsReadTo (core : Core) (file : List ℕ) (n : ℕ) (ahead : List Event) (i : ℕ) (body : List Line) : Type 0 where
  pub reached : Reached core file 1 n ahead i
  pub are : reached.stands.body ≡ body

-- what is out where not all goals' lines are read: that of the lines before line i
abbrev pub GoalsHalt : Core → List ℕ → Option (List ℕ) → Option (List ℕ) → Halt → Type 0
GoalsHalt core file old new (halt.Stopped s) =
    (i : ℕ) × (written : List Line) × Shortens core file i written × AreOut old new (map line_text written) × Stops core file s × (IsMoot s ⊎ IsLast core file i)
GoalsHalt core file old new halt.WriteFault =
    (i : ℕ) × (written : List Line) × Shortens core file i written × FrontIsOut old new (joined (map line_text written))

-- ---- the ends

-- what is wrong with the first line
abbrev pub SaysFirst : Core → List ℕ → Stop → Type 0
SaysFirst core file (stop.Rejected r) = RejectsVersion1 core file r
SaysFirst core file (stop.Failed f) = (BeginsVersion2 file → ⊥) × Fails core file f

abbrev pub StopsFirst : Core → List ℕ → Stop → Type 0
StopsFirst core file s = IsMoot s ⊎ (IsLast core file 0 × SaysFirst core file s)

-- the closing line isn't out
abbrev pub CloseHalts : Core → List ℕ → ℕ → Option (List ℕ) → Option (List ℕ) → Halt → Type 0
CloseHalts core file total old new (halt.Stopped s) = Stops core file s × (new ≡ old)
CloseHalts core file total old new halt.WriteFault = FrontIsOut old new (line_text (Closing total))

-- the header isn't accepted, or that of version 2 isn't out
abbrev pub BeginHalts : Core → List ℕ → Option (List ℕ) → Option (List ℕ) → Halt → Type 0
BeginHalts core file old new (halt.Stopped s) = StopsFirst core file s × (new ≡ old)
BeginHalts core file old new halt.WriteFault = SaysLine file 0 (Header 1 core.name core.agents) × FrontIsOut old new (line_text (Header 2 core.name core.agents))

-- the work ends: with what the whole call answers then
abbrev pub LinesHalt : Core → List ℕ → Option (List ℕ) → Option (List ℕ) → Halt → Type 0
LinesHalt core file old new (halt.Stopped (stop.Rejected r)) = UpgradeIs core file old new (Rejected r)
LinesHalt core file old new (halt.Stopped (stop.Failed f)) = UpgradeFails core file old new (Cert f)
LinesHalt core file old new halt.WriteFault = UpgradeFails core file old new WriteFault

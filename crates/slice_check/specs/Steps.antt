-- What the steps of the checker say, one after another.
use Rattle.std.specs.Prelude.{◌≡◌, ◌≢◌, ◌⊎◌, ℕ, ◌+◌, ◌<◌, ◌≤◌, ⊤, ℤ, List, ◌++◌, length, drop, Option, Some, None}
use Rattle.slice_io.specs.declared.lines.LineFault.{LineFault}
use Rattle.slice_io.specs.declared.lines.LineFault.TheVariants as line_fault
use Rattle.slice_linear.specs.Rows.{LinearRow}
use Rattle.slice_core.specs.Cores.{core_of}
use Rattle.slice_core.specs.Tree.{Core}
use Rattle.slice_paths.specs.Events.{Event, Gives, NoMore, Overflows, OverLimit, events_of, goal_limit, next_goal}
use Rattle.slice_paths.specs.Fronts.{ShareFirst, cover_rows, events_after}
use Rattle.slice_paths.specs.Goals.{Goal, goals}
use Rattle.slice_paths.specs.Streams.{Stream, TellsRest, IsGivenLast}
use Rattle.slice_cert.specs.declared.line.Line.{Line}
use Rattle.slice_cert.specs.declared.line.Line.TheVariants.{Header, Refutation, Cover, Closing}
use Rattle.slice_check.specs.declared.verdict.Verdict.{Verdict}
use Rattle.slice_check.specs.declared.verdict.Verdict.TheVariants as verdict
use Rattle.slice_check.specs.declared.answer.Rejection.TheVariants as rejection
use Rattle.slice_check.specs.declared.answer.CertFault.TheVariants as cert_fault
use Rattle.slice_check.specs.declared.answer.Stop.{Stop}
use Rattle.slice_check.specs.declared.answer.Stop.TheVariants as stop
use Rattle.slice_check.specs.declared.check.Taking.{Taking}
use Rattle.slice_check.specs.declared.check.Taking.TheVariants as taking
use Rattle.slice_check.specs.Certificate.{Stands, TakeInOrder}
use Rattle.slice_check.specs.Faults.{CoverSays, Fails, Rejects}
use Rattle.slice_check.specs.Verdicts.{HaveOneWidth, IsVerdict}

-- ---- how far the checker came

-- the lines before line i are right; and with lines that take the goals from goal n on in order, they take all
pub record Reached (core : Core) (file : List ℕ) (version n : ℕ) (ahead : List Event) (i : ℕ) : Type 0 where
  pub stands : Stands core file version n ahead i
  pub takes : (ls : List Line) → TakeInOrder core version n (drop n (goals core)) ls → TakeInOrder core version 0 (goals core) (stands.body ++ ls)

-- they take all goals, which are n
pub record ReachedEnd (core : Core) (file : List ℕ) (n i : ℕ) : Type 0 where
  pub version : ℕ
  pub ahead : List Event
  pub reached : Reached core file version n ahead i
  pub ends : next_goal ahead n ≡ NoMore
  pub all : n ≡ length (goals core)

-- ---- streams of goals

-- a stream of the core's goals before the first
pub record IsFresh (core : Core) (s : Stream) : Type 0 where
  pub core_is : core_of s.core ≡ core
  pub ahead : s.ahead ≡ events_of core
  pub given : s.given ≡ 0
  pub rest : TellsRest s

-- a stream went on: what is ahead tells the goals of the same core that weren't given, and at most a million were
pub record WentOn (s t : Stream) : Type 0 where
  pub same_core : t.core ≡ s.core
  pub more : s.given ≤ t.given
  pub few : t.given ≤ 1000000
  pub rest : TellsRest t

-- the goal comes next, with rows over as many unknowns, and was given last then
pub record IsNext (s : Stream) (g : Goal) (t : Stream) : Type 0 where
  pub comes : next_goal s.ahead s.given ≡ Gives g t.ahead
  pub number : g.number ≡ s.given
  pub last : IsGivenLast t g
  pub went : WentOn s t
  pub few : g.number < 1000000
  pub rows : HaveOneWidth g.rows

-- the goal given last and all later goals with the same first passed choices were given, and what is behind these choices
-- is no longer ahead
pub record IsPassedOver (s : Stream) (g : Goal) (passed : ℕ) (t : Stream) : Type 0 where
  pub count : ℕ
  pub share : ShareFirst (core_of s.core) passed g.trace (drop g.number (goals (core_of s.core))) count
  pub given : t.given ≡ g.number + count
  pub ahead : t.ahead ≡ events_after (core_of s.core) passed g.trace

-- and the multipliers refute the rows behind these choices
pub record IsCovered (s : Stream) (g : Goal) (passed : ℕ) (m : List ℤ) (t : Stream) : Type 0 where
  pub rows : List LinearRow
  pub are_rows : cover_rows (core_of s.core) passed g.trace ≡ Some rows
  pub refuted : IsVerdict rows m verdict.Yes
  pub over : IsPassedOver s g passed t

-- ---- stops

-- what a stop says
abbrev pub Stops : Core → List ℕ → Stop → Type 0
Stops core file (stop.Rejected r) = Rejects core file r
Stops core file (stop.Failed f) = Fails core file f

-- what the fault of a line that is read means
abbrev pub stop_of : LineFault → Stop
stop_of line_fault.ReadFault = stop.Failed cert_fault.ReadFault
stop_of (line_fault.LineTooLong line) = stop.Rejected (rejection.LineTooLong line)
stop_of line_fault.TooLong = stop.Failed cert_fault.TooLong
stop_of line_fault.Memory = stop.Failed cert_fault.Memory

-- what a verdict on goal n means: nothing where the multipliers refute it
abbrev pub stop_for : ℕ → Verdict → Option Stop
stop_for n verdict.Yes = None
stop_for n verdict.Length = Some (stop.Rejected (rejection.Length n))
stop_for n (verdict.Sign row) = Some (stop.Rejected (rejection.Sign n row))
stop_for n (verdict.Sum unknown) = Some (stop.Rejected (rejection.Sum n unknown))
stop_for n verdict.NoStrict = Some (stop.Rejected (rejection.NoStrict n))
stop_for n (verdict.Overflow unknown) = Some (stop.Failed (cert_fault.Overflow n unknown))

-- what the line takes where goal n comes next: that goal, or it and all later ones with the same first passed choices
abbrev pub IsTaking : Line → (version n : ℕ) → Taking → Type 0
IsTaking line version n (taking.Goal m) = line ≡ Refutation n m
IsTaking line version n (taking.Front passed m) = (version ≡ 2) × (line ≡ Cover n passed m)

-- what a line that takes nothing there means, by its number
abbrev pub IsOther : Line → (version n : ℕ) → ℕ → Stop → Type 0
IsOther (Header v protocol agents) version n line s = s ≡ stop.Rejected (rejection.GoalOrder line)
IsOther (Refutation goal multipliers) version n line s = (goal ≢ n) × (s ≡ stop.Rejected (rejection.GoalOrder line))
IsOther (Cover goal passed multipliers) version n line s =
    ((version ≢ 2) × (s ≡ stop.Rejected (rejection.BadLine line))) ⊎ ((version ≡ 2) × (goal ≢ n) × (s ≡ stop.Rejected (rejection.GoalOrder line)))
IsOther (Closing total) version n line s = s ≡ stop.Rejected (rejection.Missing n)

-- there are more goals with the same first passed choices than may be given
abbrev pub AreTooMany : Core → Goal → ℕ → Type 0
AreTooMany core g passed = (count : ℕ) × ShareFirst core passed g.trace (drop g.number (goals core)) count × (goal_limit < g.number + count)

-- what it means that goals weren't passed over where goal g comes next
abbrev pub IsPassStop : Core → Goal → ℕ → Stop → Type 0
IsPassStop core g passed s = ((s ≡ stop.Failed cert_fault.GoalLimit) × AreTooMany core g passed) ⊎ (s ≡ stop.Failed cert_fault.Memory)

-- what it means that they weren't covered
abbrev pub IsCoverStop : Core → Goal → ℕ → List ℤ → Stop → Type 0
IsCoverStop core g passed m s =
    ((v : Verdict) × (stop_for g.number v ≡ Some s) × CoverSays (cover_rows core passed g.trace) m v)
    ⊎ ((CoverSays (cover_rows core passed g.trace) m verdict.Yes × IsPassStop core g passed s)
    ⊎ (s ≡ stop.Failed cert_fault.Memory))

-- what the fault of a line after the closing line means
abbrev pub end_stop_of : LineFault → Stop
end_stop_of line_fault.ReadFault = stop.Failed cert_fault.ReadFault
end_stop_of (line_fault.LineTooLong line) = stop.Rejected (rejection.Extra line)
end_stop_of line_fault.TooLong = stop.Failed cert_fault.TooLong
end_stop_of line_fault.Memory = stop.Failed cert_fault.Memory

-- what another line than the closing line with that count means, by its number
abbrev pub IsNoTotal : Line → ℕ → ℕ → Stop → Type 0
IsNoTotal (Header version protocol agents) count line s = s ≡ stop.Rejected (rejection.Extra line)
IsNoTotal (Refutation goal multipliers) count line s = s ≡ stop.Rejected (rejection.Extra line)
IsNoTotal (Cover goal passed multipliers) count line s = s ≡ stop.Rejected (rejection.Extra line)
IsNoTotal (Closing total) count line s = (total ≢ count) × (s ≡ stop.Rejected (rejection.ClosingDiffers line))

-- what it means that no goal was made
abbrev pub IsGoalStop : Stream → Stop → Type 0
IsGoalStop s (stop.Rejected r) = ⊥
IsGoalStop s (stop.Failed cert_fault.ReadFault) = ⊥
IsGoalStop s (stop.Failed cert_fault.TooLong) = ⊥
IsGoalStop s (stop.Failed cert_fault.GoalLimit) = next_goal s.ahead s.given ≡ OverLimit
IsGoalStop s (stop.Failed (cert_fault.FormOverflow goal)) = (next_goal s.ahead s.given ≡ Overflows) × (goal ≡ s.given)
IsGoalStop s (stop.Failed (cert_fault.Overflow goal unknown)) = ⊥
IsGoalStop s (stop.Failed cert_fault.Memory) = ⊤

-- For the clauses of private functions. No public clause speaks of these.
use Rattle.std.specs.Prelude.{◌≡◌, ◌⊎◌, ℕ, ◌+◌, ◌<◌, ◌≤◌, ⊤, ℤ, List, suc, Some, None}
use Rattle.std.specs.declared.option.Option.{Option}
use Rattle.slice_io.specs.Told.{appended, FrontIsOut}
use Rattle.slice_core.specs.Cores.{core_of}
use Rattle.slice_core.specs.Tree.{Core}
use Rattle.slice_linear.specs.Rows.{AreRowsOver, width}
use Rattle.slice_atoms.specs.Addresses.{atom_count}
use Rattle.slice_paths.specs.Coming.{AreGoals, goals_ahead}
use Rattle.slice_paths.specs.Events.{Gives, NoMore, goal_limit, next_goal}
use Rattle.slice_paths.specs.Fronts.{events_after}
use Rattle.slice_paths.specs.Goals.{Goal}
use Rattle.slice_paths.specs.Streams.{Stream, TellsRest, IsGivenLast}
use Rattle.slice_paths.specs.Ways.{way_of}
use Rattle.slice_paths.specs.declared.goal.GoalFault.{GoalFault}
use Rattle.slice_paths.specs.declared.goal.GoalFault.TheVariants as goal_fault
use Rattle.slice_simplex.specs.Bases.{HasBases}
use Rattle.slice_simplex.specs.ProverAnswer.{IsProverAnswer, SolvedBy, AtLimit, Unfit}
use Rattle.slice_simplex.specs.declared.prover.ProveFault.{ProveFault}
use Rattle.slice_simplex.specs.declared.prover.ProveFault.TheVariants as prove_fault
use Rattle.slice_cert.specs.declared.line.Line.{Line}
use Rattle.slice_cert.specs.declared.line.Line.TheVariants.{Header, Refutation, Cover, Closing}
use Rattle.slice_cert.specs.CertLines.{line_text}
use Rattle.slice_cert.specs.ShortForms.{short_line}
use Rattle.slice_check.specs.Upgrading.{ReadsBack, ShareThem}
use Rattle.slice_counter.specs.Heights.{IsFirstHigh}
use Rattle.slice_counter.specs.declared.counter.Counterexample.{Counterexample}
use Rattle.slice_verify.specs.Report.{IsRefutedBy, IsCounterOf, pivot_limit}
use Rattle.slice_verify.specs.declared.verifier.VerifyFault.{VerifyFault}
use Rattle.slice_verify.specs.declared.verifier.VerifyFault.TheVariants.{GoalLimit, FormOverflow, PivotLimit, PivotOverflow, HeightLimit, WriteFault, Memory}

-- ---- lines

-- a line isn't out, or a front of it is
abbrev pub LineStops : Option (List ℕ) → Option (List ℕ) → List ℕ → VerifyFault → Type 0
LineStops old new text WriteFault = FrontIsOut old new text
LineStops old new text Memory = new ≡ old
LineStops old new text e = ⊥

-- ---- goals that come

-- what is ahead tells the goals that weren't given; at most a million were; and the rows of each that comes are over the
-- same unknowns and fit
pub record GoesOn (s : Stream) : Type 0 where
  pub rest : TellsRest s
  pub few : s.given ≤ goal_limit
  pub fit : AreGoals s.given (goals_ahead s.ahead s.given)

-- the goal came next, with rows over the same unknowns that fit, and was given last
pub record IsNextOf (s : Stream) (g : Goal) (t : Stream) : Type 0 where
  pub comes : next_goal s.ahead s.given ≡ Gives g t.ahead
  pub number : g.number ≡ s.given
  pub last : IsGivenLast t g
  pub rows : AreRowsOver (width g.rows) g.rows
  pub goes : GoesOn t
  pub same_core : t.core ≡ s.core

-- none came any more
abbrev pub NoneComes : Stream → Stream → Type 0
NoneComes s t = (next_goal s.ahead s.given ≡ NoMore) × (t.given ≡ s.given)

-- what keeps a goal from being made
abbrev pub stop_at : GoalFault → VerifyFault
stop_at goal_fault.GoalLimit = GoalLimit
stop_at (goal_fault.Overflow n) = FormOverflow n
stop_at goal_fault.Memory = Memory

-- ---- goals that a line takes beside the one given last

-- a line that covers goals passed over these; another line over none
abbrev pub IsPassed : Stream → Line → Stream → Type 0
IsPassed s (Header version protocol agents) t = t ≡ s
IsPassed s (Refutation goal multipliers) t = t ≡ s
IsPassed s (Cover goal passed multipliers) t =
    (count : ℕ) × ShareThem s passed count × (t.given ≡ s.given + count) × (t.ahead ≡ events_after (core_of s.core) passed s.last)
IsPassed s (Closing total) t = t ≡ s

-- with these goals more than a million are given
abbrev pub AreTooMany : Stream → Line → Type 0
AreTooMany s (Header version protocol agents) = ⊥
AreTooMany s (Refutation goal multipliers) = ⊥
AreTooMany s (Cover goal passed multipliers) = (count : ℕ) × ShareThem s passed count × (goal_limit < s.given + count)
AreTooMany s (Closing total) = ⊥

-- why they weren't passed over
abbrev pub PassStops : Stream → Line → VerifyFault → Type 0
PassStops s l GoalLimit = AreTooMany s l
PassStops s l Memory = ⊤
PassStops s l e = ⊥

-- ---- one goal

-- what keeps a goal from being decided
abbrev pub stop_for : ℕ → ProveFault → VerifyFault
stop_for goal prove_fault.PivotLimit = PivotLimit goal
stop_for goal (prove_fault.Overflow pivots i j) = PivotOverflow goal pivots i j
stop_for goal prove_fault.Memory = Memory

-- a solution of the goal's rows has a number that is too great
abbrev pub IsTooHigh : Core → Goal → List ℤ → VerifyFault → Type 0
IsTooHigh core g xs (HeightLimit n agent atom) = (n ≡ g.number) × IsFirstHigh core.agents (atom_count (way_of core g.trace).cake) xs agent atom
IsTooHigh core g xs Memory = ⊤
IsTooHigh core g xs e = ⊥

-- the line of a goal that these multipliers refute
abbrev pub goal_line : Core → Goal → List ℤ → Line
goal_line core g m = short_line core.agents g.number m

-- the line of a goal that these multipliers refute is out
abbrev pub LineIsOut : Core → Goal → List ℤ → Option (List ℕ) → Option (List ℕ) → Type 0
LineIsOut core g m old new = IsRefutedBy g m × (new ≡ appended old (line_text (goal_line core g m)))

-- and the other goals that it takes were passed over
pub record IsSettled (core : Core) (g : Goal) (s t : Stream) (old new : Option (List ℕ)) : Type 0 where
  pub multipliers : List ℤ
  pub out : LineIsOut core g multipliers old new
  pub reads : ReadsBack (goal_line core g multipliers)
  pub passed : IsPassed s (goal_line core g multipliers) t
  pub rest : TellsRest t
  pub few : t.given ≤ goal_limit
  pub same_core : t.core ≡ s.core

-- the goal is refuted so; or a solution of its rows gives a counterexample
abbrev pub GoalIs : Core → Goal → Stream → Stream → Option (List ℕ) → Option (List ℕ) → Option Counterexample → Type 0
GoalIs core g s t old new None = IsSettled core g s t old new
GoalIs core g s t old new (Some c) = (xs : List ℤ) × IsProverAnswer g.rows pivot_limit (SolvedBy xs) × IsCounterOf core g xs c × (new ≡ old)

-- the goal isn't decided; or its line isn't out, or a front of it is; or it is out, and the other goals weren't passed over
abbrev pub GoalStops : Core → Goal → Stream → Option (List ℕ) → Option (List ℕ) → VerifyFault → Type 0
GoalStops core g s old new GoalLimit = (m : List ℤ) × LineIsOut core g m old new × AreTooMany s (goal_line core g m)
GoalStops core g s old new (FormOverflow n) = ⊥
GoalStops core g s old new (PivotLimit n) = (n ≡ g.number) × IsProverAnswer g.rows pivot_limit AtLimit × HasBases g.rows (suc pivot_limit) × (new ≡ old)
GoalStops core g s old new (PivotOverflow n pivots i j) = (n ≡ g.number) × IsProverAnswer g.rows pivot_limit (Unfit pivots i j) × (new ≡ old)
GoalStops core g s old new (HeightLimit n agent atom) =
    (xs : List ℤ) × (n ≡ g.number) × IsProverAnswer g.rows pivot_limit (SolvedBy xs) × IsFirstHigh core.agents (atom_count (way_of core g.trace).cake) xs agent atom × (new ≡ old)
GoalStops core g s old new WriteFault = (m : List ℤ) × IsRefutedBy g m × FrontIsOut old new (line_text (goal_line core g m))
GoalStops core g s old new Memory = (new ≡ old) ⊎ ((m : List ℤ) × LineIsOut core g m old new)

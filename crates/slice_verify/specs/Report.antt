-- What the verifier writes of a core, and what it answers.
use Rattle.std.specs.Prelude.{◌≡◌, ◌⊎◌, ℕ, ◌+◌, ◌<◌, ◌≤◌, ⊤, ℤ, List, [], ◌∷◌, ◌++◌, drop, map, suc}
use Rattle.std.specs.List.{Contains}
use Rattle.std.specs.declared.option.Option.{Option}
use Rattle.slice_num.specs.Pieces.{joined}
use Rattle.slice_num.specs.Valuation.{Valuation, IsValuationList}
use Rattle.slice_num.specs.declared.cut_answer.CutAnswer.{CutAnswer}
use Rattle.slice_io.specs.Told.{appended, FrontIsOut}
use Rattle.slice_core.specs.Tree.{Core}
use Rattle.slice_core.specs.Division.{IsFair}
use Rattle.slice_core.specs.Measures.{worth_of, length_of}
use Rattle.slice_core.specs.Run.{run_core}
use Rattle.slice_linear.specs.Rows.{Refutes}
use Rattle.slice_atoms.specs.Addresses.{atom_count}
use Rattle.slice_paths.specs.Events.{Event, Gives, NoMore, Overflows, OverLimit, events_of, goal_limit, next_goal}
use Rattle.slice_paths.specs.Fronts.{ShareFirst, events_after}
use Rattle.slice_paths.specs.Goals.{Goal, goals}
use Rattle.slice_paths.specs.Ways.{way_of}
use Rattle.slice_simplex.specs.Bases.{HasBases}
use Rattle.slice_simplex.specs.ProverAnswer.{IsProverAnswer, RefutedBy, SolvedBy, AtLimit, Unfit}
use Rattle.slice_cert.specs.declared.line.Line.{Line}
use Rattle.slice_cert.specs.declared.line.Line.TheVariants.{Header, Refutation, Cover, Closing}
use Rattle.slice_cert.specs.CertLines.{line_text}
use Rattle.slice_cert.specs.ShortForms.{short_line}
use Rattle.slice_check.specs.Certificate.{Accepts}
use Rattle.slice_check.specs.Upgrades.{AreOut}
use Rattle.slice_counter.specs.Counter.{IsCounterexample, IsLow, valuations_of, answers_of}
use Rattle.slice_counter.specs.CounterLine.{counter_text}
use Rattle.slice_counter.specs.Heights.{IsFirstHigh}
use Rattle.slice_counter.specs.declared.counter.Counterexample.{Counterexample}
use Rattle.slice_verify.specs.declared.verifier.Decision.{Decision}
use Rattle.slice_verify.specs.declared.verifier.Decision.TheVariants.{EnvyFree, Found}
use Rattle.slice_verify.specs.declared.verifier.VerifyFault.{VerifyFault}
use Rattle.slice_verify.specs.declared.verifier.VerifyFault.TheVariants.{GoalLimit, FormOverflow, PivotLimit, PivotOverflow, HeightLimit, WriteFault, Memory}

-- ---- one goal

-- how many pivots are made for a goal, at most
abbrev pub pivot_limit : ℕ
pivot_limit = 100000

-- the prover's pivot run on the goal's rows ends with these multipliers, and they refute the rows
pub record IsRefutedBy (g : Goal) (m : List ℤ) : Type 0 where
  pub ends : IsProverAnswer g.rows pivot_limit (RefutedBy m)
  pub refutes : Refutes g.rows m

-- the counterexample to one of the core's goals that the solution of its rows gives, none of whose heights is too great
pub record IsCounterOf (core : Core) (g : Goal) (xs : List ℤ) (c : Counterexample) : Type 0 where
  pub is_goal : Contains (goals core) g
  pub number : c.goal ≡ g.number
  pub kind : c.kind ≡ g.kind
  pub query : c.query ≡ g.query
  pub valuations : c.valuations ≡ valuations_of core.agents (way_of core g.trace).cake xs
  pub cuts : c.cuts.items ≡ answers_of (way_of core g.trace)
  pub low : IsLow xs
  pub counter : IsCounterexample core c.valuations c.cuts.items g

-- ---- goals in order

-- the line was written for goal n, which comes next where these events are ahead: its rows are refuted, and the line is the
-- short form of that with its end multipliers
pub record IsTaken (core : Core) (n : ℕ) (ahead : List Event) (l : Line) : Type 0 where
  pub goal : Goal
  pub later : List Event
  pub comes : next_goal ahead n ≡ Gives goal later
  pub multipliers : List ℤ
  pub refuted : IsRefutedBy goal multipliers
  pub line : l ≡ short_line core.agents n multipliers

-- behind the line of goal n so many goals are taken, and these events are ahead: a line that covers goals takes all that are
-- left with the same first passed choices
abbrev pub LeadsTo : Core → ℕ → Goal → List Event → Line → ℕ → List Event → Type 0
LeadsTo core n g later (Header version protocol agents) m es = ⊥
LeadsTo core n g later (Refutation goal multipliers) m es = (m ≡ n + 1) × (es ≡ later)
LeadsTo core n g later (Cover goal passed multipliers) m es =
    (count : ℕ) × ShareFirst core passed g.trace (drop n (goals core)) count × (m ≡ n + count) × (es ≡ events_after core passed g.trace)
LeadsTo core n g later (Closing total) m es = ⊥

-- the lines, one after another, take goals from n on up to m, where these events are ahead; no more than a million
abbrev pub AreTaken : Core → ℕ → List Event → List Line → ℕ → List Event → Type 0
AreTaken core n ahead [] m later = (m ≡ n) × (later ≡ ahead)
AreTaken core n ahead (l ∷ ls) m later =
    (t : IsTaken core n ahead l) × (k : ℕ) × (mid : List Event) × LeadsTo core n t.goal t.later l k mid × (k ≤ goal_limit) × AreTaken core k mid ls m later

-- the lines take the core's first goals, as many as that, and these events are ahead
abbrev pub TakeFirst : Core → List Line → ℕ → List Event → Type 0
TakeFirst core ls n ahead = AreTaken core 0 (events_of core) ls n ahead

-- after these lines the goal comes next
pub record IsReached (core : Core) (ls : List Line) (g : Goal) : Type 0 where
  pub ahead : List Event
  pub later : List Event
  pub taken : TakeFirst core ls g.number ahead
  pub comes : next_goal ahead g.number ≡ Gives g later

-- the last of these lines covers goals, and with them they are more than a million
pub record PassesLimit (core : Core) (ls : List Line) : Type 0 where
  pub before : List Line
  pub last : Line
  pub split : ls ≡ before ++ last ∷ []
  pub number : ℕ
  pub ahead : List Event
  pub taken : TakeFirst core before number ahead
  pub covers : IsTaken core number ahead last
  pub goals : ℕ
  pub later : List Event
  pub leads : LeadsTo core number covers.goal covers.later last goals later
  pub too_many : goal_limit < goals

-- what is decided after these lines: that all goals are refuted; or that the rows of the next one have a solution, which
-- gives a counterexample
abbrev pub IsDecision : Core → List Line → Decision → Type 0
IsDecision core ls (EnvyFree n) = (ahead : List Event) × TakeFirst core ls n ahead × (next_goal ahead n ≡ NoMore)
IsDecision core ls (Found c) = (g : Goal) × (xs : List ℤ) × IsReached core ls g × IsProverAnswer g.rows pivot_limit (SolvedBy xs) × IsCounterOf core g xs c

-- what keeps the work from going on after these lines, faults of devices and want of memory aside: no further goal can be
-- made, or the last line covers too many; the prover doesn't decide the next one, and at its limit met one basis more than
-- the limit, all different; or a solution of the next goal's rows has a number above the greatest height, the first by agent
-- and then atom
abbrev pub IsStop : Core → List Line → VerifyFault → Type 0
IsStop core ls GoalLimit = ((n : ℕ) × (ahead : List Event) × TakeFirst core ls n ahead × (next_goal ahead n ≡ OverLimit)) ⊎ PassesLimit core ls
IsStop core ls (FormOverflow n) = (ahead : List Event) × TakeFirst core ls n ahead × (next_goal ahead n ≡ Overflows)
IsStop core ls (PivotLimit n) =
    (g : Goal) × IsReached core ls g × (n ≡ g.number) × IsProverAnswer g.rows pivot_limit AtLimit × HasBases g.rows (suc pivot_limit)
IsStop core ls (PivotOverflow n pivots i j) = (g : Goal) × IsReached core ls g × (n ≡ g.number) × IsProverAnswer g.rows pivot_limit (Unfit pivots i j)
IsStop core ls (HeightLimit n agent atom) =
    (g : Goal) × (xs : List ℤ) × IsReached core ls g × (n ≡ g.number) × IsProverAnswer g.rows pivot_limit (SolvedBy xs)
    × IsFirstHigh core.agents (atom_count (way_of core g.trace).cake) xs agent atom
IsStop core ls WriteFault = ⊥
IsStop core ls Memory = ⊥

-- ---- lines

-- the texts so far: of the header, and of the lines that were written
abbrev pub texts_after : Core → List Line → List (List ℕ)
texts_after core ls = map line_text (Header 2 core.name core.agents ∷ ls)

-- the closing line
abbrev pub closing_text : Decision → List ℕ
closing_text (EnvyFree n) = line_text (Closing n)
closing_text (Found c) = counter_text c

-- all lines of a report
abbrev pub report_texts : Core → List Line → Decision → List (List ℕ)
report_texts core ls d = texts_after core ls ++ closing_text d ∷ []

-- ---- answers

-- the decision, and its whole report is out
abbrev pub DecisionIs : Core → Option (List ℕ) → Option (List ℕ) → Decision → Type 0
DecisionIs core old new d = (ls : List Line) × IsDecision core ls d × AreOut old new (report_texts core ls d)

-- lines with which a report begins: none, or the header and lines that take the first goals; the last of them may cover
-- goals that aren't counted yet
pub data Begins (core : Core) (texts : List (List ℕ)) : Type 0 where
  none : texts ≡ [] → Begins core texts
  begun : (ls : List Line) (n : ℕ) (ahead : List Event) → TakeFirst core ls n ahead → texts ≡ texts_after core ls → Begins core texts
  covered : (ls : List Line) (n : ℕ) (ahead : List Event) (l : Line) → TakeFirst core ls n ahead → IsTaken core n ahead l → texts ≡ texts_after core (ls ++ l ∷ []) → Begins core texts

-- such lines, or a whole report
pub data AreRight (core : Core) (texts : List (List ℕ)) : Type 0 where
  part : Begins core texts → AreRight core texts
  whole : (ls : List Line) (d : Decision) → IsDecision core ls d → texts ≡ report_texts core ls d → AreRight core texts

-- the refusal, and the lines so far are out: with a fault of the sink a front of the bytes of such lines or of a whole
-- report; for want of memory such lines
abbrev pub FaultIs : Core → Option (List ℕ) → Option (List ℕ) → VerifyFault → Type 0
FaultIs core old new WriteFault = (texts : List (List ℕ)) × AreRight core texts × FrontIsOut old new (joined texts)
FaultIs core old new Memory = (texts : List (List ℕ)) × Begins core texts × AreOut old new texts
FaultIs core old new e = (ls : List Line) × IsStop core ls e × AreOut old new (texts_after core ls)

-- ---- what a decision means

-- of runs: on every list of valuations, however the cuts are answered, a run is fair; or the counterexample's run isn't
abbrev pub IsExact : Core → Decision → Type 0
IsExact core (EnvyFree n) = (vs : List Valuation) → IsValuationList core.agents vs → (ys : List CutAnswer) → IsFair core.agents (worth_of vs) (run_core (worth_of vs) core (length_of vs) ys)
IsExact core (Found c) = IsFair core.agents (worth_of c.valuations) (run_core (worth_of c.valuations) core (length_of c.valuations) c.cuts.items) → ⊥

-- of the bytes: where no envy is left, those that were put behind the others are a certificate of the core
abbrev pub IsAccepted : Core → Option (List ℕ) → Option (List ℕ) → Decision → Type 0
IsAccepted core old new (EnvyFree n) = (bytes : List ℕ) × Accepts core bytes × (new ≡ appended old bytes)
IsAccepted core old new (Found c) = ⊤

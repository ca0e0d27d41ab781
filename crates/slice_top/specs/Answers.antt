-- What is answered to a command over files, faults of devices and want of memory aside: by stages, in the order of refusals.
-- Of a shelf that tells no files it is said for some bytes of each file, and of a certificate nothing but the form of the lines.
use Rattle.std.specs.Prelude.{◌≡◌, ℕ, ◌+◌, ◌<◌, nat_lt, if◌then◌else◌, ℤ, List, [], ◌∷◌, ◌++◌, length, map, Option, Some, None}
use Rattle.serde_json.specs.Data.{Data}
use Rattle.slice_json.specs.Texts.{line_of}
use Rattle.slice_num.specs.Pieces.{joined}
use Rattle.slice_num.specs.Valuation.{Valuation}
use Rattle.slice_num.specs.declared.cut_answer.CutAnswer.{CutAnswer}
use Rattle.slice_io.specs.Files.{Files}
use Rattle.slice_ast.specs.Code.{PlainProgram}
use Rattle.slice_ast.specs.Layout.{canonical_text}
use Rattle.slice_parse.specs.Laws.{IsProgramOf}
use Rattle.slice_core.specs.Tree.{Core}
use Rattle.slice_step.specs.ValuationFile.{IsValuationFile, IsReplayFile}
use Rattle.slice_run.specs.Walk.{Told, Walked, Good, outcome, Least, Given}
use Rattle.slice_atoms.specs.Addresses.{atom_count}
use Rattle.slice_paths.specs.Events.{Event, Meets, Breaks, NextGoal, events_of, goal_at, goal_limit, next_goal}
use Rattle.slice_paths.specs.Events as comes
use Rattle.slice_paths.specs.Goals.{Goal}
use Rattle.slice_paths.specs.Ways.{way_of}
use Rattle.slice_simplex.specs.ProverAnswer.{ProverAnswer, IsProverAnswer, RefutedBy, SolvedBy, AtLimit, Unfit}
use Rattle.slice_cert.specs.CertLines.{line_text}
use Rattle.slice_cert.specs.declared.line.Line.{Line}
use Rattle.slice_cert.specs.declared.line.Line.TheVariants.{Closing}
use Rattle.slice_cert.specs.ShortForms.{short_line}
use Rattle.slice_counter.specs.Counter.{IsLow, valuations_of, answers_of}
use Rattle.slice_counter.specs.CounterLine.{counter_json}
use Rattle.slice_counter.specs.Heights.{IsFirstHigh}
use Rattle.slice_verify.specs.Report.{LeadsTo, TakeFirst, pivot_limit, texts_after}
use Rattle.slice_gen.specs.Rounds.{rounds_text}
use Rattle.slice_check.specs.declared.answer.CertAnswer.{CertAnswer}
use Rattle.slice_check.specs.declared.answer.CertAnswer.TheVariants.{Accepted, Rejected}
use Rattle.slice_report.specs.CertifyReport.{certify_json}
use Rattle.slice_report.specs.GoalReport.{count_json, goal_json}
use Rattle.slice_report.specs.Refusals.{refused_json}
use Rattle.slice_report.specs.RunReport.{told_json}
use Rattle.slice_report.specs.CoreReport.{core_json}
use Rattle.slice_report.specs.DemoReport.{demo_json}
use Rattle.slice_report.specs.declared.refusal.Refusal.{Refusal}
use Rattle.slice_report.specs.declared.refusal.Refusal.TheVariants.{Usage, GoalLimit, FormOverflow, ProverOverflow, PivotLimit, HeightLimit}
use Rattle.slice_top.specs.Certificates.{ChecksFile, RefusesCertificate, RefusesUpgrade, UpgradesFile, checked_status}
use Rattle.slice_top.specs.Commands.{Command, check, print, paths, verify, run, replay, certify, upgrade, demo}
use Rattle.slice_top.specs.Demos.{AcceptsReport, RefusesReport, last_line}
use Rattle.slice_top.specs.Statuses.{refused_status}
use Rattle.slice_top.specs.FilesRead.{IsFileOf, RefusesFile}
use Rattle.slice_top.specs.Programs.{RefusesText}
use Rattle.slice_top.specs.Cores.{IsCoreOf, RefusesCore}
use Rattle.slice_top.specs.Values.{RefusesValues, RefusesReplay}
use Rattle.slice_top.specs.Runs.{RefusesRun, told_status}
use Rattle.slice_top.specs.declared.status.Status.{Status}
use Rattle.slice_top.specs.declared.status.Status.TheVariants as status

-- what is written, one line or more, each with its LF, and a status
pub record Answer : Type 0 where
  pub text : List ℕ
  pub status : Status

abbrev pub answer_of : List ℕ → Status → Answer
answer_of text s = record { text = text; status = s }

abbrev pub one_line : Data → Status → Answer
one_line d s = answer_of (line_of d) s

abbrev pub refused : Refusal → Answer
refused r = one_line (refused_json r) (refused_status r)

-- ---- stages

-- a stage is refused for a cause, or it gives something, from which the answer follows
pub data Stage {X : Type 0} (Cause : Refusal → Type 0) (Gives : X → Type 0) (Next : X → Answer → Type 0) (a : Answer) : Type 0 where
  stops : (r : Refusal) → Cause r → a ≡ refused r → Stage Cause Gives Next a
  goes : (x : X) → Gives x → Next x a → Stage Cause Gives Next a

-- a file is read
abbrev pub WithFile : Option Files → List ℕ → (List ℕ → Answer → Type 0) → Answer → Type 0
WithFile told name Next = Stage (RefusesFile told name) (IsFileOf told name) Next

-- the protocol's file is read, and its text as a program
abbrev pub WithProgram : Option Files → List ℕ → (PlainProgram → Answer → Type 0) → Answer → Type 0
WithProgram told f Next = WithFile told f (λ text. Stage (RefusesText text) (IsProgramOf text) Next)

-- a text is read as a program, which is checked and expanded
abbrev pub OfText : List ℕ → (Core → Answer → Type 0) → Answer → Type 0
OfText text Next = Stage (RefusesText text) (IsProgramOf text) (λ p. Stage (RefusesCore p) (IsCoreOf p) Next)

-- the program is checked and expanded
abbrev pub WithCore : Option Files → List ℕ → (Core → Answer → Type 0) → Answer → Type 0
WithCore told f Next = WithProgram told f (λ p. Stage (RefusesCore p) (IsCoreOf p) Next)

-- ---- commands

-- `print F`: the program's canonical text
abbrev pub IsPrintAnswer : PlainProgram → Answer → Type 0
IsPrintAnswer p a = a ≡ answer_of (canonical_text p) status.Good

-- `check F`: the line of the core's counts
abbrev pub IsCheckAnswer : Core → Answer → Type 0
IsCheckAnswer core a = a ≡ one_line (core_json core) status.Good

-- a text, or a line, and then the rest of an answer
abbrev pub after_text : List ℕ → Answer → Answer
after_text out a = answer_of (out ++ a.text) a.status

abbrev pub after_line : Data → Answer → Answer
after_line d a = after_text (line_of d) a

-- a line for each goal that is ahead, where so many were given before, and then one of their count; or why a goal is refused
abbrev pub goals_answer : List Event → ℕ → Answer
goals_answer [] given = one_line (count_json given) status.Good
goals_answer (Breaks ∷ es) given = refused (FormOverflow given)
goals_answer (Meets t ∷ es) given =
    if nat_lt given goal_limit then (if t.fit then after_line (goal_json (goal_at given t)) (goals_answer es (given + 1)) else refused (FormOverflow given))
    else refused GoalLimit

-- `paths F`: the goals of the core
abbrev pub IsPathsAnswer : Core → Answer → Type 0
IsPathsAnswer core a = a ≡ goals_answer (events_of core) 0

-- the line of the counterexample that a solution of the goal's rows gives
abbrev pub counterexample_json : Core → Goal → List ℤ → Data
counterexample_json core g xs = counter_json g.number g.kind g.query (valuations_of core.agents (way_of core g.trace).cake xs) (answers_of (way_of core g.trace))

-- what a solution of the goal's rows comes to: the line of its counterexample; or that a height is above the greatest, the
-- first by agent and atom
pub data Counters (core : Core) (g : Goal) (xs : List ℤ) (a : Answer) : Type 0 where
  low : IsLow xs → a ≡ one_line (counterexample_json core g xs) status.Negative → Counters core g xs a
  high : (agent atom : ℕ) → IsFirstHigh core.agents (atom_count (way_of core g.trace).cake) xs agent atom → a ≡ refused (HeightLimit g.number agent atom) → Counters core g xs a

-- what closes a report at goal n, by the prover's answer on it: it is refuted, and its line is out, but covers more goals than
-- may be given; it is met by a counterexample; or it isn't decided
abbrev pub ClosesAt : Core → ℕ → Goal → List Event → ProverAnswer → Answer → Type 0
ClosesAt core n g later (RefutedBy m) a =
    (k : ℕ) × (mid : List Event) × LeadsTo core n g later (short_line core.agents n m) k mid × (goal_limit < k) × (a ≡ after_text (line_text (short_line core.agents n m)) (refused GoalLimit))
ClosesAt core n g later (SolvedBy xs) a = Counters core g xs a
ClosesAt core n g later AtLimit a = a ≡ refused (PivotLimit n)
ClosesAt core n g later (Unfit pivots row col) a = a ≡ refused (ProverOverflow n pivots row col)

-- what closes a report after lines that take n goals, by what comes next: the closing line; why no further goal is made; or
-- the goal, with the prover's answer on it
abbrev pub Closes : Core → ℕ → NextGoal → Answer → Type 0
Closes core n comes.NoMore a = a ≡ answer_of (line_text (Closing n)) status.Good
Closes core n comes.Overflows a = a ≡ refused (FormOverflow n)
Closes core n comes.OverLimit a = a ≡ refused GoalLimit
Closes core n (comes.Gives g later) a = (p : ProverAnswer) × IsProverAnswer g.rows pivot_limit p × ClosesAt core n g later p a

-- `verify F`: the header, a line for each goal in order that no line took before, and what closes the report
abbrev pub IsVerifyAnswer : Core → Answer → Type 0
IsVerifyAnswer core a =
    (ls : List Line) × (n : ℕ) × (ahead : List Event) × TakeFirst core ls n ahead
    × (b : Answer) × Closes core n (next_goal ahead n) b × (a ≡ after_text (joined (texts_after core ls)) b)

-- what is told of the run, or why it was given up
abbrev pub IsOutcome : Walked Told → Answer → Type 0
IsOutcome w = Stage (RefusesRun w) (λ (t : Told). w ≡ Good t) (λ t a. a ≡ one_line (told_json t) (told_status t))

-- the file's valuations are read, one for each agent, and the least run is told
abbrev pub TellsLeastRun : List ℕ → Core → Answer → Type 0
TellsLeastRun bytes core = Stage (RefusesValues bytes core.agents) (IsValuationFile bytes core.agents) (λ vs. IsOutcome (outcome vs core Least))

-- `run F V`: V is read, and the least run on its valuations is told
abbrev pub IsRunAnswer : Option Files → List ℕ → Core → Answer → Type 0
IsRunAnswer told v core = WithFile told v (λ bytes. TellsLeastRun bytes core)

-- the file's valuations and answers are read, and the run with these answers is told
abbrev pub TellsGivenRun : List ℕ → Core → Answer → Type 0
TellsGivenRun bytes core = Stage (RefusesReplay bytes core.agents) (λ (file : List Valuation × List CutAnswer). IsReplayFile bytes core.agents file.0 file.1) (λ file. IsOutcome (outcome file.0 core (Given file.1)))

-- `replay F V`: V is read, and the run on its valuations with its answers is told
abbrev pub IsReplayAnswer : Option Files → List ℕ → Core → Answer → Type 0
IsReplayAnswer told v core = WithFile told v (λ bytes. TellsGivenRun bytes core)

-- `certify F C`: what the checker says of C
abbrev pub IsCertifyAnswer : Option Files → List ℕ → Core → Answer → Type 0
IsCertifyAnswer told c core = Stage (RefusesCertificate told c core) (ChecksFile told c core) (λ (x : CertAnswer) a. a ≡ one_line (certify_json x) (checked_status x))

-- what ends the lines of `upgrade`: nothing where the certificate is accepted; what is wrong with it otherwise
abbrev pub upgrade_end : CertAnswer → Answer
upgrade_end (Accepted total) = answer_of [] status.Good
upgrade_end (Rejected r) = one_line (certify_json (Rejected r)) status.Negative

-- what follows the lines of `upgrade` that are all these bytes
abbrev pub EndsUpgrade : Option Files → List ℕ → Core → List ℕ → Answer → Type 0
EndsUpgrade told c core out = Stage (RefusesUpgrade told c core out) (UpgradesFile told c core out) (λ (x : CertAnswer) a. a ≡ upgrade_end x)

-- `upgrade F C`: lines of version 2, each when that of C is accepted, and what the checker says of C then
abbrev pub IsUpgradeAnswer : Option Files → List ℕ → Core → Answer → Type 0
IsUpgradeAnswer told c core a =
    (ls : List Line) × (b : Answer) × EndsUpgrade told c core (joined (map line_text ls)) b × (a ≡ after_text (joined (map line_text ls)) b)

-- the report of `verify` ends well, and is checked: how many bytes it has, and for how many goals it is accepted
abbrev pub CountsReport : Core → List ℕ → Answer → Type 0
CountsReport core report = Stage (RefusesReport core report) (AcceptsReport core report) (λ n a. a ≡ one_line (demo_json core n (length report)) status.Good)

-- what follows the report of `verify`: where it doesn't end well, its last line
abbrev pub AfterReport : Core → List ℕ → Status → Answer → Type 0
AfterReport core report status.Good a = CountsReport core report a
AfterReport core report s a = a ≡ answer_of (last_line report) s

-- `demo N`: the report of `verify` is made, and then checked as a certificate
abbrev pub IsDemoAnswer : Core → Answer → Type 0
IsDemoAnswer core a = (report : Answer) × (IsVerifyAnswer core report × AfterReport core report.text report.status a)

abbrev pub IsAnswerTo : Option Files → Command → Answer → Type 0
IsAnswerTo told (check f) = WithCore told f IsCheckAnswer
IsAnswerTo told (print f) = WithProgram told f IsPrintAnswer
IsAnswerTo told (paths f) = WithCore told f IsPathsAnswer
IsAnswerTo told (verify f) = WithCore told f IsVerifyAnswer
IsAnswerTo told (run f v) = WithCore told f (IsRunAnswer told v)
IsAnswerTo told (replay f v) = WithCore told f (IsReplayAnswer told v)
IsAnswerTo told (certify f c) = WithCore told f (IsCertifyAnswer told c)
IsAnswerTo told (upgrade f c) = WithCore told f (IsUpgradeAnswer told c)
IsAnswerTo told (demo n) = OfText (rounds_text n) IsDemoAnswer

-- the answer to the command of some words, if they are one
abbrev pub IsAnswer : Option Files → Option Command → Answer → Type 0
IsAnswer told None a = a ≡ refused Usage
IsAnswer told (Some c) a = IsAnswerTo told c a

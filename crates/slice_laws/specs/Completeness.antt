-- What each command answers where its files keep their forms, no limit is passed, and numbers fit.
use Rattle.std.specs.Prelude.{◌≡◌, ◌↔◌, ℕ, ◌<◌, ◌≤◌, ℤ, ⊤, List, [], ◌∷◌, ◌++◌, length, Some, None}
use Rattle.std.specs.List.{Contains}
use Rattle.slice_num.specs.Pieces.{joined}
use Rattle.slice_num.specs.Valuation.{Valuation, IsValuationList}
use Rattle.slice_num.specs.declared.cut_answer.CutAnswer.{CutAnswer}
use Rattle.slice_io.specs.Files.{Files, file_of}
use Rattle.slice_json.specs.Texts.{line_of}
use Rattle.slice_ast.specs.Code.{PlainProgram}
use Rattle.slice_ast.specs.Layout.{canonical_text}
use Rattle.slice_parse.specs.Laws.{IsProgramOf}
use Rattle.slice_core.specs.Tree.{Core}
use Rattle.slice_expand.specs.ProgramRun.{ProgramEnd, Done, Stuck, Few, Bad, Many}
use Rattle.slice_linear.specs.Rows.{LinearRow, width}
use Rattle.slice_paths.specs.Fronts.{cover_rows}
use Rattle.slice_paths.specs.Goals.{Goal, goals}
use Rattle.slice_paths.specs.declared.goal.GoalKind.{GoalKind}
use Rattle.slice_step.specs.ValuationFile.{IsValuationFile, IsReplayFile}
use Rattle.slice_run.specs.Walk.{Told, InRange, outcome, Least, Given}
use Rattle.slice_simplex.specs.ProverAnswer.{RunFits, IsEndSolution}
use Rattle.slice_cert.specs.CertLines.{line_text}
use Rattle.slice_cert.specs.declared.line.Line.{Line}
use Rattle.slice_cert.specs.declared.line.Line.TheVariants.{Header, Refutation, Cover, Closing}
use Rattle.slice_paths.specs.Coming.{coming_on}
use Rattle.slice_check.specs.Certificate.{Accepts, SaysLine, file_limit}
use Rattle.slice_check.specs.Faults.{Rejects}
use Rattle.slice_check.specs.Verdicts.{SumFits}
use Rattle.slice_check.specs.Upgrades.{RejectsVersion1, texts_of}
use Rattle.slice_check.specs.declared.answer.CertAnswer.TheVariants.{Accepted, Rejected}
use Rattle.slice_check.specs.declared.answer.Rejection.{Rejection}
use Rattle.slice_counter.specs.Counter.{IsLow}
use Rattle.slice_counter.specs.CounterLine.{counter_json}
use Rattle.slice_verify.specs.Report.{IsReached, pivot_limit}
use Rattle.slice_gen.specs.Rounds.{rounds_text}
use Rattle.slice_report.specs.CertifyReport.{certify_json}
use Rattle.slice_report.specs.CoreReport.{core_json}
use Rattle.slice_report.specs.DemoReport.{demo_json}
use Rattle.slice_report.specs.GoalReport.{count_json, goal_json}
use Rattle.slice_report.specs.RunReport.{told_json}
use Rattle.slice_top.specs.Answers.{Answer, IsAnswer, IsVerifyAnswer, after_text, answer_of, one_line}
use Rattle.slice_top.specs.Commands.{check, print, paths, verify, run, replay, certify, upgrade, demo}
use Rattle.slice_top.specs.Cores.{IsCoreOf}
use Rattle.slice_top.specs.FilesRead.{IsFileOf}
use Rattle.slice_top.specs.Found.{EndsAsTold}
use Rattle.slice_top.specs.Headline.{EveryRunIsFair, run_on}
use Rattle.slice_laws.specs.Laws.{IsToldOf, IsToldOfLeast}
use Rattle.slice_top.specs.Runs.{told_status}
use Rattle.slice_top.specs.Statuses.{IsWorked}
use Rattle.slice_top.specs.Turns.{HoldsProgram}
use Rattle.slice_top.specs.declared.status.Status.TheVariants as status

-- a file of that name is there, isn't too long, and spells this program, which keeps the rules and passes no limit of
-- expansion; this is its core
pub record HoldsProtocol (files : Files) (name : List ℕ) (program : PlainProgram) (core : Core) : Type 0 where
  pub text : List ℕ
  pub file : IsFileOf (Some files) name text
  pub spelled : IsProgramOf text program
  pub made : IsCoreOf program core

-- ---- `print F`, `check F`, `paths F`

-- the canonical text of the program
abbrev pub PrintGivesTheText : Type 0
PrintGivesTheText =
    (files : Files) (f : List ℕ) (p : PlainProgram) (a : Answer) → HoldsProgram (Some files) f p → IsAnswer (Some files) (Some (print f)) a → a ≡ answer_of (canonical_text p) status.Good

-- the counts of the core
abbrev pub CheckGivesTheCounts : Type 0
CheckGivesTheCounts =
    (files : Files) (f : List ℕ) (p : PlainProgram) (core : Core) (a : Answer) → HoldsProtocol files f p core → IsAnswer (Some files) (Some (check f)) a → a ≡ one_line (core_json core) status.Good

-- all goals of the core can be made: there are at most so many as may be, and the numbers of their forms and rows fit
abbrev pub CanBeMade : Core → Type 0
CanBeMade core = (coming_on core).fault ≡ None

-- a line for each goal
abbrev pub goal_lines : List Goal → List ℕ
goal_lines [] = []
goal_lines (g ∷ gs) = line_of (goal_json g) ++ goal_lines gs

-- all goals of the core in order, and how many they are
abbrev pub PathsGivesTheGoals : Type 0
PathsGivesTheGoals =
    (files : Files) (f : List ℕ) (p : PlainProgram) (core : Core) (a : Answer) → HoldsProtocol files f p core → CanBeMade core → IsAnswer (Some files) (Some (paths f)) a
    → a ≡ answer_of (goal_lines (goals core) ++ line_of (count_json (length (goals core)))) status.Good

-- ---- `run F V`, `replay F V`

-- on the valuations of the file, what is told of the least run, where no number stops it
abbrev pub RunTellsARunInRange : Type 0
RunTellsARunInRange =
    (files : Files) (f v bytes : List ℕ) (p : PlainProgram) (core : Core) (vs : List Valuation) (a : Answer) → HoldsProtocol files f p core → IsFileOf (Some files) v bytes → IsValuationFile bytes core.agents vs
    → InRange (outcome vs core Least) → IsAnswer (Some files) (Some (run f v)) a → (t : Told) × (IsToldOfLeast vs p t × (a ≡ one_line (told_json t) (told_status t)))

-- the answers make a run, which is done or stuck
abbrev pub MakeARun : ProgramEnd → Type 0
MakeARun (Done board) = ⊤
MakeARun (Stuck at board) = ⊤
MakeARun (Few query) = ⊥
MakeARun (Bad query) = ⊥
MakeARun Many = ⊥

-- on the valuations and with the answers of the file, what is told of that run, where no number stops it
abbrev pub ReplayTellsARunInRange : Type 0
ReplayTellsARunInRange =
    (files : Files) (f v bytes : List ℕ) (p : PlainProgram) (core : Core) (vs : List Valuation) (ys : List CutAnswer) (a : Answer) → HoldsProtocol files f p core → IsFileOf (Some files) v bytes
    → IsReplayFile bytes core.agents vs ys → MakeARun (run_on vs p ys) → InRange (outcome vs core (Given ys)) → IsAnswer (Some files) (Some (replay f v)) a
    → (t : Told) × (IsToldOf vs p ys t × (a ≡ one_line (told_json t) (told_status t)))

-- ---- `certify F C`

-- on each line that has a goal's number, the sums of its multipliers fit: over the goal's rows, or, on a line that covers
-- goals, over those behind its first passed choices
abbrev pub SumsFit : Core → List ℕ → Type 0
SumsFit core file =
    (i : ℕ) (g : Goal) (m : List ℤ) → Contains (goals core) g
    → (SaysLine file i (Refutation g.number m) → (unknown : ℕ) → unknown < width g.rows → SumFits g.rows m unknown)
    × ((passed : ℕ) (rows : List LinearRow) → SaysLine file i (Cover g.number passed m) → cover_rows core passed g.trace ≡ Some rows → (unknown : ℕ) → unknown < width rows → SumFits rows m unknown)

-- accepted, where the file is a certificate, of all goals; else rejected, for the first thing that is wrong with it
pub data Judges (core : Core) (file : List ℕ) (a : Answer) : Type 0 where
  accepted : Accepts core file → a ≡ one_line (certify_json (Accepted (length (goals core)))) status.Good → Judges core file a
  rejected : (Accepts core file → ⊥) → (r : Rejection) → Rejects core file r → a ≡ one_line (certify_json (Rejected r)) status.Negative → Judges core file a

abbrev pub CertifyJudges : Type 0
CertifyJudges =
    (files : Files) (f c bytes : List ℕ) (p : PlainProgram) (core : Core) (a : Answer) → HoldsProtocol files f p core → CanBeMade core → file_of c files ≡ Some bytes → length bytes ≤ file_limit → SumsFit core bytes
    → IsAnswer (Some files) (Some (certify f c)) a → Judges core bytes a

-- ---- `upgrade F C`

-- the file is a certificate of version 1
pub record IsVersion1Certificate (core : Core) (file : List ℕ) : Type 0 where
  pub accepts : Accepts core file
  pub header : SaysLine file 0 (Header 1 core.name core.agents)

-- the text is a certificate, and written in version 2: its header, lines that take goals, and the closing line
pub record IsUpgradedText (core : Core) (text : List ℕ) : Type 0 where
  pub accepts : Accepts core text
  pub lines : List Line
  pub total : ℕ
  pub written : text ≡ joined (texts_of core lines ++ line_text (Closing total) ∷ [])

-- where the file is a certificate of version 1, one of version 2 is written, and nothing else; else lines, and then the first
-- thing that is wrong with it
pub data JudgesUpgrade (core : Core) (file : List ℕ) (a : Answer) : Type 0 where
  upgraded : IsVersion1Certificate core file → IsUpgradedText core a.text → a.status ≡ status.Good → JudgesUpgrade core file a
  turned_down :
      (IsVersion1Certificate core file → ⊥) → (r : Rejection) → RejectsVersion1 core file r → (out : List ℕ) → a ≡ after_text out (one_line (certify_json (Rejected r)) status.Negative) → JudgesUpgrade core file a

-- where moreover C is within a certificate's limit, and the sums of its multipliers fit
abbrev pub UpgradeJudges : Type 0
UpgradeJudges =
    (files : Files) (f c bytes : List ℕ) (p : PlainProgram) (core : Core) (a : Answer) → HoldsProtocol files f p core → CanBeMade core → file_of c files ≡ Some bytes → length bytes ≤ file_limit → SumsFit core bytes
    → IsAnswer (Some files) (Some (upgrade f c)) a → JudgesUpgrade core bytes a

-- where `upgrade` ends well, whatever C holds and whatever fits, C is a certificate of version 1 of the program in F, and what was
-- written is one of version 2
abbrev pub UpgradedFilesAreCertificates : Type 0
UpgradedFilesAreCertificates =
    (files : Files) (f c : List ℕ) (a : Answer) → IsAnswer (Some files) (Some (upgrade f c)) a → a.status ≡ status.Good
    → (p : PlainProgram) × (core : Core) × (bytes : List ℕ) × HoldsProtocol files f p core × (file_of c files ≡ Some bytes) × IsVersion1Certificate core bytes × IsUpgradedText core a.text

-- ---- `verify F`

-- for each goal that comes after lines of `verify`, and so for none that a line takes beside its own, the pivot run on its rows
-- ends within the limit, its numbers fit, and so do those of its end solution, where it has one
abbrev pub RunsFit : Core → Type 0
RunsFit core = (ls : List Line) (g : Goal) → IsReached core ls g → RunFits g.rows pivot_limit

-- and no end solution has a height that is too great
abbrev pub HeightsFit : Core → Type 0
HeightsFit core = (ls : List Line) (g : Goal) (xs : List ℤ) → IsReached core ls g → IsEndSolution g.rows xs → IsLow xs

-- the program is shown to be fair, and the last line says so for all goals; or the last line is that of a counterexample, with
-- which a run of it ends as the line tells
pub data Decides (p : PlainProgram) (core : Core) (a : Answer) : Type 0 where
  fair : EveryRunIsFair p → (out : List ℕ) → a ≡ answer_of (out ++ line_text (Closing (length (goals core)))) status.Good → Decides p core a
  unfair :
      (goal : ℕ) (kind : GoalKind) (query : ℕ) (vs : List Valuation) (ys : List CutAnswer) → IsValuationList p.agents.value vs → EndsAsTold vs kind query (run_on vs p ys)
      → (out : List ℕ) → a ≡ answer_of (out ++ line_of (counter_json goal kind query vs ys)) status.Negative → Decides p core a

abbrev pub VerifyDecides : Type 0
VerifyDecides =
    (files : Files) (f : List ℕ) (p : PlainProgram) (core : Core) (a : Answer) → HoldsProtocol files f p core → CanBeMade core → RunsFit core → HeightsFit core
    → IsAnswer (Some files) (Some (verify f)) a → Decides p core a

-- where `verify` decides, it ends well exactly where every run of the program is fair
abbrev pub VerifyIsExact : Type 0
VerifyIsExact =
    (files : Files) (f text : List ℕ) (p : PlainProgram) (a : Answer) → IsFileOf (Some files) f text → IsProgramOf text p → IsAnswer (Some files) (Some (verify f)) a → IsWorked a.status
    → (a.status ≡ status.Good) ↔ EveryRunIsFair p

-- ---- `demo N`

-- the program is shown to be fair, the report of `verify` on it is a certificate, and the line says how many bytes it has and
-- that it is accepted for all goals; or the line is that of a counterexample, with which a run of the program ends as it tells
pub data Shows (p : PlainProgram) (core : Core) (report : List ℕ) (a : Answer) : Type 0 where
  certified : EveryRunIsFair p → Accepts core report → a ≡ one_line (demo_json core (length (goals core)) (length report)) status.Good → Shows p core report a
  countered :
      (goal : ℕ) (kind : GoalKind) (query : ℕ) (vs : List Valuation) (ys : List CutAnswer) → IsValuationList p.agents.value vs → EndsAsTold vs kind query (run_on vs p ys)
      → a ≡ one_line (counter_json goal kind query vs ys) status.Negative → Shows p core report a

-- where moreover the report is within a certificate's limit, and the sums of its multipliers fit
abbrev pub DemoDecides : Type 0
DemoDecides =
    (files : Files) (n : ℕ) (p : PlainProgram) (core : Core) (report a : Answer) → IsProgramOf (rounds_text n) p → IsCoreOf p core → CanBeMade core → RunsFit core → HeightsFit core
    → IsVerifyAnswer core report → length report.text ≤ file_limit → SumsFit core report.text → IsAnswer (Some files) (Some (demo n)) a → Shows p core report.text a

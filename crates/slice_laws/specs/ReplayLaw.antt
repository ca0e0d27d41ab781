-- What `replay` answers where its second file holds the line with which `verify` ends.
use Rattle.std.specs.Prelude.{◌≡◌, ℕ, List, [], ◌∷◌, ◌++◌, Some}
use Rattle.std.specs.List.{Contains}
use Rattle.slice_num.specs.Valuation.{Valuation}
use Rattle.slice_num.specs.declared.choice.Side.TheVariants as side
use Rattle.slice_num.specs.declared.cut_answer.CutAnswer.{CutAnswer}
use Rattle.slice_io.specs.Files.{Files, file_of}
use Rattle.slice_io.specs.Lines.{lines_of}
use Rattle.slice_json.specs.Texts.{line_of}
use Rattle.slice_ast.specs.Code.{PlainProgram}
use Rattle.slice_parse.specs.Laws.{IsProgramOf}
use Rattle.slice_core.specs.Tree.{Core}
use Rattle.slice_paths.specs.declared.goal.GoalKind.{GoalKind}
use Rattle.slice_paths.specs.declared.goal.GoalKind.TheVariants.{Low, High, Envy}
use Rattle.slice_run.specs.Walk.{Told, Divided, Halted, Good, Refused, outcome, Given}
use Rattle.slice_run.specs.declared.outcome.RunFault.TheVariants.{Overflow}
use Rattle.slice_counter.specs.CounterLine.{counter_json}
use Rattle.slice_report.specs.RunReport.{envy, told_json}
use Rattle.slice_report.specs.declared.refusal.Refusal.TheVariants.{RunOverflow}
use Rattle.slice_top.specs.Answers.{Answer, IsAnswer, one_line, refused}
use Rattle.slice_top.specs.Commands.{verify, replay}
use Rattle.slice_top.specs.Cores.{IsCoreOf}
use Rattle.slice_laws.specs.Laws.{IsToldOf}
use Rattle.slice_top.specs.declared.status.Status.TheVariants as status

-- the line, without its LF, is the last of the text
abbrev pub IsLastLine : List ℕ → List ℕ → Type 0
IsLastLine line text = (earlier : List (List ℕ)) × (lines_of text ≡ earlier ++ line ∷ [])

-- what is told is what the line of a counterexample says: that the run is stuck at that query, since less than nothing
-- was asked for or more than the piece is worth; or that the first agent envies the second
abbrev pub TellsOutcome : GoalKind → ℕ → Told → Type 0
TellsOutcome Low query (Halted queries at_query at) = (at_query ≡ query) × (at ≡ side.Low)
TellsOutcome High query (Halted queries at_query at) = (at_query ≡ query) × (at ≡ side.High)
TellsOutcome (Envy a b) query (Divided queries shares left values) = Contains (envy values) (a, b)
TellsOutcome kind query t = ⊥

-- the answer to a replay of that program's run, with these answers: negative, with the line of that run, which tells the
-- outcome; or that a number of that run doesn't fit
pub data Replays (p : PlainProgram) (core : Core) (vs : List Valuation) (ys : List CutAnswer) (kind : GoalKind) (query : ℕ) (b : Answer) : Type 0 where
  told : (t : Told) → outcome vs core (Given ys) ≡ Good t → IsToldOf vs p ys t → TellsOutcome kind query t → b ≡ one_line (told_json t) status.Negative → Replays p core vs ys kind query b
  unfit : (at : ℕ) → outcome vs core (Given ys) ≡ Refused (Overflow at) → b ≡ refused (RunOverflow at) → Replays p core vs ys kind query b

-- the bytes are the line, LF included, of a counterexample to the program in that file, and the answer is to a replay of it
pub record ReplaysLine (files : Files) (f bytes : List ℕ) (b : Answer) : Type 0 where
  pub text : List ℕ
  pub there : file_of f files ≡ Some text
  pub program : PlainProgram
  pub spelled : IsProgramOf text program
  pub core : Core
  pub made : IsCoreOf program core
  pub goal : ℕ
  pub kind : GoalKind
  pub query : ℕ
  pub valuations : List Valuation
  pub answers : List CutAnswer
  pub line : bytes ≡ line_of (counter_json goal kind query valuations answers)
  pub replays : Replays program core valuations answers kind query b

-- where `verify F` ends with a counterexample, and the file C holds the last line that it writes, `replay F C` answers so
abbrev pub ReplayTellsTheCounterexample : Type 0
ReplayTellsTheCounterexample =
    (files : Files) (f c line : List ℕ) (a b : Answer) → IsAnswer (Some files) (Some (verify f)) a → a.status ≡ status.Negative → IsLastLine line a.text → file_of c files ≡ Some (line ++ 10 ∷ [])
    → IsAnswer (Some files) (Some (replay f c)) b → ReplaysLine files f (line ++ 10 ∷ []) b

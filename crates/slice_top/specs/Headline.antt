-- What it means that every run of the protocol in a file is fair.
use Rattle.std.specs.Prelude.{◌≡◌, ℕ, ⊤, List, ◌++◌, length, Option, Some, None}
use Rattle.slice_num.specs.Pieces.{joined}
use Rattle.slice_num.specs.Valuation.{Valuation, IsValuationList}
use Rattle.slice_num.specs.declared.cut_answer.CutAnswer.{CutAnswer}
use Rattle.slice_io.specs.Files.{Files, file_of}
use Rattle.slice_ast.specs.Code.{PlainProgram}
use Rattle.slice_parse.specs.Laws.{IsTextOf}
use Rattle.slice_affine.specs.Rules.{MeetsRules}
use Rattle.slice_core.specs.Agents.{IsAgent}
use Rattle.slice_core.specs.Division.{AreDisjoint, IsEnvious}
use Rattle.slice_core.specs.Measures.{worth_of, length_of}
use Rattle.slice_core.specs.Run.{Board}
use Rattle.slice_expand.specs.ProgramRun.{ProgramEnd, Done, Stuck, Few, Bad, Many, run_program}
use Rattle.slice_top.specs.Commands.{Command, check, print, paths, verify, run, replay, certify, upgrade, demo}

-- the run of a program on these valuations, with these answers to its cuts
abbrev pub run_on : List Valuation → PlainProgram → List CutAnswer → ProgramEnd
run_on vs p ys = run_program (worth_of vs) p (length_of vs) ys

-- no agent values another's share above its own
abbrev pub NobodyEnvies : List Valuation → Board → Type 0
NobodyEnvies vs board = (a b : ℕ) → IsAgent (length vs) a → IsAgent (length vs) b → IsEnvious (worth_of vs) board.shares a b → ⊥

-- how a fair run ends: it isn't stuck; where it is done, no point lies in two stretches of the shares and of what is left, and
-- nobody envies. Where answers are wanting, one is wrong, or some remain, there is no run
abbrev pub IsFairEnd : List Valuation → ProgramEnd → Type 0
IsFairEnd vs (Done board) = AreDisjoint board.shares (joined board.pieces) × NobodyEnvies vs board
IsFairEnd vs (Stuck at board) = ⊥
IsFairEnd vs (Few query) = ⊤
IsFairEnd vs (Bad query) = ⊤
IsFairEnd vs Many = ⊤

abbrev pub IsDoneEnd : ProgramEnd → Type 0
IsDoneEnd (Done board) = ⊤
IsDoneEnd e = ⊥

-- on every list of valuations, one for each agent, of any size: every run is fair, however its cuts are answered; some answers
-- bring a run to its end; and a run that only wants an answer, so was answered rightly so far, can always be brought to its end
pub record EveryRunIsFair (p : PlainProgram) : Type 0 where
  pub fair : (vs : List Valuation) → IsValuationList p.agents.value vs → (ys : List CutAnswer) → IsFairEnd vs (run_on vs p ys)
  pub some : (vs : List Valuation) → IsValuationList p.agents.value vs → (ys : List CutAnswer) × IsDoneEnd (run_on vs p ys)
  pub on : (vs : List Valuation) → IsValuationList p.agents.value vs → (ys : List CutAnswer) (query : ℕ) → run_on vs p ys ≡ Few query
      → (more : List CutAnswer) × IsDoneEnd (run_on vs p (ys ++ more))

-- the text is that of a program that keeps the rules, and every run of it is fair
pub record IsFairText (text : List ℕ) : Type 0 where
  pub program : PlainProgram
  pub spelled : IsTextOf text program
  pub rules : MeetsRules program
  pub every : EveryRunIsFair program

-- a file of that name is there, with such a text
pub record HoldsFairProgram (files : Files) (name : List ℕ) : Type 0 where
  pub text : List ℕ
  pub there : file_of name files ≡ Some text
  pub fair : IsFairText text

-- the file whose protocol is shown to be fair where the command ends well
abbrev pub shown_file : Option Command → Option (List ℕ)
shown_file None = None
shown_file (Some (check f)) = None
shown_file (Some (print f)) = None
shown_file (Some (paths f)) = None
shown_file (Some (verify f)) = Some f
shown_file (Some (run f v)) = None
shown_file (Some (replay f v)) = None
shown_file (Some (certify f c)) = Some f
shown_file (Some (upgrade f c)) = Some f
shown_file (Some (demo n)) = None

-- how many rounds the protocol has that `demo` makes and decides
abbrev pub made_rounds : Option Command → Option ℕ
made_rounds None = None
made_rounds (Some (check f)) = None
made_rounds (Some (print f)) = None
made_rounds (Some (paths f)) = None
made_rounds (Some (verify f)) = None
made_rounds (Some (run f v)) = None
made_rounds (Some (replay f v)) = None
made_rounds (Some (certify f c)) = None
made_rounds (Some (upgrade f c)) = None
made_rounds (Some (demo n)) = Some n

-- What the answers to commands say of the protocol in the file: what `run` and `replay` tell is told of its runs, where
-- the goals that `paths` tells have no solution every run is fair, and each command has one answer.
use Rattle.std.specs.List.{All}
use Rattle.std.specs.Prelude.{◌≡◌, ℕ, ℤ, ⊤, List, [], ◌∷◌, ◌++◌, length, slice_get, take, Option, Some}
use Rattle.slice_num.specs.Pieces.{joined}
use Rattle.slice_num.specs.Valuation.{Valuation}
use Rattle.slice_num.specs.declared.cut_answer.CutAnswer.{CutAnswer}
use Rattle.slice_io.specs.Files.{Files}
use Rattle.slice_ast.specs.Code.{PlainProgram}
use Rattle.slice_parse.specs.Laws.{IsProgramOf}
use Rattle.slice_core.specs.Measures.{length_of}
use Rattle.slice_core.specs.Tree.{Core}
use Rattle.slice_expand.specs.ProgramRun.{ProgramEnd, Done, Stuck, Few, Bad, Many}
use Rattle.slice_linear.specs.Rows.{HaveNoSolution, Refutes}
use Rattle.slice_paths.specs.Goals.{Goal, goals}
use Rattle.slice_step.specs.Exact.{Precedes}
use Rattle.slice_step.specs.ValuationFile.{IsValuationFile, IsReplayFile}
use Rattle.slice_run.specs.Outcomes.{Divides}
use Rattle.slice_run.specs.RunLaws.{TellsValues}
use Rattle.slice_run.specs.Walk.{Told, Divided, Halted, Good, Refused, outcome, Least, Given}
use Rattle.slice_run.specs.declared.outcome.RunFault.{RunFault}
use Rattle.slice_run.specs.declared.outcome.RunFault.TheVariants as fault
use Rattle.slice_report.specs.EnvyLaws.{TellsEnvy}
use Rattle.slice_top.specs.Answers.{Answer, IsAnswer}
use Rattle.slice_top.specs.Commands.{Command}
use Rattle.slice_top.specs.Cores.{IsCoreOf}
use Rattle.slice_top.specs.Headline.{EveryRunIsFair, run_on}

-- ---- runs of the program

-- a run that ends so is told so: its queries, its shares and what is left; or its queries, and where and how it is stuck
abbrev pub TellsEnd : ProgramEnd → Told → Type 0
TellsEnd (Done board) (Divided queries shares left values) = (board.queries ≡ queries) × (board.shares ≡ shares) × (joined board.pieces ≡ left)
TellsEnd (Stuck at board) (Halted queries query side) = (board.queries ≡ queries) × (length board.queries ≡ query) × (at ≡ side)
TellsEnd e t = ⊥

-- this is told of the run with these answers, with its share-values and its envy; where it is done, shares and what is left
-- are disjoint and make up the cake
pub record IsToldOf (vs : List Valuation) (p : PlainProgram) (ys : List CutAnswer) (t : Told) : Type 0 where
  pub ends : TellsEnd (run_on vs p ys) t
  pub values : TellsValues vs t
  pub envy : TellsEnvy vs t
  pub division : Divides (length_of vs) t

-- the run was refused for a wrong answer
abbrev pub IsBadEnd : ProgramEnd → Type 0
IsBadEnd (Bad query) = ⊤
IsBadEnd e = ⊥

-- this is told of the least run: an answer in an earlier part of the piece, or at a smaller point of the same part, is
-- refused in the place of each of its answers
pub record IsToldOfLeast (vs : List Valuation) (p : PlainProgram) (t : Told) : Type 0 where
  pub answers : List CutAnswer
  pub told : IsToldOf vs p answers t
  pub least : (k : ℕ) (y z : CutAnswer) → slice_get answers k ≡ Some y → Precedes z y → IsBadEnd (run_on vs p (take k answers ++ z ∷ []))

-- the run was refused so; of a number that doesn't fit nothing is said
abbrev pub IsRefusedSo : RunFault → ProgramEnd → Type 0
IsRefusedSo (fault.Overflow query) e = ⊤
IsRefusedSo (fault.BadAnswer query) e = e ≡ Bad query
IsRefusedSo (fault.TooFewAnswers query) e = e ≡ Few query
IsRefusedSo fault.TooManyAnswers e = e ≡ Many
IsRefusedSo fault.Memory e = ⊥

-- ---- laws

-- what `run` tells is told of the least run of the program in the text
abbrev pub RunTellsTheLeastRun : Type 0
RunTellsTheLeastRun =
    (text bytes : List ℕ) (p : PlainProgram) (core : Core) (vs : List Valuation) (t : Told) → IsProgramOf text p → IsCoreOf p core → IsValuationFile bytes core.agents vs
    → outcome vs core Least ≡ Good t → IsToldOfLeast vs p t

-- `run` refuses no answer: only for a number that doesn't fit is it given up
abbrev pub RunStopsAtNumbers : Type 0
RunStopsAtNumbers =
    (text bytes : List ℕ) (p : PlainProgram) (core : Core) (vs : List Valuation) (f : RunFault) → IsProgramOf text p → IsCoreOf p core → IsValuationFile bytes core.agents vs
    → outcome vs core Least ≡ Refused f → (query : ℕ) × (f ≡ fault.Overflow query)

-- what `replay` tells is told of the run of the program with the answers in the file
abbrev pub ReplayTellsTheRun : Type 0
ReplayTellsTheRun =
    (text bytes : List ℕ) (p : PlainProgram) (core : Core) (vs : List Valuation) (ys : List CutAnswer) (t : Told) → IsProgramOf text p → IsCoreOf p core → IsReplayFile bytes core.agents vs ys
    → outcome vs core (Given ys) ≡ Good t → IsToldOf vs p ys t

-- and where it refuses an answer, that run is refused for it
abbrev pub ReplayRefusesTheRun : Type 0
ReplayRefusesTheRun =
    (text bytes : List ℕ) (p : PlainProgram) (core : Core) (vs : List Valuation) (ys : List CutAnswer) (f : RunFault) → IsProgramOf text p → IsCoreOf p core → IsReplayFile bytes core.agents vs ys
    → outcome vs core (Given ys) ≡ Refused f → IsRefusedSo f (run_on vs p ys)

-- where no goal of its core has rows with a solution, every run of the program in the text is fair
abbrev pub UnsolvedGoalsMeanFairRuns : Type 0
UnsolvedGoalsMeanFairRuns =
    (text : List ℕ) (p : PlainProgram) (core : Core) → IsProgramOf text p → IsCoreOf p core → All (λ (g : Goal). HaveNoSolution g.rows) (goals core) → EveryRunIsFair p

-- and where each goal's rows are refuted by some multipliers
abbrev pub RefutedGoalsMeanFairRuns : Type 0
RefutedGoalsMeanFairRuns =
    (text : List ℕ) (p : PlainProgram) (core : Core) → IsProgramOf text p → IsCoreOf p core → All (λ (g : Goal). (m : List ℤ) × Refutes g.rows m) (goals core) → EveryRunIsFair p

-- files and a command have one answer
abbrev pub AnswersAreUnique : Type 0
AnswersAreUnique = (files : Files) (c : Option Command) (a b : Answer) → IsAnswer (Some files) c a → IsAnswer (Some files) c b → a ≡ b

-- and have one, whatever the files hold
abbrev pub AnswersExist : Type 0
AnswersExist = (files : Files) (c : Option Command) → (a : Answer) × IsAnswer (Some files) c a

-- What a counterexample that is written shows.
use Rattle.std.specs.Prelude.{◌≡◌, ℕ, List, ◌++◌, length, Option, Some, None}
use Rattle.std.specs.List.{All}
use Rattle.slice_num.specs.Valuation.{Valuation, IsSmall, IsValuationList}
use Rattle.slice_num.specs.declared.cut_answer.CutAnswer.{CutAnswer}
use Rattle.slice_num.specs.declared.choice.Side.TheVariants as side
use Rattle.slice_io.specs.Files.{Files, file_of}
use Rattle.slice_io.specs.Told.{appended}
use Rattle.slice_json.specs.Texts.{line_of}
use Rattle.slice_ast.specs.Code.{PlainProgram}
use Rattle.slice_parse.specs.Laws.{IsTextOf}
use Rattle.slice_affine.specs.Rules.{MeetsRules}
use Rattle.slice_core.specs.Agents.{IsAgent}
use Rattle.slice_core.specs.Division.{IsEnvious}
use Rattle.slice_core.specs.Measures.{worth_of}
use Rattle.slice_paths.specs.declared.goal.GoalKind.{GoalKind}
use Rattle.slice_paths.specs.declared.goal.GoalKind.TheVariants.{Low, High, Envy}
use Rattle.slice_counter.specs.CounterLine.{counter_json}
use Rattle.slice_expand.specs.ProgramRun.{ProgramEnd, Done, Stuck}
use Rattle.slice_top.specs.Commands.{Command, check, print, paths, verify, run, replay, certify, upgrade, demo}
use Rattle.slice_top.specs.Headline.{run_on}

-- the run is stuck after so many queries, since less than nothing was asked for, or more than the piece is worth; or it is done
-- after so many, and the first agent values the other's share above its own
abbrev pub EndsAsTold : List Valuation → GoalKind → ℕ → ProgramEnd → Type 0
EndsAsTold vs Low query (Stuck at board) = (at ≡ side.Low) × (length board.queries ≡ query)
EndsAsTold vs High query (Stuck at board) = (at ≡ side.High) × (length board.queries ≡ query)
EndsAsTold vs (Envy a b) query (Done board) = IsAgent (length vs) a × IsAgent (length vs) b × IsEnvious (worth_of vs) board.shares a b × (length board.queries ≡ query)
EndsAsTold vs kind query e = ⊥

-- the text is that of a program that keeps the rules; what was written ends with the line of a counterexample: on its
-- valuations, within the bounds of files, and with its answers the run of the program ends as it tells. Of a sink that tells
-- nothing, nothing is said of what was written
pub record IsUnfairText (before after : Option (List ℕ)) (text : List ℕ) : Type 0 where
  pub program : PlainProgram
  pub spelled : IsTextOf text program
  pub rules : MeetsRules program
  pub valuations : List Valuation
  pub list : IsValuationList program.agents.value valuations
  pub small : All IsSmall valuations
  pub answers : List CutAnswer
  pub goal : ℕ
  pub kind : GoalKind
  pub query : ℕ
  pub ends : EndsAsTold valuations kind query (run_on valuations program answers)
  pub out : List ℕ
  pub told : after ≡ appended before (out ++ line_of (counter_json goal kind query valuations answers))

-- a file of that name is there, with such a text
pub record HoldsUnfairProgram (files : Files) (before after : Option (List ℕ)) (name : List ℕ) : Type 0 where
  pub text : List ℕ
  pub there : file_of name files ≡ Some text
  pub unfair : IsUnfairText before after text

-- the file whose protocol is met by a counterexample where the command ends so
abbrev pub met_file : Option Command → Option (List ℕ)
met_file None = None
met_file (Some (check f)) = None
met_file (Some (print f)) = None
met_file (Some (paths f)) = None
met_file (Some (verify f)) = Some f
met_file (Some (run f v)) = None
met_file (Some (replay f v)) = None
met_file (Some (certify f c)) = None
met_file (Some (upgrade f c)) = None
met_file (Some (demo n)) = None

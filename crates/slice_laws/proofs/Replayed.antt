-- What `replay` answers to the line of a counterexample.
use Rattle.std.proofs.Common.{◌≡◌, ◌∙◌, ℕ, ◌≤◌, List, [], ◌∷◌, ◌++◌, length, map, Option, Some, refl, sym, ap, subst, arith}
use Rattle.std.proofs.lemmas.List.{length-map}
use Rattle.serde_json.specs.Data.{Data}
use Rattle.serde_json.specs.Written.{compact_text}
use Rattle.slice_io.proofs.Gathering.{lines_joined}
use Rattle.slice_json.proofs.LineEnds.{no_end_in_text}
use Rattle.slice_core.specs.Division.{IsEnvious}
use Rattle.slice_num.specs.Valuation.{Valuation, share_value}
use Rattle.slice_num.specs.declared.choice.Side.TheVariants as side
use Rattle.slice_num.specs.declared.cut_answer.CutAnswer.{CutAnswer}
use Rattle.slice_io.specs.Files.{Files, file_of, IsFile}
use Rattle.slice_io.specs.Lines.{lines_of}
use Rattle.slice_json.specs.Texts.{line_of}
use Rattle.slice_ast.specs.Code.{PlainProgram}
use Rattle.slice_parse.specs.Laws.{IsProgramOf, ReadProgramsAreUnique}
use Rattle.slice_core.specs.Agents.{IsAgent}
use Rattle.slice_core.specs.Measures.{worth_of}
use Rattle.slice_core.specs.Run.{Ending, Done, Stuck, Few, Bad, Many}
use Rattle.slice_core.specs.Tree.{Core}
use Rattle.slice_core.specs.WellFormed.{IsWellFormed}
use Rattle.slice_paths.specs.Goals.{Goal}
use Rattle.slice_paths.specs.RunLaws.{EndsAs}
use Rattle.slice_paths.specs.Ways.{way_of}
use Rattle.slice_paths.specs.declared.goal.GoalKind.{GoalKind}
use Rattle.slice_paths.specs.declared.goal.GoalKind.TheVariants.{Low, High, Envy}
use Rattle.slice_expand.specs.Expansion.{core_of}
use Rattle.slice_simplex.proofs.EndFacts.{solution_solves}
use Rattle.slice_step.specs.ValuationFile.{IsReplayFile}
use Rattle.slice_run.specs.RunLaws.{IsTold, Tells, TellsValues}
use Rattle.slice_run.specs.RunLaws.{run_on as core_run_on}
use Rattle.slice_run.specs.Walk.{Told, Divided, Halted, Walked, Good, Refused, outcome, Given}
use Rattle.slice_run.specs.declared.outcome.RunFault.{RunFault}
use Rattle.slice_run.specs.declared.outcome.RunFault.TheVariants as fault
use Rattle.slice_counter.specs.Counter.{EndGoesTo, valuations_of, answers_of}
use Rattle.slice_counter.specs.CounterLine.{counter_json}
use Rattle.slice_counter.proofs.ClosingReplays.{closing_lines_replay}
use Rattle.slice_counter.proofs.Unfair.{envious_are_agents}
use Rattle.slice_report.specs.RunReport.{told_json}
use Rattle.slice_report.specs.declared.refusal.Refusal.TheVariants as refusal
use Rattle.slice_report.proofs.TellsEnvy.{tells_envy}
use Rattle.slice_top.specs.Answers.{Answer, Stage, stops, goes, refused, one_line, WithCore, IsAnswer, IsVerifyAnswer, IsOutcome}
use Rattle.slice_top.specs.Commands.{replay}
use Rattle.slice_top.specs.Cores.{IsCoreOf, RefusesCore}
use Rattle.slice_top.specs.FilesRead.{IsFileOf, limit}
use Rattle.slice_top.specs.Programs.{RefusesText}
use Rattle.slice_laws.specs.ReplayLaw.{IsLastLine, TellsOutcome, Replays, told, unfit, ReplaysLine, ReplayTellsTheCounterexample}
use Rattle.slice_top.specs.Runs.{told_status}
use Rattle.slice_top.specs.declared.status.Status.TheVariants as status
use Rattle.slice_laws.proofs.EnvyPairs.{pair_told, pair_negative}
use Rattle.slice_top.proofs.Good.{there_is}
use Rattle.slice_top.proofs.MetRuns.{IsMet, met, counterexample_of, refused_not_negative}
use Rattle.slice_top.proofs.SomeDecisions.{long_solution}
use Rattle.slice_top.proofs.CoreRuns.{core_formed}
use Rattle.slice_laws.proofs.ToldRuns.{given_said, replay_tells}
use Rattle.slice_laws.proofs.UniqueAnswers.{answer_unique}

-- ---- the last line

last_same : (xs ys : List (List ℕ)) (x y : List ℕ) → xs ++ x ∷ [] ≡ ys ++ y ∷ [] → x ≡ y
last_same [] [] x y e = cc
last_same [] (z ∷ []) x y e = let bad : [] ≡ y ∷ [] = cc in cc
last_same [] (z ∷ w ∷ ys) x y e = let bad : [] ≡ w ∷ (ys ++ y ∷ []) = cc in cc
last_same (z ∷ []) [] x y e = let bad : x ∷ [] ≡ [] = cc in cc
last_same (z ∷ w ∷ xs) [] x y e = let bad : w ∷ (xs ++ x ∷ []) ≡ [] = cc in cc
last_same (z ∷ xs) (w ∷ ys) x y e = last_same xs ys x y (let f : xs ++ x ∷ [] ≡ ys ++ y ∷ [] = cc in f)

-- a line alone
alone : (d : Data) → lines_of (line_of d) ≡ compact_text d ∷ []
alone d = lines_joined (compact_text d) [] (no_end_in_text d)

-- ---- what is told of a counterexample's run

-- of its end; the status is negative then
module _ (vs : List Valuation) (n query : ℕ) (g : Goal) where
  tells_so : (kind : GoalKind) (e : Ending) (t : Told) → length vs ≡ n → EndGoesTo g e → EndsAs (worth_of vs) kind e → g.query ≡ query → ((a b : ℕ) → kind ≡ Envy a b → IsAgent n a × IsAgent n b)
      → Tells e t → TellsValues vs t → TellsOutcome kind query t × (told_status t ≡ status.Negative)
  tells_so (Envy a b) (Done s) (Divided queries shares left values) q went ends e agents tells is =
      let there = agents a b refl in
      let many : length values ≡ n = ap length is ∙ length-map vs (λ v. map (share_value v) shares) ∙ q in
      let envious = subst (λ x. IsEnvious (worth_of vs) x a b) tells.1 ends in
      let told = (tells_envy vs (Divided queries shares left values) is a b (there.0).0 (omega (arith, (there.0).1, q))).1 envious in
      let pair = pair_told values a b (there.0).0 (omega (arith, (there.0).1, many)) (there.1).0 (omega (arith, (there.1).1, many)) told in
      (pair, pair_negative _ (a, b) pair)
  tells_so (Envy a b) (Done s) (Halted queries at_query at) q went ends e agents tells is = absurd tells
  tells_so Low (Done s) t q went ends e agents tells is = absurd ends
  tells_so High (Done s) t q went ends e agents tells is = absurd ends
  tells_so kind (Stuck at s) (Divided queries shares left values) q went ends e agents tells is = absurd tells
  tells_so Low (Stuck side.Low s) (Halted queries at_query at) q went ends e agents tells is = ((sym tells.1 ∙ went.1 ∙ e, sym tells.2), refl)
  tells_so Low (Stuck side.High s) (Halted queries at_query at) q went ends e agents tells is = absurd cc
  tells_so High (Stuck side.Low s) (Halted queries at_query at) q went ends e agents tells is = absurd cc
  tells_so High (Stuck side.High s) (Halted queries at_query at) q went ends e agents tells is = ((sym tells.1 ∙ went.1 ∙ e, sym tells.2), refl)
  tells_so (Envy a b) (Stuck side.Low s) (Halted queries at_query at) q went ends e agents tells is = absurd cc
  tells_so (Envy a b) (Stuck side.High s) (Halted queries at_query at) q went ends e agents tells is = absurd cc
  tells_so kind (Few k) t q went ends e agents tells is = absurd went
  tells_so kind (Bad k) t q went ends e agents tells is = absurd went
  tells_so kind Many t q went ends e agents tells is = absurd went

-- only a number stops it
only_overflow : (vs : List Valuation) (g : Goal) (e : Ending) (f : RunFault) → EndGoesTo g e → IsTold vs e (Refused f) → (at : ℕ) × (f ≡ fault.Overflow at)
only_overflow vs g e (fault.Overflow at) went h = (at, refl)
only_overflow vs g e (fault.BadAnswer at) went h = absurd (subst (EndGoesTo g) h went)
only_overflow vs g e (fault.TooFewAnswers at) went h = absurd (subst (EndGoesTo g) h went)
only_overflow vs g e fault.TooManyAnswers went h = absurd (subst (EndGoesTo g) h went)
only_overflow vs g e fault.Memory went h = absurd h

-- ---- the answer

module _ (once : ReadProgramsAreUnique) (files : Files) (f c line : List ℕ) (b : Answer) (holds : file_of c files ≡ Some (line ++ 10 ∷ [])) (answers : IsAnswer (Some files) (Some (replay f c)) b) where
  module _ (text : List ℕ) (file : IsFileOf (Some files) f text) (p : PlainProgram) (is : IsProgramOf text p) (core : Core) (made : IsCoreOf p core) where
    -- the answer that goes on so is the only one
    answered : (a : Answer) (vs : List Valuation) (ys : List CutAnswer) → length (line ++ 10 ∷ []) ≤ limit → IsReplayFile (line ++ 10 ∷ []) core.agents vs ys → IsOutcome (outcome vs core (Given ys)) a → b ≡ a
    answered a vs ys short said out =
        let there : IsFile (Some (file_of c files)) (line ++ 10 ∷ []) = subst (λ (o : Option (List ℕ)). IsFile (Some o) (line ++ 10 ∷ [])) (sym holds) refl in
        let whole : IsAnswer (Some files) (Some (replay f c)) a = goes text file (goes p is (goes core made (goes (line ++ 10 ∷ []) (record { there = there; short = short }) (goes (vs, ys) said out)))) in
        answer_unique once files (Some (replay f c)) b a answers whole

    of_walk : (w : Walked Told) (vs : List Valuation) (ys : List CutAnswer) (g : Goal) (e : Ending) → outcome vs core (Given ys) ≡ w → IsTold vs e w → EndGoesTo g e → EndsAs (worth_of vs) g.kind e → length vs ≡ core.agents
        → ((a b : ℕ) → g.kind ≡ Envy a b → IsAgent core.agents a × IsAgent core.agents b) → length (line ++ 10 ∷ []) ≤ limit → IsReplayFile (line ++ 10 ∷ []) core.agents vs ys → Replays p core vs ys g.kind g.query b
    of_walk (Good t) vs ys g e is_w h went ends many agents short said =
        let so = tells_so vs core.agents g.query g g.kind e t many went ends refl agents h.0 h.1 in
        let same = answered (one_line (told_json t) (told_status t)) vs ys short said (goes t is_w refl) in
        told t is_w (replay_tells text (line ++ 10 ∷ []) p core vs ys t is made said is_w) so.0 (same ∙ ap (one_line (told_json t)) so.1)
    of_walk (Refused x) vs ys g e is_w h went ends many agents short said =
        let only = only_overflow vs g e x went h in
        let is_o : outcome vs core (Given ys) ≡ Refused (fault.Overflow only.0) = is_w ∙ ap Refused only.1 in
        unfit only.0 is_o (answered (refused (refusal.RunOverflow only.0)) vs ys short said (stops (refusal.RunOverflow only.0) (fault.Overflow only.0, (refl, is_o)) refl))

    of_met : (written : List ℕ) → IsMet core written → IsLastLine line written → ReplaysLine files f (line ++ 10 ∷ []) b
    of_met written m last =
        let formed : IsWellFormed core = subst IsWellFormed (sym made.same) (core_formed text p core is made) in
        let vs = valuations_of core.agents (way_of core m.g.trace).cake m.xs in
        let ys = answers_of (way_of core m.g.trace) in
        let d = counter_json m.g.number m.g.kind m.g.query vs ys in
        let counter = counterexample_of core written formed m in
        let lines : lines_of written ≡ m.before ++ compact_text d ∷ [] = ap lines_of m.told ∙ m.lines (line_of d) ∙ ap (λ ls. m.before ++ ls) (alone d) in
        let same : line ≡ compact_text d = last_same last.0 m.before line (compact_text d) (sym last.1 ∙ lines) in
        let whole : line ++ 10 ∷ [] ≡ line_of d = ap (λ l. l ++ 10 ∷ []) same in
        let back = closing_lines_replay core m.g m.xs formed m.is_goal (omega (arith, m.few)) (long_solution core m.g m.xs m.is_goal m.rows m.solved) m.small (solution_solves m.g.rows m.xs m.solved.0).solves in
        let said = subst (λ bytes. IsReplayFile bytes core.agents vs ys) (sym whole) back.file in
        let short : length (line ++ 10 ∷ []) ≤ limit = omega (arith, ap length whole, back.short) in
        let e = core_run_on vs (core_of p) ys in
        let run : core_run_on vs core ys ≡ e = ap (λ k. core_run_on vs k ys) made.same in
        record {
          text = text;
          there = there_is (file_of f files) text file.there;
          program = p;
          spelled = is;
          core = core;
          made = made;
          goal = m.g.number;
          kind = m.g.kind;
          query = m.g.query;
          valuations = vs;
          answers = ys;
          line = whole;
          replays = of_walk (outcome vs core (Given ys)) vs ys m.g e refl (given_said text (line ++ 10 ∷ []) p core vs ys is made said) (subst (EndGoesTo m.g) run counter.goes) (subst (EndsAs (worth_of vs) m.g.kind) run counter.ends) counter.valuations.one_each
              (envious_are_agents core m.g m.is_goal) short said;
        }

  module _ (a : Answer) (negative : a.status ≡ status.Negative) (last : IsLastLine line a.text) where
    of_program : (text : List ℕ) (p : PlainProgram) → IsFileOf (Some files) f text → IsProgramOf text p → Stage (RefusesCore p) (IsCoreOf p) IsVerifyAnswer a → ReplaysLine files f (line ++ 10 ∷ []) b
    of_program text p file is (stops r h e) = absurd (refused_not_negative r a e negative)
    of_program text p file is (goes core made next) = of_met text file p is core made a.text (met core a next negative) last

    of_text : (text : List ℕ) → IsFileOf (Some files) f text → Stage (RefusesText text) (IsProgramOf text) (λ p. Stage (RefusesCore p) (IsCoreOf p) IsVerifyAnswer) a → ReplaysLine files f (line ++ 10 ∷ []) b
    of_text text file (stops r h e) = absurd (refused_not_negative r a e negative)
    of_text text file (goes p is next) = of_program text p file is next

    of_file : WithCore (Some files) f IsVerifyAnswer a → ReplaysLine files f (line ++ 10 ∷ []) b
    of_file (stops r h e) = absurd (refused_not_negative r a e negative)
    of_file (goes text file next) = of_text text file next

pub replayed : ReadProgramsAreUnique → ReplayTellsTheCounterexample
replayed once files f c line a b verified negative last holds answers = of_file once files f c line b holds answers a negative last verified

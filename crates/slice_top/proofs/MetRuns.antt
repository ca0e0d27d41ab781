-- Where `verify` or `demo` ends with a counterexample, the run that it tells ends so.
use Rattle.std.proofs.Common.{◌≡◌, ◌∙◌, ap, sym, subst, ℕ, ◌<◌, List, [], ◌∷◌, ◌++◌, length, map, append_assoc, Option, Some, None, refl, arith}
use Rattle.std.specs.Prelude.{ℤ, IfSome, Bool, true, false, if◌then◌else◌}
use Rattle.std.specs.List.{All, Contains}
use Rattle.slice_num.specs.Pieces.{joined}
use Rattle.slice_num.specs.Valuation.{Valuation, IsSmall, IsValuationList}
use Rattle.slice_num.specs.declared.cut_answer.CutAnswer.{CutAnswer}
use Rattle.slice_num.specs.declared.choice.Side.TheVariants as side
use Rattle.slice_io.specs.Files.{Files, file_of}
use Rattle.slice_io.specs.Told.{appended}
use Rattle.slice_json.specs.Texts.{line_of}
use Rattle.slice_ast.specs.Code.{PlainProgram}
use Rattle.slice_parse.specs.Laws.{IsProgramOf}
use Rattle.slice_core.specs.Agents.{IsAgent}
use Rattle.slice_core.specs.Measures.{worth_of}
use Rattle.slice_core.specs.Run.{Ending, Done, Stuck, Few, Bad, Many}
use Rattle.slice_core.specs.Tree.{Core}
use Rattle.slice_core.specs.WellFormed.{IsWellFormed}
use Rattle.slice_linear.specs.Rows.{AreRowsOver, width}
use Rattle.slice_paths.specs.Events.{Event, NextGoal, Gives, NoMore, Overflows, OverLimit, next_goal}
use Rattle.slice_paths.specs.Goals.{Goal, goals}
use Rattle.slice_paths.specs.RunLaws.{EndsAs}
use Rattle.slice_paths.specs.Ways.{way_of}
use Rattle.slice_paths.specs.declared.goal.GoalKind.{GoalKind}
use Rattle.slice_paths.specs.declared.goal.GoalKind.TheVariants.{Low, High, Envy}
use Rattle.slice_simplex.specs.ProverAnswer.{ProverAnswer, IsProverAnswer, RefutedBy, SolvedBy, AtLimit, Unfit}
use Rattle.slice_simplex.proofs.EndFacts.{solution_solves}
use Rattle.serde_json.specs.Data.{Data}
use Rattle.serde_json.specs.Written.{compact_text}
use Rattle.slice_io.specs.Lines.{lines_of}
use Rattle.slice_io.proofs.Gathering.{lines_joined}
use Rattle.slice_json.proofs.LineEnds.{no_end_in_text}
use Rattle.slice_cert.specs.CertLines.{line_json, line_text}
use Rattle.slice_cert.specs.declared.line.Line.{Line}
use Rattle.slice_cert.specs.declared.line.Line.TheVariants.{Header}
use Rattle.slice_counter.specs.Counter.{IsLow, IsCounterexample, EndGoesTo, valuations_of, answers_of}
use Rattle.slice_counter.specs.CounterLine.{counter_json}
use Rattle.slice_counter.proofs.Counters.{solutions_give_counterexamples}
use Rattle.slice_counter.proofs.Unfair.{envious_are_agents}
use Rattle.slice_expand.specs.Expansion.{core_of}
use Rattle.slice_expand.specs.Kept.{without_trace}
use Rattle.slice_gen.specs.Rounds.{rounds_text}
use Rattle.slice_run.specs.RunLaws.{run_on as core_run_on}
use Rattle.slice_verify.specs.Report.{pivot_limit, texts_after}
use Rattle.slice_report.specs.declared.refusal.Refusal.{Refusal}
use Rattle.slice_report.specs.declared.refusal.Refusal.TheVariants.{Usage, ReadFault}
use Rattle.slice_report.specs.declared.refusal.Refusal.TheVariants as refusal
use Rattle.slice_top.specs.Answers.{Answer, Stage, stops, goes, refused, after_text, OfText, WithCore, IsAnswer, low, high, Closes, ClosesAt, IsVerifyAnswer, counterexample_json, AfterReport, IsDemoAnswer}
use Rattle.slice_top.specs.Commands.{Command, check, print, paths, verify, run, replay, certify, upgrade, demo}
use Rattle.slice_top.specs.Cores.{IsCoreOf, RefusesCore}
use Rattle.slice_top.specs.Demos.{last_line}
use Rattle.slice_top.specs.Found.{EndsAsTold, HoldsUnfairProgram, IsUnfairText, met_file}
use Rattle.slice_top.specs.Headline.{made_rounds, run_on}
use Rattle.slice_top.specs.Reports.{answered, unread, starved, Report, whole, cut, Reports}
use Rattle.slice_top.specs.Statuses.{is_limit, refused_status}
use Rattle.slice_top.specs.declared.status.Status.{Status}
use Rattle.slice_top.specs.declared.status.Status.TheVariants as status
use Rattle.slice_top.proofs.Good.{there_is}
use Rattle.slice_top.proofs.LastLines.{line_behind_is_last}
use Rattle.slice_top.proofs.SomeDecisions.{long_solution}
use Rattle.slice_top.proofs.Taking.{Stands, comes, took_first}
use Rattle.slice_top.proofs.CoreRuns.{core_formed, kept}

-- ---- how the run ends

told_end : (vs : List Valuation) (n query : ℕ) (g : Goal) (kind : GoalKind) (e : Ending) → length vs ≡ n → EndGoesTo g e → EndsAs (worth_of vs) kind e → g.query ≡ query → ((a b : ℕ) → kind ≡ Envy a b → IsAgent n a × IsAgent n b)
    → EndsAsTold vs kind query (without_trace e)
told_end vs n query g (Envy a b) (Done s) q went ends e agents =
    let is = agents a b refl in (subst (λ m. IsAgent m a) (sym q) is.0, subst (λ m. IsAgent m b) (sym q) is.1, ends, went.1 ∙ e)
told_end vs n query g Low (Done s) q went ends e agents = absurd ends
told_end vs n query g High (Done s) q went ends e agents = absurd ends
told_end vs n query g Low (Stuck side.Low s) q went ends e agents = (refl, went.1 ∙ e)
told_end vs n query g Low (Stuck side.High s) q went ends e agents = absurd cc
told_end vs n query g High (Stuck side.Low s) q went ends e agents = absurd cc
told_end vs n query g High (Stuck side.High s) q went ends e agents = (refl, went.1 ∙ e)
told_end vs n query g (Envy a b) (Stuck side.Low s) q went ends e agents = absurd cc
told_end vs n query g (Envy a b) (Stuck side.High s) q went ends e agents = absurd cc
told_end vs n query g kind (Few k) q went ends e agents = absurd went
told_end vs n query g kind (Bad k) q went ends e agents = absurd went
told_end vs n query g kind Many q went ends e agents = absurd went

-- ---- the goal with a counterexample

limit_not_negative : (b : Bool) → (if b then status.Limit else status.Refused) ≡ status.Negative → ⊥
limit_not_negative true e = cc
limit_not_negative false e = cc

refusal_not_negative : (r : Refusal) → refused_status r ≡ status.Negative → ⊥
refusal_not_negative Usage e = cc
refusal_not_negative (ReadFault file) e = cc
refusal_not_negative r e = limit_not_negative (is_limit r) e

pub refused_not_negative : (r : Refusal) (a : Answer) → a ≡ refused r → a.status ≡ status.Negative → ⊥
refused_not_negative r a e negative = refusal_not_negative r (sym (ap (λ (x : Answer). x.status) e) ∙ negative)

-- a line, and the lines of what follows
lines_then : (d : Data) (rest : List ℕ) → lines_of (line_of d ++ rest) ≡ compact_text d ∷ lines_of rest
lines_then d rest = ap lines_of (append_assoc (compact_text d) (10 ∷ []) rest) ∙ lines_joined (compact_text d) rest (no_end_in_text d)

-- the goal, a solution of its rows, and the lines before that of its counterexample
pub record IsMet (core : Core) (text : List ℕ) : Type 0 where
  pub g : Goal
  pub is_goal : Contains (goals core) g
  pub few : g.number < 1000000
  pub rows : AreRowsOver (width g.rows) g.rows
  pub xs : List ℤ
  pub solved : IsProverAnswer g.rows pivot_limit (SolvedBy xs)
  pub small : IsLow xs
  pub out : List ℕ
  pub told : text ≡ out ++ line_of (counterexample_json core g xs)
  pub before : List (List ℕ)
  pub lines : (rest : List ℕ) → lines_of (out ++ rest) ≡ before ++ lines_of rest

-- the lines of a report, and of what follows them
all_lines : (ls : List Line) (rest : List ℕ) → lines_of (joined (map line_text ls) ++ rest) ≡ map (λ (l : Line). compact_text (line_json l)) ls ++ lines_of rest
all_lines [] rest = refl
all_lines (l ∷ ls) rest =
    let later = joined (map line_text ls) in
    ap lines_of (append_assoc (line_text l) later rest) ∙ lines_then (line_json l) (later ++ rest) ∙ ap (λ ts. compact_text (line_json l) ∷ ts) (all_lines ls rest)

-- only a counterexample closes a report so
module _ (core : Core) (ls : List Line) (n : ℕ) (ahead : List Event) (s : Stands core n ahead) (a b : Answer) (told : a ≡ after_text (joined (texts_after core ls)) b) where
  met_at : (g : Goal) (later : List Event) → next_goal ahead n ≡ Gives g later → (p : ProverAnswer) → IsProverAnswer g.rows pivot_limit p → ClosesAt core n g later p b → b.status ≡ status.Negative → IsMet core a.text
  met_at g later e (RefutedBy m) is c negative = absurd (refusal_not_negative refusal.GoalLimit (sym (ap (λ (x : Answer). x.status) c.4) ∙ negative))
  met_at g later e (SolvedBy xs) is (low small line) negative =
      let c = comes core n ahead g later s e in
      let before : List Line = Header 2 core.name core.agents ∷ ls in
      let number = c.first.number in
      let few = c.first.few in
      record {
        g = g;
        is_goal = c.is_goal;
        few = omega (arith, number, few);
        rows = c.rows;
        xs = xs;
        solved = is;
        small = small;
        out = joined (texts_after core ls);
        told = ap (λ (x : Answer). x.text) told ∙ ap (λ (x : Answer). joined (texts_after core ls) ++ x.text) line;
        before = map (λ (l : Line). compact_text (line_json l)) before;
        lines = all_lines before;
      }
  met_at g later e (SolvedBy xs) is (high agent atom h line) negative = absurd (refused_not_negative (refusal.HeightLimit g.number agent atom) b line negative)
  met_at g later e AtLimit is c negative = absurd (refused_not_negative (refusal.PivotLimit n) b c negative)
  met_at g later e (Unfit pivots row col) is c negative = absurd (refused_not_negative (refusal.ProverOverflow n pivots row col) b c negative)

  met_next : (x : NextGoal) → next_goal ahead n ≡ x → Closes core n x b → b.status ≡ status.Negative → IsMet core a.text
  met_next NoMore e c negative = absurd (let bad : status.Good ≡ status.Negative = sym (ap (λ (x : Answer). x.status) c) ∙ negative in cc)
  met_next Overflows e c negative = absurd (refused_not_negative (refusal.FormOverflow n) b c negative)
  met_next OverLimit e c negative = absurd (refused_not_negative refusal.GoalLimit b c negative)
  met_next (Gives g later) e c negative = met_at g later e c.0 c.1 c.2 negative

pub met : (core : Core) (a : Answer) → IsVerifyAnswer core a → a.status ≡ status.Negative → IsMet core a.text
met core a (ls, n, ahead, taken, b, c, e) negative =
    met_next core ls n ahead (took_first core ls n ahead taken).stands a b e (next_goal ahead n) refl c (sym (ap (λ (x : Answer). x.status) e) ∙ negative)

-- ---- its run

-- of a report that is made and checked, its last line alone is told
after_negative : (core : Core) (report : List ℕ) (s : Status) (a : Answer) → AfterReport core report s a → a.status ≡ status.Negative → (s ≡ status.Negative) × (a.text ≡ last_line report)
after_negative core report status.Good a (stops r h e) negative = absurd (refused_not_negative r a e negative)
after_negative core report status.Good a (goes n h e) negative = let bad : status.Good ≡ status.Negative = sym (ap (λ (x : Answer). x.status) e) ∙ negative in absurd cc
after_negative core report s a e negative = (sym (ap (λ (x : Answer). x.status) e) ∙ negative, ap (λ (x : Answer). x.text) e)

-- what is written ends with the line of the counterexample
last_met : (core : Core) (text : List ℕ) (m : IsMet core text) → last_line text ≡ line_of (counterexample_json core m.g m.xs)
last_met core text m =
    ap last_line m.told ∙ line_behind_is_last m.out m.before (counterexample_json core m.g m.xs) (m.lines (line_of (counterexample_json core m.g m.xs)))

met_last : (core : Core) (a : Answer) → IsDemoAnswer core a → a.status ≡ status.Negative → IsMet core a.text
met_last core a (report, (is, after)) negative =
    let last = after_negative core report.text report.status a after negative in
    let m = met core report is last.0 in
    record {
      g = m.g;
      is_goal = m.is_goal;
      few = m.few;
      rows = m.rows;
      xs = m.xs;
      solved = m.solved;
      small = m.small;
      out = [];
      told = last.1 ∙ last_met core report.text m;
      before = [];
      lines = λ rest. refl;
    }

-- ---- its run

pub counterexample_of : (core : Core) (text : List ℕ) → IsWellFormed core → (m : IsMet core text) → IsCounterexample core (valuations_of core.agents (way_of core m.g.trace).cake m.xs) (answers_of (way_of core m.g.trace)) m.g
counterexample_of core text formed m =
    solutions_give_counterexamples core m.g m.xs formed.agents_there formed.some_agent formed.few_cuts m.is_goal (long_solution core m.g m.xs m.is_goal m.rows m.solved) m.small (solution_solves m.g.rows m.xs m.solved.0).solves

-- the run of the program that the line tells, and what was written before that line
pub record IsMetRun (p : PlainProgram) (written : List ℕ) : Type 0 where
  pub valuations : List Valuation
  pub list : IsValuationList p.agents.value valuations
  pub small : All IsSmall valuations
  pub answers : List CutAnswer
  pub goal : ℕ
  pub kind : GoalKind
  pub query : ℕ
  pub ends : EndsAsTold valuations kind query (run_on valuations p answers)
  pub out : List ℕ
  pub told : written ≡ out ++ line_of (counter_json goal kind query valuations answers)
  pub last : last_line written ≡ line_of (counter_json goal kind query valuations answers)

pub met_run : (text written : List ℕ) (p : PlainProgram) (core : Core) → IsProgramOf text p → IsCoreOf p core → IsMet core written → IsMetRun p written
met_run text written p core is made m =
    let own : IsMet (core_of p) written = subst (λ (c : Core). IsMet c written) made.same m in
    let c = core_of p in
    let vs = valuations_of c.agents (way_of c own.g.trace).cake own.xs in
    let ys = answers_of (way_of c own.g.trace) in
    let counter = counterexample_of c written (core_formed text p core is made) own in
    record {
      valuations = vs;
      list = counter.valuations;
      small = counter.small;
      answers = ys;
      goal = own.g.number;
      kind = own.g.kind;
      query = own.g.query;
      ends = subst (EndsAsTold vs own.g.kind own.g.query) (kept vs p ys)
          (told_end vs c.agents own.g.query own.g own.g.kind (core_run_on vs c ys) counter.valuations.one_each counter.goes counter.ends refl (envious_are_agents c own.g own.is_goal));
      out = own.out;
      told = own.told;
      last = last_met c written own;
    }

module _ (before after : Option (List ℕ)) where
  of_core : (text written : List ℕ) (p : PlainProgram) (core : Core) → IsProgramOf text p → IsCoreOf p core → after ≡ appended before written → IsMet core written → IsUnfairText before after text
  of_core text written p core is made told m =
      let r = met_run text written p core is made m in
      record {
        program = p;
        spelled = is.spelled;
        rules = made.rules;
        valuations = r.valuations;
        list = r.list;
        small = r.small;
        answers = r.answers;
        goal = r.goal;
        kind = r.kind;
        query = r.query;
        ends = r.ends;
        out = r.out;
        told = told ∙ ap (appended before) r.told;
      }

  module _ (Next : Core → Answer → Type 0) (meets : (core : Core) (a : Answer) → Next core a → a.status ≡ status.Negative → IsMet core a.text) where
    of_program : (text : List ℕ) (p : PlainProgram) (a : Answer) → IsProgramOf text p → after ≡ appended before a.text → Stage (RefusesCore p) (IsCoreOf p) Next a → a.status ≡ status.Negative → IsUnfairText before after text
    of_program text p a is told (stops r h e) negative = absurd (refused_not_negative r a e negative)
    of_program text p a is told (goes core made next) negative = of_core text a.text p core is made told (meets core a next negative)

    of_text : (text : List ℕ) (a : Answer) → after ≡ appended before a.text → OfText text Next a → a.status ≡ status.Negative → IsUnfairText before after text
    of_text text a told (stops r h e) negative = absurd (refused_not_negative r a e negative)
    of_text text a told (goes p is next) negative = of_program text p a is told next negative

    of_file : (files : Files) (f : List ℕ) (a : Answer) → after ≡ appended before a.text → WithCore (Some files) f Next a → a.status ≡ status.Negative → HoldsUnfairProgram files before after f
    of_file files f a told (stops r h e) negative = absurd (refused_not_negative r a e negative)
    of_file files f a told (goes text file next) negative = record { text = text; there = there_is (file_of f files) text file.there; unfair = of_text text a told next negative }

  met_report : (told : Option Files) (Shown : Option Command → Type 0) → ((k : Option Command) (a : Answer) → after ≡ appended before a.text → IsAnswer told k a → a.status ≡ status.Negative → Shown k)
      → (k : Option Command) (bytes : List ℕ) (s : Status) → after ≡ appended before bytes → Report told k bytes s → s ≡ status.Negative → Shown k
  met_report told Shown shown k bytes s out (whole (answered a is e t)) negative = shown k a (out ∙ ap (appended before) t) is (sym e ∙ negative)
  met_report told Shown shown k bytes s out (whole (unread file lines turn e t)) negative = let bad : status.ReadFault ≡ status.Negative = sym e ∙ negative in absurd cc
  met_report told Shown shown k bytes s out (whole (starved lines is e t)) negative = let bad : status.Memory ≡ status.Negative = sym e ∙ negative in absurd cc
  met_report told Shown shown k bytes s out (cut all other w count t e) negative = let bad : status.WriteFault ≡ status.Negative = sym e ∙ negative in absurd cc

  -- ---- a command that ends with a counterexample

  met_in_file : (files : Files) (k : Option Command) (a : Answer) → after ≡ appended before a.text → IsAnswer (Some files) k a → a.status ≡ status.Negative → IfSome (met_file k) (HoldsUnfairProgram files before after)
  met_in_file files None a told h negative = tt
  met_in_file files (Some (check f)) a told h negative = tt
  met_in_file files (Some (print f)) a told h negative = tt
  met_in_file files (Some (paths f)) a told h negative = tt
  met_in_file files (Some (verify f)) a told h negative = of_file IsVerifyAnswer met files f a told h negative
  met_in_file files (Some (run f v)) a told h negative = tt
  met_in_file files (Some (replay f v)) a told h negative = tt
  met_in_file files (Some (certify f c)) a told h negative = tt
  met_in_file files (Some (upgrade f c)) a told h negative = tt
  met_in_file files (Some (demo n)) a told h negative = tt

  met_in_rounds : (files : Option Files) (k : Option Command) (a : Answer) → after ≡ appended before a.text → IsAnswer files k a → a.status ≡ status.Negative → IfSome (made_rounds k) (λ n. IsUnfairText before after (rounds_text n))
  met_in_rounds files None a told h negative = tt
  met_in_rounds files (Some (check f)) a told h negative = tt
  met_in_rounds files (Some (print f)) a told h negative = tt
  met_in_rounds files (Some (paths f)) a told h negative = tt
  met_in_rounds files (Some (verify f)) a told h negative = tt
  met_in_rounds files (Some (run f v)) a told h negative = tt
  met_in_rounds files (Some (replay f v)) a told h negative = tt
  met_in_rounds files (Some (certify f c)) a told h negative = tt
  met_in_rounds files (Some (upgrade f c)) a told h negative = tt
  met_in_rounds files (Some (demo n)) a told h negative = of_text IsDemoAnswer met_last (rounds_text n) a told h negative

-- its report
pub met_reports : (told : Option Files) (k : Option Command) (before after : Option (List ℕ)) (s : Status) → Reports told k before after s → s ≡ status.Negative → (files : Files) → told ≡ Some files
    → IfSome (met_file k) (HoldsUnfairProgram files before after)
met_reports told k before after s h negative files e =
    met_report before after (Some files) (λ c. IfSome (met_file c) (HoldsUnfairProgram files before after)) (met_in_file before after files) k h.bytes s h.out
    (subst (λ (t : Option Files). Report t k h.bytes s) e h.is) negative

pub met_demos : (told : Option Files) (k : Option Command) (before after : Option (List ℕ)) (s : Status) → Reports told k before after s → s ≡ status.Negative → IfSome (made_rounds k) (λ n. IsUnfairText before after (rounds_text n))
met_demos told k before after s h negative =
    met_report before after told (λ c. IfSome (made_rounds c) (λ n. IsUnfairText before after (rounds_text n))) (met_in_rounds before after told) k h.bytes s h.out h.is negative

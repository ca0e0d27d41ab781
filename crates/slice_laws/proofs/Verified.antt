-- `verify` decides, and is right.
use Rattle.std.proofs.Common.{◌≡◌, ◌∙◌, ◌↔◌, ℕ, ◌+◌, ◌<◌, ◌≤◌, ◌⊎◌, inl, inr, ℤ, List, ◌++◌, length, Some, refl, sym, ap, subst, arith}
use Rattle.std.proofs.lemmas.List.{length-drop}
use Rattle.slice_num.specs.Pieces.{joined}
use Rattle.slice_num.specs.Valuation.{Valuation}
use Rattle.slice_io.specs.Files.{Files, file_of}
use Rattle.slice_ast.specs.Code.{PlainProgram}
use Rattle.slice_parse.specs.Laws.{IsProgramOf, ReadProgramsAreUnique}
use Rattle.slice_core.specs.Tree.{Core}
use Rattle.slice_atoms.specs.Addresses.{atom_count}
use Rattle.slice_paths.specs.Events.{Event, NextGoal, Gives, NoMore, Overflows, OverLimit, events_of, goal_limit, next_goal}
use Rattle.slice_paths.specs.Goals.{Goal, goals}
use Rattle.slice_paths.specs.Ways.{way_of}
use Rattle.slice_paths.specs.declared.goal.GoalKind.{GoalKind}
use Rattle.slice_paths.specs.declared.goal.GoalKind.TheVariants.{Low, High, Envy}
use Rattle.slice_simplex.specs.ProverAnswer.{ProverAnswer, IsProverAnswer, RefutedBy, SolvedBy, AtLimit, Unfit}
use Rattle.slice_simplex.proofs.EndFacts.{multipliers_refute}
use Rattle.slice_simplex.proofs.Once.{fits_or_limit, fits_or_unfit}
use Rattle.slice_cert.specs.CertLines.{line_text}
use Rattle.slice_cert.specs.ShortForms.{short_line}
use Rattle.slice_cert.specs.declared.line.Line.{Line}
use Rattle.slice_cert.specs.declared.line.Line.TheVariants.{Closing}
use Rattle.slice_counter.specs.Counter.{IsLow}
use Rattle.slice_expand.specs.ProgramRun.{ProgramEnd, Done, Stuck, Few, Bad, Many}
use Rattle.slice_verify.specs.Report.{IsReached, LeadsTo, TakeFirst, pivot_limit, texts_after}
use Rattle.slice_report.specs.declared.refusal.Refusal.{Refusal}
use Rattle.slice_top.specs.Answers.{Answer, Stage, stops, goes, answer_of, after_text, refused, WithCore, Counters, low, high, Closes, ClosesAt, IsVerifyAnswer}
use Rattle.slice_top.specs.Commands.{verify}
use Rattle.slice_top.specs.Cores.{IsCoreOf, RefusesCore}
use Rattle.slice_top.specs.FilesRead.{IsFileOf}
use Rattle.slice_top.specs.Found.{EndsAsTold}
use Rattle.slice_top.specs.Headline.{EveryRunIsFair, IsFairEnd, run_on}
use Rattle.slice_top.specs.Programs.{RefusesText}
use Rattle.slice_top.specs.Statuses.{IsWorked}
use Rattle.slice_top.specs.declared.status.Status.{Status}
use Rattle.slice_top.specs.declared.status.Status.TheVariants as status
use Rattle.slice_top.proofs.Fair.{refuted_program_fair}
use Rattle.slice_top.proofs.Good.{there_is, verified, refused_not_good}
use Rattle.slice_top.proofs.MetRuns.{met, met_run, refused_not_negative}
use Rattle.slice_top.proofs.SomeDecisions.{some_verified}
use Rattle.slice_top.proofs.Taking.{Comes, Stands, all_taken, comes, leads_one, short_leads, took_first}
use Rattle.slice_laws.specs.Completeness.{CanBeMade, RunsFit, HeightsFit, Decides, fair, unfair, VerifyDecides, VerifyIsExact}
use Rattle.slice_laws.proofs.Heights.{not_both_heights}
use Rattle.slice_laws.proofs.MadeGoals.{AllMeet, few_goals, meet_behind, meet_first, no_overflow, not_over}
use Rattle.slice_laws.proofs.Onward.{onward}

-- ---- how it ends

-- with the closing line, good; or with a counterexample, negative
pub data Ends (n : ℕ) (a : Answer) : Type 0 where
  closed : (out : List ℕ) → a ≡ answer_of (out ++ line_text (Closing n)) status.Good → Ends n a
  countered : a.status ≡ status.Negative → Ends n a

module _ (core : Core) (fit : RunsFit core) (heights : HeightsFit core) (none : CanBeMade core) where
  -- no height is too great
  not_high : (g : Goal) (xs : List ℤ) (a : Answer) → IsLow xs → Counters core g xs a → a.status ≡ status.Negative
  not_high g xs a is (low l e) = ap (λ (x : Answer). x.status) e
  not_high g xs a is (high agent atom h e) = absurd (not_both_heights core.agents (atom_count (way_of core g.trace).cake) xs agent atom is h)

  module _ (ls : List Line) (n : ℕ) (ahead : List Event) (taken : TakeFirst core ls n ahead) where
    stands : Stands core n ahead
    stands = (took_first core ls n ahead taken).stands

    few : n ≤ goal_limit
    few = (took_first core ls n ahead taken).few (omega arith)

    meets : AllMeet ahead
    meets = meet_behind core none 0 (events_of core) ls n ahead (meet_first core none) taken

    module _ (a b : Answer) (told : a ≡ after_text (joined (texts_after core ls)) b) where
      module _ (g : Goal) (later : List Event) (e : next_goal ahead n ≡ Gives g later) where
        next : Comes core n g later
        next = comes core n ahead g later stands e

        -- after these lines the goal comes
        reached : IsReached core ls g
        reached =
            let number = sym next.first.number in
            record {
              ahead = ahead;
              later = later;
              taken = subst (λ (k : ℕ). TakeFirst core ls k ahead) number taken;
              comes = subst (λ (k : ℕ). next_goal ahead k ≡ Gives g later) number e;
            }

        -- its line doesn't cover too many goals
        not_past : (m : List ℤ) → IsProverAnswer g.rows pivot_limit (RefutedBy m) → (k : ℕ) (mid : List Event) → LeadsTo core n g later (short_line core.agents n m) k mid → goal_limit < k → ⊥
        not_past m is k mid leads past =
            let x = short_leads core n g later m next (multipliers_refute g.rows m next.rows is.0) in
            let place = (leads_one core n g later (short_line core.agents n m) (n + x.count) k x.ahead mid x.leads leads).0 in
            let all = few_goals core none in
            let long = length-drop n (goals core) in
            let within = x.within in
            let some = x.some in
            omega (arith, past, place, all, long, within, some)

        ends_at : (p : ProverAnswer) → IsProverAnswer g.rows pivot_limit p → ClosesAt core n g later p b → Ends (length (goals core)) a
        ends_at (RefutedBy m) is c = absurd (not_past m is c.0 c.1 c.2 c.3)
        ends_at (SolvedBy xs) is c = countered (ap (λ (x : Answer). x.status) told ∙ not_high g xs b (heights ls g xs reached is.0) c)
        ends_at AtLimit is c = absurd (fits_or_limit g.rows pivot_limit (fit ls g reached) is)
        ends_at (Unfit pivots row col) is c = absurd (fits_or_unfit g.rows pivot_limit pivots row col (fit ls g reached) is)

      ends_next : (x : NextGoal) → next_goal ahead n ≡ x → Closes core n x b → Ends (length (goals core)) a
      ends_next NoMore e c =
          let all = (all_taken core ls n ahead taken e).1 in
          subst (λ (k : ℕ). Ends k a) all (closed (joined (texts_after core ls)) (told ∙ ap (after_text (joined (texts_after core ls))) c))
      ends_next Overflows e c = absurd (no_overflow ahead n meets e)
      ends_next OverLimit e c = absurd (not_over core none n ahead meets stands.tells few e)
      ends_next (Gives g later) e c = ends_at g later e c.0 c.1 c.2

  pub ends : (a : Answer) → IsVerifyAnswer core a → Ends (length (goals core)) a
  ends a (ls, n, ahead, taken, b, c, e) = ends_next ls n ahead taken a b e (next_goal ahead n) refl c

-- ---- it decides

pub verify_decides : ReadProgramsAreUnique → VerifyDecides
verify_decides once files f p core a h none fit heights answer =
    let some = some_verified core in
    let same = onward once files (verify f) f p core IsVerifyAnswer (λ x w. w) h a some.0 answer some.1 in
    subst (Decides p core) (sym same) (by some.0 some.1 (ends core fit heights none some.0 some.1))
  where
    by : (b : Answer) → IsVerifyAnswer core b → Ends (length (goals core)) b → Decides p core b
    by b is (closed out e) = fair (refuted_program_fair h.text p core h.spelled h.made (verified core b is (ap (λ (x : Answer). x.status) e))) out e
    by b is (countered e) =
        let r = met_run h.text b.text p core h.spelled h.made (met core b is e) in
        unfair r.goal r.kind r.query r.valuations r.answers r.list r.ends r.out (λ i. answer_of (r.told i) (e i))

-- ---- it is right

-- a run that ends as a counterexample tells isn't fair
not_fair : (vs : List Valuation) (kind : GoalKind) (query : ℕ) (e : ProgramEnd) → EndsAsTold vs kind query e → IsFairEnd vs e → ⊥
not_fair vs Low query (Stuck at board) h is = is
not_fair vs High query (Stuck at board) h is = is
not_fair vs (Envy a b) query (Stuck at board) h is = is
not_fair vs (Envy a b) query (Done board) h is = is.1 a b h.0 h.1 h.2
not_fair vs Low query (Done board) h is = h
not_fair vs High query (Done board) h is = h
not_fair vs Low query (Few k) h is = h
not_fair vs High query (Few k) h is = h
not_fair vs (Envy a b) query (Few k) h is = h
not_fair vs Low query (Bad k) h is = h
not_fair vs High query (Bad k) h is = h
not_fair vs (Envy a b) query (Bad k) h is = h
not_fair vs Low query Many h is = h
not_fair vs High query Many h is = h
not_fair vs (Envy a b) query Many h is = h

worked : (s : Status) → IsWorked s → (s ≡ status.Good) ⊎ (s ≡ status.Negative)
worked status.Good w = inl refl
worked status.Negative w = inr refl
worked s w = absurd w

not_refused : (r : Refusal) (a : Answer) → a ≡ refused r → (a.status ≡ status.Good) ⊎ (a.status ≡ status.Negative) → ⊥
not_refused r a e (inl good) = refused_not_good r a e good
not_refused r a e (inr negative) = refused_not_negative r a e negative

abbrev IsExact : PlainProgram → Answer → Type 0
IsExact p a = (a.status ≡ status.Good) ↔ EveryRunIsFair p

module _ (once : ReadProgramsAreUnique) (files : Files) (f text : List ℕ) (p : PlainProgram) (a : Answer) (file : IsFileOf (Some files) f text) (is : IsProgramOf text p) (w : (a.status ≡ status.Good) ⊎ (a.status ≡ status.Negative)) where
  of_core : (core : Core) → IsCoreOf p core → IsVerifyAnswer core a → IsExact p a
  of_core core made v = (λ good. refuted_program_fair text p core is made (verified core a v good), λ every. by every w)
    where
      by : EveryRunIsFair p → (a.status ≡ status.Good) ⊎ (a.status ≡ status.Negative) → a.status ≡ status.Good
      by every (inl good) = good
      by every (inr negative) =
          let r = met_run text a.text p core is made (met core a v negative) in
          absurd (not_fair r.valuations r.kind r.query (run_on r.valuations p r.answers) r.ends (every.fair r.valuations r.list r.answers))

  of_program : (q : PlainProgram) → q ≡ p → Stage (RefusesCore q) (IsCoreOf q) IsVerifyAnswer a → IsExact p a
  of_program q same (stops r h e) = absurd (not_refused r a e w)
  of_program q same (goes core made next) = of_core core (subst (λ x. IsCoreOf x core) same made) next

  of_text : (other : List ℕ) → other ≡ text → Stage (RefusesText other) (IsProgramOf other) (λ q. Stage (RefusesCore q) (IsCoreOf q) IsVerifyAnswer) a → IsExact p a
  of_text other same (stops r h e) = absurd (not_refused r a e w)
  of_text other same (goes q spelled next) = of_program q (once text q p (subst (λ x. IsProgramOf x q) same spelled) is) next

  of_file : WithCore (Some files) f IsVerifyAnswer a → IsExact p a
  of_file (stops r h e) = absurd (not_refused r a e w)
  of_file (goes other read next) =
      let one : Some other ≡ Some text = sym (there_is (file_of f files) other read.there) ∙ there_is (file_of f files) text file.there in
      of_text other (let same : other ≡ text = cc in same) next

pub verify_is_exact : ReadProgramsAreUnique → VerifyIsExact
verify_is_exact once files f text p a file is answer w = of_file once files f text p a file is (worked a.status w) answer

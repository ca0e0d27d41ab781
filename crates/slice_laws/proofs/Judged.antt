-- `certify` accepts exactly certificates.
use Rattle.std.proofs.Common.{◌≡◌, ◌∙◌, ℕ, zero, suc, ◌+◌, ◌<◌, ◌≤◌, inl, inr, ℤ, List, length, drop, Option, Some, None, refl, sym, ap, subst, arith, ⊎_elim}
use Rattle.std.specs.List.{Contains}
use Rattle.std.proofs.lemmas.List.{length-drop}
use Rattle.slice_io.specs.Lines.{rest_from, start_of, line_bytes}
use Rattle.slice_io.proofs.Gathering.{bytes_and_rest}
use Rattle.slice_parse.specs.Laws.{ReadProgramsAreUnique}
use Rattle.slice_core.specs.Tree.{Core}
use Rattle.slice_linear.specs.Rows.{LinearRow}
use Rattle.slice_paths.specs.Events.{Event, Overflows, OverLimit, events_of, next_goal}
use Rattle.slice_paths.specs.Fronts.{cover_rows}
use Rattle.slice_paths.specs.Goals.{Goal, goals}
use Rattle.slice_cert.specs.declared.line.Line.{Line}
use Rattle.slice_cert.specs.declared.line.Line.TheVariants.{Header, Refutation, Cover, Closing}
use Rattle.slice_check.specs.Certificate.{AtGoal, SaysLine, Stands, file_limit}
use Rattle.slice_check.specs.Faults.{CoverSays, CoversTooMany, Fails, GoalSays, IsAnswer, IsUnread, LineSays}
use Rattle.slice_check.specs.declared.answer.CertAnswer.{CertAnswer}
use Rattle.slice_check.specs.declared.answer.CertAnswer.TheVariants.{Accepted, Rejected}
use Rattle.slice_check.specs.declared.answer.CertFault.{CertFault}
use Rattle.slice_check.specs.declared.answer.CertFault.TheVariants as cert_fault
use Rattle.slice_check.specs.declared.verdict.Verdict.TheVariants as verdict
use Rattle.slice_check.proofs.Accepting.{stands_few, stands_tells}
use Rattle.slice_check.proofs.Ahead.{IsGiven, given}
use Rattle.slice_check.proofs.Exclusive.{rejected_is_no_certificate}
use Rattle.slice_check.proofs.SomeStop.{files_decided}
use Rattle.slice_report.specs.CertifyReport.{certify_json}
use Rattle.slice_top.specs.Answers.{Answer, goes, one_line, IsCertifyAnswer}
use Rattle.slice_top.specs.Certificates.{checked_status}
use Rattle.slice_top.specs.Commands.{certify}
use Rattle.slice_top.specs.declared.status.Status.TheVariants as status
use Rattle.slice_top.proofs.Taking.{contains_dropped}
use Rattle.slice_laws.specs.Completeness.{CanBeMade, SumsFit, Judges, accepted, rejected, CertifyJudges}
use Rattle.slice_laws.proofs.MadeGoals.{AllMeet, few_goals, meet_first, meet_passed, no_overflow, not_over}
use Rattle.slice_laws.proofs.Onward.{onward}
use Rattle.slice_laws.proofs.SomeAnswers.{of_file}

-- ---- nothing keeps the checker from saying so

-- no line goes past the limit of a file that is within it
rest_short : (i : ℕ) (file : List ℕ) → length (rest_from i file) ≤ length file
rest_short zero file = omega arith
rest_short (suc i) file = let r = rest_short i file in let b = bytes_and_rest (rest_from i file) in omega (arith, r, b)

not_past : (file : List ℕ) (i : ℕ) → length file ≤ file_limit → file_limit < start_of i file + line_bytes (rest_from i file) → ⊥
not_past file i short past = let r = rest_short i file in let b = bytes_and_rest (rest_from i file) in omega (arith, short, past, r, b)

-- what stands before a line that is right so far
module _ (core : Core) (file : List ℕ) (none : CanBeMade core) (version n : ℕ) (ahead : List Event) (i : ℕ) (s : Stands core file version n ahead i) where
  meets : AllMeet ahead
  meets = meet_passed core none version 0 (events_of core) s.body n ahead (meet_first core none) s.passes

  not_broken : next_goal ahead n ≡ Overflows → ⊥
  not_broken e = no_overflow ahead n meets e

  none_over : next_goal ahead n ≡ OverLimit → ⊥
  none_over e = not_over core none n ahead meets (stands_tells core file version n ahead i s) (stands_few core file version n ahead i s).1 e

-- the goal that comes next
next_at : (core : Core) (file : List ℕ) (version n i : ℕ) (g : Goal) (h : AtGoal core file version n i g) → IsGiven n g h.later (drop n (goals core))
next_at core file version n i g h = given h.ahead n g h.later (drop n (goals core)) h.comes (stands_tells core file version n h.ahead i h.stands)

module _ (core : Core) (file : List ℕ) (none : CanBeMade core) (short : length file ≤ file_limit) (fit : SumsFit core file) where
  -- the sums of a line fit
  no_sum : (goal unknown : ℕ) → GoalSays core file goal (verdict.Overflow unknown) → ⊥
  no_sum goal unknown (version, i, g, l, h, says, line) = by l says line
    where
      first : IsGiven goal g h.later (drop goal (goals core))
      first = next_at core file version goal i g h

      is_goal : Contains (goals core) g
      is_goal = contains_dropped goal (goals core) g first.rest first.are

      covered : (passed : ℕ) (m : List ℤ) (o : Option (List LinearRow)) → cover_rows core passed g.trace ≡ o → SaysLine file i (Cover g.number passed m) → CoverSays o m (verdict.Overflow unknown) → ⊥
      covered passed m None e said x = let bad : verdict.Overflow unknown ≡ verdict.Length = x in cc
      covered passed m (Some rows) e said x = x.1.2 ((fit i g m is_goal).1 passed rows said e unknown x.1.0)

      by : (l : Line) → SaysLine file i l → LineSays core version goal g l (verdict.Overflow unknown) → ⊥
      by (Header v protocol agents) said x = absurd x
      by (Closing total) said x = absurd x
      by (Refutation number m) said x =
          let same : number ≡ g.number = x.0 ∙ sym first.number in
          x.1.1.2 ((fit i g m is_goal).0 (subst (λ (k : ℕ). SaysLine file i (Refutation k m)) same said) unknown x.1.1.0)
      by (Cover number passed m) said x =
          let same : number ≡ g.number = x.1 ∙ sym first.number in
          covered passed m (cover_rows core passed g.trace) refl (subst (λ (k : ℕ). SaysLine file i (Cover k passed m)) same said) x.2

  -- no line covers goals beyond the limit
  none_past : CoversTooMany core file → ⊥
  none_past (n, i, passed, count, g, m, h, said, says, share, past) =
      let first = next_at core file 2 n i g h in
      let some : length (drop n (goals core)) ≡ suc (length first.rest) = ap length first.are in
      let few = few_goals core none in
      let long = length-drop n (goals core) in
      let within = share.0 in
      omega (arith, past, some, few, long, within)

  pub not_failed : (f : CertFault) → (IsUnread f → ⊥) → Fails core file f → ⊥
  not_failed cert_fault.ReadFault u h = u tt
  not_failed cert_fault.TooLong u h = not_past file h.0 short h.2.0
  not_failed cert_fault.GoalLimit u (inl (version, n, i, ahead, stands, e)) = none_over core file none version n ahead i stands e
  not_failed cert_fault.GoalLimit u (inr h) = none_past h
  not_failed (cert_fault.FormOverflow goal) u (version, i, ahead, stands, e) = not_broken core file none version goal ahead i stands e
  not_failed (cert_fault.Overflow goal unknown) u h = no_sum goal unknown h
  not_failed cert_fault.Memory u h = u tt

  -- ---- what it says

  judged : (a : Answer) (x : CertAnswer) → IsAnswer core file x → a ≡ one_line (certify_json x) (checked_status x) → Judges core file a
  judged a (Accepted n) h e = accepted h.0 (e ∙ ap (λ k. one_line (certify_json (Accepted k)) status.Good) h.1)
  judged a (Rejected r) h e = rejected (λ is. rejected_is_no_certificate core file r h is) r h e

pub certify_judges : ReadProgramsAreUnique → CertifyJudges
certify_judges once files f c bytes p core a h none there short fit answer =
    ⊎_elim
    (λ x. judged core bytes none short fit a x.0 x.1
    (onward once files (certify f c) f p core (IsCertifyAnswer (Some files) c) (λ y w. w) h a (one_line (certify_json x.0) (checked_status x.0)) answer
    (goes x.0 (of_file files c core bytes (λ xs. IsAnswer core xs x.0) there x.1) refl)))
    (λ y. absurd (not_failed core bytes none short fit y.0 y.1.0 y.1.1))
    (files_decided core bytes)

-- What is told of a report that is made and checked in memory.
use Rattle.std.proofs.Common.{◌≡◌, ◌≢◌, ◌∙◌, ap, sym, subst, refl, ℕ, List, [], ◌++◌, append-nil, Option, Some}
use Rattle.slice_io.specs.Files.{told_file}
use Rattle.slice_io.specs.Growing.{HeldFile, files_held}
use Rattle.slice_io.specs.Told.{appended}
use Rattle.slice_json.specs.Texts.{line_of}
use Rattle.slice_core.specs.Tree.{Core}
use Rattle.slice_check.specs.Certificate.{Accepts}
use Rattle.slice_check.specs.Faults.{IsAnswer}
use Rattle.slice_check.specs.declared.answer.CertAnswer.{CertAnswer}
use Rattle.slice_check.specs.declared.answer.CertAnswer.TheVariants.{Rejected}
use Rattle.slice_check.specs.declared.answer.Rejection.{Rejection}
use Rattle.slice_check.proofs.Exclusive.{rejected_is_no_certificate}
use Rattle.slice_counter.specs.CounterLine.{counter_text}
use Rattle.slice_counter.specs.declared.counter.Counterexample.{Counterexample}
use Rattle.slice_verify.specs.Report.{DecisionIs}
use Rattle.slice_verify.specs.declared.verifier.Decision.{Decision}
use Rattle.slice_verify.specs.declared.verifier.Decision.TheVariants.{EnvyFree, Found}
use Rattle.slice_report.specs.Refusals.{refused_json}
use Rattle.slice_top.specs.Answers.{Answer, answer_of, refused, AfterReport, CountsReport, IsDemoAnswer, IsVerifyAnswer}
use Rattle.slice_top.specs.Certificates.{ChecksFile}
use Rattle.slice_top.specs.Demos.{report_name, last_line, stop_in_memory}
use Rattle.slice_top.specs.Settled.{LinesStop}
use Rattle.slice_top.specs.Statuses.{refused_status}
use Rattle.slice_top.specs.Stops.{StopsFor}
use Rattle.slice_top.specs.declared.status.Status.{Status}
use Rattle.slice_top.specs.declared.status.Status.TheVariants as status
use Rattle.slice_top.specs.declared.stop.Stop.{Stop}
use Rattle.slice_top.specs.declared.stop.Stop.TheVariants as stop
use Rattle.slice_top.proofs.Decided.{decision_ends, found_ends}
use Rattle.slice_top.proofs.Good.{refusal_not_good}
use Rattle.slice_top.proofs.LastLines.{line_is_last}

-- ---- the report as a file

-- a shelf that holds the report alone tells it
told_report : (f : HeldFile) (report : List ℕ) → f.name ≡ report_name → f.bytes ≡ report → told_file (Some (files_held f)) report_name ≡ Some (Some report)
told_report f report e d = λ i. told_file (Some (files_held (record { name = e i; bytes = d i }))) report_name

module _ (core : Core) (f : HeldFile) (report : List ℕ) (e : f.name ≡ report_name) (d : f.bytes ≡ report) where
  -- what the checker says of that file it says of the report
  pub says_of_report : (x : CertAnswer) → ChecksFile (Some (files_held f)) report_name core x → IsAnswer core report x
  says_of_report x h = h.says report (told_report f report e d)

  -- of a certificate it says no rejection
  pub not_rejected : (r : Rejection) → ChecksFile (Some (files_held f)) report_name core (Rejected r) → Accepts core report → ⊥
  not_rejected r h a = rejected_is_no_certificate core report r (says_of_report (Rejected r) h) a

-- ---- what follows the report

last_follows : (core : Core) (report : List ℕ) (s : Status) (a : Answer) → s ≢ status.Good → a ≡ answer_of (last_line report) s → AfterReport core report s a
last_follows core report status.Good a bad e = absurd (bad refl)
last_follows core report s a bad e = e

-- what was written after nothing
same_bytes : (out old new : List ℕ) → old ≡ [] → Some new ≡ appended (Some old) out → out ≡ new
same_bytes out old new e told = sym (some_same (told ∙ ap (λ xs. Some (xs ++ out)) e))
  where
    some_same : {xs ys : List ℕ} → Some xs ≡ Some ys → xs ≡ ys
    some_same e = cc

module _ (core : Core) where
  -- a report that ends well is checked
  pub counted_report : (d : Decision) (n : ℕ) (old new report : List ℕ) (a : Answer) → d ≡ EnvyFree n → old ≡ [] → report ≡ new → DecisionIs core (Some old) (Some new) d → CountsReport core report a → IsDemoAnswer core a
  counted_report d n old new report a is e same h next =
      let ends = decision_ends core (Some old) (Some new) (EnvyFree n) (subst (DecisionIs core (Some old) (Some new)) is h) in
      let whole : ends.out ++ [] ≡ report = append-nil ends.out ∙ same_bytes ends.out old new e ends.told ∙ sym same in
      (answer_of report status.Good, (subst (λ xs. IsVerifyAnswer core (answer_of xs status.Good)) whole ends.is.1, next))

  -- one that ends otherwise leaves its last line
  pub found_report : (d : Decision) (c : Counterexample) (old new : Option (List ℕ)) (bytes : List ℕ) (s : Status) → d ≡ Found c → DecisionIs core old new d → (bytes ≡ counter_text c) × (s ≡ status.Negative) → IsDemoAnswer core (answer_of bytes s)
  found_report d c old new bytes s is h line =
      let found = subst (DecisionIs core old new) is h in
      let ends = found_ends core c found.0 found.1 in
      let last : answer_of bytes s ≡ answer_of (last_line ends.0.text) ends.0.status = (λ i. answer_of (line.0 i) (line.1 i)) ∙ ends.1.1.1 in
      (ends.0, (ends.1.0, last_follows core ends.0.text ends.0.status (answer_of bytes s) (λ e. let bad : status.Negative ≡ status.Good = sym ends.1.1.0 ∙ e in cc) last))

  pub stopped_report : (sink : Type 0) (old new : Option (List ℕ)) (s : Stop) → LinesStop (IsVerifyAnswer core) sink old new s → StopsFor (λ r. IsDemoAnswer core (refused r)) (stop_in_memory s)
  stopped_report sink old new (stop.Refused r) h =
      let ends = h.0 in
      let report = answer_of (ends.out ++ line_of (refused_json r)) (refused_status r) in (
        (
          report,
          (
            ends.is.1,
            last_follows core report.text report.status (refused r) (λ e. refusal_not_good r e)
                (ap (λ xs. answer_of xs (refused_status r)) (sym (line_is_last ends.out (refused_json r) ends.is.0))),
          ),
        ),
        h.1,
      )
  stopped_report sink old new (stop.Unread file) h = absurd h.1.0
  stopped_report sink old new stop.Memory h = tt
  stopped_report sink old new stop.Unwritten h = tt

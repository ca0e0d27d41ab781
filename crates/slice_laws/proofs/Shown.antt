-- `demo` decides: its report is accepted, or a counterexample is met.
use Rattle.std.proofs.Common.{◌≡◌, ℕ, ◌≤◌, List, length, Some, refl, sym, ap, subst, ⊎_elim}
use Rattle.slice_parse.specs.Laws.{ReadProgramsAreUnique}
use Rattle.slice_core.specs.Tree.{Core}
use Rattle.slice_core.specs.WellFormed.{IsWellFormed}
use Rattle.slice_counter.specs.CounterLine.{counter_json}
use Rattle.slice_paths.specs.Goals.{goals}
use Rattle.slice_check.specs.Certificate.{Accepts, file_limit}
use Rattle.slice_check.specs.Faults.{IsAnswer}
use Rattle.slice_check.specs.declared.answer.CertAnswer.{CertAnswer}
use Rattle.slice_check.specs.declared.answer.CertAnswer.TheVariants.{Accepted, Rejected}
use Rattle.slice_check.proofs.Exclusive.{rejected_is_no_certificate}
use Rattle.slice_check.proofs.SomeStop.{files_decided}
use Rattle.slice_gen.specs.Rounds.{rounds_text}
use Rattle.slice_report.specs.DemoReport.{demo_json}
use Rattle.slice_top.specs.Answers.{Answer, answer_of, goes, one_line, AfterReport}
use Rattle.slice_top.specs.Commands.{demo}
use Rattle.slice_laws.specs.Completeness.{CanBeMade, SumsFit, Shows, certified, countered, DemoDecides}
use Rattle.slice_top.specs.Demos.{AcceptsReport}
use Rattle.slice_top.specs.declared.status.Status.{Status}
use Rattle.slice_top.specs.declared.status.Status.TheVariants as status
use Rattle.slice_laws.proofs.CertifiedReports.{good_is_accepted}
use Rattle.slice_top.proofs.Fair.{refuted_program_fair}
use Rattle.slice_top.proofs.Good.{verified}
use Rattle.slice_laws.proofs.Judged.{not_failed}
use Rattle.slice_top.proofs.MetRuns.{met, met_run}
use Rattle.slice_top.proofs.CoreRuns.{core_formed}
use Rattle.slice_laws.proofs.UniqueAnswers.{answer_unique}
use Rattle.slice_laws.proofs.Verified.{Ends, ends}
use Rattle.slice_laws.proofs.Verified as ending

-- a certificate is accepted, where nothing keeps the checker from saying so
counts : (core : Core) (report : List ℕ) → CanBeMade core → length report ≤ file_limit → SumsFit core report → Accepts core report → AcceptsReport core report (length (goals core))
counts core report none short fit is = ⊎_elim (λ a. by a.0 a.1) (λ f. absurd (not_failed core report none short fit f.0 f.1.0 f.1.1)) (files_decided core report)
  where
    by : (x : CertAnswer) → IsAnswer core report x → AcceptsReport core report (length (goals core))
    by (Accepted n) h = subst (AcceptsReport core report) h.1 h
    by (Rejected r) h = absurd (rejected_is_no_certificate core report r h is)

pub demo_decides : ReadProgramsAreUnique → DemoDecides
demo_decides once files n p core report a spelled made none fit heights is short sums answer = by (ends core fit heights none report is)
  where
    -- what follows the report is the only answer
    only : (s : Status) (b : Answer) → report.status ≡ s → AfterReport core report.text s b → a ≡ b
    only s b e after =
        answer_unique once files (Some (demo n)) a b answer (goes p spelled (goes core made (report, (is, subst (λ x. AfterReport core report.text x b) (sym e) after))))

    by : Ends (length (goals core)) report → Shows p core report.text a
    by (ending.closed out e) =
        let good : report.status ≡ status.Good = ap (λ (x : Answer). x.status) e in
        let formed : IsWellFormed core = subst IsWellFormed (sym made.same) (core_formed (rounds_text n) p core spelled made) in
        let whole = good_is_accepted core report formed is good in
        let line = one_line (demo_json core (length (goals core)) (length report.text)) status.Good in
        certified (refuted_program_fair (rounds_text n) p core spelled made (verified core report is good)) whole
        (only status.Good line good (goes (length (goals core)) (counts core report.text none short sums whole) refl))
    by (ending.countered e) =
        let r = met_run (rounds_text n) report.text p core spelled made (met core report is e) in
        let line = one_line (counter_json r.goal r.kind r.query r.valuations r.answers) status.Negative in
        countered r.goal r.kind r.query r.valuations r.answers r.list r.ends (only status.Negative line e (λ i. answer_of (sym r.last i) status.Negative))

-- Files and a command have an answer.
use Rattle.std.proofs.Common.{◌≡◌, ◌≢◌, ◌∙◌, ℕ, ◌+◌, ◌<◌, ◌⊎◌, inl, inr, Bool, true, false, List, [], ◌∷◌, length, Option, Some, None, sym, refl, ap, subst, ⊎_elim}
use Rattle.std.specs.Prelude.{nat_lt, if◌then◌else◌}
use Rattle.std.proofs.lemmas.Bool.Decides.{leb_tells}
use Rattle.slice_num.specs.Valuation.{Valuation}
use Rattle.slice_lex.specs.declared.token.Token.{Token}
use Rattle.slice_lex.specs.declared.token.LexFault.TheVariants as lex
use Rattle.slice_lex.specs.Lexing.{IsRead}
use Rattle.slice_io.specs.Files.{Files, file_of, IsFile}
use Rattle.slice_ast.specs.Code.{PlainProgram}
use Rattle.slice_ast.specs.Layout.{canonical_text}
use Rattle.slice_parse.specs.declared.parser.ParseFault.{ParseFault}
use Rattle.slice_parse.specs.declared.parser.ParseFault.TheVariants as parser
use Rattle.slice_parse.specs.Laws.{IsProgramOf, HasFault}
use Rattle.slice_parse.proofs.Unique.{each_parsed}
use Rattle.slice_affine.specs.declared.fault.AffineFault.{AffineFault}
use Rattle.slice_affine.specs.declared.fault.AffineFault.TheVariants as rule
use Rattle.slice_affine.specs.Conditions.{IsParsed}
use Rattle.slice_affine.specs.Rules.{MeetsRules, IsFirstFault}
use Rattle.slice_affine.proofs.UniqueLemmas.{first_faults_exist, stands_not_memory}
use Rattle.slice_core.specs.Tree.{Core}
use Rattle.slice_expand.specs.declared.fault.ExpandFault.{ExpandFault}
use Rattle.slice_expand.specs.declared.fault.ExpandFault.TheVariants as expansion
use Rattle.slice_expand.specs.Expansion.{core_of, marked}
use Rattle.slice_expand.specs.Limits.{Event, ACall, ANode, Counted, Past, counted, events, limit_of, first_limit}
use Rattle.slice_step.specs.ValuationFile.{IsValuationFile, IsReplayFile, valuations_fault, replay_fault}
use Rattle.slice_num.specs.declared.cut_answer.CutAnswer.{CutAnswer}
use Rattle.slice_step.specs.declared.fault.ValuationFault.{ValuationFault}
use Rattle.slice_step.specs.declared.fault.ValuationFault.TheVariants as values
use Rattle.slice_step.proofs.OneAnswer.{file_some}
use Rattle.slice_run.specs.RunLaws.{IsTold, IsLeastTold}
use Rattle.slice_run.specs.declared.outcome.RunFault.{RunFault}
use Rattle.slice_run.specs.declared.outcome.RunFault.TheVariants as fault
use Rattle.slice_run.specs.Walk.{Told, Walked, Good, Refused, outcome, Least, Given}
use Rattle.slice_report.specs.RunReport.{told_json}
use Rattle.slice_paths.specs.Events.{events_of}
use Rattle.slice_report.specs.CoreReport.{core_json}
use Rattle.slice_report.specs.declared.refusal.Refusal.{Refusal}
use Rattle.slice_report.specs.declared.refusal.Refusal.TheVariants as refusal
use Rattle.slice_top.specs.Answers.{Answer, answer_of, one_line, refused, Stage, stops, goes, WithFile, WithProgram, WithCore, OfText, IsPrintAnswer, IsCheckAnswer, IsPathsAnswer, goals_answer, IsVerifyAnswer, IsRunAnswer, IsReplayAnswer, IsCertifyAnswer, IsUpgradeAnswer, after_text, TellsLeastRun, TellsGivenRun, IsOutcome, AfterReport, IsDemoAnswer}
use Rattle.slice_top.specs.Commands.{check, print, paths, verify, run, replay, certify, upgrade, demo}
use Rattle.slice_top.specs.Cores.{RefusesCore, IsCoreOf}
use Rattle.slice_top.specs.Demos.{AcceptsReport, RefusesReport, last_line, report_name}
use Rattle.slice_top.specs.FilesRead.{IsFileOf, RefusesFile, limit}
use Rattle.slice_laws.specs.Laws.{AnswersExist}
use Rattle.slice_top.specs.Programs.{RefusesText}
use Rattle.slice_top.specs.Runs.{run_refusal, told_status}
use Rattle.slice_top.specs.Values.{RefusesValues, RefusesReplay, values_refusal}
use Rattle.slice_top.specs.declared.status.Status.{Status}
use Rattle.slice_top.specs.declared.status.Status.TheVariants as status
use Rattle.slice_check.specs.Certificate.{Accepts}
use Rattle.slice_check.specs.Faults.{Fails}
use Rattle.slice_check.specs.Faults.{IsAnswer as CheckAnswer}
use Rattle.slice_check.specs.declared.answer.CertAnswer.{CertAnswer}
use Rattle.slice_check.specs.declared.answer.CertAnswer.TheVariants.{Accepted, Rejected}
use Rattle.slice_check.proofs.Exclusive.{rejected_is_no_certificate}
use Rattle.slice_check.proofs.SomeStop.{files_decided}
use Rattle.slice_gen.specs.Rounds.{rounds_text}
use Rattle.slice_report.specs.DemoReport.{demo_json}
use Rattle.slice_core.specs.WellFormed.{IsWellFormed}
use Rattle.slice_report.specs.CertifyReport.{certify_json}
use Rattle.slice_top.specs.Certificates.{SaysOfFile, ChecksFile, RefusesCertificate, absent, missing, given_up, checked_status}
use Rattle.slice_top.proofs.CheckedFiles.{checker_refused, says_of}
use Rattle.slice_top.proofs.Upgraded.{written_on}
use Rattle.slice_laws.proofs.CertifiedReports.{good_is_accepted}
use Rattle.slice_top.proofs.SomeDecisions.{some_verified}
use Rattle.slice_laws.proofs.FileFaults.{replay_found, fault_not_memory, replay_fault_not_memory}
use Rattle.slice_top.proofs.CoreRuns.{core_formed}
use Rattle.slice_laws.proofs.ToldRuns.{least_said, given_said, some_agent}
use Rattle.slice_laws.proofs.UniqueAnswers.{parsed_of}

abbrev HasAnswer : (Answer → Type 0) → Type 0
HasAnswer P = (a : Answer) × P a

-- a stage that is refused, or gives something that has an answer
some_stage : {X : Type 0} (Cause : Refusal → Type 0) (Gives : X → Type 0) (Next : X → Answer → Type 0)
    → ((r : Refusal) × Cause r) ⊎ ((x : X) × Gives x) → ((x : X) → Gives x → HasAnswer (Next x)) → HasAnswer (Stage Cause Gives Next)
some_stage Cause Gives Next (inl (r, h)) next = (refused r, stops r h refl)
some_stage Cause Gives Next (inr (x, h)) next = let n = next x h in (n.0, goes x h n.1)

-- ---- files

file_found : (files : Files) (name : List ℕ) (o : Option (List ℕ)) → file_of name files ≡ o → ((r : Refusal) × RefusesFile (Some files) name r) ⊎ ((bytes : List ℕ) × IsFileOf (Some files) name bytes)
file_found files name None e = inl (refusal.ReadFault name, (refl, ap Some e))
file_found files name (Some bytes) e =
    let there : IsFile (Some (file_of name files)) bytes = subst (λ (o : Option (List ℕ)). IsFile (Some o) bytes) (sym e) refl in
    ⊎_elim
    (λ h. inr (bytes, record { there = there; short = h.1 }))
    (λ h. inl (refusal.TooLong name, (refl, record { bytes = bytes; there = there; long = h.1 })))
    (leb_tells (length bytes) limit)

some_file : (files : Files) (name : List ℕ) (Next : List ℕ → Answer → Type 0) → ((bytes : List ℕ) → HasAnswer (Next bytes)) → HasAnswer (WithFile (Some files) name Next)
some_file files name Next next = some_stage (RefusesFile (Some files) name) (IsFileOf (Some files) name) Next (file_found files name (file_of name files) refl) (λ bytes h. next bytes)

-- ---- texts

-- the lexer's want of memory is no fault of a text
no_memory : (ts : List Token) (at : ℕ) (bytes : List ℕ) → IsRead ts (Some lex.Memory) at bytes → ⊥
no_memory [] at bytes h = h
no_memory (t ∷ ts) at bytes h = let gap = h.after in no_memory ts _ gap.rest gap.after

text_refused : (text : List ℕ) (f : ParseFault) → HasFault text f → (r : Refusal) × RefusesText text r
text_refused text (parser.Lex (lex.BadByte at)) h = (refusal.BadByte at, (parser.Lex (lex.BadByte at), (refl, h.first)))
text_refused text (parser.Lex (lex.LongWord at)) h = (refusal.LongWord at, (parser.Lex (lex.LongWord at), (refl, h.first)))
text_refused text (parser.Lex (lex.LongNumber at)) h = (refusal.LongNumber at, (parser.Lex (lex.LongNumber at), (refl, h.first)))
text_refused text (parser.Lex (lex.LeadingZero at)) h = (refusal.LeadingZero at, (parser.Lex (lex.LeadingZero at), (refl, h.first)))
text_refused text (parser.Lex lex.Memory) h = let f = h.first in absurd (no_memory f.0 _ f.1.rest f.1.after)
text_refused text (parser.Syntax at) h = (refusal.Syntax at, (parser.Syntax at, (refl, h.first)))
text_refused text (parser.DeepBlock at) h = (refusal.DeepBlock at, (parser.DeepBlock at, (refl, h.first)))
text_refused text (parser.LongSum at) h = (refusal.LongSum at, (parser.LongSum at, (refl, h.first)))
text_refused text parser.Memory h = absurd (h.own refl)

text_found : (text : List ℕ) → ((r : Refusal) × RefusesText text r) ⊎ ((p : PlainProgram) × IsProgramOf text p)
text_found text = ⊎_elim (λ is. inr is) (λ h. inl (text_refused text h.0 h.1)) (each_parsed text)

some_program : (files : Files) (f : List ℕ) (Next : PlainProgram → Answer → Type 0) → ((text : List ℕ) (p : PlainProgram) → IsProgramOf text p → HasAnswer (Next p)) → HasAnswer (WithProgram (Some files) f Next)
some_program files f Next next =
    some_file files f (λ text. Stage (RefusesText text) (IsProgramOf text) Next) (λ text. some_stage (RefusesText text) (IsProgramOf text) Next (text_found text) (next text))

-- ---- cores

rule_refused : (p : PlainProgram) (parsed : IsParsed p) (f : AffineFault) → IsFirstFault p f → (r : Refusal) × RefusesCore p r
rule_refused p parsed (rule.Unbound name at) h = (refusal.Unbound name at, inl (rule.Unbound name at, (refl, h)))
rule_refused p parsed (rule.Rebound name at) h = (refusal.Rebound name at, inl (rule.Rebound name at, (refl, h)))
rule_refused p parsed (rule.UsedTwice name at first) h = (refusal.UsedTwice name at first, inl (rule.UsedTwice name at first, (refl, h)))
rule_refused p parsed (rule.AgentRange at) h = (refusal.AgentRange at, inl (rule.AgentRange at, (refl, h)))
rule_refused p parsed (rule.Arity at) h = (refusal.Arity at, inl (rule.Arity at, (refl, h)))
rule_refused p parsed (rule.YieldCount at) h = (refusal.YieldCount at, inl (rule.YieldCount at, (refl, h)))
rule_refused p parsed (rule.ZeroDen at) h = (refusal.ZeroDen at, inl (rule.ZeroDen at, (refl, h)))
rule_refused p parsed (rule.ProcLimit at) h = (refusal.ProcLimit at, inl (rule.ProcLimit at, (refl, h)))
rule_refused p parsed rule.Memory h = absurd (stands_not_memory p parsed h.stands)

-- no limit is want of memory
past_if : (b : Bool) (f : ExpandFault) (c : Counted) → f ≢ expansion.Memory → limit_of c ≢ Some expansion.Memory → limit_of (if b then Past f else c) ≢ Some expansion.Memory
past_if true f c h k e = h (some_same e)
  where
    some_same : Some f ≡ Some expansion.Memory → f ≡ expansion.Memory
    some_same e = cc
past_if false f c h k e = k e

limits_told : (es : List Event) (n c : ℕ) → limit_of (counted es n c) ≢ Some expansion.Memory
limits_told [] n c = λ e. cc
limits_told (ACall ∷ es) n c = past_if (nat_lt 100000 (c + 1)) expansion.CallLimit (counted es n (c + 1)) (λ e. cc) (limits_told es n (c + 1))
limits_told (ANode d k ∷ es) n c =
    past_if (nat_lt 200000 (n + 1)) expansion.NodeLimit _ (λ e. cc)
    (past_if (nat_lt 512 d) expansion.DepthLimit _ (λ e. cc)
    (past_if (nat_lt 64 k) expansion.CutLimit (counted es (n + 1) c) (λ e. cc) (limits_told es (n + 1) c)))

limit_refused : (p : PlainProgram) (f : ExpandFault) → MeetsRules p → first_limit p ≡ Some f → (r : Refusal) × RefusesCore p r
limit_refused p expansion.NodeLimit m h = (refusal.NodeLimit, inr (record { rules = m; fault = expansion.NodeLimit; told = refl; first = h }))
limit_refused p expansion.DepthLimit m h = (refusal.DepthLimit, inr (record { rules = m; fault = expansion.DepthLimit; told = refl; first = h }))
limit_refused p expansion.CutLimit m h = (refusal.CutLimit, inr (record { rules = m; fault = expansion.CutLimit; told = refl; first = h }))
limit_refused p expansion.CallLimit m h = (refusal.CallLimit, inr (record { rules = m; fault = expansion.CallLimit; told = refl; first = h }))
limit_refused p expansion.Memory m h = absurd (limits_told (events (marked p) 0 0) 0 0 h)

expanded : (p : PlainProgram) → MeetsRules p → (o : Option ExpandFault) → first_limit p ≡ o → ((r : Refusal) × RefusesCore p r) ⊎ ((c : Core) × IsCoreOf p c)
expanded p m None e = inr (core_of p, record { rules = m; limits = e; same = refl })
expanded p m (Some f) e = inl (limit_refused p f m e)

core_found : (text : List ℕ) (p : PlainProgram) → IsProgramOf text p → ((r : Refusal) × RefusesCore p r) ⊎ ((c : Core) × IsCoreOf p c)
core_found text p is = ⊎_elim (λ m. expanded p m (first_limit p) refl) (λ h. inl (rule_refused p (parsed_of text p is) h.0 h.1)) (first_faults_exist p (parsed_of text p is))

some_of_text : (text : List ℕ) (Next : Core → Answer → Type 0) → ((p : PlainProgram) (c : Core) → IsProgramOf text p → IsCoreOf p c → HasAnswer (Next c)) → HasAnswer (OfText text Next)
some_of_text text Next next =
    some_stage (RefusesText text) (IsProgramOf text) (λ p. Stage (RefusesCore p) (IsCoreOf p) Next) (text_found text)
    (λ p is. some_stage (RefusesCore p) (IsCoreOf p) Next (core_found text p is) (λ c made. next p c is made))

some_core : (files : Files) (f : List ℕ) (Next : Core → Answer → Type 0) → ((text : List ℕ) (p : PlainProgram) (c : Core) → IsProgramOf text p → IsCoreOf p c → HasAnswer (Next c)) → HasAnswer (WithCore (Some files) f Next)
some_core files f Next next =
    some_program files f (λ p. Stage (RefusesCore p) (IsCoreOf p) Next) (λ text p is. some_stage (RefusesCore p) (IsCoreOf p) Next (core_found text p is) (λ c made. next text p c is made))

-- ---- second files

values_refused : (f : ValuationFault) → f ≢ values.Memory → (r : Refusal) × (values_refusal f ≡ Some r)
values_refused values.Json h = (refusal.Json, refl)
values_refused (values.Shape agent) h = (refusal.Shape agent, refl)
values_refused values.AgentCount h = (refusal.AgentCount, refl)
values_refused (values.NotWhole agent) h = (refusal.NotWhole agent, refl)
values_refused (values.EndsOrder agent) h = (refusal.EndsOrder agent, refl)
values_refused (values.HeightRange agent) h = (refusal.HeightRange agent, refl)
values_refused (values.NoTotal agent) h = (refusal.NoTotal agent, refl)
values_refused (values.LengthsDiffer agent) h = (refusal.LengthsDiffer agent, refl)
values_refused (values.CutForm index) h = (refusal.CutForm index, refl)
values_refused values.Memory h = absurd (h refl)

values_decided : (bytes : List ℕ) (agents : ℕ) (o : Option ValuationFault) → valuations_fault bytes agents ≡ o → ((r : Refusal) × RefusesValues bytes agents r) ⊎ ((vs : List Valuation) × IsValuationFile bytes agents vs)
values_decided bytes agents None e = inr (file_some bytes agents e)
values_decided bytes agents (Some f) e =
    let n = values_refused f (λ m. fault_not_memory bytes agents (e ∙ ap Some m)) in inl (n.0, (f, (n.1, e)))

replay_decided : (bytes : List ℕ) (agents : ℕ) → 0 < agents → (o : Option ValuationFault) → replay_fault bytes agents ≡ o
    → ((r : Refusal) × RefusesReplay bytes agents r) ⊎ ((file : List Valuation × List CutAnswer) × IsReplayFile bytes agents file.0 file.1)
replay_decided bytes agents some None e = inr (replay_found bytes agents some e)
replay_decided bytes agents some (Some f) e =
    let n = values_refused f (λ m. replay_fault_not_memory bytes agents (e ∙ ap Some m)) in inl (n.0, (f, (n.1, e)))

-- ---- runs

run_refused : (f : RunFault) → f ≢ fault.Memory → (r : Refusal) × (run_refusal f ≡ Some r)
run_refused (fault.Overflow query) h = (refusal.RunOverflow query, refl)
run_refused (fault.BadAnswer query) h = (refusal.BadAnswer query, refl)
run_refused (fault.TooFewAnswers query) h = (refusal.TooFewAnswers query, refl)
run_refused fault.TooManyAnswers h = (refusal.TooManyAnswers, refl)
run_refused fault.Memory h = absurd (h refl)

some_outcome : (w v : Walked Told) → w ≡ v → ((f : RunFault) → w ≡ Refused f → f ≢ fault.Memory) → HasAnswer (IsOutcome w)
some_outcome w (Good t) e h = (one_line (told_json t) (told_status t), goes t e refl)
some_outcome w (Refused f) e h = let n = run_refused f (h f e) in (refused n.0, stops n.0 (f, (n.1, e)) refl)

some_least : (text bytes : List ℕ) (p : PlainProgram) (c : Core) → IsProgramOf text p → IsCoreOf p c → HasAnswer (TellsLeastRun bytes c)
some_least text bytes p c is made =
    some_stage (RefusesValues bytes c.agents) (IsValuationFile bytes c.agents) _ (values_decided bytes c.agents (valuations_fault bytes c.agents) refl)
    (λ vs said. some_outcome (outcome vs c Least) (outcome vs c Least) refl
    (λ f e m. subst (IsLeastTold vs _) (e ∙ ap Refused m) (least_said text bytes p c vs is made said)))

some_given : (text bytes : List ℕ) (p : PlainProgram) (c : Core) → IsProgramOf text p → IsCoreOf p c → HasAnswer (TellsGivenRun bytes c)
some_given text bytes p c is made =
    some_stage (RefusesReplay bytes c.agents) (λ (file : List Valuation × List CutAnswer). IsReplayFile bytes c.agents file.0 file.1) _ (replay_decided bytes c.agents (some_agent text p c is made) (replay_fault bytes c.agents) refl)
    (λ file said. some_outcome (outcome file.0 c (Given file.1)) (outcome file.0 c (Given file.1)) refl
    (λ f e m. subst (IsTold file.0 _) (e ∙ ap Refused m) (given_said text bytes p c file.0 file.1 is made said)))

-- ---- certificates

module _ (files : Files) (name : List ℕ) (core : Core) where
  -- what is said of its bytes is said of the file
  pub of_file : (bytes : List ℕ) (Says : List ℕ → Type 0) → file_of name files ≡ Some bytes → Says bytes → SaysOfFile (Some files) name Says
  of_file bytes Says e h = says_of (Some files) name bytes Says (ap Some e) h

  certificate_found : (o : Option (List ℕ)) → file_of name files ≡ o → ((r : Refusal) × RefusesCertificate (Some files) name core r) ⊎ ((x : CertAnswer) × ChecksFile (Some files) name core x)
  certificate_found None e = inl (refusal.ReadFault name, missing (ap Some e) refl)
  certificate_found (Some bytes) e =
      ⊎_elim
      (λ a. inr (a.0, of_file bytes (λ xs. CheckAnswer core xs a.0) e a.1))
      (λ f. let r = checker_refused name f.0 f.1.0 in inl (r.0, given_up f.0 r.1 (of_file bytes (λ xs. Fails core xs f.0) e f.1.1)))
      (files_decided core bytes)

  some_certified : HasAnswer (IsCertifyAnswer (Some files) name core)
  some_certified =
      some_stage (RefusesCertificate (Some files) name core) (ChecksFile (Some files) name core) _ (certificate_found (file_of name files) refl) (λ x h. (one_line (certify_json x) (checked_status x), refl))

  some_upgraded_of : (o : Option (List ℕ)) → file_of name files ≡ o → HasAnswer (IsUpgradeAnswer (Some files) name core)
  some_upgraded_of None e =
      let r : Refusal = refusal.ReadFault name in
      (after_text [] (refused r), ([], refused r, stops r (absent (ap Some e) refl refl) refl, refl))
  some_upgraded_of (Some bytes) e = let x = written_on (Some files) name core bytes 0 [] (ap Some e) refl in (x.0, x.2)

  some_upgraded : HasAnswer (IsUpgradeAnswer (Some files) name core)
  some_upgraded = some_upgraded_of (file_of name files) refl

-- ---- reports that are made and checked

module _ (core : Core) (report : List ℕ) (is : Accepts core report) where
  -- the checker accepts a certificate, or gives it up
  counts : (x : CertAnswer) → CheckAnswer core report x → (n : ℕ) × AcceptsReport core report n
  counts (Accepted n) h = (n, h)
  counts (Rejected r) h = absurd (rejected_is_no_certificate core report r h is)

  report_checked : ((r : Refusal) × RefusesReport core report r) ⊎ ((n : ℕ) × AcceptsReport core report n)
  report_checked =
      ⊎_elim
      (λ a. inr (counts a.0 a.1))
      (λ f. let r = checker_refused report_name f.0 f.1.0 in inl (r.0, (f.0, (r.1, f.1.1))))
      (files_decided core report)

some_after : (core : Core) (report : List ℕ) (s : Status) → (s ≡ status.Good → Accepts core report) → HasAnswer (AfterReport core report s)
some_after core report status.Good h =
    some_stage (RefusesReport core report) (AcceptsReport core report) _ (report_checked core report (h refl)) (λ n is. (one_line (demo_json core n (length report)) status.Good, refl))
some_after core report s h = (answer_of (last_line report) s, refl)

some_demo : (text : List ℕ) (p : PlainProgram) (core : Core) → IsProgramOf text p → IsCoreOf p core → HasAnswer (IsDemoAnswer core)
some_demo text p core is made =
    let report = some_verified core in
    let formed : IsWellFormed core = subst IsWellFormed (sym made.same) (core_formed text p core is made) in
    let a = some_after core report.0.text report.0.status (good_is_accepted core report.0 formed report.1) in
    (a.0, (report.0, (report.1, a.1)))

-- ---- all commands

pub some_answer : AnswersExist
some_answer files None = (refused refusal.Usage, refl)
some_answer files (Some (check f)) = some_core files f IsCheckAnswer (λ text p c is made. (one_line (core_json c) status.Good, refl))
some_answer files (Some (print f)) = some_program files f IsPrintAnswer (λ text p is. (answer_of (canonical_text p) status.Good, refl))
some_answer files (Some (paths f)) = some_core files f IsPathsAnswer (λ text p c is made. (goals_answer (events_of c) 0, refl))
some_answer files (Some (verify f)) =
    some_core files f IsVerifyAnswer (λ text p c is made. some_verified c)
some_answer files (Some (run f v)) =
    some_core files f (IsRunAnswer (Some files) v) (λ text p c is made. some_file files v (λ bytes. TellsLeastRun bytes c) (λ bytes. some_least text bytes p c is made))
some_answer files (Some (replay f v)) =
    some_core files f (IsReplayAnswer (Some files) v) (λ text p c is made. some_file files v (λ bytes. TellsGivenRun bytes c) (λ bytes. some_given text bytes p c is made))
some_answer files (Some (certify f c)) =
    some_core files f (IsCertifyAnswer (Some files) c) (λ text p core is made. some_certified files c core)
some_answer files (Some (upgrade f c)) =
    some_core files f (IsUpgradeAnswer (Some files) c) (λ text p core is made. some_upgraded files c core)
some_answer files (Some (demo n)) = some_of_text (rounds_text n) IsDemoAnswer (λ p c is made. some_demo (rounds_text n) p c is made)

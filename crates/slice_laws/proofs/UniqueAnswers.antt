-- Files and a command have one answer.
use Rattle.std.proofs.Common.{◌≡◌, ◌≢◌, ◌∙◌, ℕ, ◌<◌, ◌≤◌, inl, inr, List, [], ◌∷◌, length, map, Option, Some, None, sym, refl, ap, subst, arith}
use Rattle.slice_num.specs.Pieces.{joined}
use Rattle.slice_num.specs.Valuation.{Valuation}
use Rattle.slice_io.specs.Files.{Files, file_of, told_file, IsFile}
use Rattle.slice_ast.specs.Code.{PlainProgram}
use Rattle.slice_parse.specs.declared.parser.ParseFault.{ParseFault}
use Rattle.slice_parse.specs.declared.parser.ParseFault.TheVariants as parser
use Rattle.slice_parse.specs.Laws.{IsProgramOf, ReadProgramsAreUnique}
use Rattle.slice_parse.proofs.Unique.{faults_unique, faulty_apart}
use Rattle.slice_affine.specs.Conditions.{IsParsed}
use Rattle.slice_affine.proofs.ReadLemmas.{read_rises}
use Rattle.slice_affine.proofs.UniqueLemmas.{first_faults_unique}
use Rattle.slice_core.specs.Tree.{Core}
use Rattle.slice_step.specs.ValuationFile.{IsValuationFile, IsReplayFile}
use Rattle.slice_step.proofs.OneAnswer.{one_list}
use Rattle.slice_num.specs.declared.cut_answer.CutAnswer.{CutAnswer}
use Rattle.slice_run.specs.declared.outcome.RunFault.{RunFault}
use Rattle.slice_run.specs.Walk.{Told, Walked, Good, Refused, outcome, Least, Given}
use Rattle.slice_report.specs.declared.refusal.Refusal.{Refusal}
use Rattle.slice_report.specs.declared.refusal.Refusal.TheVariants.{ReadFault, TooLong, HeightLimit}
use Rattle.slice_paths.specs.Events.{Event, NextGoal, events_of, goal_limit, next_goal}
use Rattle.slice_paths.specs.Events as comes
use Rattle.slice_check.specs.Faults.{IsUnread}
use Rattle.slice_check.specs.declared.answer.CertAnswer.{CertAnswer}
use Rattle.slice_check.specs.declared.answer.CertAnswer.TheVariants.{Accepted}
use Rattle.slice_check.specs.declared.answer.CertFault.{CertFault}
use Rattle.slice_check.proofs.OneStop.{one_fault, one_answer, answer_or_fault}
use Rattle.slice_check.proofs.OneUpgrade.{one_upgrade, one_upgrade_fault, upgrade_or_fault}
use Rattle.slice_cert.specs.CertLines.{line_text}
use Rattle.slice_top.specs.Certificates.{SaysOfFile, ChecksFile, RefusesCertificate, RefusesUpgrade, UpgradesFile, absent, gives_up, missing, given_up, checker_refusal}
use Rattle.slice_top.specs.Answers.{Answer, refused, Stage, stops, goes, WithFile, WithProgram, WithCore, IsPrintAnswer, IsCheckAnswer, IsPathsAnswer, IsRunAnswer, IsReplayAnswer, IsCertifyAnswer, EndsUpgrade, IsUpgradeAnswer, upgrade_end, Counters, low, high, Closes, ClosesAt, IsVerifyAnswer, after_text, TellsLeastRun, TellsGivenRun, IsOutcome, OfText, CountsReport, AfterReport, IsDemoAnswer}
use Rattle.slice_top.specs.Commands.{check, print, paths, verify, run, replay, certify, upgrade, demo}
use Rattle.slice_top.specs.Cores.{RefusesCore, IsCoreOf, rule_refusal, limit_refusal}
use Rattle.slice_top.specs.Demos.{AcceptsReport, RefusesReport, report_name}
use Rattle.slice_top.specs.FilesRead.{IsFileOf, RefusesFile}
use Rattle.slice_laws.specs.Laws.{AnswersAreUnique}
use Rattle.slice_top.specs.Programs.{RefusesText, text_refusal}
use Rattle.slice_top.specs.Runs.{RefusesRun, run_refusal}
use Rattle.slice_laws.proofs.FileFaults.{values_apart, replay_apart, replay_same}
use Rattle.std.specs.Prelude.{ℤ}
use Rattle.slice_atoms.specs.Addresses.{atom_count}
use Rattle.slice_paths.specs.Goals.{Goal}
use Rattle.slice_paths.specs.Ways.{way_of}
use Rattle.slice_simplex.specs.ProverAnswer.{ProverAnswer, IsProverAnswer, RefutedBy, SolvedBy, AtLimit, Unfit}
use Rattle.slice_simplex.proofs.Once.{answer_is_one}
use Rattle.slice_cert.specs.declared.line.Line.{Line}
use Rattle.slice_cert.specs.ShortForms.{short_line}
use Rattle.slice_verify.specs.Report.{AreTaken, IsTaken, LeadsTo, pivot_limit, texts_after}
use Rattle.slice_gen.specs.Rounds.{rounds_text}
use Rattle.slice_top.specs.declared.status.Status.{Status}
use Rattle.slice_top.specs.declared.status.Status.TheVariants as status
use Rattle.slice_laws.proofs.Heights.{not_both_heights, one_height}
use Rattle.slice_top.proofs.CheckedFiles.{not_refused}
use Rattle.slice_top.proofs.Taking.{leads_one}
use Rattle.slice_laws.proofs.ToldRuns.{some_agent}
use Rattle.slice_top.specs.Values.{RefusesValues, RefusesReplay, values_refusal}

-- what comes next has one answer
abbrev One : (Answer → Type 0) → Type 0
One Next = (a b : Answer) → Next a → Next b → a ≡ b

-- a stage has one answer, where it has one refusal, or gives one thing, and never both
stage_one : {X : Type 0} (Cause : Refusal → Type 0) (Gives : X → Type 0) (Next : X → Answer → Type 0)
    → ((r s : Refusal) → Cause r → Cause s → r ≡ s) → ((r : Refusal) (x : X) → Cause r → Gives x → ⊥) → ((x y : X) → Gives x → Gives y → x ≡ y) → ((x : X) → Gives x → One (Next x)) → One (Stage Cause Gives Next)
stage_one Cause Gives Next one apart same next a b (stops r h e) (stops s k f) = e ∙ ap refused (one r s h k) ∙ sym f
stage_one Cause Gives Next one apart same next a b (stops r h e) (goes y k f) = absurd (apart r y h k)
stage_one Cause Gives Next one apart same next a b (goes x h e) (stops s k f) = absurd (apart s x k h)
stage_one Cause Gives Next one apart same next a b (goes x h e) (goes y k f) = next x h a b e (subst (λ z. Next z b) (sym (same x y h k)) f)

-- ---- faults and refusals

some_same : {A : Type 0} {x y : A} → Some x ≡ Some y → x ≡ y
some_same e = cc

none_some : {A : Type 0} {x : A} → None ≡ Some x → ⊥
none_some e = cc

-- one fault has one refusal
one_refusal : {F : Type 0} (refusal : F → Option Refusal) (f g : F) (r s : Refusal) → f ≡ g → refusal f ≡ Some r → refusal g ≡ Some s → r ≡ s
one_refusal refusal f g r s e h k = some_same (sym h ∙ ap refusal e ∙ k)

-- ---- files

missing_apart : (o : Option (Option (List ℕ))) (bytes : List ℕ) → o ≡ Some None → IsFile o bytes → ⊥
missing_apart o bytes e h = subst (λ (x : Option (Option (List ℕ))). IsFile x bytes) e h

file_same : (o : Option (List ℕ)) (xs ys : List ℕ) → IsFile (Some o) xs → IsFile (Some o) ys → xs ≡ ys
file_same None xs ys h k = absurd h
file_same (Some bytes) xs ys h k = h ∙ sym k

module _ (files : Files) (name : List ℕ) where
  one_file_refusal : (r s : Refusal) → RefusesFile (Some files) name r → RefusesFile (Some files) name s → r ≡ s
  one_file_refusal (ReadFault f) (ReadFault g) h k = ap ReadFault (h.0 ∙ sym k.0)
  one_file_refusal (ReadFault f) (TooLong g) h k = absurd (missing_apart (told_file (Some files) name) (k.1).bytes h.1 (k.1).there)
  one_file_refusal (ReadFault f) s h k = absurd k
  one_file_refusal (TooLong f) (ReadFault g) h k = absurd (missing_apart (told_file (Some files) name) (h.1).bytes k.1 (h.1).there)
  one_file_refusal (TooLong f) (TooLong g) h k = ap TooLong (h.0 ∙ sym k.0)
  one_file_refusal (TooLong f) s h k = absurd k
  one_file_refusal r s h k = absurd h

  file_apart : (r : Refusal) (bytes : List ℕ) → RefusesFile (Some files) name r → IsFileOf (Some files) name bytes → ⊥
  file_apart (ReadFault f) bytes h k = missing_apart (told_file (Some files) name) bytes h.1 k.there
  file_apart (TooLong f) bytes h k =
      let long = h.1 in
      let same : length long.bytes ≡ length bytes = ap length (file_same (file_of name files) long.bytes bytes long.there k.there) in
      omega (arith, long.long, k.short, same)
  file_apart r bytes h k = absurd h

  file_one : (Next : List ℕ → Answer → Type 0) → ((bytes : List ℕ) → One (Next bytes)) → One (WithFile (Some files) name Next)
  file_one Next next =
      stage_one (RefusesFile (Some files) name) (IsFileOf (Some files) name) Next one_file_refusal file_apart (λ x y h k. file_same (file_of name files) x y h.there k.there) (λ x h. next x)

-- ---- texts

own : (f : ParseFault) (r : Refusal) → text_refusal f ≡ Some r → f ≢ parser.Memory
own f r h e = none_some (sym (ap text_refusal e) ∙ h)

one_text_refusal : (text : List ℕ) (r s : Refusal) → RefusesText text r → RefusesText text s → r ≡ s
one_text_refusal text r s (f, (h, is)) (g, (k, same)) =
    one_refusal text_refusal f g r s (faults_unique text f g (record { own = own f r h; first = is }) (record { own = own g s k; first = same })) h k

text_apart : (text : List ℕ) (r : Refusal) (p : PlainProgram) → RefusesText text r → IsProgramOf text p → ⊥
text_apart text r p (f, (h, is)) k = faulty_apart text f p (record { own = own f r h; first = is }) k.spelled

text_one : ReadProgramsAreUnique → (text : List ℕ) (Next : PlainProgram → Answer → Type 0) → ((p : PlainProgram) → IsProgramOf text p → One (Next p)) → One (Stage (RefusesText text) (IsProgramOf text) Next)
text_one once text Next next = stage_one (RefusesText text) (IsProgramOf text) Next (one_text_refusal text) (text_apart text) (once text) next

program_one : ReadProgramsAreUnique → (files : Files) (f : List ℕ) (Next : PlainProgram → Answer → Type 0) → ((text : List ℕ) (p : PlainProgram) → IsProgramOf text p → One (Next p)) → One (WithProgram (Some files) f Next)
program_one once files f Next next = file_one files f _ (λ text. text_one once text Next (next text))

-- ---- cores

pub parsed_of : (text : List ℕ) (p : PlainProgram) → IsProgramOf text p → IsParsed p
parsed_of text p is = record { spellable = is.spelled.spellable; limits = is.spelled.within; places = read_rises text p is.read }

module _ (p : PlainProgram) (parsed : IsParsed p) where
  one_core_refusal : (r s : Refusal) → RefusesCore p r → RefusesCore p s → r ≡ s
  one_core_refusal r s (inl (f, (h, is))) (inl (g, (k, same))) = one_refusal rule_refusal f g r s (first_faults_unique p parsed f g is same) h k
  one_core_refusal r s (inl (f, (h, is))) (inr k) = absurd (k.rules f is.stands)
  one_core_refusal r s (inr h) (inl (g, (k, same))) = absurd (h.rules g same.stands)
  one_core_refusal r s (inr h) (inr k) = one_refusal limit_refusal h.fault k.fault r s (some_same (sym h.first ∙ k.first)) h.told k.told

  core_apart : (r : Refusal) (c : Core) → RefusesCore p r → IsCoreOf p c → ⊥
  core_apart r c (inl (f, (h, is))) k = k.rules f is.stands
  core_apart r c (inr h) k = none_some (sym k.limits ∙ h.first)

  core_one : (Next : Core → Answer → Type 0) → ((c : Core) → IsCoreOf p c → One (Next c)) → One (Stage (RefusesCore p) (IsCoreOf p) Next)
  core_one Next next = stage_one (RefusesCore p) (IsCoreOf p) Next one_core_refusal core_apart (λ c d h k. h.same ∙ sym k.same) next

with_core_one : ReadProgramsAreUnique → (files : Files) (f : List ℕ) (Next : Core → Answer → Type 0) → ((c : Core) → 0 < c.agents → One (Next c)) → One (WithCore (Some files) f Next)
with_core_one once files f Next next = program_one once files f _ (λ text p is. core_one p (parsed_of text p is) Next (λ c made. next c (some_agent text p c is made)))

-- ---- runs

told_is : {a b c : Answer} → a ≡ c → b ≡ c → a ≡ b
told_is e f = e ∙ sym f

good_same : {t u : Told} → Good t ≡ Good u → t ≡ u
good_same e = cc

refused_same : {w : Walked Told} {f g : RunFault} → w ≡ Refused f → w ≡ Refused g → f ≡ g
refused_same e k = cc

good_refused : {t : Told} {f : RunFault} → Good t ≡ Refused f → ⊥
good_refused e = cc

outcome_one : (w : Walked Told) → One (IsOutcome w)
outcome_one w =
    stage_one (RefusesRun w) (λ (t : Told). w ≡ Good t) _ (λ r s h k. one_refusal run_refusal h.0 k.0 r s (refused_same h.1.1 k.1.1) h.1.0 k.1.0)
    (λ r t h k. good_refused (sym k ∙ h.1.1)) (λ t u h k. good_same (sym h ∙ k)) (λ t h a b e f. told_is e f)

least_one : (bytes : List ℕ) (core : Core) → 0 < core.agents → One (TellsLeastRun bytes core)
least_one bytes core some =
    stage_one (RefusesValues bytes core.agents) (IsValuationFile bytes core.agents) _
    (λ r s h k. one_refusal values_refusal h.0 k.0 r s (some_same (sym h.1.1 ∙ k.1.1)) h.1.0 k.1.0) (λ r vs h k. values_apart bytes core.agents vs h.0 some k h.1.1) (λ vs us h k. one_list bytes core.agents vs us h k)
    (λ vs h. outcome_one (outcome vs core Least))

given_one : (bytes : List ℕ) (core : Core) → 0 < core.agents → One (TellsGivenRun bytes core)
given_one bytes core some =
    stage_one (RefusesReplay bytes core.agents) (λ (file : List Valuation × List CutAnswer). IsReplayFile bytes core.agents file.0 file.1) _
    (λ r s h k. one_refusal values_refusal h.0 k.0 r s (some_same (sym h.1.1 ∙ k.1.1)) h.1.0 k.1.0) (λ r file h k. replay_apart bytes core.agents file.0 file.1 h.0 some k h.1.1) (λ x y h k. replay_same bytes core.agents x y h k)
    (λ file h. outcome_one (outcome file.0 core (Given file.1)))

-- ---- certificates

-- the bytes of a file that is there
held : (o : Option (List ℕ)) → Some o ≢ Some None → (bytes : List ℕ) × (Some o ≡ Some (Some bytes))
held None there = absurd (there refl)
held (Some bytes) there = (bytes, refl)

module _ (files : Files) (name : List ℕ) (core : Core) where
  bytes_of : {Says : List ℕ → Type 0} → SaysOfFile (Some files) name Says → (bytes : List ℕ) × (told_file (Some files) name ≡ Some (Some bytes))
  bytes_of h = held (file_of name files) h.there

  own_fault : (f : CertFault) (r : Refusal) → checker_refusal name f ≡ Some r → IsUnread f → ⊥
  own_fault f r e u = not_refused name f r u e

  one_certificate_refusal : (r s : Refusal) → RefusesCertificate (Some files) name core r → RefusesCertificate (Some files) name core s → r ≡ s
  one_certificate_refusal r s (missing e h) (missing d k) = h ∙ sym k
  one_certificate_refusal r s (missing e h) (given_up g d k) = absurd (k.there e)
  one_certificate_refusal r s (given_up f e h) (missing d k) = absurd (h.there d)
  one_certificate_refusal r s (given_up f e h) (given_up g d k) =
      let b = bytes_of h in
      one_refusal (checker_refusal name) f g r s (one_fault core b.0 f g (own_fault f r e) (own_fault g s d) (h.says b.0 b.1) (k.says b.0 b.1)) e d

  certificate_apart : (r : Refusal) (x : CertAnswer) → RefusesCertificate (Some files) name core r → ChecksFile (Some files) name core x → ⊥
  certificate_apart r x (missing e h) k = k.there e
  certificate_apart r x (given_up f e h) k = let b = bytes_of h in own_fault f r e (answer_or_fault core b.0 x f (k.says b.0 b.1) (h.says b.0 b.1))

  certify_one : One (IsCertifyAnswer (Some files) name core)
  certify_one =
      stage_one (RefusesCertificate (Some files) name core) (ChecksFile (Some files) name core) _ one_certificate_refusal certificate_apart
      (λ x y h k. let b = bytes_of h in one_answer core b.0 x y (h.says b.0 b.1) (k.says b.0 b.1)) (λ x h a b e f. told_is e f)

  -- ---- upgrades

  one_upgrade_refusal : (xs ys : List ℕ) (r s : Refusal) → RefusesUpgrade (Some files) name core xs r → RefusesUpgrade (Some files) name core ys s → (xs ≡ ys) × (r ≡ s)
  one_upgrade_refusal xs ys r s (absent e out h) (absent d others k) = (out ∙ sym others, h ∙ sym k)
  one_upgrade_refusal xs ys r s (absent e out h) (gives_up g d k) = absurd (k.there e)
  one_upgrade_refusal xs ys r s (gives_up f e h) (absent d others k) = absurd (h.there d)
  one_upgrade_refusal xs ys r s (gives_up f e h) (gives_up g d k) =
      let b = bytes_of h in
      let same = one_upgrade_fault core b.0 f g xs ys (own_fault f r e) (own_fault g s d) (h.says b.0 b.1) (k.says b.0 b.1) in
      (same.1, one_refusal (checker_refusal name) f g r s same.0 e d)

  upgrade_apart : (xs ys : List ℕ) (r : Refusal) (x : CertAnswer) → RefusesUpgrade (Some files) name core xs r → UpgradesFile (Some files) name core ys x → ⊥
  upgrade_apart xs ys r x (absent e out h) k = k.there e
  upgrade_apart xs ys r x (gives_up f e h) k = let b = bytes_of h in own_fault f r e (upgrade_or_fault core b.0 x f ys xs (k.says b.0 b.1) (h.says b.0 b.1))

  ends_upgrade_one : (xs ys : List ℕ) (a b : Answer) → EndsUpgrade (Some files) name core xs a → EndsUpgrade (Some files) name core ys b → (xs ≡ ys) × (a ≡ b)
  ends_upgrade_one xs ys a b (stops r h e) (stops s k f) = let same = one_upgrade_refusal xs ys r s h k in (same.0, e ∙ ap refused same.1 ∙ sym f)
  ends_upgrade_one xs ys a b (stops r h e) (goes y k f) = absurd (upgrade_apart xs ys r y h k)
  ends_upgrade_one xs ys a b (goes x h e) (stops s k f) = absurd (upgrade_apart ys xs s x k h)
  ends_upgrade_one xs ys a b (goes x h e) (goes y k f) =
      let there = bytes_of h in
      let same = one_upgrade core there.0 x y xs ys (h.says there.0 there.1) (k.says there.0 there.1) in
      (same.1, e ∙ ap upgrade_end same.0 ∙ sym f)

  upgrade_one : One (IsUpgradeAnswer (Some files) name core)
  upgrade_one a b (ls, x, h, e) (ks, y, k, f) =
      let same = ends_upgrade_one (joined (map line_text ls)) (joined (map line_text ks)) x y h k in
      e ∙ (λ i. after_text (same.0 i) (same.1 i)) ∙ sym f

-- ---- decisions

counters_one : (core : Core) (g : Goal) (xs : List ℤ) → One (Counters core g xs)
counters_one core g xs a b (low l e) (low k f) = told_is e f
counters_one core g xs a b (low l e) (high agent atom k f) = absurd (not_both_heights core.agents (atom_count (way_of core g.trace).cake) xs agent atom l k)
counters_one core g xs a b (high agent atom l e) (low k f) = absurd (not_both_heights core.agents (atom_count (way_of core g.trace).cake) xs agent atom k l)
counters_one core g xs a b (high agent atom l e) (high other part k f) =
    let same = one_height core.agents (atom_count (way_of core g.trace).cake) xs agent atom other part l k in
    e ∙ (λ i. refused (HeightLimit g.number (same.0 i) (same.1 i))) ∙ sym f

closes_at_one : (core : Core) (n : ℕ) (g : Goal) (later : List Event) (p : ProverAnswer) → One (ClosesAt core n g later p)
closes_at_one core n g later (RefutedBy m) a b h k = told_is h.4 k.4
closes_at_one core n g later (SolvedBy xs) a b h k = counters_one core g xs a b h k
closes_at_one core n g later AtLimit a b h k = told_is h k
closes_at_one core n g later (Unfit pivots row col) a b h k = told_is h k

closes_one : (core : Core) (n : ℕ) (x : NextGoal) → One (Closes core n x)
closes_one core n comes.NoMore a b h k = told_is h k
closes_one core n comes.Overflows a b h k = told_is h k
closes_one core n comes.OverLimit a b h k = told_is h k
closes_one core n (comes.Gives g later) a b h k =
    closes_at_one core n g later h.0 a b h.2 (subst (λ (p : ProverAnswer). ClosesAt core n g later p b) (answer_is_one g.rows pivot_limit k.0 h.0 k.1 h.1) k.2)

-- one goal comes next
same_goal : (x : NextGoal) (g h : Goal) (es fs : List Event) → x ≡ comes.Gives g es → x ≡ comes.Gives h fs → (g ≡ h) × (es ≡ fs)
same_goal x g h es fs e f = let same : comes.Gives g es ≡ comes.Gives h fs = sym e ∙ f in (cc, cc)

same_refuted : (m k : List ℤ) → RefutedBy m ≡ RefutedBy k → m ≡ k
same_refuted m k e = cc

-- of a goal that comes next there is one line, and it leads to one place
module _ (core : Core) (n : ℕ) (ahead : List Event) (l : Line) (t : IsTaken core n ahead l) where
  same_line : (g : Goal) (later : List Event) (m : List ℤ) → next_goal ahead n ≡ comes.Gives g later → IsProverAnswer g.rows pivot_limit (RefutedBy m) → l ≡ short_line core.agents n m
  same_line g later m e is =
      let goal = (same_goal (next_goal ahead n) t.goal g t.later later t.comes e).0 in
      let ends = subst (λ (x : Goal). IsProverAnswer x.rows pivot_limit (RefutedBy t.multipliers)) goal t.refuted.ends in
      t.line ∙ ap (short_line core.agents n) (same_refuted t.multipliers m (answer_is_one g.rows pivot_limit (RefutedBy t.multipliers) (RefutedBy m) ends is))

  same_place : (g : Goal) (later : List Event) (j k : ℕ) (es fs : List Event) → next_goal ahead n ≡ comes.Gives g later → LeadsTo core n t.goal t.later l j es → LeadsTo core n g later l k fs → (j ≡ k) × (es ≡ fs)
  same_place g later j k es fs e x y =
      let same = same_goal (next_goal ahead n) t.goal g t.later later t.comes e in
      leads_one core n g later l j k es fs (subst (λ (ds : List Event). LeadsTo core n g ds l j es) same.1 (subst (λ (h : Goal). LeadsTo core n h t.later l j es) same.0 x)) y

  -- a report that goes on behind it isn't closed before it
  not_closed_at : (k : ℕ) (mid : List Event) → LeadsTo core n t.goal t.later l k mid → k ≤ goal_limit → (a : Answer) (p : ProverAnswer) → IsProverAnswer t.goal.rows pivot_limit p → ClosesAt core n t.goal t.later p a → ⊥
  not_closed_at k mid leads few a (RefutedBy m) is h =
      let line : l ≡ short_line core.agents n m = same_line t.goal t.later m t.comes is in
      let other = subst (λ (z : Line). LeadsTo core n t.goal t.later z h.0 h.1) (sym line) h.2 in
      let place = (leads_one core n t.goal t.later l k h.0 mid h.1 leads other).0 in
      let past = h.3 in
      omega (arith, few, place, past)
  not_closed_at k mid leads few a (SolvedBy xs) is h =
      let bad : RefutedBy t.multipliers ≡ SolvedBy xs = answer_is_one t.goal.rows pivot_limit (RefutedBy t.multipliers) (SolvedBy xs) t.refuted.ends is in cc
  not_closed_at k mid leads few a AtLimit is h =
      let bad : RefutedBy t.multipliers ≡ AtLimit = answer_is_one t.goal.rows pivot_limit (RefutedBy t.multipliers) AtLimit t.refuted.ends is in cc
  not_closed_at k mid leads few a (Unfit pivots row col) is h =
      let bad : RefutedBy t.multipliers ≡ Unfit pivots row col = answer_is_one t.goal.rows pivot_limit (RefutedBy t.multipliers) (Unfit pivots row col) t.refuted.ends is in cc

  not_closed : (k : ℕ) (mid : List Event) → LeadsTo core n t.goal t.later l k mid → k ≤ goal_limit → (a : Answer) → Closes core n (next_goal ahead n) a → ⊥
  not_closed k mid leads few a c =
      let at = subst (λ (x : NextGoal). Closes core n x a) t.comes c in
      not_closed_at k mid leads few a at.0 at.1 at.2

-- lines from n on, and what closes the report behind them
record Goes (core : Core) (n : ℕ) (ahead : List Event) (ls : List Line) (a : Answer) : Type 0 where
  goals : ℕ
  later : List Event
  taken : AreTaken core n ahead ls goals later
  closes : Closes core goals (next_goal later goals) a

closed_here : (core : Core) (n : ℕ) (ahead : List Event) (a : Answer) → Goes core n ahead [] a → Closes core n (next_goal ahead n) a
closed_here core n ahead a x =
    subst (λ (es : List Event). Closes core n (next_goal es n) a) x.taken.1 (subst (λ (k : ℕ). Closes core k (next_goal x.later k) a) x.taken.0 x.closes)

goes_one : (core : Core) (n : ℕ) (ahead : List Event) (ls ks : List Line) (a b : Answer) → Goes core n ahead ls a → Goes core n ahead ks b → (ls ≡ ks) × (a ≡ b)
goes_one core n ahead [] [] a b x y = (refl, closes_one core n (next_goal ahead n) a b (closed_here core n ahead a x) (closed_here core n ahead b y))
goes_one core n ahead [] (k ∷ ks) a b x y = let t = y.taken in absurd (not_closed core n ahead k t.0 t.1 t.2 t.3 t.4 a (closed_here core n ahead a x))
goes_one core n ahead (l ∷ ls) [] a b x y = let t = x.taken in absurd (not_closed core n ahead l t.0 t.1 t.2 t.3 t.4 b (closed_here core n ahead b y))
goes_one core n ahead (l ∷ ls) (k ∷ ks) a b x y =
    let t = x.taken in
    let u = y.taken in
    let line : l ≡ k = same_line core n ahead l t.0 u.0.goal u.0.later u.0.multipliers u.0.comes u.0.refuted.ends ∙ sym u.0.line in
    let place = same_place core n ahead l t.0 u.0.goal u.0.later t.1 u.1 t.2 u.2 u.0.comes t.3 (subst (λ (z : Line). LeadsTo core n u.0.goal u.0.later z u.1 u.2) (sym line) u.3) in
    let first = subst (λ (es : List Event). AreTaken core u.1 es ls x.goals x.later) place.1 (subst (λ (j : ℕ). AreTaken core j t.2 ls x.goals x.later) place.0 t.5) in
    let rest = goes_one core u.1 u.2 ls ks a b
    (record { goals = x.goals; later = x.later; taken = first; closes = x.closes }) (record { goals = y.goals; later = y.later; taken = u.5; closes = y.closes }) in
    ((λ i. line i ∷ rest.0 i), rest.1)

verify_one : (core : Core) → One (IsVerifyAnswer core)
verify_one core a b (ls, n, ahead, t, x, c, e) (ks, m, later, u, y, d, f) =
    let same = goes_one core 0 (events_of core) ls ks x y (record { goals = n; later = ahead; taken = t; closes = c }) (record { goals = m; later = later; taken = u; closes = d }) in
    e ∙ (λ i. after_text (joined (texts_after core (same.0 i))) (same.1 i)) ∙ sym f

-- ---- reports

one_accepted : {m n : ℕ} → Accepted m ≡ Accepted n → m ≡ n
one_accepted e = cc

counts_one : (core : Core) (report : List ℕ) → One (CountsReport core report)
counts_one core report =
    let own = λ (f : CertFault) (r : Refusal) (e : checker_refusal report_name f ≡ Some r) (u : IsUnread f). not_refused report_name f r u e in
    stage_one (RefusesReport core report) (AcceptsReport core report) _
    (λ r s h k. one_refusal (checker_refusal report_name) h.0 k.0 r s (one_fault core report h.0 k.0 (own h.0 r h.1.0) (own k.0 s k.1.0) h.1.1 k.1.1) h.1.0 k.1.0)
    (λ r n h k. own h.0 r h.1.0 (answer_or_fault core report (Accepted n) h.0 k h.1.1)) (λ m n h k. one_accepted (one_answer core report (Accepted m) (Accepted n) h k)) (λ n h a b e f. told_is e f)

after_one : (core : Core) (report : List ℕ) (s : Status) → One (AfterReport core report s)
after_one core report status.Good a b h k = counts_one core report a b h k
after_one core report s a b h k = told_is h k

demo_one : (core : Core) → One (IsDemoAnswer core)
demo_one core a b (x, (h, e)) (y, (k, f)) = after_one core x.text x.status a b e (subst (λ (r : Answer). AfterReport core r.text r.status b) (verify_one core y x k h) f)

made_one : ReadProgramsAreUnique → (text : List ℕ) → One (OfText text IsDemoAnswer)
made_one once text = text_one once text _ (λ p is. core_one p (parsed_of text p is) IsDemoAnswer (λ c made. demo_one c))

-- ---- all commands

-- where a text is read as one program
pub answer_unique : ReadProgramsAreUnique → AnswersAreUnique
answer_unique once files None a b e f = told_is e f
answer_unique once files (Some (check f)) a b h k = with_core_one once files f IsCheckAnswer (λ c some x y e g. told_is e g) a b h k
answer_unique once files (Some (print f)) a b h k = program_one once files f IsPrintAnswer (λ text p is x y e g. told_is e g) a b h k
answer_unique once files (Some (paths f)) a b h k = with_core_one once files f IsPathsAnswer (λ c some x y e g. told_is e g) a b h k
answer_unique once files (Some (verify f)) a b h k = with_core_one once files f IsVerifyAnswer (λ c some. verify_one c) a b h k
answer_unique once files (Some (run f v)) a b h k = with_core_one once files f (IsRunAnswer (Some files) v) (λ c some. file_one files v _ (λ bytes. least_one bytes c some)) a b h k
answer_unique once files (Some (replay f v)) a b h k = with_core_one once files f (IsReplayAnswer (Some files) v) (λ c some. file_one files v _ (λ bytes. given_one bytes c some)) a b h k
answer_unique once files (Some (certify f c)) a b h k = with_core_one once files f (IsCertifyAnswer (Some files) c) (λ core some. certify_one files c core) a b h k
answer_unique once files (Some (upgrade f c)) a b h k = with_core_one once files f (IsUpgradeAnswer (Some files) c) (λ core some. upgrade_one files c core) a b h k
answer_unique once files (Some (demo n)) a b h k = made_one once (rounds_text n) a b h k

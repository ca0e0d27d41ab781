-- Where `verify`, `certify`, `upgrade` or `demo` ends well, every run of its protocol is fair.
use Rattle.std.proofs.Common.{◌≡◌, ◌∙◌, ap, sym, subst, ℕ, List, map, Option, Some, None, refl}
use Rattle.std.specs.Prelude.{ℤ, IfSome, Bool, true, false, if◌then◌else◌}
use Rattle.std.specs.List.{All}
use Rattle.slice_io.specs.Files.{Files, file_of, IsFile}
use Rattle.slice_ast.specs.Code.{PlainProgram}
use Rattle.slice_parse.specs.Laws.{IsProgramOf}
use Rattle.slice_num.specs.Pieces.{joined}
use Rattle.slice_core.specs.Tree.{Core}
use Rattle.slice_paths.specs.Events.{Event, NextGoal, Gives, NoMore, Overflows, OverLimit, next_goal}
use Rattle.slice_paths.specs.Goals.{Goal, goals}
use Rattle.slice_paths.specs.RunLaws.{IsRefuted}
use Rattle.slice_simplex.specs.ProverAnswer.{ProverAnswer, RefutedBy, SolvedBy, AtLimit, Unfit}
use Rattle.slice_cert.specs.CertLines.{line_text}
use Rattle.slice_check.specs.declared.answer.CertAnswer.{CertAnswer}
use Rattle.slice_check.specs.declared.answer.CertAnswer.TheVariants.{Accepted, Rejected}
use Rattle.slice_check.proofs.Refuted.{certified_goals_are_refuted, lines_refuted}
use Rattle.slice_gen.specs.Rounds.{rounds_text}
use Rattle.slice_report.specs.declared.refusal.Refusal.{Refusal}
use Rattle.slice_report.specs.declared.refusal.Refusal.TheVariants.{Usage, ReadFault}
use Rattle.slice_report.specs.declared.refusal.Refusal.TheVariants as refusal
use Rattle.slice_top.specs.Answers.{Answer, Stage, stops, goes, refused, OfText, WithCore, IsAnswer, Counters, low, high, Closes, ClosesAt, IsVerifyAnswer, IsCertifyAnswer, EndsUpgrade, IsUpgradeAnswer, upgrade_end, AfterReport, IsDemoAnswer}
use Rattle.slice_top.specs.Certificates.{ChecksFile, UpgradesFile, checked_status}
use Rattle.slice_top.specs.Commands.{Command, check, print, paths, verify, run, replay, certify, upgrade, demo}
use Rattle.slice_top.specs.Cores.{IsCoreOf, RefusesCore}
use Rattle.slice_top.specs.Headline.{HoldsFairProgram, IsFairText, made_rounds, shown_file}
use Rattle.slice_top.specs.Reports.{Whole, answered, unread, starved, Report, whole, cut, Reports}
use Rattle.slice_top.specs.Statuses.{is_limit, refused_status}
use Rattle.slice_top.specs.declared.status.Status.{Status}
use Rattle.slice_top.specs.declared.status.Status.TheVariants as status
use Rattle.slice_top.proofs.Fair.{refuted_program_fair}
use Rattle.slice_top.proofs.Taking.{all_taken}

-- ---- goals

-- each goal of the core is refuted, by its own rows or by those after a front of its choices
abbrev AreRefuted : Core → Type 0
AreRefuted core = All (IsRefuted core) (goals core)

-- ---- answers

limit_not_good : (b : Bool) → (if b then status.Limit else status.Refused) ≡ status.Good → ⊥
limit_not_good true e = cc
limit_not_good false e = cc

pub refusal_not_good : (r : Refusal) → refused_status r ≡ status.Good → ⊥
refusal_not_good Usage e = cc
refusal_not_good (ReadFault file) e = cc
refusal_not_good r e = limit_not_good (is_limit r) e

pub refused_not_good : (r : Refusal) (a : Answer) → a ≡ refused r → a.status ≡ status.Good → ⊥
refused_not_good r a e good = refusal_not_good r (sym (ap (λ (x : Answer). x.status) e) ∙ good)

pub there_is : (o : Option (List ℕ)) (bytes : List ℕ) → IsFile (Some o) bytes → o ≡ Some bytes
there_is None bytes h = absurd h
there_is (Some other) bytes h = ap Some (sym h)

-- ---- certificates

-- one that is accepted
accepted : (files : Files) (c : List ℕ) (core : Core) (x : CertAnswer) (o : Option (List ℕ)) → file_of c files ≡ o → ChecksFile (Some files) c core x → checked_status x ≡ status.Good → AreRefuted core
accepted files c core x None e h good = absurd (h.there (ap Some e))
accepted files c core (Accepted n) (Some bytes) e h good =
    certified_goals_are_refuted core bytes (h.says bytes (ap Some e)).0
accepted files c core (Rejected r) (Some bytes) e h good = absurd cc

certified : (files : Files) (c : List ℕ) (core : Core) (a : Answer) → IsCertifyAnswer (Some files) c core a → a.status ≡ status.Good → AreRefuted core
certified files c core a (stops r h e) good = absurd (refused_not_good r a e good)
certified files c core a (goes x h e) good = accepted files c core x (file_of c files) refl h (sym (ap (λ (b : Answer). b.status) e) ∙ good)

-- ---- upgrades

-- of a certificate that is accepted
accepted_end : (files : Files) (c : List ℕ) (core : Core) (out : List ℕ) (x : CertAnswer) (o : Option (List ℕ)) → file_of c files ≡ o → UpgradesFile (Some files) c core out x → (upgrade_end x).status ≡ status.Good → AreRefuted core
accepted_end files c core out x None e h good = absurd (h.there (ap Some e))
accepted_end files c core out (Accepted n) (Some bytes) e h good =
    certified_goals_are_refuted core bytes (h.says bytes (ap Some e)).1.0
accepted_end files c core out (Rejected r) (Some bytes) e h good = absurd cc

ended_well : (files : Files) (c : List ℕ) (core : Core) (out : List ℕ) (b : Answer) → EndsUpgrade (Some files) c core out b → b.status ≡ status.Good → AreRefuted core
ended_well files c core out b (stops r h e) good = absurd (refused_not_good r b e good)
ended_well files c core out b (goes x h e) good = accepted_end files c core out x (file_of c files) refl h (sym (ap (λ (a : Answer). a.status) e) ∙ good)

upgraded : (files : Files) (c : List ℕ) (core : Core) (a : Answer) → IsUpgradeAnswer (Some files) c core a → a.status ≡ status.Good → AreRefuted core
upgraded files c core a (ls, b, ends, e) good = ended_well files c core (joined (map line_text ls)) b ends (sym (ap (λ (x : Answer). x.status) e) ∙ good)

-- ---- decisions

pub not_countered : (core : Core) (g : Goal) (xs : List ℤ) (a : Answer) → Counters core g xs a → a.status ≡ status.Good → ⊥
not_countered core g xs a (low l e) good = let bad : status.Negative ≡ status.Good = sym (ap (λ (b : Answer). b.status) e) ∙ good in cc
not_countered core g xs a (high agent atom l e) good = refused_not_good (refusal.HeightLimit g.number agent atom) a e good

-- only the closing line ends a report well
not_good_at : (core : Core) (n : ℕ) (g : Goal) (later : List Event) (a : Answer) (p : ProverAnswer) → ClosesAt core n g later p a → a.status ≡ status.Good → ⊥
not_good_at core n g later a (RefutedBy m) c good = refusal_not_good refusal.GoalLimit (sym (ap (λ (x : Answer). x.status) c.4) ∙ good)
not_good_at core n g later a (SolvedBy xs) c good = not_countered core g xs a c good
not_good_at core n g later a AtLimit e good = refused_not_good (refusal.PivotLimit n) a e good
not_good_at core n g later a (Unfit pivots row col) e good = refused_not_good (refusal.ProverOverflow n pivots row col) a e good

pub closed_well : (core : Core) (n : ℕ) (x : NextGoal) (a : Answer) → Closes core n x a → a.status ≡ status.Good → x ≡ NoMore
closed_well core n NoMore a c good = refl
closed_well core n Overflows a e good = absurd (refused_not_good (refusal.FormOverflow n) a e good)
closed_well core n OverLimit a e good = absurd (refused_not_good refusal.GoalLimit a e good)
closed_well core n (Gives g later) a c good = absurd (not_good_at core n g later a c.0 c.2 good)

pub verified : (core : Core) (a : Answer) → IsVerifyAnswer core a → a.status ≡ status.Good → AreRefuted core
verified core a (ls, n, ahead, taken, b, c, e) good =
    let none = closed_well core n (next_goal ahead n) b c (sym (ap (λ (x : Answer). x.status) e) ∙ good) in
    lines_refuted core 2 0 ls (goals core) (all_taken core ls n ahead taken none).0

-- ---- a report that is made and checked

after_good : (core : Core) (report : List ℕ) (s : Status) (a : Answer) → AfterReport core report s a → a.status ≡ status.Good → s ≡ status.Good
after_good core report status.Good a h good = refl
after_good core report s a e good = sym (ap (λ (x : Answer). x.status) e) ∙ good

checked : (core : Core) (a : Answer) → IsDemoAnswer core a → a.status ≡ status.Good → AreRefuted core
checked core a (report, (is, after)) good = verified core report is (after_good core report.text report.status a after good)

-- ---- stage by stage

module _ (Next : Core → Answer → Type 0) (shows : (core : Core) (a : Answer) → Next core a → a.status ≡ status.Good → AreRefuted core) where
  of_program : (text : List ℕ) (p : PlainProgram) (a : Answer) → IsProgramOf text p → Stage (RefusesCore p) (IsCoreOf p) Next a → a.status ≡ status.Good → IsFairText text
  of_program text p a is (stops r h e) good = absurd (refused_not_good r a e good)
  of_program text p a is (goes core made next) good = record { program = p; spelled = is.spelled; rules = made.rules; every = refuted_program_fair text p core is made (shows core a next good) }

  of_text : (text : List ℕ) (a : Answer) → OfText text Next a → a.status ≡ status.Good → IsFairText text
  of_text text a (stops r h e) good = absurd (refused_not_good r a e good)
  of_text text a (goes p is next) good = of_program text p a is next good

  of_file : (files : Files) (f : List ℕ) (a : Answer) → WithCore (Some files) f Next a → a.status ≡ status.Good → HoldsFairProgram files f
  of_file files f a (stops r h e) good = absurd (refused_not_good r a e good)
  of_file files f a (goes text file next) good = record { text = text; there = there_is (file_of f files) text file.there; fair = of_text text a next good }

module _ (told : Option Files) (Shown : Option Command → Type 0) (shown : (k : Option Command) (a : Answer) → IsAnswer told k a → a.status ≡ status.Good → Shown k) where
  good_whole : (k : Option Command) (bytes : List ℕ) (s : Status) → Whole told k bytes s → s ≡ status.Good → Shown k
  good_whole k bytes s (answered a is e t) good = shown k a is (sym e ∙ good)
  good_whole k bytes s (unread file out turn e t) good = let bad : status.ReadFault ≡ status.Good = sym e ∙ good in absurd cc
  good_whole k bytes s (starved out is e t) good = let bad : status.Memory ≡ status.Good = sym e ∙ good in absurd cc

  good_report : (k : Option Command) (bytes : List ℕ) (s : Status) → Report told k bytes s → s ≡ status.Good → Shown k
  good_report k bytes s (whole w) good = good_whole k bytes s w good
  good_report k bytes s (cut all other w count t e) good = let bad : status.WriteFault ≡ status.Good = sym e ∙ good in absurd cc

-- ---- a command that ends well

good_file : (files : Files) (k : Option Command) (a : Answer) → IsAnswer (Some files) k a → a.status ≡ status.Good → IfSome (shown_file k) (HoldsFairProgram files)
good_file files None a h good = tt
good_file files (Some (check f)) a h good = tt
good_file files (Some (print f)) a h good = tt
good_file files (Some (paths f)) a h good = tt
good_file files (Some (verify f)) a h good = of_file IsVerifyAnswer verified files f a h good
good_file files (Some (run f v)) a h good = tt
good_file files (Some (replay f v)) a h good = tt
good_file files (Some (certify f c)) a h good = of_file (IsCertifyAnswer (Some files) c) (certified files c) files f a h good
good_file files (Some (upgrade f c)) a h good = of_file (IsUpgradeAnswer (Some files) c) (upgraded files c) files f a h good
good_file files (Some (demo n)) a h good = tt

good_rounds : (told : Option Files) (k : Option Command) (a : Answer) → IsAnswer told k a → a.status ≡ status.Good → IfSome (made_rounds k) (λ n. IsFairText (rounds_text n))
good_rounds told None a h good = tt
good_rounds told (Some (check f)) a h good = tt
good_rounds told (Some (print f)) a h good = tt
good_rounds told (Some (paths f)) a h good = tt
good_rounds told (Some (verify f)) a h good = tt
good_rounds told (Some (run f v)) a h good = tt
good_rounds told (Some (replay f v)) a h good = tt
good_rounds told (Some (certify f c)) a h good = tt
good_rounds told (Some (upgrade f c)) a h good = tt
good_rounds told (Some (demo n)) a h good = of_text IsDemoAnswer checked (rounds_text n) a h good

-- its report
pub good_reports : (told : Option Files) (k : Option Command) (before after : Option (List ℕ)) (s : Status) → Reports told k before after s → s ≡ status.Good → (files : Files) → told ≡ Some files
    → IfSome (shown_file k) (HoldsFairProgram files)
good_reports told k before after s h good files e =
    good_report (Some files) (λ c. IfSome (shown_file c) (HoldsFairProgram files)) (good_file files) k h.bytes s (subst (λ (t : Option Files). Report t k h.bytes s) e h.is) good

pub good_demos : (told : Option Files) (k : Option Command) (before after : Option (List ℕ)) (s : Status) → Reports told k before after s → s ≡ status.Good → IfSome (made_rounds k) (λ n. IsFairText (rounds_text n))
good_demos told k before after s h good = good_report told (λ c. IfSome (made_rounds c) (λ n. IsFairText (rounds_text n))) (good_rounds told) k h.bytes s h.is good

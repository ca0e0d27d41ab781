-- `upgrade` writes a certificate of version 2 exactly of those of version 1.
use Rattle.std.proofs.Common.{◌≡◌, ◌∙◌, inl, inr, ℕ, ◌+◌, ◌<◌, ◌≤◌, ℤ, List, [], ◌∷◌, length, drop, map, Option, Some, None, refl, sym, ap, subst, arith, append-nil}
use Rattle.std.specs.List.{Contains}
use Rattle.slice_num.specs.Pieces.{joined}
use Rattle.slice_io.specs.Files.{Files, file_of}
use Rattle.slice_ast.specs.Code.{PlainProgram}
use Rattle.slice_parse.specs.Laws.{IsProgramOf, ReadProgramsAreUnique}
use Rattle.slice_core.specs.Tree.{Core}
use Rattle.slice_core.specs.WellFormed.{IsWellFormed}
use Rattle.slice_linear.specs.Rows.{Refutes}
use Rattle.slice_paths.specs.Events.{Event, Tell, events_of, goal_limit}
use Rattle.slice_paths.specs.Goals.{Goal, goals}
use Rattle.slice_paths.proofs.Tells.{events_tell_goals}
use Rattle.slice_cert.specs.declared.line.Line.{Line}
use Rattle.slice_cert.specs.declared.line.Line.TheVariants.{Header, Refutation, Cover, Closing}
use Rattle.slice_cert.specs.CertLines.{MayStand, line_text}
use Rattle.slice_cert.specs.ShortForms.{short_line}
use Rattle.slice_check.specs.declared.answer.CertAnswer.{CertAnswer}
use Rattle.slice_check.specs.declared.answer.CertAnswer.TheVariants.{Accepted, Rejected}
use Rattle.slice_check.specs.Certificate.{Accepts, AllPass, Passes, SaysLine, SaysLines, Stands, file_limit, line_limit}
use Rattle.slice_check.specs.Upgrades.{AreShortened, AreWhole, IsUpgradeEnd, RejectsVersion1, UpgradeIs}
use Rattle.slice_check.specs.Upgrading.{AllBrief, AllReadBack, ReadsBack}
use Rattle.slice_check.proofs.Accepting.{all_taken, stands_few}
use Rattle.slice_check.proofs.Ahead.{given, plain_tells}
use Rattle.slice_check.proofs.Certified.{certified, takes_all, takes_some}
use Rattle.slice_check.proofs.Exclusive.{rejected_is_no_certificate}
use Rattle.slice_check.proofs.Farthest.{each_one, upgrades_go_on}
use Rattle.slice_check.proofs.Giving.{contains_dropped}
use Rattle.slice_check.proofs.LinesOut.{texts_more}
use Rattle.slice_check.proofs.OneUpgrade.{failed, first_version, not_second}
use Rattle.slice_check.proofs.RowCount.{few_rows}
use Rattle.slice_check.proofs.Short.{short_line_short}
use Rattle.slice_top.specs.Answers.{Answer, EndsUpgrade, IsAnswer, IsUpgradeAnswer, Stage, after_text, goes, stops, upgrade_end}
use Rattle.slice_top.specs.Certificates.{UpgradesFile}
use Rattle.slice_top.specs.Commands.{upgrade}
use Rattle.slice_top.specs.Cores.{IsCoreOf, RefusesCore}
use Rattle.slice_top.specs.FilesRead.{IsFileOf}
use Rattle.slice_top.specs.declared.status.Status.TheVariants as status
use Rattle.slice_top.proofs.CoreRuns.{core_formed}
use Rattle.slice_top.proofs.Good.{refused_not_good}
use Rattle.slice_top.proofs.Upgraded.{put_answer}
use Rattle.slice_laws.specs.Completeness.{CanBeMade, HoldsProtocol, SumsFit, IsVersion1Certificate, IsUpgradedText, JudgesUpgrade, upgraded, turned_down, UpgradeJudges, UpgradedFilesAreCertificates}
use Rattle.slice_laws.proofs.CertifiedReports.{may_stand}
use Rattle.slice_laws.proofs.Judged.{not_failed}
use Rattle.slice_laws.proofs.LinesBack.{line_back}
use Rattle.slice_laws.proofs.Onward.{onward}
use Rattle.slice_laws.proofs.SomeAnswers.{of_file}

-- ---- lines of version 1

-- a line that takes a goal
record Passed (core : Core) (n : ℕ) (l : Line) (m : ℕ) (later : List Event) : Type 0 where
  goal : Goal
  multipliers : List ℤ
  line : l ≡ Refutation n multipliers
  refutes : Refutes goal.rows multipliers
  is_goal : Contains (goals core) goal
  few : n < goal_limit
  next : m ≡ n + 1
  tells : Tell later (drop (n + 1) (goals core)) (n + 1)

one_passed : (core : Core) (n m : ℕ) (ahead later : List Event) (l : Line) → Passes core 1 n ahead l m later → Tell ahead (drop n (goals core)) n → Passed core n l m later
one_passed core n m ahead later (Header version protocol agents) p tell = absurd p
one_passed core n m ahead later (Cover goal passed k) p tell = let two = p.5 in absurd (omega (arith, two))
one_passed core n m ahead later (Closing total) p tell = absurd p
one_passed core n m ahead later (Refutation goal k) p tell =
    let x = given ahead n p.0 later (drop n (goals core)) p.1 tell in
    record {
      goal = p.0;
      multipliers = k;
      line = ap (λ (j : ℕ). Refutation j k) p.2;
      refutes = p.3.0;
      is_goal = contains_dropped n (goals core) p.0 x.rest x.are;
      few = x.few;
      next = p.4;
      tells = plain_tells n p.0 later (goals core) x;
    }

-- each line's goal is taken in the end
taken_past : (core : Core) (n taken : ℕ) (ls written : List Line) (last : ℕ) → AreShortened core n taken ls written last → n ≤ taken → n + length ls ≤ last
taken_past core n taken [] written last h le = let e = h.1 in omega (arith, e, le)
taken_past core n taken (l ∷ ls) written last (inl h) le = let lt = h.0 in let rest = taken_past core (n + 1) taken ls written last h.1 (omega (arith, lt)) in omega (arith, rest)
taken_past core n taken (l ∷ ls) written last (inr h) le =
    let some = (takes_some core n (drop n (goals core)) h.1 h.2 h.4.3).0 in
    let rest = taken_past core (n + 1) (n + h.2) ls h.3 last h.6 (omega (arith, some)) in
    omega (arith, rest)

-- ---- what is written is a certificate

-- the lines of a file of version 1 have multipliers that fit
module _ (core : Core) (formed : IsWellFormed core) (file : List ℕ) where
  -- the short form of a line that is read reads back, and isn't too long
  record IsRight (ls : List Line) : Type 0 where
    read : AllReadBack ls
    brief : AllBrief ls

  all_right : (n taken i : ℕ) (ls written : List Line) (last m : ℕ) (ahead later : List Event) → SaysLines file i ls → AllPass core 1 n ahead ls m later → Tell ahead (drop n (goals core)) n → AreShortened core n taken ls written last → IsRight written
  all_right n taken i [] written last m ahead later says pass tell h = subst IsRight (sym h.0) (record { read = tt; brief = tt })
  all_right n taken i (l ∷ ls) written last m ahead later says pass tell (inl h) =
      let x = one_passed core n pass.0 ahead pass.1 l pass.2 tell in
      all_right (n + 1) taken (i + 1) ls written last m pass.1 later says.1 (subst (λ (k : ℕ). AllPass core 1 k pass.1 ls m later) x.next pass.3) x.tells h.1
  all_right n taken i (l ∷ ls) written last m ahead later says pass tell (inr h) =
      let x = one_passed core n pass.0 ahead pass.1 l pass.2 tell in
      let k : List ℤ = h.4.0 in
      let line : Refutation n x.multipliers ≡ Refutation n k = sym x.line ∙ h.4.1 in
      let same : x.multipliers ≡ k = cc in
      let refutes = subst (λ (z : List ℤ). Refutes x.goal.rows z) same x.refutes in
      let fits : MayStand (Refutation n k) = let t = subst (SaysLine file i) h.4.1 says.0 in t.2.2.2 in
      let long = refutes.same_length in
      let rows = few_rows core x.goal formed x.is_goal in
      let few = x.few in
      let text = short_line_short core.agents n k in
      let may = may_stand core.agents n k (omega (arith, few)) (omega (arith, long, rows)) fits.1 in
      let rest = all_right (n + 1) (n + h.2) (i + 1) ls h.3 last m pass.1 later says.1 (subst (λ (j : ℕ). AllPass core 1 j pass.1 ls m later) x.next pass.3) x.tells h.6 in
      subst IsRight (sym h.5) (record {
        read = (subst ReadsBack (sym h.4.2) (line_back (short_line core.agents n k) may), rest.read);
        brief = (subst (λ (z : Line). length (line_text z) ≤ line_limit) (sym h.4.2) (omega (arith, long, rows, text)), rest.brief);
      })

  -- all of them
  whole_accepted : (total : ℕ) (texts : List (List ℕ)) → AreWhole core file total texts → Accepts core (joined texts)
  whole_accepted total texts w =
      let s = w.3.stands in
      let e = w.2 in
      let stands = subst (λ (version : ℕ). Stands core file version total e.ahead w.0) (first_version core file e.version total w.0 e.ahead s.header e.stands) e.stands in
      let all = all_taken core file 1 total e.ahead w.0 stands e.ends in
      let few = (stands_few core file 1 total e.ahead w.0 stands).1 in
      let here = s.next in
      let there = stands.next in
      let count = each_one core stands.body 0 total (events_of core) e.ahead stands.passes in
      let past = taken_past core 0 0 s.body w.1 w.3.taken w.3.short (omega arith) in
      let right = all_right 0 0 1 s.body w.1 w.3.taken w.3.goal (events_of core) w.3.ahead s.lines s.passes (events_tell_goals core) w.3.short in
      let takes = takes_all core 0 0 s.body w.1 w.3.taken w.3.short (omega arith) (omega (arith, past, all, count, here, there)) in
      let front = line_back (Header 2 core.name core.agents) (formed.named, omega arith, (let agents = formed.few_agents in omega (arith, agents))) in
      let back = line_back (Closing total) (omega (arith, few)) in
      subst (λ (ts : List (List ℕ)). Accepts core (joined ts)) (texts_more core w.1 (Closing total) ∙ sym w.4) (certified core w.1 total formed takes all (front, right.read) right.brief back)

  -- ---- what it says

  -- where nothing keeps the checker from it, an end is an answer
  module _ (none : CanBeMade core) (short : length file ≤ file_limit) (fit : SumsFit core file) where
    some_end : (out : List ℕ) → IsUpgradeEnd core file out → (x : CertAnswer) × UpgradeIs core file (Some []) (Some out) x
    some_end out (inl x) = x
    some_end out (inr (f, u, h)) = absurd (not_failed core file none short fit f u (failed core file (Some []) (Some out) f u h).1)

  -- what an accepted certificate is, and its answer
  accepted_text : (out : List ℕ) (total : ℕ) (a : Answer) → UpgradeIs core file (Some []) (Some out) (Accepted total) → a ≡ after_text out (upgrade_end (Accepted total)) → IsVersion1Certificate core file × IsUpgradedText core a.text
  accepted_text out total a h e =
      let w = h.3 in
      let same : out ≡ joined h.2 = let f : Some out ≡ Some (joined h.2) = h.4 in cc in
      let text : a.text ≡ joined h.2 = ap (λ (b : Answer). b.text) e ∙ append-nil out ∙ same in (
        record { accepts = h.1.0; header = w.3.stands.header },
        record { accepts = subst (Accepts core) (sym text) (whole_accepted total h.2 w); lines = w.1; total = total; written = text ∙ ap joined w.4 },
      )

  judged : (out : List ℕ) (x : CertAnswer) (a : Answer) → UpgradeIs core file (Some []) (Some out) x → a ≡ after_text out (upgrade_end x) → JudgesUpgrade core file a
  judged out (Accepted total) a h e =
      let x = accepted_text out total a h e in
      upgraded x.0 x.1 (ap (λ (b : Answer). b.status) e)
  judged out (Rejected r) a h e = turned_down (λ is. not_first h.0 is) r h.0 out e
    where
      not_first : RejectsVersion1 core file r → IsVersion1Certificate core file → ⊥
      not_first (inl second) is = not_second core file is.header second.0
      not_first (inr x) is = rejected_is_no_certificate core file r x.1 is.accepts

pub upgrade_judges : ReadProgramsAreUnique → UpgradeJudges
upgrade_judges once files f c bytes p core a h none there short fit answer =
    let formed : IsWellFormed core = subst IsWellFormed (sym h.made.same) (core_formed h.text p core h.spelled h.made) in
    let d = upgrades_go_on core bytes 0 [] refl in
    let x = some_end core formed bytes none short fit (joined d.0) d.1 in
    let put = put_answer core bytes (Some []) (Some (joined d.0)) x.0 x.1 in
    let lines = joined (map line_text put.lines) in
    let b = after_text lines (upgrade_end x.0) in
    let same = onward once files (upgrade f c) f p core (IsUpgradeAnswer (Some files) c) (λ y w. w) h a b answer
    (put.lines, upgrade_end x.0, goes x.0 (of_file files c core bytes (λ xs. UpgradeIs core xs (Some []) (Some lines) x.0) there put.is) refl, refl) in
    judged core formed bytes lines x.0 a put.is same

-- ---- what ends well

module _ (files : Files) (c : List ℕ) (core : Core) (formed : IsWellFormed core) where
  in_file : (out : List ℕ) (x : CertAnswer) (a : Answer) (o : Option (List ℕ)) → file_of c files ≡ o → UpgradesFile (Some files) c core out x → a ≡ after_text out (upgrade_end x) → a.status ≡ status.Good
      → (bytes : List ℕ) × (o ≡ Some bytes) × IsVersion1Certificate core bytes × IsUpgradedText core a.text
  in_file out x a None e h same good = absurd (h.there (ap Some e))
  in_file out (Accepted total) a (Some bytes) e h same good =
      let y = accepted_text core formed bytes out total a (h.says bytes (ap Some e)) same in
      (bytes, refl, y.0, y.1)
  in_file out (Rejected r) a (Some bytes) e h same good = let bad : status.Negative ≡ status.Good = sym (ap (λ (b : Answer). b.status) same) ∙ good in absurd cc

  ends_well : (out : List ℕ) (a b : Answer) → EndsUpgrade (Some files) c core out b → a ≡ after_text out b → a.status ≡ status.Good
      → (bytes : List ℕ) × (file_of c files ≡ Some bytes) × IsVersion1Certificate core bytes × IsUpgradedText core a.text
  ends_well out a b (stops r h e) same good = absurd (refused_not_good r b e (sym (ap (λ (x : Answer). x.status) same) ∙ good))
  ends_well out a b (goes x h e) same good = in_file out x a (file_of c files) refl h (same ∙ ap (after_text out) e) good

module _ (files : Files) (f c : List ℕ) (a : Answer) (good : a.status ≡ status.Good) where
  of_program : (text : List ℕ) (p : PlainProgram) → IsFileOf (Some files) f text → IsProgramOf text p → Stage (RefusesCore p) (IsCoreOf p) (IsUpgradeAnswer (Some files) c) a
      → (p : PlainProgram) × (core : Core) × (bytes : List ℕ) × HoldsProtocol files f p core × (file_of c files ≡ Some bytes) × IsVersion1Certificate core bytes × IsUpgradedText core a.text
  of_program text p file is (stops r h e) = absurd (refused_not_good r a e good)
  of_program text p file is (goes core made (ls, b, ends, same)) =
      let formed : IsWellFormed core = subst IsWellFormed (sym made.same) (core_formed text p core is made) in
      let x = ends_well files c core formed (joined (map line_text ls)) a b ends same good in
      (p, core, x.0, record { text = text; file = file; spelled = is; made = made }, x.1, x.2, x.3)

  of_upgrade : IsAnswer (Some files) (Some (upgrade f c)) a
      → (p : PlainProgram) × (core : Core) × (bytes : List ℕ) × HoldsProtocol files f p core × (file_of c files ≡ Some bytes) × IsVersion1Certificate core bytes × IsUpgradedText core a.text
  of_upgrade (stops r h e) = absurd (refused_not_good r a e good)
  of_upgrade (goes text file (stops r h e)) = absurd (refused_not_good r a e good)
  of_upgrade (goes text file (goes p is next)) = of_program text p file is next

pub upgraded_files_are_certificates : UpgradedFilesAreCertificates
upgraded_files_are_certificates files f c a is good = of_upgrade files f c a good is

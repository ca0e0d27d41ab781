-- One thing is written of a file, and answered.
use Rattle.std.proofs.Common.{◌≡◌, ◌∙◌, inl, inr, ◌+◌, ◌≤◌, ℕ, zero, suc, List, [], ◌∷◌, ◌++◌, length, drop, sym, ap, subst, refl, arith, Some}
use Rattle.std.specs.declared.option.Option.{Option}
use Rattle.slice_num.specs.Pieces.{joined}
use Rattle.slice_core.specs.Tree.{Core}
use Rattle.slice_paths.specs.Events.{Event, Gives, NoMore}
use Rattle.slice_paths.specs.Goals.{Goal, goals}
use Rattle.slice_cert.specs.declared.line.Line.{Line}
use Rattle.slice_cert.specs.declared.line.Line.TheVariants.{Header, Refutation, Cover, Closing}
use Rattle.slice_cert.specs.CertLines.{line_text}
use Rattle.slice_cert.specs.ShortForms.{short_line}
use Rattle.slice_check.specs.declared.answer.Rejection.{Rejection}
use Rattle.slice_check.specs.declared.answer.CertAnswer.{CertAnswer}
use Rattle.slice_check.specs.declared.answer.CertAnswer.TheVariants.{Accepted, Rejected}
use Rattle.slice_check.specs.declared.answer.CertFault.{CertFault}
use Rattle.slice_check.specs.declared.answer.CertFault.TheVariants.{ReadFault, TooLong, GoalLimit, FormOverflow, Overflow, Memory}
use Rattle.slice_check.specs.declared.upgrade.UpgradeFault.TheVariants.{Cert}
use Rattle.slice_check.specs.Certificate.{AtEnd, SaysLine, SaysLines, Stands, Takes}
use Rattle.slice_check.specs.Faults.{Fails, IsAnswer, IsUnread}
use Rattle.slice_check.specs.Upgrades.{AreOut, AreShortened, AreWhole, AreWritten, BeginsVersion2, IsLast, IsOfVersion2, IsShortened, LinesAreOut, RejectsVersion1, Shortens, UpgradeFails, UpgradeIs, texts_of}
use Rattle.slice_check.proofs.Ahead.{share_count}
use Rattle.slice_check.proofs.NoFurther.{last_at_none}
use Rattle.slice_check.proofs.OneStop.{answer_or_fault, one_answer, one_fault, one_rejection}
use Rattle.slice_check.proofs.Upgraded.{one_says}

-- what a fault says that is neither a failed read nor want of memory
pub failed : (core : Core) (file : List ℕ) (old new : Option (List ℕ)) (f : CertFault) → (IsUnread f → ⊥) → UpgradeFails core file old new (Cert f) → (BeginsVersion2 file → ⊥) × Fails core file f × LinesAreOut core file old new
failed core file old new ReadFault u h = absurd (u tt)
failed core file old new TooLong u h = h
failed core file old new GoalLimit u h = h
failed core file old new (FormOverflow goal) u h = h
failed core file old new (Overflow goal unknown) u h = h
failed core file old new Memory u h = absurd (u tt)

-- such bytes were put behind nothing
held : (xs : List ℕ) (texts : List (List ℕ)) → AreOut (Some []) (Some xs) texts → xs ≡ joined texts
held xs texts e = let f : Some xs ≡ Some (joined texts) = e in cc

module _ (core : Core) (file : List ℕ) where
  -- ---- the header

  pub not_second : SaysLine file 0 (Header 1 core.name core.agents) → BeginsVersion2 file → ⊥
  not_second h b = let two : IsOfVersion2 (Header 1 core.name core.agents) = subst IsOfVersion2 (one_says file 0 b.0 (Header 1 core.name core.agents) b.1 h) b.2 in omega (arith, two)

  pub first_version : (version n i : ℕ) (ahead : List Event) → SaysLine file 0 (Header 1 core.name core.agents) → Stands core file version n ahead i → version ≡ 1
  first_version version n i ahead h s =
      let same : Header version core.name core.agents ≡ Header 1 core.name core.agents = one_says file 0 (Header version core.name core.agents) (Header 1 core.name core.agents) s.header h in
      cc

  -- ---- lines

  -- as many lines from one on are the same
  same_lines : (ls ks : List Line) (i : ℕ) → SaysLines file i ls → SaysLines file i ks → length ls ≡ length ks → ls ≡ ks
  same_lines [] [] i s t e = refl
  same_lines [] (k ∷ ks) i s t e = absurd (omega (arith, e))
  same_lines (l ∷ ls) [] i s t e = absurd (omega (arith, e))
  same_lines (l ∷ ls) (k ∷ ks) i s t e =
      let first = one_says file i l k s.0 t.0 in
      let rest = same_lines ls ks (i + 1) s.1 t.1 (omega (arith, e)) in
      λ j. first j ∷ rest j

  -- a line takes one number of goals
  one_count : (n : ℕ) (gs : List Goal) (l : Line) (c d : ℕ) → Takes core 2 n gs l c → Takes core 2 n gs l d → c ≡ d
  one_count n gs (Header version protocol agents) c d x y = absurd x
  one_count n gs (Refutation goal m) c d x y = x.1 ∙ sym y.1
  one_count n [] (Cover goal passed m) c d x y = absurd x.2
  one_count n (g ∷ gs) (Cover goal passed m) c d x y = share_count core passed g.trace (g ∷ gs) c d x.2.3 y.2.3
  one_count n gs (Closing total) c d x y = absurd x

  -- a line has one short form
  one_short : (n : ℕ) (l s t : Line) (c d : ℕ) → IsShortened core n l s c → IsShortened core n l t d → (s ≡ t) × (c ≡ d)
  one_short n l s t c d x y =
      let line : Refutation n x.0 ≡ Refutation n y.0 = sym x.1 ∙ y.1 in
      let multipliers : x.0 ≡ y.0 = cc in
      let same : s ≡ t = x.2 ∙ ap (short_line core.agents n) multipliers ∙ sym y.2 in
      (same, one_count n (drop n (goals core)) s c d x.3 (subst (λ (k : Line). Takes core 2 n (drop n (goals core)) k d) (sym same) y.3))

  one_shortened : (ls : List Line) (n taken : ℕ) (xs ys : List Line) (a b : ℕ) → AreShortened core n taken ls xs a → AreShortened core n taken ls ys b → xs ≡ ys
  one_shortened [] n taken xs ys a b x y = x.0 ∙ sym y.0
  one_shortened (l ∷ ls) n taken xs ys a b (inl x) (inl y) = one_shortened ls (n + 1) taken xs ys a b x.1 y.1
  one_shortened (l ∷ ls) n taken xs ys a b (inl x) (inr y) = let lt = x.0 in let le = y.0 in absurd (omega (arith, lt, le))
  one_shortened (l ∷ ls) n taken xs ys a b (inr x) (inl y) = let le = x.0 in let lt = y.0 in absurd (omega (arith, lt, le))
  one_shortened (l ∷ ls) n taken xs ys a b (inr x) (inr y) =
      let e = one_short n l x.1 y.1 x.2 y.2 x.4 y.4 in
      let rest = one_shortened ls (n + 1) (n + x.2) x.3 y.3 a b x.6 (subst (λ (k : ℕ). AreShortened core (n + 1) (n + k) ls y.3 b) (sym e.1) y.6) in
      let are : (x.1 ∷ x.3) ≡ (y.1 ∷ y.3) = λ j. e.0 j ∷ rest j in
      x.5 ∙ are ∙ sym y.5

  -- ---- what is written

  one_written : (i : ℕ) (xs ys : List (List ℕ)) → AreWritten core file i xs → AreWritten core file i ys → xs ≡ ys
  one_written zero xs ys x y = x ∙ sym y
  one_written (suc i) xs ys x y =
      let s = x.1.stands in
      let t = y.1.stands in
      let here = s.next in
      let there = t.next in
      let body : s.body ≡ t.body = same_lines s.body t.body 1 s.lines t.lines (omega (arith, here, there)) in
      let written = one_shortened s.body 0 0 x.0 y.0 x.1.taken y.1.taken x.1.short (subst (λ (ls : List Line). AreShortened core 0 0 ls y.0 y.1.taken) (sym body) y.1.short) in
      x.2 ∙ ap (texts_of core) written ∙ sym y.2

  pub written_at : (i : ℕ) (ls : List Line) → Shortens core file i ls → AreWritten core file i (texts_of core ls)
  written_at zero ls s = let next = s.stands.next in absurd (omega (arith, next))
  written_at (suc i) ls s = (ls, s, refl)

  -- lines that are written stand no farther than the last that is right
  within : (i j : ℕ) (texts : List (List ℕ)) → AreWritten core file i texts → IsLast core file j → i ≤ j
  within zero j texts w last = omega arith
  within (suc i) j texts w last = last w.1.goal (suc i) w.1.ahead w.1.stands

  -- all that is written before the closing line
  record AllWritten (texts : List (List ℕ)) : Type 0 where
    at : ℕ
    written : AreWritten core file at texts
    last : IsLast core file at

  one_whole : (xs ys : List (List ℕ)) → AllWritten xs → AllWritten ys → xs ≡ ys
  one_whole xs ys x y =
      let le = within x.at y.at xs x.written y.last in
      let ge = within y.at x.at ys y.written x.last in
      let same : y.at ≡ x.at = omega (arith, le, ge) in
      one_written x.at xs ys x.written (subst (λ (i : ℕ). AreWritten core file i ys) same y.written)

  lines_out : (xs : List ℕ) → LinesAreOut core file (Some []) (Some xs) → (texts : List (List ℕ)) × AllWritten texts × (xs ≡ joined texts)
  lines_out xs h = (h.1, record { at = h.0; written = h.2; last = h.3 }, held xs h.1 h.4)

  one_out : (xs ys : List ℕ) → LinesAreOut core file (Some []) (Some xs) → LinesAreOut core file (Some []) (Some ys) → xs ≡ ys
  one_out xs ys h k =
      let x = lines_out xs h in
      let y = lines_out ys k in
      x.2 ∙ ap joined (one_whole x.0 y.0 x.1 y.1) ∙ sym y.2

  -- where all goals are taken no more lines are right
  pub end_is_last : (n i : ℕ) → SaysLine file 0 (Header 1 core.name core.agents) → AtEnd core file n i → IsLast core file i
  end_is_last n i h e =
      let stands = subst (λ (version : ℕ). Stands core file version n e.ahead i) (first_version e.version n i e.ahead h e.stands) e.stands in
      let none = e.ends in
      last_at_none core file n i e.ahead stands (λ (g : Goal) later x. let bad : NoMore ≡ Gives g later = sym none ∙ x in absurd cc)

  -- the lines before the closing line
  before_closing : (total : ℕ) (texts : List (List ℕ)) → AreWhole core file total texts → (front : List (List ℕ)) × AllWritten front × (texts ≡ front ++ line_text (Closing total) ∷ [])
  before_closing total texts w = (
    texts_of core w.1,
    record { at = w.0; written = written_at w.0 w.1 w.3; last = end_is_last total w.0 w.3.stands.header w.2 },
    w.4,
  )

  one_closed : (m n : ℕ) (xs ys : List (List ℕ)) → m ≡ n → AreWhole core file m xs → AreWhole core file n ys → xs ≡ ys
  one_closed m n xs ys e x y =
      let a = before_closing m xs x in
      let b = before_closing n ys y in
      let front = one_whole a.0 b.0 a.1 b.1 in
      let whole : a.0 ++ line_text (Closing m) ∷ [] ≡ b.0 ++ line_text (Closing n) ∷ [] = λ j. front j ++ line_text (Closing (e j)) ∷ [] in
      a.2 ∙ whole ∙ sym b.2

  -- ---- answers

  one_total : {m n : ℕ} → Accepted m ≡ Accepted n → m ≡ n
  one_total e = cc

  accepted_apart : (n : ℕ) (r : Rejection) → (BeginsVersion2 file → ⊥) → IsAnswer core file (Accepted n) → RejectsVersion1 core file r → ⊥
  accepted_apart n r none h (inl second) = none second.0
  accepted_apart n r none h (inr x) = let bad : Accepted n ≡ Rejected r = one_answer core file (Accepted n) (Rejected r) h x.1 in cc

  one_first : (r s : Rejection) → RejectsVersion1 core file r → RejectsVersion1 core file s → r ≡ s
  one_first r s (inl x) (inl y) = x.1 ∙ sym y.1
  one_first r s (inl x) (inr y) = absurd (y.0 x.0)
  one_first r s (inr x) (inl y) = absurd (x.0 y.0)
  one_first r s (inr x) (inr y) = one_rejection core file r s x.1 y.1

  one_upgraded : (a b : CertAnswer) (xs ys : List ℕ) → UpgradeIs core file (Some []) (Some xs) a → UpgradeIs core file (Some []) (Some ys) b → (a ≡ b) × (xs ≡ ys)
  one_upgraded (Accepted m) (Accepted n) xs ys x y =
      let same : Accepted m ≡ Accepted n = one_answer core file (Accepted m) (Accepted n) x.1 y.1 in
      (same, held xs x.2 x.4 ∙ ap joined (one_closed m n x.2 y.2 (one_total same) x.3 y.3) ∙ sym (held ys y.2 y.4))
  one_upgraded (Accepted m) (Rejected s) xs ys x y = absurd (accepted_apart m s x.0 x.1 y.0)
  one_upgraded (Rejected r) (Accepted n) xs ys x y = absurd (accepted_apart n r y.0 y.1 x.0)
  one_upgraded (Rejected r) (Rejected s) xs ys x y = (ap Rejected (one_first r s x.0 y.0), one_out xs ys x.1 y.1)

  one_failed : (f g : CertFault) (xs ys : List ℕ) → (IsUnread f → ⊥) → (IsUnread g → ⊥) → UpgradeFails core file (Some []) (Some xs) (Cert f) → UpgradeFails core file (Some []) (Some ys) (Cert g) → (f ≡ g) × (xs ≡ ys)
  one_failed f g xs ys u v x y =
      let a = failed core file (Some []) (Some xs) f u x in
      let b = failed core file (Some []) (Some ys) g v y in
      (one_fault core file f g u v a.1 b.1, one_out xs ys a.2 b.2)

  upgraded_apart : (a : CertAnswer) (f : CertFault) (xs : List ℕ) → UpgradeIs core file (Some []) (Some xs) a → (BeginsVersion2 file → ⊥) → Fails core file f → IsUnread f
  upgraded_apart (Accepted n) f xs x none h = answer_or_fault core file (Accepted n) f x.1 h
  upgraded_apart (Rejected r) f xs x none h = by x.0
    where
      by : RejectsVersion1 core file r → IsUnread f
      by (inl second) = absurd (none second.0)
      by (inr y) = answer_or_fault core file (Rejected r) f y.1 h

  not_both : (a : CertAnswer) (f : CertFault) (xs ys : List ℕ) → (IsUnread f → ⊥) → UpgradeIs core file (Some []) (Some xs) a → UpgradeFails core file (Some []) (Some ys) (Cert f) → ⊥
  not_both a f xs ys u x y = let b = failed core file (Some []) (Some ys) f u y in u (upgraded_apart a f xs x b.0 b.1)

pub one_upgrade : (core : Core) (file : List ℕ) (a b : CertAnswer) (xs ys : List ℕ) → UpgradeIs core file (Some []) (Some xs) a → UpgradeIs core file (Some []) (Some ys) b → (a ≡ b) × (xs ≡ ys)
one_upgrade core file a b xs ys x y = one_upgraded core file a b xs ys x y

pub one_upgrade_fault : (core : Core) (file : List ℕ) (f g : CertFault) (xs ys : List ℕ) → (IsUnread f → ⊥) → (IsUnread g → ⊥) → UpgradeFails core file (Some []) (Some xs) (Cert f) → UpgradeFails core file (Some []) (Some ys) (Cert g)
    → (f ≡ g) × (xs ≡ ys)
one_upgrade_fault core file f g xs ys u v x y = one_failed core file f g xs ys u v x y

pub upgrade_or_fault : (core : Core) (file : List ℕ) (a : CertAnswer) (f : CertFault) (xs ys : List ℕ) → UpgradeIs core file (Some []) (Some xs) a → UpgradeFails core file (Some []) (Some ys) (Cert f) → IsUnread f
upgrade_or_fault core file a ReadFault xs ys x y = tt
upgrade_or_fault core file a Memory xs ys x y = tt
upgrade_or_fault core file a TooLong xs ys x y = absurd (not_both core file a TooLong xs ys (λ u. u) x y)
upgrade_or_fault core file a GoalLimit xs ys x y = absurd (not_both core file a GoalLimit xs ys (λ u. u) x y)
upgrade_or_fault core file a (FormOverflow goal) xs ys x y = absurd (not_both core file a (FormOverflow goal) xs ys (λ u. u) x y)
upgrade_or_fault core file a (Overflow goal unknown) xs ys x y = absurd (not_both core file a (Overflow goal unknown) xs ys (λ u. u) x y)

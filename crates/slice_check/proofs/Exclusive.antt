-- A file that is rejected is no certificate: a walk over a certificate finds at each place what a certificate has there.
use Rattle.std.proofs.Common.{◌≡◌, ◌∙◌, ◌⊎◌, inl, inr, ◌+◌, ◌<◌, ◌≤◌, ◌++◌, ℕ, zero, suc, ℤ, List, [], ◌∷◌, length, drop, ap, sym, subst, refl, arith, length-drop, Some}
use Rattle.std.specs.Bool.{⊤}
use Rattle.std.specs.declared.option.Option.{Option}
use Rattle.std.proofs.lemmas.List.{drop-drop}
use Rattle.slice_io.specs.Lines.{first_line, lines_of, rest_from}
use Rattle.slice_io.proofs.Gathering.{lines_step}
use Rattle.slice_core.specs.Tree.{Core}
use Rattle.slice_linear.specs.Rows.{LinearRow, Refutes}
use Rattle.slice_linear.proofs.Ring.{linear}
use Rattle.slice_paths.specs.Events.{Event, NextGoal, Gives, NoMore, Overflows, OverLimit, Tell, events_of, goal_limit, next_goal}
use Rattle.slice_paths.specs.Fronts.{ShareFirst, cover_rows, events_after}
use Rattle.slice_paths.specs.Goals.{Goal, goals}
use Rattle.slice_paths.proofs.Tells.{events_tell_goals}
use Rattle.slice_cert.specs.declared.line.Line.{Line}
use Rattle.slice_cert.specs.declared.line.Line.TheVariants.{Header, Refutation, Cover, Closing}
use Rattle.slice_cert.specs.CertLines.{IsLine}
use Rattle.slice_cert.proofs.OneLine.{one_line}
use Rattle.slice_check.specs.declared.verdict.Verdict.{Verdict}
use Rattle.slice_check.specs.declared.verdict.Verdict.TheVariants as verdict
use Rattle.slice_check.specs.declared.answer.Rejection.{Rejection}
use Rattle.slice_check.specs.declared.answer.CertFault.TheVariants as cert_fault
use Rattle.slice_check.specs.declared.answer.CertAnswer.TheVariants.{Accepted, Rejected}
use Rattle.slice_check.specs.Verdicts.{IsVerdict}
use Rattle.slice_check.specs.Certificate.{Accepts, AreLines, AreShort, CoversFirst, RefutesFirst, TakeInOrder, Takes, line_limit}
use Rattle.slice_check.specs.Faults.{CoverSays, Rejects}
use Rattle.slice_check.proofs.Ahead.{IsGiven, given, none_left, plain_tells, share_count, skipped}
use Rattle.slice_check.proofs.Walks.{Ended, Long, Past, Bad, Says, Place, Heading, On, Over, Answers, Faults, Step, Goes, Stops, Reads, HeadSteps, VerdictSteps, PlainGoes, CoverGoes, GoalSteps, EndSteps, NextSteps, OverSteps, Steps, Walks, no_field, nothing_there}
use Rattle.slice_check.proofs.Halting.{said_ends}

-- ---- the lines of a certificate

-- line i of the file is there, short, and this one
record HasLine (file : List ℕ) (i : ℕ) (l : Line) : Type 0 where
  there : 0 < length (rest_from i file)
  short : length (first_line (rest_from i file)) ≤ line_limit
  is : IsLine (first_line (rest_from i file)) l

-- the lines from i on, and then the end
abbrev HasLines : List ℕ → ℕ → List Line → Type 0
HasLines file i [] = rest_from i file ≡ []
HasLines file i (l ∷ ls) = HasLine file i l × HasLines file (suc i) ls

some_bytes : (xs : List ℕ) (ls : List Line) (l : Line) → AreLines (lines_of xs) (l ∷ ls) → 0 < length xs
some_bytes [] ls l h = absurd h
some_bytes (c ∷ cs) ls l h = omega arith

no_bytes : (xs : List ℕ) → AreLines (lines_of xs) [] → xs ≡ []
no_bytes [] h = refl
no_bytes (c ∷ cs) h = let e = lines_step (c ∷ cs) (omega arith) in absurd (subst (λ (ts : List (List ℕ)). AreLines ts []) e h)

has_lines : (file : List ℕ) (ls : List Line) (i : ℕ) → AreLines (lines_of (rest_from i file)) ls → AreShort (lines_of (rest_from i file)) → HasLines file i ls
has_lines file [] i h s = no_bytes (rest_from i file) h
has_lines file (l ∷ ls) i h s =
    let some = some_bytes (rest_from i file) ls l h in
    let e = lines_step (rest_from i file) some in
    let a = subst (λ (ts : List (List ℕ)). AreLines ts (l ∷ ls)) e h in
    let b = subst AreShort e s in
    (record { there = some; short = b.0; is = a.0 }, has_lines file ls (suc i) a.1 b.1)

-- ---- what a certificate has at a place

-- lines that take the goals that are left, and then the closing line
record Left (core : Core) (file : List ℕ) (version n : ℕ) (ahead : List Event) (i : ℕ) : Type 0 where
  body : List Line
  takes : TakeInOrder core version n (drop n (goals core)) body
  lines : HasLines file i (body ++ Closing (length (goals core)) ∷ [])
  tells : Tell ahead (drop n (goals core)) n
  within : n ≤ length (goals core)

abbrev Holds : Core → List ℕ → Place → Type 0
Holds core file Heading = Accepts core file
Holds core file (On version n ahead i) = Left core file version n ahead i
Holds core file (Over n i) = rest_from i file ≡ []

-- what it has behind a step, which is no rejection
abbrev Kept : Core → List ℕ → Step → Type 0
Kept core file (Goes p) = Holds core file p
Kept core file (Stops (Answers (Accepted n))) = ⊤
Kept core file (Stops (Answers (Rejected r))) = ⊥
Kept core file (Stops (Faults f)) = ⊤

read_kept : (core : Core) (file : List ℕ) (i : ℕ) (P : Line → Step → Type 0) (st : Step) (l : Line) → HasLine file i l → Reads file i P st → (P l st → Kept core file st) → Kept core file st
read_kept core file i P st l h (Ended, c, r) f = let n : length (rest_from i file) ≡ 0 = ap length c in let t = h.there in absurd (omega (arith, n, t))
read_kept core file i P st l h (Long, c, r) f = let t = h.short in absurd (omega (arith, t, c.1.1))
read_kept core file i P st l h (Past, c, r) f = subst (Kept core file) (sym r) tt
read_kept core file i P st l h (Bad, c, r) f = absurd (c.2 l (subst (λ (t : List ℕ). IsLine t l) (sym c.1.1) h.is))
read_kept core file i P st l h (Says k, c, r) f =
    let same = one_line (first_line (rest_from i file)) k l (subst (λ (t : List ℕ). IsLine t k) c.1.1 c.2) h.is in
    f (subst (λ (x : Line). P x st) same r)

-- a verdict on multipliers that refute
verdict_kept : (core : Core) (file : List ℕ) (rows : List LinearRow) (m : List ℤ) (n : ℕ) (P : Step → Type 0) (w : Verdict) (st : Step) → Refutes rows m → IsVerdict rows m w → VerdictSteps n P w st
    → (P st → Kept core file st) → Kept core file st
verdict_kept core file rows m n P verdict.Yes st h v s f = f s
verdict_kept core file rows m n P verdict.Length st h v s f = absurd (v h.same_length)
verdict_kept core file rows m n P (verdict.Sign row) st h v s f = absurd (v.2 (h.signs row v.1))
verdict_kept core file rows m n P (verdict.Sum j) st h v s f = let a = h.at_most_zero j in let b = v.1.3 in absurd (omega (arith, linear, a, b))
verdict_kept core file rows m n P verdict.NoStrict st h v s f = absurd (v.2 h.strict)
verdict_kept core file rows m n P (verdict.Overflow unknown) st h v s f = subst (Kept core file) (sym s) tt

-- of no goal no line takes one
none_taken : (core : Core) (version n count : ℕ) (l : Line) → Takes core version n [] l count → ⊥
none_taken core version n count (Header v protocol agents) t = t
none_taken core version n count (Refutation goal m) t = t.2
none_taken core version n count (Cover goal passed m) t = t.2
none_taken core version n count (Closing total) t = t

end_kept : (core : Core) (file : List ℕ) (n i total : ℕ) (st : Step) → total ≡ n → rest_from (suc i) file ≡ [] → EndSteps n i (Closing total) st → Kept core file st
end_kept core file n i total st e h (inl s) = absurd (s.0 e)
end_kept core file n i total st e h (inr s) =
    let z : suc i ≡ i + 1 = omega arith in
    subst (Kept core file) (sym s.1) (subst (λ (x : ℕ). rest_from x file ≡ []) z h)

module _ (core : Core) (file : List ℕ) (version n : ℕ) (g : Goal) (later : List Event) (i count : ℕ) (st : Step) (x : IsGiven n g later (drop n (goals core)))
    (on : (es : List Event) → Tell es (drop (n + count) (goals core)) (n + count) → Left core file version (n + count) es (i + 1)) where
  -- the line's multipliers refute the goal that comes next
  plain_kept : (goal : ℕ) (m : List ℤ) → Takes core version n (drop n (goals core)) (Refutation goal m) count → GoalSteps core version n g later i (Refutation goal m) st → Kept core file st
  plain_kept goal m t (inl s) = absurd (s.0 t.0)
  plain_kept goal m t (inr s) =
      verdict_kept core file g.rows m n (PlainGoes version n later i) s.1 st (subst (λ (gs : List Goal). RefutesFirst gs m) x.are t.2) s.2 s.3
      (λ e. subst (Kept core file) (sym (e ∙ ap (λ (k : ℕ). Goes (On version (n + k) later (i + 1))) (sym t.1)))
      (on later (subst (λ (k : ℕ). Tell later (drop (n + k) (goals core)) (n + k)) (sym t.1) (plain_tells n g later (goals core) x))))

  -- or the rows behind its first passed choices
  cover_kept : (goal passed : ℕ) (m : List ℤ) → Takes core version n (drop n (goals core)) (Cover goal passed m) count → GoalSteps core version n g later i (Cover goal passed m) st → Kept core file st
  cover_kept goal passed m t (inl s) = absurd (omega (arith, s.0, t.0))
  cover_kept goal passed m t (inr (v, inl s)) = absurd (s.0 t.1)
  cover_kept goal passed m t (inr (v, inr s)) =
      let c = subst (λ (gs : List Goal). CoversFirst core passed gs m count) x.are t.2 in
      let share = subst (λ (gs : List Goal). ShareFirst core passed g.trace gs count) (sym x.are) c.3 in
      verdict_kept core file c.0 m n (CoverGoes core version n g passed i) s.1 st c.2 (subst (λ (o : Option (List LinearRow)). CoverSays o m s.1) c.1 s.2) s.3 (behind c.0 c.1 share)
    where
      behind : (rows : List LinearRow) → cover_rows core passed g.trace ≡ Some rows → ShareFirst core passed g.trace (drop n (goals core)) count → CoverGoes core version n g passed i st → Kept core file st
      behind rows e share y = by (share_count core passed g.trace (drop n (goals core)) y.0 count y.1 share) y.2
        where
          by : y.0 ≡ count → ((n + y.0 ≤ goal_limit) × (st ≡ Goes (On version (n + y.0) (events_after core passed g.trace) (i + 1)))) ⊎ ((goal_limit < n + y.0) × (st ≡ Stops (Faults cert_fault.GoalLimit))) → Kept core file st
          by same (inr z) = subst (Kept core file) (sym z.1) tt
          by same (inl z) =
              let k = skipped core n passed g later rows x e in
              let many : k.count ≡ count = share_count core passed g.trace (drop n (goals core)) k.count count k.share share in
              subst (Kept core file) (sym (z.1 ∙ ap (λ (c : ℕ). Goes (On version (n + c) (events_after core passed g.trace) (i + 1))) same))
              (on (events_after core passed g.trace) (subst (λ (c : ℕ). Tell (events_after core passed g.trace) (drop (n + c) (goals core)) (n + c)) many k.tells))

  line_kept : (l : Line) → Takes core version n (drop n (goals core)) l count → GoalSteps core version n g later i l st → Kept core file st
  line_kept (Header v protocol agents) t s = absurd t
  line_kept (Closing total) t s = absurd t
  line_kept (Refutation goal m) t s = plain_kept goal m t s
  line_kept (Cover goal passed m) t s = cover_kept goal passed m t s

module _ (core : Core) (file : List ℕ) (version n : ℕ) (ahead : List Event) (i : ℕ) (st : Step) (h : Left core file version n ahead i) where
  goal_kept : (g : Goal) (later : List Event) → next_goal ahead n ≡ Gives g later → Reads file i (GoalSteps core version n g later i) st → Kept core file st
  goal_kept g later e r = by h.body h.takes h.lines
    where
      x : IsGiven n g later (drop n (goals core))
      x = given ahead n g later (drop n (goals core)) e h.tells

      by : (body : List Line) → TakeInOrder core version n (drop n (goals core)) body → HasLines file i (body ++ Closing (length (goals core)) ∷ []) → Kept core file st
      by [] t l = let none : g ∷ x.rest ≡ [] = sym x.are ∙ t in absurd cc
      by (k ∷ ls) t l =
          let z : suc i ≡ i + 1 = omega arith in
          let some = t.1 in
          let within = h.within in
          read_kept core file i (GoalSteps core version n g later i) st k l.0 r
          (line_kept core file version n g later i t.0 st x
          (λ es tells. record {
            body = ls;
            takes = subst (λ (gs : List Goal). TakeInOrder core version (n + t.0) gs ls) (drop-drop t.0 n (goals core)) t.3;
            lines = subst (λ (j : ℕ). HasLines file j (ls ++ Closing (length (goals core)) ∷ [])) z l.1;
            tells = tells;
            within = omega (arith, some, within, length-drop n (goals core));
          }) k t.2)

  closing_kept : next_goal ahead n ≡ NoMore → Reads file i (EndSteps n i) st → Kept core file st
  closing_kept e r = by h.body h.takes h.lines
    where
      none : drop n (goals core) ≡ []
      none = none_left ahead n (drop n (goals core)) e h.tells

      all : length (goals core) ≡ n
      all = let z : length (drop n (goals core)) ≡ 0 = ap length none in let within = h.within in omega (arith, z, within, length-drop n (goals core))

      by : (body : List Line) → TakeInOrder core version n (drop n (goals core)) body → HasLines file i (body ++ Closing (length (goals core)) ∷ []) → Kept core file st
      by [] t l = read_kept core file i (EndSteps n i) st (Closing (length (goals core))) l.0 r (end_kept core file n i (length (goals core)) st all l.1)
      by (k ∷ ls) t l = absurd (none_taken core version n t.0 k (subst (λ (gs : List Goal). Takes core version n gs k t.0) none t.2))

  next_kept : (x : NextGoal) → next_goal ahead n ≡ x → NextSteps core file version n i x st → Kept core file st
  next_kept (Gives g later) e s = goal_kept g later e s
  next_kept NoMore e s = closing_kept e s
  next_kept Overflows e s = subst (Kept core file) (sym s) tt
  next_kept OverLimit e s = subst (Kept core file) (sym s) tt

head_kept : (core : Core) (file : List ℕ) (st : Step) (a : Accepts core file) → HasLines file 1 (a.body ++ Closing (length (goals core)) ∷ []) → HeadSteps core (Header a.version core.name core.agents) st → Kept core file st
head_kept core file st a h (inr s) = absurd (no_field core.name core.agents a.version (Header a.version core.name core.agents) s.0 a.known refl s.1)
head_kept core file st a h (inl s) =
    let same : Header a.version core.name core.agents ≡ Header s.0 core.name core.agents = s.2 in
    let version : s.0 ≡ a.version = cc in
    let left : Left core file a.version 0 (events_of core) 1 = record { body = a.body; takes = a.takes; lines = h; tells = events_tell_goals core; within = omega arith } in
    subst (Kept core file) (sym (s.3 ∙ ap (λ (v : ℕ). Goes (On v 0 (events_of core) 1)) version)) left

over_kept : (core : Core) (file : List ℕ) (n i : ℕ) (st : Step) → rest_from i file ≡ [] → OverSteps file n i st → Kept core file st
over_kept core file n i st h (inl s) = subst (Kept core file) (sym s.1) tt
over_kept core file n i st h (inr (inl s)) = subst (Kept core file) (sym s.1) tt
over_kept core file n i st h (inr (inr s)) = absurd (nothing_there file i h s.0)

kept : (core : Core) (file : List ℕ) (p : Place) (st : Step) → Steps core file p st → Holds core file p → Kept core file st
kept core file Heading st s a =
    let h = has_lines file (Header a.version core.name core.agents ∷ (a.body ++ Closing (length (goals core)) ∷ [])) 0 a.lines a.short in
    read_kept core file 0 (HeadSteps core) st (Header a.version core.name core.agents) h.0 s (head_kept core file st a h.1)
kept core file (On version n ahead i) st s h = next_kept core file version n ahead i st h (next_goal ahead n) refl s
kept core file (Over n i) st s h = over_kept core file n i st h s

not_rejected : (core : Core) (file : List ℕ) (r : Rejection) (k : ℕ) (p : Place) → Walks core file k p (Answers (Rejected r)) → Holds core file p → ⊥
not_rejected core file r zero p w h = kept core file p (Stops (Answers (Rejected r))) w h
not_rejected core file r (suc k) p w h = not_rejected core file r k w.0 w.3 (kept core file p (Goes w.0) w.2 h)

pub rejected_is_no_certificate : (core : Core) (file : List ℕ) (r : Rejection) → Rejects core file r → Accepts core file → ⊥
rejected_is_no_certificate core file r h a = let w = said_ends core file (Answers (Rejected r)) h in not_rejected core file r w.0 Heading w.1 a

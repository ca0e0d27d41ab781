-- The checker as a walk over a file: from place to place, and at each place one thing comes.
use Rattle.std.proofs.Common.{◌≡◌, ◌≢◌, ◌∙◌, ◌⊎◌, inl, inr, ◌+◌, ◌<◌, ◌≤◌, ℕ, zero, suc, ℤ, List, [], length, drop, ap, sym, subst, refl, arith, Some, None}
use Rattle.std.specs.declared.option.Option.{Option}
use Rattle.slice_io.specs.Lines.{first_line, line_bytes, rest_from, start_of, LineIs, LineRefused}
use Rattle.slice_io.specs.declared.lines.LineFault.TheVariants as line_fault
use Rattle.slice_io.proofs.Gathering.{bytes_and_rest}
use Rattle.slice_core.specs.Tree.{Core}
use Rattle.slice_linear.specs.Rows.{LinearRow}
use Rattle.slice_paths.specs.Events.{Event, NextGoal, Gives, NoMore, Overflows, OverLimit, events_of, goal_limit, next_goal}
use Rattle.slice_paths.specs.Fronts.{ShareFirst, cover_rows, events_after}
use Rattle.slice_paths.specs.Goals.{Goal, goals}
use Rattle.slice_cert.specs.declared.line.Line.{Line}
use Rattle.slice_cert.specs.declared.line.Line.TheVariants.{Header, Refutation, Cover, Closing}
use Rattle.slice_cert.specs.CertLines.{IsLine}
use Rattle.slice_cert.proofs.OneLine.{one_line}
use Rattle.slice_check.specs.declared.verdict.Verdict.{Verdict}
use Rattle.slice_check.specs.declared.verdict.Verdict.TheVariants as verdict
use Rattle.slice_check.specs.declared.answer.HeaderField.{HeaderField}
use Rattle.slice_check.specs.declared.answer.HeaderField.TheVariants.{Kind, Version, Protocol, Agents}
use Rattle.slice_check.specs.declared.answer.Rejection.{Rejection}
use Rattle.slice_check.specs.declared.answer.Rejection.TheVariants as rejection
use Rattle.slice_check.specs.declared.answer.CertFault.{CertFault}
use Rattle.slice_check.specs.declared.answer.CertFault.TheVariants as cert_fault
use Rattle.slice_check.specs.declared.answer.CertAnswer.{CertAnswer}
use Rattle.slice_check.specs.declared.answer.CertAnswer.TheVariants.{Accepted, Rejected}
use Rattle.slice_check.specs.Verdicts.{IsVerdict}
use Rattle.slice_check.specs.Certificate.{IsVersion, SaysLine, line_limit, file_limit}
use Rattle.slice_check.specs.Faults.{CoverSays, HeaderDiffers, IsThere}
use Rattle.slice_check.proofs.Ahead.{share_count}
use Rattle.slice_check.proofs.OneVerdict.{one_verdict}

-- ---- what reading a line comes to
pub data Outcome : Type 0 where
  Ended : Outcome
  Long : Outcome
  Past : Outcome
  Bad : Outcome
  Says : (line : Line) → Outcome

abbrev pub Comes : List ℕ → ℕ → Outcome → Type 0
Comes file i Ended = rest_from i file ≡ []
Comes file i Long = (line : ℕ) × LineRefused line_limit file_limit file i (line_fault.LineTooLong line)
Comes file i Past = LineRefused line_limit file_limit file i line_fault.TooLong
Comes file i Bad = (text : List ℕ) × LineIs line_limit file_limit file i (Some text) × ((l : Line) → IsLine text l → ⊥)
Comes file i (Says l) = SaysLine file i l

ended_long : (file : List ℕ) (i : ℕ) → Comes file i Ended → Comes file i Long → ⊥
ended_long file i p q = let n : length (first_line (rest_from i file)) ≡ 0 = ap (λ (xs : List ℕ). length (first_line xs)) p in omega (arith, n, q.1.1)

ended_past : (file : List ℕ) (i : ℕ) → start_of i file ≤ file_limit → Comes file i Ended → Comes file i Past → ⊥
ended_past file i s p q = let n : line_bytes (rest_from i file) ≡ 0 = ap line_bytes p in omega (arith, n, s, q.0)

pub ended_line : (file : List ℕ) (i : ℕ) (text : List ℕ) → Comes file i Ended → LineIs line_limit file_limit file i (Some text) → ⊥
ended_line file i text p q = let n : length (rest_from i file) ≡ 0 = ap length p in omega (arith, n, q.0)

long_past : (file : List ℕ) (i : ℕ) → Comes file i Long → Comes file i Past → ⊥
long_past file i p q = let late = q.1 p.1.1 in omega (arith, late, p.1.2)

pub long_line : (file : List ℕ) (i : ℕ) (text : List ℕ) → Comes file i Long → LineIs line_limit file_limit file i (Some text) → ⊥
long_line file i text p q = omega (arith, ap length q.1, q.2, p.1.1)

pub past_line : (file : List ℕ) (i : ℕ) (text : List ℕ) → Comes file i Past → LineIs line_limit file_limit file i (Some text) → ⊥
past_line file i text p q = omega (arith, p.0, q.3)

pub bad_says : (file : List ℕ) (i : ℕ) (l : Line) → Comes file i Bad → SaysLine file i l → ⊥
bad_says file i l p q = p.2 l (subst (λ (t : List ℕ). IsLine t l) (q.1.1 ∙ sym p.1.1) q.2)

one_outcome : (file : List ℕ) (i : ℕ) (a b : Outcome) → start_of i file ≤ file_limit → Comes file i a → Comes file i b → a ≡ b
one_outcome file i Ended Ended s p q = refl
one_outcome file i Ended Long s p q = absurd (ended_long file i p q)
one_outcome file i Ended Past s p q = absurd (ended_past file i s p q)
one_outcome file i Ended Bad s p q = absurd (ended_line file i q.0 p q.1)
one_outcome file i Ended (Says l) s p q = absurd (ended_line file i q.0 p q.1)
one_outcome file i Long Ended s p q = absurd (ended_long file i q p)
one_outcome file i Long Long s p q = refl
one_outcome file i Long Past s p q = absurd (long_past file i p q)
one_outcome file i Long Bad s p q = absurd (long_line file i q.0 p q.1)
one_outcome file i Long (Says l) s p q = absurd (long_line file i q.0 p q.1)
one_outcome file i Past Ended s p q = absurd (ended_past file i s q p)
one_outcome file i Past Long s p q = absurd (long_past file i q p)
one_outcome file i Past Past s p q = refl
one_outcome file i Past Bad s p q = absurd (past_line file i q.0 p q.1)
one_outcome file i Past (Says l) s p q = absurd (past_line file i q.0 p q.1)
one_outcome file i Bad Ended s p q = absurd (ended_line file i p.0 q p.1)
one_outcome file i Bad Long s p q = absurd (long_line file i p.0 q p.1)
one_outcome file i Bad Past s p q = absurd (past_line file i p.0 q p.1)
one_outcome file i Bad Bad s p q = refl
one_outcome file i Bad (Says l) s p q = absurd (bad_says file i l p q)
one_outcome file i (Says l) Ended s p q = absurd (ended_line file i p.0 q p.1)
one_outcome file i (Says l) Long s p q = absurd (long_line file i p.0 q p.1)
one_outcome file i (Says l) Past s p q = absurd (past_line file i p.0 q p.1)
one_outcome file i (Says l) Bad s p q = absurd (bad_says file i l q p)
one_outcome file i (Says l) (Says k) s p q = ap Says (one_line p.0 l k p.2 (subst (λ (t : List ℕ). IsLine t k) (q.1.1 ∙ sym p.1.1) q.2))

-- behind a line the file's limit isn't passed
pub after_line_starts : (file : List ℕ) (i : ℕ) (l : Line) → SaysLine file i l → start_of (i + 1) file ≤ file_limit
after_line_starts file i l s =
    let e : i + 1 ≡ suc i = omega arith in
    let more = bytes_and_rest (rest_from i file) in
    let within = s.1.3 in
    subst (λ (k : ℕ). start_of k file ≤ file_limit) (sym e) (omega (arith, more, within))

pub nothing_there : (file : List ℕ) (i : ℕ) → rest_from i file ≡ [] → IsThere file i → ⊥
nothing_there file i e (inl t) = let n : length (rest_from i file) ≡ 0 = ap length e in omega (arith, n, t.1.0)
nothing_there file i e (inr t) = let n : length (first_line (rest_from i file)) ≡ 0 = ap (λ (xs : List ℕ). length (first_line xs)) e in omega (arith, n, t.1)

past_there : (file : List ℕ) (i : ℕ) → Comes file i Past → IsThere file i → ⊥
past_there file i p (inl q) = past_line file i q.0 p q.1
past_there file i p (inr q) = long_past file i (i + 1, q) p

-- ---- places and steps

-- where the checker stands: before the header; after lines that take n goals, where these events are ahead; after the
-- closing line
pub data Place : Type 0 where
  Heading : Place
  On : (version n : ℕ) (ahead : List Event) (i : ℕ) → Place
  Over : (n i : ℕ) → Place

abbrev pub line_at : Place → ℕ
line_at Heading = 0
line_at (On version n ahead i) = i
line_at (Over n i) = i

-- what is said at the end
pub data End : Type 0 where
  Answers : (answer : CertAnswer) → End
  Faults : (fault : CertFault) → End

-- the next place, or the end
pub data Step : Type 0 where
  Goes : (place : Place) → Step
  Stops : (end : End) → Step

abbrev pub rejects : Rejection → Step
rejects r = Stops (Answers (Rejected r))

abbrev pub faults : CertFault → Step
faults f = Stops (Faults f)

-- a line is read, and what it says leads on
abbrev pub ReadSteps : ℕ → (Line → Step → Type 0) → Outcome → Step → Type 0
ReadSteps i P Ended st = st ≡ rejects rejection.NotClosed
ReadSteps i P Long st = st ≡ rejects (rejection.LineTooLong (i + 1))
ReadSteps i P Past st = st ≡ faults cert_fault.TooLong
ReadSteps i P Bad st = st ≡ rejects (rejection.BadLine (i + 1))
ReadSteps i P (Says l) st = P l st

abbrev pub Reads : List ℕ → ℕ → (Line → Step → Type 0) → Step → Type 0
Reads file i P st = (o : Outcome) × Comes file i o × ReadSteps i P o st

abbrev pub HeadSteps : Core → Line → Step → Type 0
HeadSteps core l st =
    ((version : ℕ) × IsVersion version × (l ≡ Header version core.name core.agents) × (st ≡ Goes (On version 0 (events_of core) 1)))
    ⊎ ((field : HeaderField) × HeaderDiffers core.name core.agents l field × (st ≡ rejects (rejection.HeaderDiffers field)))

-- a verdict on the line of goal n
abbrev pub VerdictSteps : ℕ → (Step → Type 0) → Verdict → Step → Type 0
VerdictSteps n P verdict.Yes st = P st
VerdictSteps n P verdict.Length st = st ≡ rejects (rejection.Length n)
VerdictSteps n P (verdict.Sign row) st = st ≡ rejects (rejection.Sign n row)
VerdictSteps n P (verdict.Sum unknown) st = st ≡ rejects (rejection.Sum n unknown)
VerdictSteps n P verdict.NoStrict st = st ≡ rejects (rejection.NoStrict n)
VerdictSteps n P (verdict.Overflow unknown) st = st ≡ faults (cert_fault.Overflow n unknown)

-- the line of a goal where goal n is next
abbrev pub Judged : (n goal i : ℕ) → (Verdict → Type 0) → (Step → Type 0) → Step → Type 0
Judged n goal i V P st = ((goal ≢ n) × (st ≡ rejects (rejection.GoalOrder (i + 1)))) ⊎ ((goal ≡ n) × (w : Verdict) × V w × VerdictSteps n P w st)

-- the multipliers refute the goal
abbrev pub PlainGoes : (version n : ℕ) → List Event → ℕ → Step → Type 0
PlainGoes version n later i st = st ≡ Goes (On version (n + 1) later (i + 1))

-- the multipliers refute all that is behind the first passed choices
abbrev pub CoverGoes : Core → (version n : ℕ) → Goal → ℕ → ℕ → Step → Type 0
CoverGoes core version n g passed i st =
    (count : ℕ) × ShareFirst core passed g.trace (drop n (goals core)) count
    × (((n + count ≤ goal_limit) × (st ≡ Goes (On version (n + count) (events_after core passed g.trace) (i + 1)))) ⊎ ((goal_limit < n + count) × (st ≡ faults cert_fault.GoalLimit)))

-- goal n comes next
abbrev pub GoalSteps : Core → (version n : ℕ) → Goal → List Event → ℕ → Line → Step → Type 0
GoalSteps core version n g later i (Header v protocol agents) st = st ≡ rejects (rejection.GoalOrder (i + 1))
GoalSteps core version n g later i (Refutation goal m) st = Judged n goal i (IsVerdict g.rows m) (PlainGoes version n later i) st
GoalSteps core version n g later i (Cover goal passed m) st =
    ((version ≡ 1) × (st ≡ rejects (rejection.BadLine (i + 1))))
    ⊎ ((version ≡ 2) × Judged n goal i (CoverSays (cover_rows core passed g.trace) m) (CoverGoes core version n g passed i) st)
GoalSteps core version n g later i (Closing total) st = st ≡ rejects (rejection.Missing n)

-- all goals are taken, which are n
abbrev pub EndSteps : ℕ → ℕ → Line → Step → Type 0
EndSteps n i (Header v protocol agents) st = st ≡ rejects (rejection.Extra (i + 1))
EndSteps n i (Refutation goal m) st = st ≡ rejects (rejection.Extra (i + 1))
EndSteps n i (Cover goal passed m) st = st ≡ rejects (rejection.Extra (i + 1))
EndSteps n i (Closing total) st = ((total ≢ n) × (st ≡ rejects (rejection.ClosingDiffers (i + 1)))) ⊎ ((total ≡ n) × (st ≡ Goes (Over n (i + 1))))

-- this comes next
abbrev pub NextSteps : Core → List ℕ → (version n i : ℕ) → NextGoal → Step → Type 0
NextSteps core file version n i (Gives g later) st = Reads file i (GoalSteps core version n g later i) st
NextSteps core file version n i NoMore st = Reads file i (EndSteps n i) st
NextSteps core file version n i Overflows st = st ≡ faults (cert_fault.FormOverflow n)
NextSteps core file version n i OverLimit st = st ≡ faults cert_fault.GoalLimit

-- the file closed
abbrev pub OverSteps : List ℕ → (n i : ℕ) → Step → Type 0
OverSteps file n i st =
    ((rest_from i file ≡ []) × (st ≡ Stops (Answers (Accepted n))))
    ⊎ ((Comes file i Past × (st ≡ faults cert_fault.TooLong)) ⊎ (IsThere file i × (st ≡ rejects (rejection.Extra (i + 1)))))

abbrev pub Steps : Core → List ℕ → Place → Step → Type 0
Steps core file Heading st = Reads file 0 (HeadSteps core) st
Steps core file (On version n ahead i) st = NextSteps core file version n i (next_goal ahead n) st
Steps core file (Over n i) st = OverSteps file n i st

-- ---- one step comes at a place
reads_one : (file : List ℕ) (i : ℕ) (P : Line → Step → Type 0) (a b : Step) → start_of i file ≤ file_limit → Reads file i P a → Reads file i P b → ((l : Line) → P l a → P l b → a ≡ b) → a ≡ b
reads_one file i P a b s p q f =
    let e = one_outcome file i q.0 p.0 s q.1 p.1 in
    by p.0 p.2 (subst (λ (o : Outcome). ReadSteps i P o b) e q.2)
  where
    by : (o : Outcome) → ReadSteps i P o a → ReadSteps i P o b → a ≡ b
    by Ended x y = x ∙ sym y
    by Long x y = x ∙ sym y
    by Past x y = x ∙ sym y
    by Bad x y = x ∙ sym y
    by (Says l) x y = f l x y

one_field : (name : List ℕ) (agents : ℕ) (l : Line) (a b : HeaderField) → HeaderDiffers name agents l a → HeaderDiffers name agents l b → a ≡ b
one_field name agents (Refutation goal m) a b p q = p ∙ sym q
one_field name agents (Cover goal passed m) a b p q = p ∙ sym q
one_field name agents (Closing total) a b p q = p ∙ sym q
one_field name agents (Header v n k) Kind b p q = absurd p
one_field name agents (Header v n k) Version Kind p q = absurd q
one_field name agents (Header v n k) Version Version p q = refl
one_field name agents (Header v n k) Version Protocol p q = absurd (p q.0)
one_field name agents (Header v n k) Version Agents p q = absurd (p q.0)
one_field name agents (Header v n k) Protocol Kind p q = absurd q
one_field name agents (Header v n k) Protocol Version p q = absurd (q p.0)
one_field name agents (Header v n k) Protocol Protocol p q = refl
one_field name agents (Header v n k) Protocol Agents p q = absurd (p.1 q.1)
one_field name agents (Header v n k) Agents Kind p q = absurd q
one_field name agents (Header v n k) Agents Version p q = absurd (q p.0)
one_field name agents (Header v n k) Agents Protocol p q = absurd (q.1 p.1)
one_field name agents (Header v n k) Agents Agents p q = refl

pub no_field : (name : List ℕ) (agents version : ℕ) (l : Line) (field : HeaderField) → IsVersion version → l ≡ Header version name agents → HeaderDiffers name agents l field → ⊥
no_field name agents version l field known e d = by field (subst (λ (x : Line). HeaderDiffers name agents x field) e d)
  where
    by : (field : HeaderField) → HeaderDiffers name agents (Header version name agents) field → ⊥
    by Kind h = h
    by Version h = h known
    by Protocol h = h.1 refl
    by Agents h = h.2 refl

head_one : (core : Core) (l : Line) (a b : Step) → HeadSteps core l a → HeadSteps core l b → a ≡ b
head_one core l a b (inl p) (inl q) =
    let same : Header p.0 core.name core.agents ≡ Header q.0 core.name core.agents = sym p.2 ∙ q.2 in
    let version : p.0 ≡ q.0 = cc in
    p.3 ∙ ap (λ (v : ℕ). Goes (On v 0 (events_of core) 1)) version ∙ sym q.3
head_one core l a b (inl p) (inr q) = absurd (no_field core.name core.agents p.0 l q.0 p.1 p.2 q.1)
head_one core l a b (inr p) (inl q) = absurd (no_field core.name core.agents q.0 l p.0 q.1 q.2 p.1)
head_one core l a b (inr p) (inr q) = p.2 ∙ ap (λ (f : HeaderField). rejects (rejection.HeaderDiffers f)) (one_field core.name core.agents l p.0 q.0 p.1 q.1) ∙ sym q.2

verdict_one : (n : ℕ) (P : Step → Type 0) (w : Verdict) (a b : Step) → (P a → P b → a ≡ b) → VerdictSteps n P w a → VerdictSteps n P w b → a ≡ b
verdict_one n P verdict.Yes a b f p q = f p q
verdict_one n P verdict.Length a b f p q = p ∙ sym q
verdict_one n P (verdict.Sign row) a b f p q = p ∙ sym q
verdict_one n P (verdict.Sum unknown) a b f p q = p ∙ sym q
verdict_one n P verdict.NoStrict a b f p q = p ∙ sym q
verdict_one n P (verdict.Overflow unknown) a b f p q = p ∙ sym q

judged_one : (n goal i : ℕ) (V : Verdict → Type 0) (P : Step → Type 0) (a b : Step) → ((w x : Verdict) → V w → V x → w ≡ x) → (P a → P b → a ≡ b) → Judged n goal i V P a → Judged n goal i V P b → a ≡ b
judged_one n goal i V P a b v f (inl p) (inl q) = p.1 ∙ sym q.1
judged_one n goal i V P a b v f (inl p) (inr q) = absurd (p.0 q.0)
judged_one n goal i V P a b v f (inr p) (inl q) = absurd (q.0 p.0)
judged_one n goal i V P a b v f (inr p) (inr q) = verdict_one n P p.1 a b f p.3 (subst (λ (w : Verdict). VerdictSteps n P w b) (v q.1 p.1 q.2 p.2) q.3)

cover_verdict : (o : Option (List LinearRow)) (m : List ℤ) (v w : Verdict) → CoverSays o m v → CoverSays o m w → v ≡ w
cover_verdict None m v w p q = p ∙ sym q
cover_verdict (Some rows) m v w p q = one_verdict rows m v w p q

covers_one : (core : Core) (version n : ℕ) (g : Goal) (passed i : ℕ) (a b : Step) → CoverGoes core version n g passed i a → CoverGoes core version n g passed i b → a ≡ b
covers_one core version n g passed i a b p q = by (share_count core passed g.trace (drop n (goals core)) p.0 q.0 p.1 q.1) p.2 q.2
  where
    by : p.0 ≡ q.0 → ((n + p.0 ≤ goal_limit) × (a ≡ Goes (On version (n + p.0) (events_after core passed g.trace) (i + 1)))) ⊎ ((goal_limit < n + p.0) × (a ≡ faults cert_fault.GoalLimit))
        → ((n + q.0 ≤ goal_limit) × (b ≡ Goes (On version (n + q.0) (events_after core passed g.trace) (i + 1)))) ⊎ ((goal_limit < n + q.0) × (b ≡ faults cert_fault.GoalLimit)) → a ≡ b
    by same (inl x) (inl y) = x.1 ∙ ap (λ (count : ℕ). Goes (On version (n + count) (events_after core passed g.trace) (i + 1))) same ∙ sym y.1
    by same (inl x) (inr y) = absurd (omega (arith, same, x.0, y.0))
    by same (inr x) (inl y) = absurd (omega (arith, same, x.0, y.0))
    by same (inr x) (inr y) = x.1 ∙ sym y.1

goal_one : (core : Core) (version n : ℕ) (g : Goal) (later : List Event) (i : ℕ) (a b : Step) (l : Line) → GoalSteps core version n g later i l a → GoalSteps core version n g later i l b → a ≡ b
goal_one core version n g later i a b (Header v protocol agents) p q = p ∙ sym q
goal_one core version n g later i a b (Closing total) p q = p ∙ sym q
goal_one core version n g later i a b (Refutation goal m) p q =
    judged_one n goal i (IsVerdict g.rows m) (PlainGoes version n later i) a b (one_verdict g.rows m) (λ x y. x ∙ sym y) p q
goal_one core version n g later i a b (Cover goal passed m) (inl p) (inl q) = p.1 ∙ sym q.1
goal_one core version n g later i a b (Cover goal passed m) (inl p) (inr q) = absurd (omega (arith, p.0, q.0))
goal_one core version n g later i a b (Cover goal passed m) (inr p) (inl q) = absurd (omega (arith, p.0, q.0))
goal_one core version n g later i a b (Cover goal passed m) (inr p) (inr q) =
    judged_one n goal i (CoverSays (cover_rows core passed g.trace) m) (CoverGoes core version n g passed i) a b (cover_verdict (cover_rows core passed g.trace) m) (covers_one core version n g passed i a b) p.1 q.1

end_one : (n i : ℕ) (a b : Step) (l : Line) → EndSteps n i l a → EndSteps n i l b → a ≡ b
end_one n i a b (Header v protocol agents) p q = p ∙ sym q
end_one n i a b (Refutation goal m) p q = p ∙ sym q
end_one n i a b (Cover goal passed m) p q = p ∙ sym q
end_one n i a b (Closing total) (inl p) (inl q) = p.1 ∙ sym q.1
end_one n i a b (Closing total) (inl p) (inr q) = absurd (p.0 q.0)
end_one n i a b (Closing total) (inr p) (inl q) = absurd (q.0 p.0)
end_one n i a b (Closing total) (inr p) (inr q) = p.1 ∙ sym q.1

next_one : (core : Core) (file : List ℕ) (version n i : ℕ) (x : NextGoal) (a b : Step) → start_of i file ≤ file_limit → NextSteps core file version n i x a → NextSteps core file version n i x b → a ≡ b
next_one core file version n i (Gives g later) a b s p q = reads_one file i (GoalSteps core version n g later i) a b s p q (goal_one core version n g later i a b)
next_one core file version n i NoMore a b s p q = reads_one file i (EndSteps n i) a b s p q (end_one n i a b)
next_one core file version n i Overflows a b s p q = p ∙ sym q
next_one core file version n i OverLimit a b s p q = p ∙ sym q

over_one : (file : List ℕ) (n i : ℕ) (a b : Step) → start_of i file ≤ file_limit → OverSteps file n i a → OverSteps file n i b → a ≡ b
over_one file n i a b s (inl p) (inl q) = p.1 ∙ sym q.1
over_one file n i a b s (inl p) (inr (inl q)) = absurd (ended_past file i s p.0 q.0)
over_one file n i a b s (inl p) (inr (inr q)) = absurd (nothing_there file i p.0 q.0)
over_one file n i a b s (inr (inl p)) (inl q) = absurd (ended_past file i s q.0 p.0)
over_one file n i a b s (inr (inl p)) (inr (inl q)) = p.1 ∙ sym q.1
over_one file n i a b s (inr (inl p)) (inr (inr q)) = absurd (past_there file i p.0 q.0)
over_one file n i a b s (inr (inr p)) (inl q) = absurd (nothing_there file i q.0 p.0)
over_one file n i a b s (inr (inr p)) (inr (inl q)) = absurd (past_there file i q.0 p.0)
over_one file n i a b s (inr (inr p)) (inr (inr q)) = p.1 ∙ sym q.1

one_step : (core : Core) (file : List ℕ) (p : Place) (a b : Step) → start_of (line_at p) file ≤ file_limit → Steps core file p a → Steps core file p b → a ≡ b
one_step core file Heading a b s p q = reads_one file 0 (HeadSteps core) a b s p q (λ l x y. head_one core l a b x y)
one_step core file (On version n ahead i) a b s p q = next_one core file version n i (next_goal ahead n) a b s p q
one_step core file (Over n i) a b s p q = over_one file n i a b s p q

-- ---- walks

-- a walk of so many steps from a place to an end, within the file's limit
abbrev pub Walks : Core → List ℕ → ℕ → Place → End → Type 0
Walks core file zero p e = Steps core file p (Stops e)
Walks core file (suc k) p e = (q : Place) × (start_of (line_at q) file ≤ file_limit) × Steps core file p (Goes q) × Walks core file k q e

-- from a place all walks have one end
pub one_end : (core : Core) (file : List ℕ) (j k : ℕ) (p : Place) (e f : End) → start_of (line_at p) file ≤ file_limit → Walks core file j p e → Walks core file k p f → e ≡ f
one_end core file zero zero p e f s x y = let same = one_step core file p (Stops e) (Stops f) s x y in cc
one_end core file zero (suc k) p e f s x y = let same = one_step core file p (Stops e) (Goes y.0) s x y.2 in absurd cc
one_end core file (suc j) zero p e f s x y = let same = one_step core file p (Goes x.0) (Stops f) s x.2 y in absurd cc
one_end core file (suc j) (suc k) p e f s x y =
    let same = one_step core file p (Goes x.0) (Goes y.0) s x.2 y.2 in
    let place : x.0 ≡ y.0 = cc in
    one_end core file j k x.0 e f x.1 x.3 (subst (λ (q : Place). Walks core file k q f) (sym place) y.3)

-- What is said of a file is the end of a walk over it.
use Rattle.std.proofs.Common.{◌≡◌, ◌⊎◌, inl, inr, ◌+◌, ℕ, suc, List, [], ◌∷◌, length, ap, sym, subst, refl, arith, Some}
use Rattle.std.specs.declared.option.Option.{Option}
use Rattle.slice_io.specs.Lines.{LineIs}
use Rattle.slice_core.specs.Tree.{Core}
use Rattle.slice_linear.specs.Rows.{LinearRow}
use Rattle.slice_paths.specs.Events.{Event, NextGoal, events_of, next_goal}
use Rattle.slice_paths.specs.Fronts.{cover_rows}
use Rattle.slice_paths.specs.Goals.{Goal}
use Rattle.slice_cert.specs.declared.line.Line.{Line}
use Rattle.slice_cert.specs.declared.line.Line.TheVariants.{Header, Refutation, Cover, Closing}
use Rattle.slice_cert.specs.CertLines.{IsLine}
use Rattle.slice_cert.specs.Kinds.{IsClosing, IsCover}
use Rattle.slice_check.specs.declared.verdict.Verdict.{Verdict}
use Rattle.slice_check.specs.declared.verdict.Verdict.TheVariants as verdict
use Rattle.slice_check.specs.declared.answer.Rejection.{Rejection}
use Rattle.slice_check.specs.declared.answer.Rejection.TheVariants as rejection
use Rattle.slice_check.specs.declared.answer.CertFault.{CertFault}
use Rattle.slice_check.specs.declared.answer.CertFault.TheVariants as cert_fault
use Rattle.slice_check.specs.declared.answer.CertAnswer.TheVariants.{Accepted, Rejected}
use Rattle.slice_check.specs.Certificate.{AllPass, AtEnd, AtGoal, IsClosed, IsRead, Passes, SaysLine, SaysLines, Stands, line_limit, file_limit}
use Rattle.slice_check.specs.Faults.{CoverSays, Fails, GoalSays, IsAnswer, IsOutOfOrder, IsThere, IsUnread, LineSays, Rejects}
use Rattle.slice_check.proofs.Walks.{Outcome, Ended, Long, Past, Bad, Says, Comes, Place, Heading, On, Over, End, Answers, Faults, Step, Goes, Stops, ReadSteps, Reads, HeadSteps, VerdictSteps, PlainGoes, CoverGoes, GoalSteps, EndSteps, NextSteps, OverSteps, Walks, after_line_starts, rejects, faults}

-- an answer or a fault holds of the file; failed reads and want of memory aside
abbrev pub Said : Core → List ℕ → End → Type 0
Said core file (Answers a) = IsAnswer core file a
Said core file (Faults f) = Fails core file f × (IsUnread f → ⊥)

-- a walk from the start
abbrev pub Ends : Core → List ℕ → End → Type 0
Ends core file e = (k : ℕ) × Walks core file k Heading e

-- ---- what passes is walked over
passed_on : (core : Core) (file : List ℕ) (version n i m : ℕ) (ahead later : List Event) (l : Line) → SaysLine file i l → Passes core version n ahead l m later
    → NextSteps core file version n i (next_goal ahead n) (Goes (On version m later (i + 1)))
passed_on core file version n i m ahead later (Header v protocol agents) s p = absurd p
passed_on core file version n i m ahead later (Closing total) s p = absurd p
passed_on core file version n i m ahead later (Refutation goal multipliers) s p =
    subst (λ (x : NextGoal). NextSteps core file version n i x (Goes (On version m later (i + 1)))) (sym p.1)
    (Says (Refutation goal multipliers), s, inr (p.2, verdict.Yes, p.3, ap (λ (k : ℕ). Goes (On version k later (i + 1))) p.4))
passed_on core file version n i m ahead later (Cover goal passed multipliers) s p =
    let says : CoverSays (cover_rows core passed p.0.trace) multipliers verdict.Yes = subst (λ (o : Option (List LinearRow)). CoverSays o multipliers verdict.Yes) (sym p.7) p.8 in
    subst (λ (x : NextGoal). NextSteps core file version n i x (Goes (On version m later (i + 1)))) (sym p.4)
    (Says (Cover goal passed multipliers), s, inr (p.5, inr (p.6, verdict.Yes, says, (p.3, p.9, inl (omega (arith, p.10, p.11), λ t. Goes (On version (p.10 t) (p.12 t) (i + 1)))))))

walked : (core : Core) (file : List ℕ) (e : End) (ls : List Line) (version n i m k : ℕ) (ahead later : List Event) → SaysLines file i ls → AllPass core version n ahead ls m later → Walks core file k (On version m later (i + length ls)) e
    → (j : ℕ) × Walks core file j (On version n ahead i) e
walked core file e [] version n i m k ahead later s p w =
    let z : i + 0 ≡ i = omega arith in
    (k, subst (λ (q : Place). Walks core file k q e) (λ t. On version (p.0 t) (p.1 t) (z t)) w)
walked core file e (l ∷ ls) version n i m k ahead later s p w =
    let z : i + suc (length ls) ≡ (i + 1) + length ls = omega arith in
    let more = walked core file e ls version p.0 (i + 1) m k p.1 later s.1 p.3 (subst (λ (x : ℕ). Walks core file k (On version m later x) e) z w) in
    (suc more.0, (On version p.0 p.1 (i + 1), after_line_starts file i l s.0, passed_on core file version n i p.0 ahead p.1 l s.0 p.2, more.1))

from_start : (core : Core) (file : List ℕ) (e : End) (version n i k : ℕ) (ahead : List Event) → Stands core file version n ahead i → Walks core file k (On version n ahead i) e → Ends core file e
from_start core file e version n i k ahead st w =
    let z : i ≡ 1 + length st.body = omega (arith, st.next) in
    let l = Header version core.name core.agents in
    let more = walked core file e st.body version 0 1 n k (events_of core) ahead st.lines st.passes (subst (λ (x : ℕ). Walks core file k (On version n ahead x) e) z w) in
    (suc more.0, (On version 0 (events_of core) 1, after_line_starts file 0 l st.header, (Says l, st.header, inl (version, st.known, refl, refl)), more.1))

-- ---- the ends of walks
at_goal : (core : Core) (file : List ℕ) (e : End) (version n i : ℕ) (g : Goal) (a : AtGoal core file version n i g) → Reads file i (GoalSteps core version n g a.later i) (Stops e) → Ends core file e
at_goal core file e version n i g a r =
    from_start core file e version n i 0 a.ahead a.stands (subst (λ (x : NextGoal). NextSteps core file version n i x (Stops e)) (sym a.comes) r)

at_end : (core : Core) (file : List ℕ) (e : End) (n i : ℕ) → AtEnd core file n i → Reads file i (EndSteps n i) (Stops e) → Ends core file e
at_end core file e n i a r =
    from_start core file e a.version n i 0 a.ahead a.stands (subst (λ (x : NextGoal). NextSteps core file a.version n i x (Stops e)) (sym a.ends) r)

closed : (core : Core) (file : List ℕ) (e : End) (n i : ℕ) → IsClosed core file n i → OverSteps file n i (Stops e) → Ends core file e
closed core file e n i d o =
    let a = d.ends in
    let over : OverSteps file n (d.at + 1) (Stops e) = subst (λ (x : ℕ). OverSteps file n x (Stops e)) d.next o in
    let shut : NextSteps core file a.version n d.at (next_goal a.ahead n) (Goes (Over n (d.at + 1))) =
    subst (λ (x : NextGoal). NextSteps core file a.version n d.at x (Goes (Over n (d.at + 1)))) (sym a.ends) (Says (Closing n), d.closes, inr (refl, refl)) in
    from_start core file e a.version n d.at 1 a.ahead a.stands (Over n (d.at + 1), after_line_starts file d.at (Closing n) d.closes, shut, over)

-- a line that isn't one of a certificate
abbrev Plain : ℕ → Outcome → Step → Type 0
Plain i Ended st = st ≡ rejects rejection.NotClosed
Plain i Long st = st ≡ rejects (rejection.LineTooLong (i + 1))
Plain i Past st = st ≡ faults cert_fault.TooLong
Plain i Bad st = st ≡ rejects (rejection.BadLine (i + 1))
Plain i (Says l) st = ⊥

plain_steps : (i : ℕ) (P : Line → Step → Type 0) (o : Outcome) (st : Step) → Plain i o st → ReadSteps i P o st
plain_steps i P Ended st m = m
plain_steps i P Long st m = m
plain_steps i P Past st m = m
plain_steps i P Bad st m = m
plain_steps i P (Says l) st m = absurd m

read_ends : (core : Core) (file : List ℕ) (e : End) (i : ℕ) (o : Outcome) → IsRead core file i → Comes file i o → Plain i o (Stops e) → Ends core file e
read_ends core file e i o (inl z) c m = (0, (o, subst (λ (x : ℕ). Comes file x o) z c, plain_steps 0 (HeadSteps core) o (Stops e) (subst (λ (x : ℕ). Plain x o (Stops e)) z m)))
read_ends core file e i o (inr (inl a)) c m =
    at_goal core file e a.0 a.1 i a.2 a.3 (o, c, plain_steps i (GoalSteps core a.0 a.1 a.2 a.3.later i) o (Stops e) m)
read_ends core file e i o (inr (inr a)) c m = at_end core file e a.0 i a.1 (o, c, plain_steps i (EndSteps a.0 i) o (Stops e) m)

order_steps : (core : Core) (version n : ℕ) (g : Goal) (later : List Event) (i : ℕ) (l : Line) → IsOutOfOrder version n l → GoalSteps core version n g later i l (rejects (rejection.GoalOrder (i + 1)))
order_steps core version n g later i (Header v protocol agents) h = refl
order_steps core version n g later i (Refutation goal m) h = inl (h, refl)
order_steps core version n g later i (Cover goal passed m) h = inr (h.0, inl (h.1, refl))
order_steps core version n g later i (Closing total) h = absurd h

bad_steps : (core : Core) (n : ℕ) (g : Goal) (later : List Event) (i : ℕ) (l : Line) → IsCover l → GoalSteps core 1 n g later i l (rejects (rejection.BadLine (i + 1)))
bad_steps core n g later i (Header v protocol agents) h = absurd h
bad_steps core n g later i (Refutation goal m) h = absurd h
bad_steps core n g later i (Cover goal passed m) h = inl (refl, refl)
bad_steps core n g later i (Closing total) h = absurd h

says_steps : (core : Core) (version n : ℕ) (g : Goal) (later : List Event) (i : ℕ) (l : Line) (w : Verdict) (st : Step) → LineSays core version n g l w → ((P : Step → Type 0) → VerdictSteps n P w st) → GoalSteps core version n g later i l st
says_steps core version n g later i (Header v protocol agents) w st h f = absurd h
says_steps core version n g later i (Refutation goal m) w st h f = inr (h.0, w, h.1, f (PlainGoes version n later i))
says_steps core version n g later i (Cover goal passed m) w st h f = inr (h.0, inr (h.1, w, h.2, f (CoverGoes core version n g passed i)))
says_steps core version n g later i (Closing total) w st h f = absurd h

says_ends : (core : Core) (file : List ℕ) (e : End) (n : ℕ) (w : Verdict) → GoalSays core file n w → ((P : Step → Type 0) → VerdictSteps n P w (Stops e)) → Ends core file e
says_ends core file e n w h f =
    let a = h.4 in
    at_goal core file e h.0 n h.1 h.2 a (Says h.3, h.5, says_steps core h.0 n h.2 a.later h.1 h.3 w (Stops e) h.6 f)

extra_steps : (n i : ℕ) (l : Line) → (IsClosing l → ⊥) → EndSteps n i l (rejects (rejection.Extra (i + 1)))
extra_steps n i (Header v protocol agents) c = refl
extra_steps n i (Refutation goal m) c = refl
extra_steps n i (Cover goal passed m) c = refl
extra_steps n i (Closing total) c = absurd (c tt)

-- ---- each of them
abbrev rejected : Rejection → End
rejected r = Answers (Rejected r)

rejection_ends : (core : Core) (file : List ℕ) (r : Rejection) → Rejects core file r → Ends core file (rejected r)
rejection_ends core file rejection.NotClosed h = read_ends core file (rejected rejection.NotClosed) h.0 Ended h.1 h.2 refl
rejection_ends core file (rejection.LineTooLong line) h =
    read_ends core file (rejected (rejection.LineTooLong line)) h.0 Long h.2 (line, h.3) (ap (λ (x : ℕ). rejects (rejection.LineTooLong x)) h.1)
rejection_ends core file (rejection.BadLine line) h = subst (λ (x : ℕ). Ends core file (rejected (rejection.BadLine x))) (sym h.1) (bad h.2)
  where
    bad : (IsRead core file h.0 × ((text : List ℕ) × LineIs line_limit file_limit file h.0 (Some text) × ((l : Line) → IsLine text l → ⊥)))
        ⊎ ((n : ℕ) × (g : Goal) × (l : Line) × AtGoal core file 1 n h.0 g × SaysLine file h.0 l × IsCover l) → Ends core file (rejected (rejection.BadLine (h.0 + 1)))
    bad (inl x) = read_ends core file (rejected (rejection.BadLine (h.0 + 1))) h.0 Bad x.0 x.1 refl
    bad (inr x) = at_goal core file (rejected (rejection.BadLine (h.0 + 1))) 1 x.0 h.0 x.1 x.3 (Says x.2, x.4, bad_steps core x.0 x.1 x.3.later h.0 x.2 x.5)
rejection_ends core file (rejection.HeaderDiffers field) h = (0, (Says h.0, h.1, inr (field, h.2, refl)))
rejection_ends core file (rejection.Missing goal) h = at_goal core file (rejected (rejection.Missing goal)) h.0 goal h.1 h.3 h.4 (Says (Closing h.2), h.5, refl)
rejection_ends core file (rejection.GoalOrder line) h =
    let a = h.6 in
    subst (λ (x : ℕ). Ends core file (rejected (rejection.GoalOrder x))) (sym h.5)
    (at_goal core file (rejected (rejection.GoalOrder (h.1 + 1))) h.0 h.2 h.1 h.3 a (Says h.4, h.7, order_steps core h.0 h.2 h.3 a.later h.1 h.4 h.8))
rejection_ends core file (rejection.Length goal) h = says_ends core file (rejected (rejection.Length goal)) goal verdict.Length h (λ P. refl)
rejection_ends core file (rejection.Sign goal row) h = says_ends core file (rejected (rejection.Sign goal row)) goal (verdict.Sign row) h (λ P. refl)
rejection_ends core file (rejection.Sum goal unknown) h = says_ends core file (rejected (rejection.Sum goal unknown)) goal (verdict.Sum unknown) h (λ P. refl)
rejection_ends core file (rejection.NoStrict goal) h = says_ends core file (rejected (rejection.NoStrict goal)) goal verdict.NoStrict h (λ P. refl)
rejection_ends core file (rejection.Extra line) h = subst (λ (x : ℕ). Ends core file (rejected (rejection.Extra x))) (sym h.2) (extra h.3)
  where
    extra : (AtEnd core file h.1 h.0 × ((l : Line) × SaysLine file h.0 l × (IsClosing l → ⊥))) ⊎ (IsClosed core file h.1 h.0 × IsThere file h.0) → Ends core file (rejected (rejection.Extra (h.0 + 1)))
    extra (inl x) = at_end core file (rejected (rejection.Extra (h.0 + 1))) h.1 h.0 x.0 (Says x.1.0, x.1.1, extra_steps h.1 h.0 x.1.0 x.1.2)
    extra (inr x) = closed core file (rejected (rejection.Extra (h.0 + 1))) h.1 h.0 x.0 (inr (inr (x.1, refl)))
rejection_ends core file (rejection.ClosingDiffers line) h =
    subst (λ (x : ℕ). Ends core file (rejected (rejection.ClosingDiffers x))) (sym h.3)
    (at_end core file (rejected (rejection.ClosingDiffers (h.0 + 1))) h.1 h.0 h.4 (Says (Closing h.2), h.5, inl (h.6, refl)))

fault_ends : (core : Core) (file : List ℕ) (f : CertFault) → Fails core file f → (IsUnread f → ⊥) → Ends core file (Faults f)
fault_ends core file cert_fault.ReadFault h t = absurd (t tt)
fault_ends core file cert_fault.Memory h t = absurd (t tt)
fault_ends core file cert_fault.TooLong h t = too_long h.1
  where
    too_long : IsRead core file h.0 ⊎ ((n : ℕ) × IsClosed core file n h.0) → Ends core file (Faults cert_fault.TooLong)
    too_long (inl r) = read_ends core file (Faults cert_fault.TooLong) h.0 Past r h.2 refl
    too_long (inr d) = closed core file (Faults cert_fault.TooLong) d.0 h.0 d.1 (inr (inl (h.2, refl)))
fault_ends core file cert_fault.GoalLimit (inl h) t =
    from_start core file (Faults cert_fault.GoalLimit) h.0 h.1 h.2 0 h.3 h.4 (subst (λ (x : NextGoal). NextSteps core file h.0 h.1 h.2 x (faults cert_fault.GoalLimit)) (sym h.5) refl)
fault_ends core file cert_fault.GoalLimit (inr h) t =
    at_goal core file (Faults cert_fault.GoalLimit) 2 h.0 h.1 h.4 h.6
    (Says (Cover h.0 h.2 h.5), h.7, inr (refl, inr (refl, verdict.Yes, h.8, (h.3, h.9, inr (h.10, refl)))))
fault_ends core file (cert_fault.FormOverflow goal) h t =
    from_start core file (Faults (cert_fault.FormOverflow goal)) h.0 goal h.1 0 h.2 h.3
    (subst (λ (x : NextGoal). NextSteps core file h.0 goal h.1 x (faults (cert_fault.FormOverflow goal))) (sym h.4) refl)
fault_ends core file (cert_fault.Overflow goal unknown) h t = says_ends core file (Faults (cert_fault.Overflow goal unknown)) goal (verdict.Overflow unknown) h (λ P. refl)

pub said_ends : (core : Core) (file : List ℕ) (e : End) → Said core file e → Ends core file e
said_ends core file (Answers (Rejected r)) h = rejection_ends core file r h
said_ends core file (Answers (Accepted total)) h = closed core file (Answers (Accepted total)) total h.2.0 h.2.1 (inl (h.2.2, refl))
said_ends core file (Faults f) h = fault_ends core file f h.0 h.1

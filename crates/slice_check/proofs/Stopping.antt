-- What stops the checker at a line.
use Rattle.std.proofs.Common.{◌≡◌, ◌≢◌, inl, inr, ◌+◌, ℕ, ℤ, List, refl, sym, subst, Some}
use Rattle.slice_core.specs.Cores.{core_of}
use Rattle.slice_core.specs.Tree.{Core}
use Rattle.slice_paths.specs.Events.{Event, Gives, Overflows, events_of, next_goal}
use Rattle.slice_paths.specs.Goals.{Goal}
use Rattle.slice_paths.specs.Streams.{Stream}
use Rattle.slice_cert.specs.declared.line.Line.{Line}
use Rattle.slice_cert.specs.declared.line.Line.TheVariants.{Header, Refutation, Cover, Closing}
use Rattle.slice_check.specs.declared.verdict.Verdict.{Verdict}
use Rattle.slice_check.specs.declared.verdict.Verdict.TheVariants as verdict
use Rattle.slice_check.specs.declared.answer.Rejection.TheVariants as rejection
use Rattle.slice_check.specs.declared.answer.CertFault.TheVariants as cert_fault
use Rattle.slice_check.specs.declared.answer.Stop.{Stop}
use Rattle.slice_check.specs.declared.answer.Stop.TheVariants as stop
use Rattle.slice_check.specs.Certificate.{AtEnd, AtGoal, IsRead, SaysLine, Stands}
use Rattle.slice_check.specs.Faults.{GoalSays, LineSays}
use Rattle.slice_check.specs.Steps.{IsCoverStop, IsFresh, IsPassStop, IsGoalStop, IsNoTotal, IsOther, Reached, ReachedEnd, Stops, stop_for}

-- ---- at a goal
pub at_goal : (core : Core) (file : List ℕ) (version n i : ℕ) (g : Goal) (ahead later : List Event) → Reached core file version n ahead i → next_goal ahead n ≡ Gives g later → AtGoal core file version n i g
at_goal core file version n i g ahead later r e = record { ahead = ahead; later = later; stands = r.stands; comes = e }

pub read_at_goal : (core : Core) (file : List ℕ) (version n i : ℕ) (g : Goal) → AtGoal core file version n i g → IsRead core file i
read_at_goal core file version n i g a = inr (inl (version, n, g, a))

pub other_stops : (core : Core) (file : List ℕ) (version n i line : ℕ) (g : Goal) (l : Line) (s : Stop) → AtGoal core file version n i g → SaysLine file i l → line ≡ i + 1 → IsOther l version n line s → Stops core file s
other_stops core file version n i line g (Header v protocol agents) s a says e o =
    subst (Stops core file) (sym o) (version, i, n, g, Header v protocol agents, e, a, says, tt)
other_stops core file version n i line g (Refutation goal m) s a says e o =
    subst (Stops core file) (sym o.1) (version, i, n, g, Refutation goal m, e, a, says, o.0)
other_stops core file version n i line g (Closing total) s a says e o = subst (Stops core file) (sym o) (version, i, total, g, a, says)
other_stops core file version n i line g (Cover goal passed m) s a says e (inr o) =
    subst (Stops core file) (sym o.2) (version, i, n, g, Cover goal passed m, e, a, says, (o.0, o.1))
other_stops core file version n i line g (Cover goal passed m) s a says e (inl o) =
    subst (Stops core file) (sym o.1) (i, e, inr (n, g, Cover goal passed m, first, says, tt))
  where
    first : AtGoal core file 1 n i g
    first = elim a.stands.known [
      | inl one ↦ subst (λ (v : ℕ). AtGoal core file v n i g) one a
      | inr two ↦ absurd (o.0 two)
    ]

pub verdict_stops : (core : Core) (file : List ℕ) (version n i : ℕ) (g : Goal) (l : Line) (v : Verdict) (s : Stop) → AtGoal core file version n i g → SaysLine file i l → LineSays core version n g l v → stop_for n v ≡ Some s → Stops core file s
verdict_stops core file version n i g l v s a says h e = by v h e
  where
    says_it : (w : Verdict) → LineSays core version n g l w → GoalSays core file n w
    says_it w k = (version, i, g, l, a, says, k)

    by : (w : Verdict) → LineSays core version n g l w → stop_for n w ≡ Some s → Stops core file s
    by verdict.Yes k f = absurd cc
    by verdict.Length k f = let t : stop.Rejected (rejection.Length n) ≡ s = cc in subst (Stops core file) t (says_it verdict.Length k)
    by (verdict.Sign row) k f = let t : stop.Rejected (rejection.Sign n row) ≡ s = cc in subst (Stops core file) t (says_it (verdict.Sign row) k)
    by (verdict.Sum unknown) k f = let t : stop.Rejected (rejection.Sum n unknown) ≡ s = cc in subst (Stops core file) t (says_it (verdict.Sum unknown) k)
    by verdict.NoStrict k f = let t : stop.Rejected (rejection.NoStrict n) ≡ s = cc in subst (Stops core file) t (says_it verdict.NoStrict k)
    by (verdict.Overflow unknown) k f = let t : stop.Failed (cert_fault.Overflow n unknown) ≡ s = cc in subst (Stops core file) t (says_it (verdict.Overflow unknown) k)

pub cover_stops : (core : Core) (file : List ℕ) (version i passed : ℕ) (g : Goal) (m : List ℤ) (s : Stop) → AtGoal core file version g.number i g → SaysLine file i (Cover g.number passed m) → version ≡ 2 → IsCoverStop core g passed m s → Stops core file s
cover_stops core file version i passed g m s a says two (inl h) = verdict_stops core file version g.number i g (Cover g.number passed m) h.0 s a says (two, refl, h.2) h.1
cover_stops core file version i passed g m s a says two (inr (inr e)) = subst (Stops core file) (sym e) tt
cover_stops core file version i passed g m s a says two (inr (inl h)) = by h.1
  where
    by : IsPassStop core g passed s → Stops core file s
    by (inr e) = subst (Stops core file) (sym e) tt
    by (inl o) =
        let here = subst (λ (v : ℕ). AtGoal core file v g.number i g) two a in
        subst (Stops core file) (sym o.0) (inr (g.number, i, passed, o.1.0, g, m, here, says, h.0, o.1.1, o.1.2))

-- ---- at the end of the goals
pub at_end : (core : Core) (file : List ℕ) (n i : ℕ) → ReachedEnd core file n i → AtEnd core file n i
at_end core file n i r = record { version = r.version; ahead = r.ahead; stands = r.reached.stands; ends = r.ends }

pub total_stops : (core : Core) (file : List ℕ) (n i line : ℕ) (l : Line) (s : Stop) → AtEnd core file n i → SaysLine file i l → line ≡ i + 1 → IsNoTotal l n line s → Stops core file s
total_stops core file n i line (Header version protocol agents) s d says e o = subst (Stops core file) (sym o) (i, n, e, inl (d, (Header version protocol agents, says, λ c. c)))
total_stops core file n i line (Refutation goal m) s d says e o = subst (Stops core file) (sym o) (i, n, e, inl (d, (Refutation goal m, says, λ c. c)))
total_stops core file n i line (Cover goal passed m) s d says e o = subst (Stops core file) (sym o) (i, n, e, inl (d, (Cover goal passed m, says, λ c. c)))
total_stops core file n i line (Closing total) s d says e o = subst (Stops core file) (sym o.1) (i, n, total, e, d, says, o.0)

-- ---- where no goal is made
pub goals_stop : (core : Core) (file : List ℕ) (version i : ℕ) (t : Stream) (s : Stop) → Reached core file version t.given t.ahead i → IsGoalStop t s → Stops core file s
goals_stop core file version i t (stop.Rejected r) d h = absurd h
goals_stop core file version i t (stop.Failed cert_fault.ReadFault) d h = absurd h
goals_stop core file version i t (stop.Failed cert_fault.TooLong) d h = absurd h
goals_stop core file version i t (stop.Failed cert_fault.GoalLimit) d h = inl (version, t.given, i, t.ahead, d.stands, h)
goals_stop core file version i t (stop.Failed (cert_fault.FormOverflow goal)) d h =
    (version, i, t.ahead, subst (λ (k : ℕ). Stands core file version k t.ahead i) (sym h.1) d.stands, subst (λ (k : ℕ). next_goal t.ahead k ≡ Overflows) (sym h.1) h.0)
goals_stop core file version i t (stop.Failed (cert_fault.Overflow goal unknown)) d h = absurd h
goals_stop core file version i t (stop.Failed cert_fault.Memory) d h = tt

-- ---- before the first goal
pub fresh_reached : (core : Core) (file : List ℕ) (version : ℕ) (s : Stream) → IsFresh core s → Reached core file version 0 (events_of core) 1 → Reached (core_of s.core) file version 0 s.ahead 1
fresh_reached core file version s f r =
    subst (λ (k : Core). Reached k file version 0 s.ahead 1) (sym f.core_is) (subst (λ (es : List Event). Reached core file version 0 es 1) (sym f.ahead) r)

-- ---- neither a verdict nor goals that are too many come of a failed read
pub no_read : (n : ℕ) (v : Verdict) (s : Stop) → stop_for n v ≡ Some s → s ≢ stop.Failed cert_fault.ReadFault
no_read n verdict.Yes s f e = cc
no_read n verdict.Length s f e = cc
no_read n (verdict.Sign row) s f e = cc
no_read n (verdict.Sum unknown) s f e = cc
no_read n verdict.NoStrict s f e = cc
no_read n (verdict.Overflow unknown) s f e = cc

pub pass_no_read : (core : Core) (g : Goal) (passed : ℕ) (s : Stop) → IsPassStop core g passed s → s ≢ stop.Failed cert_fault.ReadFault
pass_no_read core g passed s (inl h) e = let f = h.0 in cc
pass_no_read core g passed s (inr h) e = cc

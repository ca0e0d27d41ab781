-- Where the reading of a file stops, no more of its lines are right in version 1.
use Rattle.std.proofs.Common.{◌≡◌, ◌∙◌, ◌⊎◌, inl, inr, ◌+◌, ◌<◌, ◌≤◌, ℕ, suc, ℤ, List, [], ◌∷◌, length, sym, ap, subst, arith}
use Rattle.std.proofs.lemmas.Bool.{cases_lt}
use Rattle.slice_core.specs.Tree.{Core}
use Rattle.slice_paths.specs.Events.{Event, NextGoal, Gives, Overflows, OverLimit, events_of, next_goal}
use Rattle.slice_paths.specs.Goals.{Goal}
use Rattle.slice_paths.specs.Streams.{Stream}
use Rattle.slice_cert.specs.declared.line.Line.{Line}
use Rattle.slice_cert.specs.declared.line.Line.TheVariants.{Header, Refutation, Cover, Closing}
use Rattle.slice_check.specs.declared.answer.CertFault.TheVariants as cert_fault
use Rattle.slice_check.specs.declared.answer.Stop.{Stop}
use Rattle.slice_check.specs.declared.answer.Stop.TheVariants as stop
use Rattle.slice_check.specs.declared.verdict.Verdict.TheVariants.{Yes}
use Rattle.slice_check.specs.Certificate.{AllPass, Passes, SaysLine, SaysLines, Stands}
use Rattle.slice_check.specs.Steps.{IsGoalStop}
use Rattle.slice_check.specs.Upgrades.{IsLast}
use Rattle.slice_check.specs.Upgrading.{IsMoot, RefutesNot}
use Rattle.slice_check.specs.Verdicts.{IsVerdict}
use Rattle.slice_check.proofs.Upgraded.{one_says}

-- in version 1 a line that passes is that of the goal that comes next, and refutes it
plain_passes : (core : Core) (n m : ℕ) (ahead later : List Event) (l : Line) → Passes core 1 n ahead l m later
    → (g : Goal) × (k : List ℤ) × (l ≡ Refutation n k) × (next_goal ahead n ≡ Gives g later) × IsVerdict g.rows k Yes × (m ≡ n + 1)
plain_passes core n m ahead later (Header version protocol agents) p = absurd p
plain_passes core n m ahead later (Refutation goal k) p = (p.0, k, ap (λ (x : ℕ). Refutation x k) p.2, p.1, p.3, p.4)
plain_passes core n m ahead later (Cover goal passed k) p = let two = p.5 in absurd (omega (arith, two))
plain_passes core n m ahead later (Closing total) p = absurd p

-- a line passes in one way
one_pass : (core : Core) (n m k : ℕ) (ahead later others : List Event) (l : Line) → Passes core 1 n ahead l m later → Passes core 1 n ahead l k others → (m ≡ k) × (later ≡ others)
one_pass core n m k ahead later others l p q =
    let x = plain_passes core n m ahead later l p in
    let y = plain_passes core n k ahead others l q in
    let same : Gives x.0 later ≡ Gives y.0 others = sym x.3 ∙ y.3 in
    let are : later ≡ others = cc in
    (x.5 ∙ sym y.5, are)

-- of two lists of lines of one file that pass, the longer one goes on behind the shorter one, by a line that passes
goes_on : (core : Core) (file : List ℕ) (ls ks : List Line) (p n m i : ℕ) (start ahead last : List Event) → SaysLines file i ls → SaysLines file i ks → AllPass core 1 p start ls n ahead → AllPass core 1 p start ks m last → length ls < length ks
    → (l : Line) × (k : ℕ) × (later : List Event) × SaysLine file (i + length ls) l × Passes core 1 n ahead l k later
goes_on core file [] [] p n m i start ahead last s t a b lt = absurd (omega (arith, lt))
goes_on core file [] (k ∷ ks) p n m i start ahead last s t a b lt =
    let e : i ≡ i + 0 = omega arith in (
      k,
      b.0,
      b.1,
      subst (λ (x : ℕ). SaysLine file x k) e t.0,
      subst (λ (x : ℕ). Passes core 1 x ahead k b.0 b.1) (sym a.0) (subst (λ (es : List Event). Passes core 1 p es k b.0 b.1) (sym a.1) b.2),
    )
goes_on core file (l ∷ ls) [] p n m i start ahead last s t a b lt = absurd (omega (arith, lt))
goes_on core file (l ∷ ls) (k ∷ ks) p n m i start ahead last s t a b lt =
    let same : k ≡ l = one_says file i k l t.0 s.0 in
    let pass = one_pass core p a.0 b.0 start a.1 b.1 l a.2 (subst (λ (x : Line). Passes core 1 p start x b.0 b.1) same b.2) in
    let others : AllPass core 1 a.0 a.1 ks m last = subst (λ (x : ℕ). AllPass core 1 x a.1 ks m last) (sym pass.0) (subst (λ (es : List Event). AllPass core 1 b.0 es ks m last) (sym pass.1) b.3) in
    let e : (i + 1) + length ls ≡ i + suc (length ls) = omega arith in
    let x = goes_on core file ls ks a.0 n m (i + 1) a.1 ahead last s.1 t.1 a.3 others (omega (arith, lt)) in
    (x.0, x.1, x.2, subst (λ (y : ℕ). SaysLine file y x.0) e x.3, x.4)

-- no more lines are right where line i doesn't pass
no_further : (core : Core) (file : List ℕ) (n i : ℕ) (ahead : List Event) → Stands core file 1 n ahead i → ((l : Line) (m : ℕ) (later : List Event) → SaysLine file i l → Passes core 1 n ahead l m later → ⊥) → IsLast core file i
no_further core file n i ahead s none m j later t = by (cases_lt i j)
  where
    by : (i < j) ⊎ (j ≤ i) → j ≤ i
    by (inr le) = le
    by (inl lt) =
        let here = s.next in
        let there = t.next in
        let x = goes_on core file s.body t.body 0 n m 1 (events_of core) ahead later s.lines t.lines s.passes t.passes (omega (arith, lt, here, there)) in
        let e : 1 + length s.body ≡ i = omega (arith, here) in
        absurd (none x.0 x.1 x.2 (subst (λ (k : ℕ). SaysLine file k x.0) e x.3) x.4)

-- as line i doesn't refute the goal that comes next
pub last_at_goal : (core : Core) (file : List ℕ) (n i : ℕ) (ahead later : List Event) (g : Goal) → Stands core file 1 n ahead i → next_goal ahead n ≡ Gives g later → g.number ≡ n → RefutesNot file i g → IsLast core file i
last_at_goal core file n i ahead later g s comes number wrong = no_further core file n i ahead s (λ l m es says p.
    let x = plain_passes core n m ahead es l p in
    let same : Gives x.0 es ≡ Gives g later = sym x.3 ∙ comes in
    let are : x.0 ≡ g = cc in
    let line = subst (λ (k : ℕ). SaysLine file i (Refutation k x.1)) (sym number) (subst (SaysLine file i) x.2 says) in
    wrong x.1 line (subst (λ (y : Goal). IsVerdict y.rows x.1 Yes) are x.4))

-- as no goal comes
pub last_at_none : (core : Core) (file : List ℕ) (n i : ℕ) (ahead : List Event) → Stands core file 1 n ahead i → ((g : Goal) (later : List Event) → next_goal ahead n ≡ Gives g later → ⊥) → IsLast core file i
last_at_none core file n i ahead s none = no_further core file n i ahead s (λ l m es says p. let x = plain_passes core n m ahead es l p in none x.0 es x.3)

no_goal : (n : ℕ) (ahead : List Event) (x : NextGoal) → next_goal ahead n ≡ x → ((g : Goal) (later : List Event) → x ≡ Gives g later → ⊥) → (g : Goal) (later : List Event) → next_goal ahead n ≡ Gives g later → ⊥
no_goal n ahead x e none g later h = none g later (sym e ∙ h)

pub stop_is_last : (core : Core) (file : List ℕ) (i : ℕ) (t : Stream) (s : Stop) → Stands core file 1 t.given t.ahead i → IsGoalStop t s → IsMoot s ⊎ IsLast core file i
stop_is_last core file i t (stop.Rejected r) d h = absurd h
stop_is_last core file i t (stop.Failed cert_fault.ReadFault) d h = absurd h
stop_is_last core file i t (stop.Failed cert_fault.TooLong) d h = absurd h
stop_is_last core file i t (stop.Failed cert_fault.GoalLimit) d h = inr (last_at_none core file t.given i t.ahead d (no_goal t.given t.ahead OverLimit h (λ g later e. absurd cc)))
stop_is_last core file i t (stop.Failed (cert_fault.FormOverflow goal)) d h = inr (last_at_none core file t.given i t.ahead d (no_goal t.given t.ahead Overflows h.0 (λ g later e. absurd cc)))
stop_is_last core file i t (stop.Failed (cert_fault.Overflow goal unknown)) d h = absurd h
stop_is_last core file i t (stop.Failed cert_fault.Memory) d h = inl tt

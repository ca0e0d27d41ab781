-- What stops the upgrade, and that no more lines are right then.
use Rattle.std.proofs.Common.{◌≡◌, ◌∙◌, ◌⊎◌, inl, inr, ℕ, ℤ, List, refl, sym, ap, subst, arith, Some}
use Rattle.std.specs.declared.option.Option.{Option}
use Rattle.slice_core.specs.Tree.{Core}
use Rattle.slice_paths.specs.Goals.{Goal}
use Rattle.slice_cert.specs.declared.line.Line.{Line}
use Rattle.slice_cert.specs.declared.line.Line.TheVariants.{Header, Refutation}
use Rattle.slice_cert.specs.CertLines.{IsLine, line_text}
use Rattle.slice_cert.proofs.OneLine.{one_line}
use Rattle.slice_check.specs.declared.answer.HeaderField.{HeaderField}
use Rattle.slice_check.specs.declared.answer.HeaderField.TheVariants.{Kind, Version, Protocol, Agents}
use Rattle.slice_check.specs.declared.answer.Rejection.TheVariants as rejection
use Rattle.slice_check.specs.declared.answer.Stop.{Stop}
use Rattle.slice_check.specs.declared.answer.Stop.TheVariants as stop
use Rattle.slice_check.specs.declared.upgrade.Halt.{Halt}
use Rattle.slice_check.specs.declared.upgrade.Halt.TheVariants as halt
use Rattle.slice_check.specs.declared.verdict.Verdict.{Verdict}
use Rattle.slice_check.specs.declared.verdict.Verdict.TheVariants.{Yes}
use Rattle.slice_check.specs.Certificate.{SaysLine}
use Rattle.slice_check.specs.Faults.{HeaderDiffers}
use Rattle.slice_check.specs.Steps.{IsOther, Stops, stop_for}
use Rattle.slice_check.specs.Upgrades.{IsOfVersion2}
use Rattle.slice_check.specs.Upgrading.{BeginHalts, DiffersFirst, IsMoot, LineHalts, RefutesNot, SaysFirst, StopsFirst}
use Rattle.slice_check.specs.Verdicts.{IsVerdict}
use Rattle.slice_check.proofs.OneVerdict.{one_verdict}

-- a place says one line
pub one_says : (file : List ℕ) (i : ℕ) (l k : Line) → SaysLine file i l → SaysLine file i k → l ≡ k
one_says file i l k p q = one_line p.0 l k p.2 (subst (λ (t : List ℕ). IsLine t k) (q.1.1 ∙ sym p.1.1) q.2)

-- ---- the first line
pub first_stops : (core : Core) (file : List ℕ) (s : Stop) → IsMoot s ⊎ ((l : Line) → SaysLine file 0 l → ⊥) → Stops core file s → StopsFirst core file s
first_stops core file s (inl moot) st = inl moot
first_stops core file s (inr none) st = inr (λ n j ahead x. absurd (none (Header 1 core.name core.agents) x.header), by s st)
  where
    by : (t : Stop) → Stops core file t → SaysFirst core file t
    by (stop.Rejected r) h = inr (λ b. none b.0 b.1, h)
    by (stop.Failed f) h = (λ b. none b.0 b.1, h)

no_first : (name : List ℕ) (agents : ℕ) (f : HeaderField) → HeaderDiffers name agents (Header 1 name agents) f → ⊥
no_first name agents Kind h = h
no_first name agents Version h = h (inl refl)
no_first name agents Protocol h = h.1 refl
no_first name agents Agents h = h.2 refl

first_second : (name : List ℕ) (agents : ℕ) → IsOfVersion2 (Header 1 name agents) → ⊥
first_second name agents e = omega (arith, e)

pub differs_stops : (core : Core) (file : List ℕ) (l : Line) (f : HeaderField) → SaysLine file 0 l → DiffersFirst core.name core.agents l f → StopsFirst core file (stop.Rejected (rejection.HeaderDiffers f))
differs_stops core file l f says (inl d) = inr (
  λ n j ahead x. absurd (first_second core.name core.agents (subst IsOfVersion2 (one_says file 0 l (Header 1 core.name core.agents) says x.header) d.0)),
  inl ((l, says, d.0), ap rejection.HeaderDiffers d.1),
)
differs_stops core file l f says (inr d) = inr (
  λ n j ahead x. absurd (no_first core.name core.agents f (subst (λ (k : Line). HeaderDiffers core.name core.agents k f) (one_says file 0 l (Header 1 core.name core.agents) says x.header) d.1)),
  inr (λ b. d.0 (subst IsOfVersion2 (one_says file 0 b.0 l b.1 says) b.2), (l, says, d.1)),
)

pub begin_halts : (core : Core) (file : List ℕ) (old new : Option (List ℕ)) (h : Halt) → SaysLine file 0 (Header 1 core.name core.agents) → LineHalts old new (line_text (Header 2 core.name core.agents)) h → BeginHalts core file old new h
begin_halts core file old new (halt.Stopped s) says x = (inl (subst IsMoot (sym x.0) tt), x.1)
begin_halts core file old new halt.WriteFault says x = (says, x)

-- ---- the line of a goal
pub none_refutes : (file : List ℕ) (i : ℕ) (g : Goal) (s : Stop) → IsMoot s ⊎ ((l : Line) → SaysLine file i l → ⊥) → IsMoot s ⊎ RefutesNot file i g
none_refutes file i g s (inl moot) = inl moot
none_refutes file i g s (inr none) = inr (λ m says refuted. none (Refutation g.number m) says)

pub other_not : (file : List ℕ) (i line : ℕ) (g : Goal) (l : Line) (s : Stop) → SaysLine file i l → IsOther l 1 g.number line s → RefutesNot file i g
other_not file i line g l s says o m h refuted = (subst (λ (k : Line). IsOther k 1 g.number line s) (one_says file i l (Refutation g.number m) says h) o).0 refl

pub verdict_not : (file : List ℕ) (i : ℕ) (g : Goal) (m : List ℤ) (v : Verdict) (s : Stop) → SaysLine file i (Refutation g.number m) → IsVerdict g.rows m v → stop_for g.number v ≡ Some s → RefutesNot file i g
verdict_not file i g m v s says h e k other refuted =
    let same : Refutation g.number k ≡ Refutation g.number m = one_says file i (Refutation g.number k) (Refutation g.number m) other says in
    let are : k ≡ m = cc in
    let good : v ≡ Yes = one_verdict g.rows m v Yes h (subst (λ (x : List ℤ). IsVerdict g.rows x Yes) are refuted) in
    let none = subst (λ (w : Verdict). stop_for g.number w ≡ Some s) good e in
    absurd cc

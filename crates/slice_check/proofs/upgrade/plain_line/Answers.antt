use Rattle.std.proofs.Common.{◌≡◌, ◌∙◌, inr, refl, subst, ℕ, ℤ, List, Some}
use Rattle.slice_cert.specs.declared.line.Line.{Line}
use Rattle.slice_cert.specs.declared.line.Line.TheVariants.{Refutation}
use Rattle.slice_linear.specs.Rows.{LinearRow}
use Rattle.slice_check.specs.Certificate.{SaysLine}
use Rattle.slice_check.specs.Steps.{IsOther, stop_for}
use Rattle.slice_check.specs.Verdicts.{IsVerdict}
use Rattle.slice_check.proofs.Stopping.{read_at_goal, other_stops, verdict_stops}
use Rattle.slice_check.proofs.Upgraded.{none_refutes, other_not, verdict_not}
use Rattle.slice_check.proofs.upgrade.plain_line.Goals as goal

pub returns-in-Err-clause-stop : goal.returns-in-Err-clause-stop
returns-in-Err-clause-stop g c core file told s a =
    let h = c.in-Err.ensures {u = tt} in
    let g0 = c.args.goal.now in
    (h.stop core file told s (read_at_goal core file 1 g0.number c.args.lines.now.given g0 a), none_refutes file c.args.lines.now.given g0 c.in-Err.stop (h.none file told s))

pub returns-in-Err-multipliers_of-clause-stop : goal.returns-in-Err-multipliers_of-clause-stop
returns-in-Err-multipliers_of-clause-stop g c core file told s a =
    let h = c.in-Ok.ensures {u = tt} in
    let l = h.line file told s in
    let g0 = c.args.goal.now in
    let o = subst (λ (n : ℕ). IsOther c.in-Ok.line 1 n c.given.result c.in-Err-multipliers_of.stop) c.number.ensures ((c.in-Err-multipliers_of.ensures {u = tt}).stop) in (
      other_stops core file 1 g0.number c.args.lines.now.given c.given.result g0 c.in-Ok.line c.in-Err-multipliers_of.stop a l.0 (c.given.ensures ∙ h.given) o,
      inr (other_not file c.args.lines.now.given c.given.result g0 c.in-Ok.line c.in-Err-multipliers_of.stop l.0 o),
    )

pub returns-in-Err-judge-clause-stop : goal.returns-in-Err-judge-clause-stop
returns-in-Err-judge-clause-stop g c core file told s a =
    let l = (c.in-Ok.ensures {u = tt}).line file told s in
    let g0 = c.args.goal.now in
    let m = c.in-Ok-multipliers_of.multipliers in
    let j = (c.in-Err-judge.ensures {u = tt}).stop in
    let line = subst (λ (n : ℕ). c.in-Ok.line ≡ Refutation n m) c.number.ensures ((c.in-Ok-multipliers_of.ensures {u = tt}).ok) in
    let says = subst (λ (x : Line). SaysLine file c.args.lines.now.given x) line l.0 in
    let h = subst (λ (rows : List LinearRow). IsVerdict rows m j.0) c.rows.ensures (subst (λ (k : List ℤ). IsVerdict c.rows.result.now k j.0) c.as_slice.ensures j.2) in
    let f = subst (λ (n : ℕ). stop_for n j.0 ≡ Some c.in-Err-judge.stop) c.number-2.ensures j.1 in (
      verdict_stops core file 1 g0.number c.args.lines.now.given g0 (Refutation g0.number m) j.0 c.in-Err-judge.stop a says (refl, h) f,
      inr (verdict_not file c.args.lines.now.given g0 m j.0 c.in-Err-judge.stop says h f),
    )

pub returns-in-Ok-judge-clause-line : goal.returns-in-Ok-judge-clause-line
returns-in-Ok-judge-clause-line g c file told s =
    let l = (c.in-Ok.ensures {u = tt}).line file told s in
    let line = subst (λ (n : ℕ). c.in-Ok.line ≡ Refutation n c.in-Ok-multipliers_of.multipliers) c.number.ensures ((c.in-Ok-multipliers_of.ensures {u = tt}).ok) in
    (subst (λ (x : Line). SaysLine file c.args.lines.now.given x) line l.0, l.1)

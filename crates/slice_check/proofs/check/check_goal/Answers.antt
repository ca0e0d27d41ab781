use Rattle.std.proofs.Common.{◌≡◌, ◌∙◌, refl, subst, ℕ, ℤ, List, Some}
use Rattle.slice_core.specs.Cores.{core_of}
use Rattle.slice_cert.specs.declared.line.Line.{Line}
use Rattle.slice_cert.specs.declared.line.Line.TheVariants.{Refutation}
use Rattle.slice_linear.specs.Rows.{LinearRow}
use Rattle.slice_check.specs.declared.check.Taking.{Taking}
use Rattle.slice_check.specs.Steps.{IsCovered, IsCoverStop, IsTaking, stop_for}
use Rattle.slice_check.specs.Certificate.{SaysLine}
use Rattle.slice_check.specs.declared.verdict.Verdict.TheVariants.{Yes}
use Rattle.slice_check.specs.Verdicts.{IsVerdict}
use Rattle.slice_check.proofs.Passing.{passed_on, on_ok, if_err}
use Rattle.slice_check.proofs.Standing.{plain_next, cover_next}
use Rattle.slice_check.proofs.Stopping.{read_at_goal, other_stops, verdict_stops, cover_stops}
use Rattle.slice_check.proofs.check.check_goal.Goals as goal

pub returns-in_err-line-clause-stop : goal.returns-in_err-line-clause-stop
returns-in_err-line-clause-stop g c =
    passed_on c.from_residual.result _ c.in_err-line.field-0.0 c.from_residual.ensures.1 (λ file told s a.
    let core = core_of c.args.goals.now.core in
    (c.in_err-line.ensures {u = tt}).stop core file told s (read_at_goal core file c.args.version c.args.goal.now.number c.args.lines.now.given c.args.goal.now a))

pub returns-in_err-taking-clause-stop : goal.returns-in_err-taking-clause-stop
returns-in_err-taking-clause-stop g c =
    passed_on c.from_residual-in_err-taking.result _ c.in_err-taking.field-0.0 c.from_residual-in_err-taking.ensures.1 (λ file told s d.
    let a = c.in_ok-line.ensures {u = tt} in
    let l = a.line file told s in
    other_stops (core_of c.args.goals.now.core) file c.args.version c.args.goal.now.number c.args.lines.now.given _ c.args.goal.now c.in_ok-line.line _ d l.0 (c.given.ensures ∙ a.given)
    (rw c.number.ensures at ((c.in_err-taking.ensures {u = tt}).stop)))

pub returns-in-Goal-clause-stands : goal.returns-in-Goal-clause-stands
returns-in-Goal-clause-stands g c = on_ok c.judge.result _ _ (λ v file ahead told s r comes.
    let l = (c.in_ok-line.ensures {u = tt}).line file told s in
    let taken = subst (λ (n : ℕ). IsTaking c.in_ok-line.line c.args.version n c.in_ok-taking.taking) c.number.ensures ((c.in_ok-taking.ensures {u = tt}).ok) in
    let line = subst (λ (t : Taking). IsTaking c.in_ok-line.line c.args.version c.args.goal.now.number t) c.in-Goal.is taken in
    let says = subst (λ (x : Line). SaysLine file c.args.lines.now.given x) line l.0 in
    let yes = subst (λ (rows : List LinearRow). IsVerdict rows c.in-Goal.multipliers Yes) c.rows.ensures (subst (λ (m : List ℤ). IsVerdict c.rows.result.now m Yes) c.as_slice.ensures v) in
    (plain_next file c.args.version c.args.lines.now.given c.args.goal.now ahead c.in-Goal.multipliers c.args.goals.now r comes c.requires.last says yes, l.1)) c.judge.ensures.ok

pub returns-in-Goal-clause-stop : goal.returns-in-Goal-clause-stop
returns-in-Goal-clause-stop g c = if_err c.judge.result _ _ (λ e j file told s a.
    let l = (c.in_ok-line.ensures {u = tt}).line file told s in
    let taken = subst (λ (n : ℕ). IsTaking c.in_ok-line.line c.args.version n c.in_ok-taking.taking) c.number.ensures ((c.in_ok-taking.ensures {u = tt}).ok) in
    let line = subst (λ (t : Taking). IsTaking c.in_ok-line.line c.args.version c.args.goal.now.number t) c.in-Goal.is taken in
    let says = subst (λ (x : Line). SaysLine file c.args.lines.now.given x) line l.0 in
    let h = subst (λ (rows : List LinearRow). IsVerdict rows c.in-Goal.multipliers j.0) c.rows.ensures (subst (λ (m : List ℤ). IsVerdict c.rows.result.now m j.0) c.as_slice.ensures j.2) in
    let f = subst (λ (n : ℕ). stop_for n j.0 ≡ Some e) c.number-in-Goal.ensures j.1 in
    verdict_stops (core_of c.args.goals.now.core) file c.args.version c.args.goal.now.number c.args.lines.now.given c.args.goal.now (Refutation c.args.goal.now.number c.in-Goal.multipliers) j.0 e a says (refl, h) f) c.judge.ensures.stop

pub returns-in-Front-clause-stands : goal.returns-in-Front-clause-stands
returns-in-Front-clause-stands g c = on_ok c.check_cover.result _ _ (λ k file ahead told s r comes.
    let l = (c.in_ok-line.ensures {u = tt}).line file told s in
    let taken = subst (λ (n : ℕ). IsTaking c.in_ok-line.line c.args.version n c.in_ok-taking.taking) c.number.ensures ((c.in_ok-taking.ensures {u = tt}).ok) in
    let front = subst (λ (t : Taking). IsTaking c.in_ok-line.line c.args.version c.args.goal.now.number t) c.in-Front.is taken in
    let says = subst (λ (x : Line). SaysLine file c.args.lines.now.given x) front.1 l.0 in
    let covered = subst (λ (m : List ℤ). IsCovered c.args.goals.now c.args.goal.now c.in-Front.passed m c.check_cover.new.goals) c.as_slice-in-Front.ensures k.0 in
    (cover_next file c.args.version c.args.lines.now.given c.in-Front.passed c.args.goal.now ahead c.in-Front.multipliers c.args.goals.now c.check_cover.new.goals r comes c.requires.last says front.0 covered k.1.few, l.1)) c.check_cover.ensures.ok

pub returns-in-Front-clause-stop : goal.returns-in-Front-clause-stop
returns-in-Front-clause-stop g c = if_err c.check_cover.result _ _ (λ e j file told s a.
    let core = core_of c.args.goals.now.core in
    let l = (c.in_ok-line.ensures {u = tt}).line file told s in
    let taken = subst (λ (n : ℕ). IsTaking c.in_ok-line.line c.args.version n c.in_ok-taking.taking) c.number.ensures ((c.in_ok-taking.ensures {u = tt}).ok) in
    let front = subst (λ (t : Taking). IsTaking c.in_ok-line.line c.args.version c.args.goal.now.number t) c.in-Front.is taken in
    let says = subst (λ (x : Line). SaysLine file c.args.lines.now.given x) front.1 l.0 in
    let h = subst (λ (m : List ℤ). IsCoverStop core c.args.goal.now c.in-Front.passed m e) c.as_slice-in-Front.ensures j in
    cover_stops core file c.args.version c.args.lines.now.given c.in-Front.passed c.args.goal.now c.in-Front.multipliers e a says front.0 h) c.check_cover.ensures.stop

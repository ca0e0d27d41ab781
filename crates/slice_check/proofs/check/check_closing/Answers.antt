use Rattle.std.proofs.Common.{◌≡◌, ◌∙◌, ◌+◌, refl, subst, inr, ℕ, []}
use Rattle.slice_io.specs.Lines.{rest_from}
use Rattle.slice_cert.specs.declared.line.Line.{Line}
use Rattle.slice_check.specs.Certificate.{SaysLine}
use Rattle.slice_check.proofs.Passing.{passed_on, on_ok, if_err, told_moved}
use Rattle.slice_check.proofs.Standing.{accepted}
use Rattle.slice_check.proofs.Stopping.{at_end, total_stops}
use Rattle.slice_check.proofs.check.check_closing.Goals as goal

pub returns-in_err-line-clause-stop : goal.returns-in_err-line-clause-stop
returns-in_err-line-clause-stop g c =
    passed_on c.from_residual.result _ c.in_err-line.field-0.0 c.from_residual.ensures.1 (λ core file told s d. (c.in_err-line.ensures {u = tt}).stop core file told s (inr (inr (c.args.count, d))))

pub returns-in_err-check_total-clause-stop : goal.returns-in_err-check_total-clause-stop
returns-in_err-check_total-clause-stop g c =
    passed_on c.from_residual-in_err-check_total.result _ c.in_err-check_total.field-0.0 c.from_residual-in_err-check_total.ensures.1 (λ core file told s d.
    let a = c.in_ok-line.ensures {u = tt} in
    total_stops core file c.args.count c.args.lines.now.given _ c.in_ok-line.line _ d (a.line file told s).0 (c.given.ensures ∙ a.given) ((c.in_err-check_total.ensures {u = tt}).stop))

pub returns-clause-accepts : goal.returns-clause-accepts
returns-clause-accepts g c = on_ok c.check_nothing.result _ _ (λ ends core file told s d.
    let a = c.in_ok-line.ensures {u = tt} in
    let l = a.line file told s in
    let says = subst (λ (x : Line). SaysLine file c.args.lines.now.given x) (c.in_ok-check_total.ensures {u = tt}).ok l.0 in
    let none = subst (λ (i : ℕ). rest_from i file ≡ []) a.given (ends file (told_moved _ _ _ _ _ a.same a.keeps.0 told) l.1) in (
      accepted core file d.version c.args.count c.args.lines.now.given d.ahead d.reached d.all says none,
      d.all,
      (c.args.lines.now.given + 1, record { at = c.args.lines.now.given; next = refl; ends = at_end core file c.args.count c.args.lines.now.given d; closes = says }, none),
    )) c.check_nothing.ensures.ends

pub returns-clause-stop : goal.returns-clause-stop
returns-clause-stop g c = if_err c.check_nothing.result _ _ (λ e stop core file told s d.
    let a = c.in_ok-line.ensures {u = tt} in
    let l = a.line file told s in
    let says = subst (λ (x : Line). SaysLine file c.args.lines.now.given x) (c.in_ok-check_total.ensures {u = tt}).ok l.0 in
    stop core c.args.count file (told_moved _ _ _ _ _ a.same a.keeps.0 told) l.1 (record { at = c.args.lines.now.given; next = a.given; ends = d; closes = says })) c.check_nothing.ensures.stop

use Rattle.std.proofs.Common.{◌≡◌}
use Rattle.slice_linear.specs.Terms.{IsFormMultiple, ProductsFit}
use Rattle.slice_linear.specs.declared.forms.FormFault.TheVariants.{Overflow}
use Rattle.slice_atoms.proofs.Items.{all_ok}
use Rattle.slice_paths.specs.Sums.{TermMeans, TermBreaks}
use Rattle.slice_paths.proofs.SumLaws.{plain_means, scaled_means, scaled_breaks, all_err, both_ok}
use Rattle.slice_paths.proofs.sums.term_form.Goals as goal

pub returns-in-None-clause-ok : goal.returns-in-None-clause-ok
returns-in-None-clause-ok c = plain_means c.args.regs.now c.args.term.now c.in-Ok.form c.in-None.is c.in-Ok.ensures

pub returns-in-Some-clause-ok : goal.returns-in-Some-clause-ok
returns-in-Some-clause-ok c =
    let k = c.in-Some.factor in
    let x = c.in-Ok.form in
    all_ok c.scale.result (λ f. IsFormMultiple k x f × ProductsFit k x) (λ f. TermMeans c.args.regs.now c.args.term.now f)
    (λ f h. scaled_means c.args.regs.now c.args.term.now k x f c.in-Some.is c.in-Ok.ensures h.0 h.1) (both_ok c.scale.result _ _ c.scale.ensures.multiple c.scale.ensures.fits)

pub returns-in-Some-clause-err : goal.returns-in-Some-clause-err
returns-in-Some-clause-err c =
    let k = c.in-Some.factor in
    let x = c.in-Ok.form in
    all_err c.scale.result (λ e. e ≡ Overflow → ProductsFit k x → ⊥) (λ e. e ≡ Overflow → TermBreaks c.args.regs.now c.args.term.now)
    (λ e h o. scaled_breaks c.args.regs.now c.args.term.now k x c.in-Some.is c.in-Ok.ensures (h o)) c.scale.ensures.overflow

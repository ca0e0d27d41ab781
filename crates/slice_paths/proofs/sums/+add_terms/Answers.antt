use Rattle.std.proofs.Common.{◌≡◌, ◌-◌, List, length, take, drop, sym, subst, arith}
use Rattle.slice_core.specs.declared.node.LinTerm.{LinTerm}
use Rattle.slice_linear.specs.declared.forms.FormFault.TheVariants.{Overflow}
use Rattle.slice_atoms.proofs.Items.{all_ok}
use Rattle.slice_paths.specs.Sums.{RestMeans, RestBreaks}
use Rattle.slice_paths.proofs.SumLaws.{by_first, rest_next, rest_breaks_add, rest_breaks_rest, all_err}
use Rattle.slice_paths.proofs.sums.+add_terms.Goals as goal

pub returns-in-Err-add_term-clause-err : goal.returns-in-Err-add_term-clause-err
returns-in-Err-add_term-clause-err t c = λ o.
    let rs = c.args.regs.now in
    let ts = c.args.terms.now in
    let x = c.term-item.result in
    let e = by_first ts x (omega arith) c.term-item.is in
    subst (RestBreaks rs c.args.total) (sym e) (rest_breaks_add rs c.args.total c.in-Ok.form x (take (length ts - 1) (drop 1 ts)) c.in-Ok.ensures.ok (c.in-Err-add_term.ensures.overflow o))

pub returns-clause-ok : goal.returns-clause-ok
returns-clause-ok t c =
    let rs = c.args.regs.now in
    let ts = c.args.terms.now in
    let x = c.term-item.result in
    let e = by_first ts x (omega arith) c.term-item.is in
    let a = c.in-Ok-add_term.ensures in
    all_ok c.add_terms.result _ (λ f. RestMeans rs c.args.total ts f)
    (λ f r. subst (λ (l : List LinTerm). RestMeans rs c.args.total l f) (sym e) (rest_next rs c.args.total c.in-Ok.form c.in-Ok-add_term.total x (take (length ts - 1) (drop 1 ts)) f c.in-Ok.ensures.ok a.added a.fits r))
    c.add_terms.ensures.ok

pub returns-clause-err : goal.returns-clause-err
returns-clause-err t c =
    let rs = c.args.regs.now in
    let ts = c.args.terms.now in
    let x = c.term-item.result in
    let e = by_first ts x (omega arith) c.term-item.is in
    let a = c.in-Ok-add_term.ensures in
    all_err c.add_terms.result _ (λ f. f ≡ Overflow → RestBreaks rs c.args.total ts)
    (λ f r o. subst (RestBreaks rs c.args.total) (sym e) (rest_breaks_rest rs c.args.total c.in-Ok.form c.in-Ok-add_term.total x (take (length ts - 1) (drop 1 ts)) c.in-Ok.ensures.ok a.added a.fits (r o)))
    c.add_terms.ensures.err

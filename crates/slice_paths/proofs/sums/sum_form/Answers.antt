use Rattle.std.proofs.Common.{◌∙◌, ◌-◌, List, length, take, drop, sym, subst, arith}
use Rattle.slice_core.specs.declared.node.LinTerm.{LinTerm}
use Rattle.slice_atoms.proofs.Items.{all_ok}
use Rattle.slice_paths.specs.Sums.{SumMeans}
use Rattle.slice_paths.proofs.SumLaws.{by_first, no_terms, sum_none, sum_first}
use Rattle.slice_paths.proofs.sums.sum_form.Goals as goal

pub returns-in-Ok-clause-ok : goal.returns-in-Ok-clause-ok
returns-in-Ok-clause-ok c =
    let e = sym c.as_slice.ensures ∙ no_terms c.as_slice.result.now (omega arith) in
    subst (λ (l : List LinTerm). SumMeans c.args.regs.now l c.in-Ok.none) (sym e) (sum_none c.args.regs.now c.in-Ok.none c.in-Ok.ensures)

pub returns-in-Ok-term_form-clause-ok : goal.returns-in-Ok-term_form-clause-ok
returns-in-Ok-term_form-clause-ok c =
    let rs = c.args.regs.now in
    let ts = c.as_slice.result.now in
    let x = c.first-item.result in
    let e = sym c.as_slice.ensures ∙ by_first ts x (omega arith) c.first-item.is in
    all_ok c.add_terms.result _ (λ f. SumMeans rs c.args.sum.now.terms f)
    (λ f r. subst (λ (l : List LinTerm). SumMeans rs l f) (sym e) (sum_first rs c.in-Ok-term_form.total x (take (length ts - 1) (drop 1 ts)) f c.in-Ok-term_form.ensures.ok r))
    c.add_terms.ensures.ok

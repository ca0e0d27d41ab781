use Rattle.std.proofs.Common.{◌∙◌, List, ap, subst}
use Rattle.slice_linear.specs.declared.forms.Term.{Term}
use Rattle.slice_paths.specs.Spots.{Known}
use Rattle.slice_paths.specs.Sums.{SumMeans}
use Rattle.slice_paths.proofs.retrace.sides.Goals as goal

pub returns-in-Ok-sum_form-clause-left : goal.returns-in-Ok-sum_form-clause-left
returns-in-Ok-sum_form-clause-left c =
    subst (λ (rs : List (List Term)). SumMeans rs c.args.left.now.terms c.in-Ok.left) (c.as_slice.ensures.value ∙ ap (λ (k : Known). k.regs) c.spot.view_is) c.in-Ok.ensures.ok

pub returns-in-Ok-sum_form-clause-right : goal.returns-in-Ok-sum_form-clause-right
returns-in-Ok-sum_form-clause-right c =
    subst (λ (rs : List (List Term)). SumMeans rs c.args.right.now.terms c.in-Ok-sum_form.right) (c.as_slice-2.ensures.value ∙ ap (λ (k : Known). k.regs) c.spot.view_is) c.in-Ok-sum_form.ensures.ok

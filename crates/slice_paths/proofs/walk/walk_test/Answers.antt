use Rattle.std.proofs.Common.{◌∙◌, List, sym, ap, subst}
use Rattle.slice_core.specs.Nodes.{tree_of}
use Rattle.slice_linear.specs.declared.forms.Term.{Term}
use Rattle.slice_atoms.proofs.Items.{all_ok}
use Rattle.slice_paths.specs.Ahead.{BreaksFirst}
use Rattle.slice_paths.specs.Spots.{Known}
use Rattle.slice_paths.specs.Sums.{SumMeans, SumBreaks}
use Rattle.slice_paths.proofs.SumLaws.{all_err}
use Rattle.slice_paths.proofs.WalkSteps.{sided, left_breaks, right_breaks}
use Rattle.slice_paths.proofs.walk.walk_test.Goals as goal

pub take_yes-requires : goal.take_yes-requires
take_yes-requires c =
    let a = c.args in
    let regs = ap (λ (k : Known). k.regs) c.spot.view_is in
    let x = subst (λ (rs : List (List Term)). SumMeans rs a.left.now.terms c.in-Ok.left) (c.as_slice.ensures.value ∙ regs) c.in-Ok.ensures.ok in
    let y = subst (λ (rs : List (List Term)). SumMeans rs a.right.now.terms c.in-Ok-sum_form.right) (c.as_slice-2.ensures.value ∙ regs) c.in-Ok-sum_form.ensures.ok in
    (sided a.left.now a.right.now a.strict (tree_of a.yes.now) (tree_of a.no.now) a.spot c.in-Ok.left c.in-Ok-sum_form.right c.requires x y).ready

pub returns-in-Err-clause-err : goal.returns-in-Err-clause-err
returns-in-Err-clause-err c =
    let a = c.args in
    let e = c.as_slice.ensures.value ∙ ap (λ (k : Known). k.regs) c.spot.view_is in
    left_breaks a.left.now a.right.now a.strict (tree_of a.yes.now) (tree_of a.no.now) a.spot c.in-Err.fault c.requires
    (λ o. subst (λ (rs : List (List Term)). SumBreaks rs a.left.now.terms) e (c.in-Err.ensures.err o))

pub returns-in-Err-sum_form-clause-err : goal.returns-in-Err-sum_form-clause-err
returns-in-Err-sum_form-clause-err c =
    let a = c.args in
    let e = c.as_slice-2.ensures.value ∙ ap (λ (k : Known). k.regs) c.spot.view_is in
    right_breaks a.left.now a.right.now a.strict (tree_of a.yes.now) (tree_of a.no.now) a.spot c.in-Err-sum_form.fault c.requires
    (λ o. subst (λ (rs : List (List Term)). SumBreaks rs a.right.now.terms) e (c.in-Err-sum_form.ensures.err o))

pub returns-clause-ok : goal.returns-clause-ok
returns-clause-ok c =
    let a = c.args in
    let regs = ap (λ (k : Known). k.regs) c.spot.view_is in
    let x = subst (λ (rs : List (List Term)). SumMeans rs a.left.now.terms c.in-Ok.left) (c.as_slice.ensures.value ∙ regs) c.in-Ok.ensures.ok in
    let y = subst (λ (rs : List (List Term)). SumMeans rs a.right.now.terms c.in-Ok-sum_form.right) (c.as_slice-2.ensures.value ∙ regs) c.in-Ok-sum_form.ensures.ok in
    let d = sided a.left.now a.right.now a.strict (tree_of a.yes.now) (tree_of a.no.now) a.spot c.in-Ok.left c.in-Ok-sum_form.right c.requires x y in
    all_ok c.take_yes.result _ _ (λ o f. record { comes = d.comes ∙ f.comes; ready = f.ready; fewer = f.fewer }) c.take_yes.ensures.ok

pub returns-clause-err : goal.returns-clause-err
returns-clause-err c =
    let a = c.args in
    let regs = ap (λ (k : Known). k.regs) c.spot.view_is in
    let x = subst (λ (rs : List (List Term)). SumMeans rs a.left.now.terms c.in-Ok.left) (c.as_slice.ensures.value ∙ regs) c.in-Ok.ensures.ok in
    let y = subst (λ (rs : List (List Term)). SumMeans rs a.right.now.terms c.in-Ok-sum_form.right) (c.as_slice-2.ensures.value ∙ regs) c.in-Ok-sum_form.ensures.ok in
    let d = sided a.left.now a.right.now a.strict (tree_of a.yes.now) (tree_of a.no.now) a.spot c.in-Ok.left c.in-Ok-sum_form.right c.requires x y in
    all_err c.take_yes.result _ _ (λ e f o. subst BreaksFirst (sym d.comes) (f o)) c.take_yes.ensures.err

use Rattle.std.proofs.Common.{◌∙◌, List, arith, ap, subst}
use Rattle.slice_core.specs.Nodes.{tree_of}
use Rattle.slice_linear.specs.declared.forms.Term.{Term}
use Rattle.slice_paths.specs.Spots.{Known}
use Rattle.slice_paths.specs.Sums.{SumMeans, SumBreaks}
use Rattle.slice_paths.proofs.PartSteps.{met, cut_breaks}
use Rattle.slice_paths.proofs.walk.walk_cut.Goals as goal

pub returns-in-Err-clause-err : goal.returns-in-Err-clause-err
returns-in-Err-clause-err c l r =
    let rd = c.requires.ready in
    let e = c.as_slice.ensures.value ∙ ap (λ (k : Known). k.regs) c.spot.view_is in
    cut_breaks c.args.agent c.args.piece c.args.amount.now l r rd.0 rd.1 (tree_of c.args.next.now) c.args.spot c.in-Err.fault rd.2
    (λ o. subst (λ (rs : List (List Term)). SumBreaks rs c.args.amount.now.terms) e (c.in-Err.ensures.err o))

pub returns-clause-ok : goal.returns-clause-ok
returns-clause-ok c l r =
    let rd = c.requires.ready in
    let e = c.as_slice.ensures.value ∙ ap (λ (k : Known). k.regs) c.spot.view_is in
    let o = met c.args.agent c.args.piece c.args.amount.now l r rd.0 rd.1 (tree_of c.args.next.now) c.args.spot c.in-Ok.amount rd.2
    (subst (λ (rs : List (List Term)). SumMeans rs c.args.amount.now.terms c.in-Ok.amount) e c.in-Ok.ensures.ok) in
    record { comes = o.comes; ready = o.ready; fewer = omega arith }

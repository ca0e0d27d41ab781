use Rattle.std.proofs.Common.{◌∙◌, List, sym, ap, subst}
use Rattle.slice_num.specs.declared.key.Key.{Key}
use Rattle.slice_linear.specs.Terms.{AreDifferent, IsKeySum, IsWholeForm}
use Rattle.slice_num.specs.Rational.{Rational}
use Rattle.slice_atoms.specs.Numbers.{unknowns}
use Rattle.slice_atoms.proofs.Items.{all_ok}
use Rattle.slice_paths.proofs.RowLaws.{order_differs, sum_means, whole_fits, only_memory}
use Rattle.slice_paths.proofs.SumLaws.{all_err}
use Rattle.slice_paths.proofs.rows.less_whole.Goals as goal

pub of_keys-requires : goal.of_keys-requires
of_keys-requires c =
    let e = c.as_slice.ensures.value ∙ c.in_ok-keys.ensures ∙ ap (unknowns c.args.agent) c.order.ensures.value in
    subst AreDifferent (sym e) (order_differs c.args.atoms.now c.args.agent c.requires.numbering)

pub returns-clause-ok : goal.returns-clause-ok
returns-clause-ok c =
    let e = c.as_slice.ensures.value ∙ c.in_ok-keys.ensures ∙ ap (unknowns c.args.agent) c.order.ensures.value in
    let s = subst (λ (ks : List Key). IsKeySum ks c.in_ok-all.all) e c.in_ok-all.ensures in
    let w = subst (λ (q : Rational). IsWholeForm q c.in_ok-whole.whole) c.whole.ensures c.in_ok-whole.ensures in
    all_ok c.sub.result _ _ (λ f d. sum_means c.args.atoms.now c.args.agent c.in_ok-all.all c.in_ok-whole.whole f c.requires.numbering c.requires.first s w d) c.sub.ensures.difference

pub returns-clause-err : goal.returns-clause-err
returns-clause-err c =
    let e = c.as_slice.ensures.value ∙ c.in_ok-keys.ensures ∙ ap (unknowns c.args.agent) c.order.ensures.value in
    let s = subst (λ (ks : List Key). IsKeySum ks c.in_ok-all.all) e c.in_ok-all.ensures in
    let w = subst (λ (q : Rational). IsWholeForm q c.in_ok-whole.whole) c.whole.ensures c.in_ok-whole.ensures in
    let fits = whole_fits c.args.atoms.now c.args.agent _ c.in_ok-all.all c.in_ok-whole.whole c.requires.first s w in
    all_err c.sub.result _ _ (λ x h. only_memory x (λ o. h o fits)) c.sub.ensures.overflow

use Rattle.std.proofs.Common.{◌≡◌, ◌∙◌, length, get_or, sym, subst}
use Rattle.slice_core.specs.declared.node.Source.{Source}
use Rattle.slice_linear.specs.Terms.{IsWholeForm}
use Rattle.slice_atoms.proofs.Items.{all_ok}
use Rattle.slice_core.specs.WellFormed.{IsBound}
use Rattle.slice_paths.specs.Sums.{SourceMeans}
use Rattle.slice_paths.proofs.SumLaws.{const_means, reg_means}
use Rattle.slice_paths.proofs.sums.source_form.Goals as goal

pub returns-in-Const : goal.returns-in-Const
returns-in-Const c =
    all_ok c.whole.result (λ f. IsWholeForm c.in-Const.value f) (λ f. SourceMeans c.args.regs.now c.args.source.now f)
    (λ f w. subst (λ (s : Source). SourceMeans c.args.regs.now s f) (sym c.in-Const.is) (const_means c.args.regs.now c.in-Const.value f w)) c.whole.ensures

pub returns-in-Reg : goal.returns-in-Reg
returns-in-Reg c =
    let rs = c.args.regs.now in
    let n = c.in-Reg.number in
    let x = c.index-regs-number.result in
    let h = subst (IsBound (length rs)) c.in-Reg.is c.requires.bound in
    let m = subst (λ (s : Source). SourceMeans rs s (get_or rs n x)) (sym c.in-Reg.is) (reg_means rs n x h) in
    all_ok c.copy.result (λ f. f ≡ x) (λ f. SourceMeans rs c.args.source.now f) (λ f e. subst (SourceMeans rs c.args.source.now) (sym (e ∙ c.index-regs-number.is)) m) c.copy.ensures

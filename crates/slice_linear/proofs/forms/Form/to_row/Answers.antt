use Rattle.std.proofs.Common.{◌∙◌, ap, sym, subst, List, ℤ}
use Rattle.slice_linear.specs.Proportion.{AreLowest}
use Rattle.slice_linear.specs.declared.forms.Term.{Term}
use Rattle.slice_linear.specs.LowestRow.{lowest}
use Rattle.slice_linear.specs.Terms.{coefs_of}
use Rattle.slice_linear.proofs.LowestLaws.{rows_are_lowest}
use Rattle.slice_linear.proofs.forms.Form.to_row.Goals as goal

pub returns-clause-lowest : goal.returns-clause-lowest
returns-clause-lowest c =
    let coefs = coefs_of c.args.self.now c.args.order.now in
    subst (λ (zs : List ℤ). AreLowest zs coefs) (sym (c.in_ok-coefs.ensures.coefs ∙ ap (λ (ts : List Term). lowest (coefs_of ts c.args.order.now)) c.terms.ensures.value)) (rows_are_lowest coefs)

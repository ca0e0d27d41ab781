use Rattle.std.proofs.Common.{◌∙◌, List, sym, ap, subst}
use Rattle.slice_linear.specs.declared.forms.Term.{Term}
use Rattle.slice_paths.specs.Spots.{Known}
use Rattle.slice_paths.specs.Sums.{SumMeans, SumBreaks}
use Rattle.slice_paths.specs.Steps.{IsSet}
use Rattle.slice_paths.proofs.SpotLaws.{set_to, set_breaks}
use Rattle.slice_paths.proofs.spot.Spot.set.Goals as goal

pub returns-in-Err-clause-err : goal.returns-in-Err-clause-err
returns-in-Err-clause-err c =
    λ o. (let e = c.as_slice.ensures.value ∙ ap (λ (k : Known). k.regs) c.self.view_is in
    set_breaks c.args.self.now c.args.sum.now.terms (subst (λ (rs : List (List Term)). SumBreaks rs c.args.sum.now.terms) e (c.in-Err.ensures.err o)))

pub returns-in-Ok-put_register-clause-ok : goal.returns-in-Ok-put_register-clause-ok
returns-in-Ok-put_register-clause-ok c =
    let ts = c.args.sum.now.terms in
    let e = c.as_slice.ensures.value ∙ ap (λ (k : Known). k.regs) c.self.view_is in
    subst (IsSet ts c.args.self.now) (sym c.in-Ok-put_register.ensures) (set_to c.args.self.now ts c.in-Ok.form (subst (λ (rs : List (List Term)). SumMeans rs ts c.in-Ok.form) e c.in-Ok.ensures.ok))

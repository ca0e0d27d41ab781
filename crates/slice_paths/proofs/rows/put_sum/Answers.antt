use Rattle.std.proofs.Common.{◌≡◌, ◌∙◌, [], ◌∷◌, ◌++◌, List, sym, ap, subst}
use Rattle.slice_num.specs.declared.key.Key.{Key}
use Rattle.slice_linear.specs.declared.row.RowKind.TheVariants.{Zero}
use Rattle.slice_linear.specs.Rows.{LinearRow}
use Rattle.slice_paths.specs.Places.{whole_condition}
use Rattle.slice_paths.specs.RowsMade.{row_at, row_fits_at}
use Rattle.slice_paths.proofs.SpotLaws.{on_ok}
use Rattle.slice_paths.proofs.SumLaws.{all_err}
use Rattle.slice_paths.proofs.RowLaws.{row_as, fits_as}
use Rattle.slice_paths.proofs.rows.put_sum.Goals as goal

pub returns-in-Ok-clause-ok : goal.returns-in-Ok-clause-ok
returns-in-Ok-clause-ok c =
    let v = c.args.atoms.now in
    let f = c.in-Ok.form in
    let e = ap (λ (ks : List Key). row_at ks Zero f) c.requires.order ∙ row_as v v.agents Zero f (whole_condition c.args.agent).form c.requires.numbering c.in-Ok.ensures.ok in
    on_ok c.put_row.result _ _ (λ h. subst (λ (l : LinearRow). c.put_row.new.rows.items ≡ c.args.rows.now.items ++ l ∷ []) e h) c.put_row.ensures.ok

pub returns-in-Ok-clause-fit : goal.returns-in-Ok-clause-fit
returns-in-Ok-clause-fit c =
    let v = c.args.atoms.now in
    let f = c.in-Ok.form in
    let e = ap (λ (ks : List Key). row_fits_at ks f) c.requires.order ∙ fits_as v v.agents f (whole_condition c.args.agent).form c.requires.numbering c.in-Ok.ensures.ok in
    on_ok c.put_row.result _ _ (λ h. sym e ∙ h) c.put_row.ensures.fit

pub returns-in-Ok-clause-err : goal.returns-in-Ok-clause-err
returns-in-Ok-clause-err c =
    let v = c.args.atoms.now in
    let f = c.in-Ok.form in
    let e = ap (λ (ks : List Key). row_fits_at ks f) c.requires.order ∙ fits_as v v.agents f (whole_condition c.args.agent).form c.requires.numbering c.in-Ok.ensures.ok in
    all_err c.put_row.result _ _ (λ x h o. sym e ∙ h o) c.put_row.ensures.err

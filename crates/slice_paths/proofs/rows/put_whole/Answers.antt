use Rattle.std.proofs.Common.{◌≡◌, ◌∙◌, [], ◌∷◌, ◌++◌, List, pos, sym, ap, subst}
use Rattle.slice_num.specs.declared.key.Key.{Key}
use Rattle.slice_linear.specs.declared.row.RowKind.TheVariants.{Above}
use Rattle.slice_num.specs.Rational.{Rational, whole}
use Rattle.slice_linear.specs.Terms.{IsWholeForm}
use Rattle.slice_atoms.specs.Forms.{fixed_form}
use Rattle.slice_paths.proofs.RowLaws.{whole_means, only, row_as, fits_as}
use Rattle.slice_linear.specs.Rows.{LinearRow}
use Rattle.slice_paths.specs.RowsMade.{row_at, row_fits_at}
use Rattle.slice_paths.proofs.SpotLaws.{on_ok}
use Rattle.slice_paths.proofs.SumLaws.{all_err}
use Rattle.slice_paths.proofs.rows.put_whole.Goals as goal

pub returns-in-Ok-clause-ok : goal.returns-in-Ok-clause-ok
returns-in-Ok-clause-ok c =
    let v = c.args.atoms.now in
    let f = c.in-Ok.whole in
    let w = whole_means v f c.requires.numbering (subst (λ (q : Rational). IsWholeForm q f) c.whole.ensures c.in-Ok.ensures) in
    let e = ap (λ (ks : List Key). row_at ks Above f) c.requires.order ∙ row_as v v.agents Above f (fixed_form (whole (pos 1))) c.requires.numbering w in
    on_ok c.put_row.result _ _ (λ h. subst (λ (l : LinearRow). c.put_row.new.rows.items ≡ c.args.rows.now.items ++ l ∷ []) e h) c.put_row.ensures.ok

pub returns-in-Ok-clause-fit : goal.returns-in-Ok-clause-fit
returns-in-Ok-clause-fit c =
    let v = c.args.atoms.now in
    let f = c.in-Ok.whole in
    let w = whole_means v f c.requires.numbering (subst (λ (q : Rational). IsWholeForm q f) c.whole.ensures c.in-Ok.ensures) in
    let e = ap (λ (ks : List Key). row_fits_at ks f) c.requires.order ∙ fits_as v v.agents f (fixed_form (whole (pos 1))) c.requires.numbering w in
    on_ok c.put_row.result _ _ (λ h. only (sym e ∙ h)) c.put_row.ensures.fit

pub returns-in-Ok-clause-err : goal.returns-in-Ok-clause-err
returns-in-Ok-clause-err c =
    let v = c.args.atoms.now in
    let f = c.in-Ok.whole in
    let w = whole_means v f c.requires.numbering (subst (λ (q : Rational). IsWholeForm q f) c.whole.ensures c.in-Ok.ensures) in
    let e = ap (λ (ks : List Key). row_fits_at ks f) c.requires.order ∙ fits_as v v.agents f (fixed_form (whole (pos 1))) c.requires.numbering w in
    all_err c.put_row.result _ _ (λ x h o. only (sym e ∙ h o)) c.put_row.ensures.err

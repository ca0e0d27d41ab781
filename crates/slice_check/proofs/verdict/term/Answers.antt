use Rattle.std.proofs.Common.{SFits, ◌≡◌, ◌∙◌, ◌*ℤ◌, ℤ, List, length, arith, rules, ap, sym, subst}
use Rattle.std.specs.Int.{w128}
use Rattle.std.proofs.lemmas.Int.{to_z-of_z}
use Rattle.slice_num.specs.Rational.{Fits}
use Rattle.slice_num.proofs.Wrapped.{W, okiff_same}
use Rattle.slice_linear.specs.Sums.{at}
use Rattle.slice_linear.specs.Rows.{LinearRow, coefs_at}
use Rattle.slice_check.proofs.RowsAt.{coefs_is}
use Rattle.slice_check.proofs.verdict.term.Goals as goal

pub coef-requires : goal.coef-requires
coef-requires c =
    let e : coefs_at c.args.rows.now c.args.i ≡ c.index-rows-i.result.coefs = coefs_is c.args.rows.now c.args.i c.index-rows-i.result c.requires.row ∙ ap (λ (x : LinearRow). x.coefs) (sym c.index-rows-i.is) in
    omega (arith, c.requires.rows c.args.i c.requires.row, ap length e, c.requires.within)

pub returns : goal.returns
returns c =
    let e : coefs_at c.args.rows.now c.args.i ≡ c.index-rows-i.result.coefs = coefs_is c.args.rows.now c.args.i c.index-rows-i.result c.requires.row ∙ ap (λ (x : LinearRow). x.coefs) (sym c.index-rows-i.is) in
    let m : ℤ = at c.args.multipliers.now c.args.i in
    let f : SFits w128 m = search rules in
    let k : SFits w128 c.coef.result = search rules in
    let q : W c.coef.result ≡ at (coefs_at c.args.rows.now c.args.i) c.args.unknown = to_z-of_z w128 c.coef.result k ∙ c.coef.ensures ∙ ap (λ (xs : List ℤ). at xs c.args.unknown) (sym e) in
    let both : W m *ℤ W c.coef.result ≡ m *ℤ at (coefs_at c.args.rows.now c.args.i) c.args.unknown = λ t. to_z-of_z w128 m f t *ℤ q t in
    okiff_same c.product.result (λ h. subst Fits both h) (λ h. subst Fits (sym both) h) both c.product.ensures

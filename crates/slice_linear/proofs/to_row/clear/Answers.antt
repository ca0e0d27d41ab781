use Rattle.std.proofs.Common.{◌≡◌, arith, true, false, to_z-of_z}
use Rattle.std.specs.Prelude.{unsigned_abs}
use Rattle.std.proofs.lemmas.Grind.{common_steps}
use Rattle.slice_num.specs.Fitting.{fits}
use Rattle.slice_linear.specs.LowestRow.{cleared_at, all_fit}
use Rattle.slice_linear.proofs.Multiples.{all_fit_each, fits_is, fits_not}
use Rattle.slice_linear.proofs.to_row.clear.Goals as goal

pub returns-in_default-clause-overflow : goal.returns-in_default-clause-overflow
returns-in_default-clause-overflow c = λ o.
    let d = unsigned_abs c.args.common in
    let h = simp (to_z-of_z c.ranges.common) at c.in_default.ensures in
    let n : fits (cleared_at d c.coef-item.result) ≡ false = fits_not (cleared_at d c.coef-item.result) h in
    grind (arith, common_steps)

pub loop-coef-preserved : goal.loop-coef-preserved
loop-coef-preserved c =
    let d = unsigned_abs c.args.common in
    let h = simp (to_z-of_z c.ranges.common) at c.in-Ok.ensures in
    let n : fits (cleared_at d c.coef-item.result) ≡ true = fits_is (cleared_at d c.coef-item.result) h.0 in
    grind (arith, common_steps)

pub returns-clause-each_fits : goal.returns-clause-each_fits
returns-clause-each_fits c =
    let d = unsigned_abs c.args.common in
    let e : all_fit c.loop-coef.whole.items ≡ true = grind (arith, common_steps) in
    all_fit_each c.loop-coef.whole.items e

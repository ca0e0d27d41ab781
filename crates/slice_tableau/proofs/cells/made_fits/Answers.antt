use Rattle.std.proofs.Common.{◌-ℤ◌, IsTrue, rules, to_z-of_z, SFits, sym, subst}
use Rattle.std.proofs.lemmas.Result.{OkIff-decides}
use mir.Syntax.{w128}
use Rattle.slice_num.specs.Rational.{Fits}
use Rattle.slice_tableau.proofs.cells.made_fits.Goals as goal

pub returns : goal.returns
returns c =
    let fl : SFits w128 c.in-Ok.left = search rules in
    let fr : SFits w128 c.in-Ok-product.right = search rules in
    let p = simp (to_z-of_z c.ranges.times, to_z-of_z c.ranges.x) at c.in-Ok.ensures in
    let q = simp (to_z-of_z c.ranges.less, to_z-of_z c.ranges.y) at c.in-Ok-product.ensures in
    let d = OkIff-decides c.difference.result (Fits (c.in-Ok.left -ℤ c.in-Ok-product.right)) (c.in-Ok.left -ℤ c.in-Ok-product.right) (simp (to_z-of_z fl, to_z-of_z fr) at c.difference.ensures) in (
      (λ t. record { left = p.0; right = q.0; difference = subst Fits (λ i. p.1 i -ℤ q.1 i) (d.0 (subst IsTrue c.is_ok.ensures.value t)) }),
      (λ f. subst IsTrue (sym c.is_ok.ensures.value) (d.1 (subst Fits (λ i. sym p.1 i -ℤ sym q.1 i) f.difference))),
    )

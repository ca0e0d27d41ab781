use Rattle.std.proofs.Common.{◌∙◌, ℤ, ap, rules, to_z-of_z, SFits}
use Rattle.std.specs.Prelude.{int_div}
use mir.Syntax.{w128}
use Rattle.slice_tableau.proofs.ClearLaws.{quotients}
use Rattle.slice_tableau.proofs.cells.factors.Goals as goal

pub returns : goal.returns
returns c =
    let g : SFits w128 c.gcd-common.result = search rules in
    let value = simp (to_z-of_z c.ranges.pivot, to_z-of_z c.ranges.here) at c.gcd-common.ensures.value in
    let greatest = simp (to_z-of_z c.ranges.pivot, to_z-of_z c.ranges.here) at c.gcd-common.ensures.greatest in
    let et = simp (to_z-of_z c.ranges.pivot, to_z-of_z g) at c.divide-times.ensures in
    let el = simp (to_z-of_z c.ranges.here, to_z-of_z g) at c.divide-less.ensures in
    let q = quotients c.args.pivot c.args.here c.gcd-common.result c.requires.above c.gcd-common.ensures.positive greatest.0 greatest.1 in
    let ft : SFits w128 c.divide-times.result = search rules in
    let fl : SFits w128 c.divide-less.result = search rules in
    let rt = to_z-of_z ft in
    let rl = to_z-of_z fl in
    record {
      times = rt ∙ et ∙ ap (λ (z : ℤ). int_div c.args.pivot z) value;
      less = rl ∙ el ∙ ap (λ (z : ℤ). int_div c.args.here z) value;
      above = rw (rt ∙ et) q.0;
      equal = rw (rt ∙ et, rl ∙ el) q.1;
    }

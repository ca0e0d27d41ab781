use Rattle.std.proofs.Common.{◌≡◌, ◌∙◌, ℤ, pos, ◌<ℤ◌, ap, sym, subst, rules, to_z-of_z, SFits, unsigned_abs}
use mir.Syntax.{w128}
use Rattle.slice_num.specs.Rational.{ratio}
use Rattle.slice_tableau.specs.Table.{cell_at, basic_at, right_column}
use Rattle.slice_simplex.specs.Ends.{basic_value}
use Rattle.slice_simplex.proofs.Numbers.{ratio_parts, den_above}
use Rattle.slice_simplex.proofs.solution.basic_value.Goals as goal

pub returns : goal.returns
returns c =
    let t = c.args.tableau.now in
    let k = c.args.row in
    let b : SFits w128 c.cell-right.result = search rules in
    let p : SFits w128 c.cell-basic.result = search rules in
    let g : SFits w128 c.gcd-common.result = search rules in
    let right : c.cell-right.result ≡ cell_at t k (right_column t) = c.cell-right.ensures.value ∙ ap (cell_at t k) c.right.ensures in
    let basic : c.cell-basic.result ≡ cell_at t k (basic_at t k) = c.cell-basic.ensures.value ∙ ap (cell_at t k) c.basic.ensures in
    let above : pos 0 <ℤ c.cell-basic.result = subst (λ (z : ℤ). pos 0 <ℤ z) (sym basic) (c.requires.basis.above k c.requires.row) in
    let value = simp (to_z-of_z b, to_z-of_z p) at c.gcd-common.ensures.value in
    let parts = ratio_parts c.cell-right.result c.cell-basic.result c.gcd-common.result above value in
    let q1 = simp (to_z-of_z b, to_z-of_z g) at c.divide.ensures in
    let q2 = simp (to_z-of_z p, to_z-of_z g) at c.divide-2.ensures in
    let f1 : SFits w128 c.divide.result = search rules in
    let f2 : SFits w128 c.divide-2.result = search rules in
    let den : c.divide-2.result ≡ pos (basic_value t k).den = q2 ∙ parts.1 ∙ (λ i. pos (ratio (right i) (unsigned_abs (basic i))).den) in
    record {
      num = to_z-of_z f1 ∙ q1 ∙ parts.0 ∙ (λ i. (ratio (right i) (unsigned_abs (basic i))).num);
      den = to_z-of_z f2 ∙ den;
      above = subst (λ (z : ℤ). pos 0 <ℤ z) (sym (to_z-of_z f2 ∙ den)) (den_above (basic_value t k));
    }

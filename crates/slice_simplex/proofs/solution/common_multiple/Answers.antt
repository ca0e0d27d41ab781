use Rattle.std.proofs.Common.{◌≡◌, ◌∙◌, ◌<◌, ◌≤◌, ◌+◌, sym, subst, ℤ, pos, ◌<ℤ◌, arith, rules, to_z-of_z, SFits}
use mir.Syntax.{w128}
use Rattle.slice_tableau.specs.Table.{basic_at}
use Rattle.slice_simplex.specs.Ends.{basic_value}
use Rattle.std.proofs.lemmas.Int.{ints}
use Rattle.slice_simplex.proofs.EndFacts.{multiple_above}
use Rattle.slice_simplex.proofs.Wholes.{multiple_taken, multiple_kept}
use Rattle.slice_simplex.proofs.solution.common_multiple.Goals as goal
use Rattle.slice_simplex.proofs.solution.common_multiple.Goals.{then-basic-unknowns+in-Ok, else-basic-unknowns}

pub loop-row-preserved : goal.loop-row-preserved
loop-row-preserved c =
    let t = c.args.tableau.now in
    let n = c.loop-row.row in
    elim c.if-basic-unknowns.branch [
      | then-basic-unknowns+in-Ok w ↦ (
          let fd : SFits w128 w.basic_value-den.result.1 = search rules in
          let fm : SFits w128 w.in-Ok.more = search rules in
          let lcm = simp (to_z-of_z fd) at w.in-Ok.ensures in
          let is = w.multiple-is ∙ to_z-of_z fm in
          let lt : basic_at t n < t.unknowns = omega (arith, w.if-basic-unknowns.true, c.basic.ensures, c.unknowns.ensures) in
          let den : w.basic_value-den.result.1 ≡ pos (basic_value t n).den = w.basic_value-den.ensures.den in
          let after = multiple_taken t n _ w.basic_value-den.result.1 w.in-Ok.more lt c.loop-row.invariant.value den c.loop-row.invariant.before lcm.1 lcm.0 in
          record { value = is ∙ after.value; above = subst (λ (z : ℤ). pos 0 <ℤ z) (sym (is ∙ after.value)) (let p = multiple_above t (n + 1) in omega (arith, ints, p)); before = after.before })
      | else-basic-unknowns w ↦ (
          let le : t.unknowns ≤ basic_at t n = omega (arith, w.if-basic-unknowns.false, c.basic.ensures, c.unknowns.ensures) in
          let after = multiple_kept t n _ le c.loop-row.invariant.value c.loop-row.invariant.before in
          record { value = w.multiple-is ∙ after.value; above = subst (λ (z : ℤ). pos 0 <ℤ z) (sym w.multiple-is) c.loop-row.invariant.above; before = after.before })
    ]

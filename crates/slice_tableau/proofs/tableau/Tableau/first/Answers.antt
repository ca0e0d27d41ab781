use Rattle.std.proofs.Common.{◌+◌, ◌<◌, ◌^◌, ◌≡◌, ◌∙◌, ap, sym, refl, subst, rules, length, pos}
use Rattle.std.proofs.lemmas.List.{length-replicate}
use Rattle.slice_linear.specs.Rows.{AreRowsOver, width}
use Rattle.slice_tableau.proofs.FirstLaws.{coefs_is}
use Rattle.slice_tableau.proofs.FirstTableau.{first_sizes, first_fits, first_is}
use Rattle.slice_tableau.proofs.tableau.Tableau.first.Goals as goal

pub invariant_of-result : goal.invariant_of-result
invariant_of-result c =
    let u : length c.coefs.result.now ≡ width c.args.rows.now = ap length (c.coefs.ensures ∙ sym (coefs_is c.args.rows.now 0 c.index-rows-0.result c.requires.some_row c.index-rows-0.is)) in
    let are : AreRowsOver (length c.coefs.result.now) c.args.rows.now = subst (λ n. AreRowsOver n c.args.rows.now) (sym u) c.requires in
    let small : length c.coefs.result.now + c.lines_of_rows.result + 3 < 2 ^ 64 = search rules in (
      refl,
      ap length c.in_ok-spare.ensures ∙ length-replicate (length c.coefs.result.now + c.lines_of_rows.result + 3) (pos 0),
      first_sizes c.args.rows.now (length c.coefs.result.now) c.lines_of_rows.result (c.in_ok-cells.cells.items) c.in_ok-basis.basis.items c.lines_of_rows.ensures.count c.in_ok-cells.ensures c.in_ok-basis.ensures.count,
      first_fits c.args.rows.now (length c.coefs.result.now) c.lines_of_rows.result (c.in_ok-cells.cells.items) c.in_ok-basis.basis.items c.lines_of_rows.ensures.count are c.in_ok-cells.ensures,
      (c.args.rows.now, (first_is c.args.rows.now (length c.coefs.result.now) c.lines_of_rows.result (c.in_ok-cells.cells.items) c.in_ok-basis.basis.items u c.lines_of_rows.ensures.count c.in_ok-cells.ensures c.in_ok-basis.ensures.count c.in_ok-basis.ensures.slacks).of_rows),
      small,
    )

pub returns : goal.returns
returns c =
    let u : length c.coefs.result.now ≡ width c.args.rows.now = ap length (c.coefs.ensures ∙ sym (coefs_is c.args.rows.now 0 c.index-rows-0.result c.requires.some_row c.index-rows-0.is)) in
    first_is c.args.rows.now (length c.coefs.result.now) c.lines_of_rows.result (c.in_ok-cells.cells.items) c.in_ok-basis.basis.items u c.lines_of_rows.ensures.count c.in_ok-cells.ensures c.in_ok-basis.ensures.count c.in_ok-basis.ensures.slacks

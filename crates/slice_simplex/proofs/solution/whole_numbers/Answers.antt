use Rattle.std.proofs.Common.{◌≡◌, ◌∙◌, ◌<◌, ◌≤◌, ap, sym, subst, List, length, set, ℤ, pos, arith, rules, to_z-of_z, SFits}
use mir.Syntax.{w128}
use Rattle.std.proofs.lemmas.List.{length-set}
use Rattle.std.proofs.lemmas.List.FromFn.{fill_by_all}
use Rattle.slice_num.specs.Rational.{Fits}
use Rattle.slice_linear.specs.Sums.{at, sum_to}
use Rattle.slice_tableau.specs.Table.{basic_at}
use Rattle.slice_simplex.specs.Ends.{whole_at, whole_of}
use Rattle.slice_simplex.proofs.Wholes.{numbers_set, numbers_keep, whole_other, part, fits_set, products_more}
use Rattle.slice_simplex.proofs.solution.whole_numbers.Goals as goal
use Rattle.slice_simplex.proofs.solution.whole_numbers.Goals.{then-col-unknowns+in-Ok, else-col-unknowns}

pub loop-row-preserved : goal.loop-row-preserved
loop-row-preserved c =
    let t = c.args.tableau.now in
    let row = c.loop-row.row in
    let old = c.loop-row.numbers.items in
    let inv = c.loop-row.invariant in
    elim c.if-col-unknowns.branch [
      | then-col-unknowns+in-Ok w ↦ (
          let number : w.in-Ok.number ≡ whole_at t row = w.in-Ok.ensures.1 in
          let number_fits : Fits w.in-Ok.number = subst Fits (sym number) w.in-Ok.ensures.0 in
          let fn : SFits w128 w.in-Ok.number = search rules in
          let items : c.if-col-unknowns.numbers.items ≡ set old (basic_at t row) w.in-Ok.number =
          ap (λ v. v.items) w.numbers-is ∙ (λ i. set old (c.basic-col.ensures i) (to_z-of_z fn i)) in
          let lt : basic_at t row < t.unknowns = omega (arith, w.if-col-unknowns.true, c.basic-col.ensures, c.unknowns-in-loop-row.ensures) in
          let lr : row < t.height = omega (arith, c.loop-row-test.true, c.height-row-end.ensures) in
          record {
            wide = ap length items ∙ length-set old (basic_at t row) w.in-Ok.number ∙ inv.wide;
            each = λ j lj. ap (λ (xs : List ℤ). at xs j) items ∙ numbers_set t row old w.in-Ok.number c.requires.basis lr inv.wide number lt inv.each j lj;
            products = products_more t row inv.products (subst Fits number number_fits);
            fits = λ j. subst (λ (xs : List ℤ). Fits (at xs j)) (sym items) (fits_set old (basic_at t row) w.in-Ok.number inv.fits number_fits j);
          })
      | else-col-unknowns w ↦ (
          let items : c.if-col-unknowns.numbers.items ≡ old = ap (λ v. v.items) w.numbers-is in
          let le : t.unknowns ≤ basic_at t row = omega (arith, w.if-col-unknowns.false, c.basic-col.ensures, c.unknowns-in-loop-row.ensures) in
          record {
            wide = ap length items ∙ inv.wide;
            each = λ j lj. ap (λ (xs : List ℤ). at xs j) items ∙ numbers_keep t row old le inv.each j lj;
            products = products_more t row inv.products (subst Fits (sym (whole_other t row le)) (omega arith));
            fits = λ j. subst (λ (xs : List ℤ). Fits (at xs j)) (sym items) (inv.fits j);
          })
    ]

pub returns-clause-value : goal.returns-clause-value
returns-clause-value c =
    let t = c.args.tableau.now in
    let done : c.loop-row.row ≡ t.height = omega (arith, c.loop-row-test.false, c.height-row-end.ensures, c.loop-row.auto.row-end) in
    fill_by_all (whole_of t) c.loop-row.numbers.items t.unknowns (pos 0) c.loop-row.invariant.wide
    (λ k lk. c.loop-row.invariant.each k lk ∙ (λ i. sum_to (done i) (part t k)))

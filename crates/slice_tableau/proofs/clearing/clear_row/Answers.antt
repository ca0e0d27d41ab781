use Rattle.std.proofs.Common.{rules, pos, ◌<ℤ◌, ◌∙◌, ap, to_z-of_z, SFits, of_z}
use mir.Syntax.{w128}
use Rattle.slice_linear.specs.Sums.{at}
use Rattle.slice_tableau.specs.Cells.{times_of, less_of}
use Rattle.slice_tableau.specs.Inside.{row_of}
use Rattle.slice_tableau.proofs.ClearLaws.{made_past, made_fits, made_nonzero, is_cleared}
use Rattle.slice_tableau.proofs.clearing.clear_row.Goals as goal

pub clear_in-requires-clause-fits : goal.clear_in-requires-clause-fits
clear_in-requires-clause-fits c = λ j lt.
    let ft : SFits w128 c.factors-times.result.0 = search rules in
    let fl : SFits w128 c.factors-times.result.1 = search rules in
    let fh : SFits w128 c.entry-here.result = search rules in
    let fp : SFits w128 c.entry-pivot.result = search rules in
    let eh = c.entry-here.ensures ∙ ap (λ x. at (row_of x c.args.i) c.args.col) c.deref.ensures.value in
    let ep = c.entry-pivot.ensures ∙ ap (λ x. at (row_of x c.args.row) c.args.col) c.deref-2.ensures.value in
    let et = to_z-of_z ft ∙ (simp (to_z-of_z fp, to_z-of_z fh) at c.factors-times.ensures.times) ∙ (λ i. times_of (ep i) (eh i)) in
    let el = to_z-of_z fl ∙ (simp (to_z-of_z fp, to_z-of_z fh) at c.factors-times.ensures.less) ∙ (λ i. less_of (ep i) (eh i)) in
    let f = c.requires.fits j (rw (← c.requires.same) lt) (λ e. c.if-here-eq0.false (ap (of_z w128) (eh ∙ e))) in
    rw (et, el) f

pub reduce_in-requires-clause-fits : goal.reduce_in-requires-clause-fits
reduce_in-requires-clause-fits c =
    let ft : SFits w128 c.factors-times.result.0 = search rules in
    let fl : SFits w128 c.factors-times.result.1 = search rules in
    let fh : SFits w128 c.entry-here.result = search rules in
    let fp : SFits w128 c.entry-pivot.result = search rules in
    let eh = c.entry-here.ensures ∙ ap (λ x. at (row_of x c.args.i) c.args.col) c.deref.ensures.value in
    let ep = c.entry-pivot.ensures ∙ ap (λ x. at (row_of x c.args.row) c.args.col) c.deref-2.ensures.value in
    let et = to_z-of_z ft ∙ (simp (to_z-of_z fp, to_z-of_z fh) at c.factors-times.ensures.times) ∙ (λ i. times_of (ep i) (eh i)) in
    let el = to_z-of_z fl ∙ (simp (to_z-of_z fp, to_z-of_z fh) at c.factors-times.ensures.less) ∙ (λ i. less_of (ep i) (eh i)) in
    made_fits (row_of c.args.cells.now.items c.args.i) (row_of c.args.cells.now.items c.args.row) (row_of c.clear_in.new.cells.items c.args.i) _ _ c.requires.same c.clear_in.ensures.width c.clear_in.ensures.made
    (λ j lt. rw (et, el) (c.requires.fits j (rw (← c.requires.same) lt) (λ e. c.if-here-eq0.false (ap (of_z w128) (eh ∙ e)))))

pub reduce_in-requires-clause-not_zero : goal.reduce_in-requires-clause-not_zero
reduce_in-requires-clause-not_zero c =
    let ft : SFits w128 c.factors-times.result.0 = search rules in
    let above : pos 0 <ℤ c.factors-times.result.0 = c.factors-times.ensures.above in
    let k = c.requires.clearable in
    let made = made_past (row_of c.args.cells.now.items c.args.i) (row_of c.args.cells.now.items c.args.row) (row_of c.clear_in.new.cells.items c.args.i) _ _ c.requires.same c.clear_in.ensures.width c.clear_in.ensures.made k.own in
    (k.own, made_nonzero (at (row_of c.args.cells.now.items c.args.i) k.own) (at (row_of c.args.cells.now.items c.args.row) k.own) _ _ _ (rw (to_z-of_z ft) above) k.above k.zero made)

pub returns-clause-cleared : goal.returns-clause-cleared
returns-clause-cleared c =
    let ft : SFits w128 c.factors-times.result.0 = search rules in
    let fl : SFits w128 c.factors-times.result.1 = search rules in
    let fh : SFits w128 c.entry-here.result = search rules in
    let fp : SFits w128 c.entry-pivot.result = search rules in
    let eh = to_z-of_z fh ∙ c.entry-here.ensures ∙ ap (λ x. at (row_of x c.args.i) c.args.col) c.deref.ensures.value in
    let ep = to_z-of_z fp ∙ c.entry-pivot.ensures ∙ ap (λ x. at (row_of x c.args.row) c.args.col) c.deref-2.ensures.value in
    let equal = rw (eh, ep) at c.factors-times.ensures.equal in
    is_cleared c.args.col (at (row_of c.args.cells.now.items c.args.i)) (at (row_of c.args.cells.now.items c.args.row)) (at (row_of c.clear_in.new.cells.items c.args.i)) (at (row_of c.reduce_in.new.cells.items c.args.i)) _ _
    (rw (to_z-of_z ft) c.factors-times.ensures.above) (rw (to_z-of_z ft, to_z-of_z fl) equal)
    (made_past (row_of c.args.cells.now.items c.args.i) (row_of c.args.cells.now.items c.args.row) (row_of c.clear_in.new.cells.items c.args.i) _ _ c.requires.same c.clear_in.ensures.width c.clear_in.ensures.made) c.reduce_in.ensures.divided

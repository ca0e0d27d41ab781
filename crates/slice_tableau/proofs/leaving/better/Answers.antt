use Rattle.std.proofs.Common.{◌≡◌, suc, arith, rules, to_z-of_z, SFits, inl, inr}
use Rattle.std.proofs.lemmas.Grind.{common_steps}
use mir.Syntax.{w128}
use Rattle.slice_tableau.specs.Inside.{row_of, list_of, column_of}
use Rattle.slice_tableau.proofs.LeastLaws.{ratio_sym, next_below, next_not}
use Rattle.slice_tableau.proofs.leaving.better.Goals as goal

pub returns-in-Less : goal.returns-in-Less
returns-in-Less c =
    let fh : SFits w128 c.entry-here.result = search rules in
    let ft : SFits w128 c.entry-there.result = search rules in
    let row : c.index-cells-row.result ≡ row_of c.args.cells.now c.args.row = grind (arith, common_steps) in
    let other : c.index-cells-r.result ≡ row_of c.args.cells.now c.in-Some.r = grind (arith, common_steps) in
    let g = simp (to_z-of_z fh, to_z-of_z ft) at c.in-Less.ensures in
    let h = simp (row, other, c.entry-here.ensures, c.entry-there.ensures) at g in
    let b = rw c.in-Some.is at c.requires.best in
    next_below (suc c.args.size.height) c.args.row c.in-Some.r (list_of c.args.cells.now c.args.size.unknowns c.args.size.height) (column_of c.args.cells.now c.args.col) b c.requires.above h

pub returns-in-Equal : goal.returns-in-Equal
returns-in-Equal c =
    let fh : SFits w128 c.entry-here.result = search rules in
    let ft : SFits w128 c.entry-there.result = search rules in
    let row : c.index-cells-row.result ≡ row_of c.args.cells.now c.args.row = grind (arith, common_steps) in
    let other : c.index-cells-r.result ≡ row_of c.args.cells.now c.in-Some.r = grind (arith, common_steps) in
    let g = simp (to_z-of_z fh, to_z-of_z ft) at c.in-Equal.ensures in
    let h = simp (row, other, c.entry-here.ensures, c.entry-there.ensures) at g in
    let b = rw c.in-Some.is at c.requires.best in
    next_not (suc c.args.size.height) c.args.row c.in-Some.r (list_of c.args.cells.now c.args.size.unknowns c.args.size.height) (column_of c.args.cells.now c.args.col) b (inl (ratio_sym (suc c.args.size.height) (list_of c.args.cells.now c.args.size.unknowns c.args.size.height c.args.row) (column_of c.args.cells.now c.args.col c.args.row) (list_of c.args.cells.now c.args.size.unknowns c.args.size.height c.in-Some.r) (column_of c.args.cells.now c.args.col c.in-Some.r) h))

pub returns-in-Greater : goal.returns-in-Greater
returns-in-Greater c =
    let fh : SFits w128 c.entry-here.result = search rules in
    let ft : SFits w128 c.entry-there.result = search rules in
    let row : c.index-cells-row.result ≡ row_of c.args.cells.now c.args.row = grind (arith, common_steps) in
    let other : c.index-cells-r.result ≡ row_of c.args.cells.now c.in-Some.r = grind (arith, common_steps) in
    let g = simp (to_z-of_z fh, to_z-of_z ft) at c.in-Greater.ensures in
    let h = simp (row, other, c.entry-here.ensures, c.entry-there.ensures) at g in
    let b = rw c.in-Some.is at c.requires.best in
    next_not (suc c.args.size.height) c.args.row c.in-Some.r (list_of c.args.cells.now c.args.size.unknowns c.args.size.height) (column_of c.args.cells.now c.args.col) b (inr h)

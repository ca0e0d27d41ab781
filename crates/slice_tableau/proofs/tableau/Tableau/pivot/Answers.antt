use Rattle.std.proofs.Common.{ℕ, suc, ◌+◌, ◌≡◌, ◌<◌, ◌≤◌, ◌∙◌, ap, sym, subst, arith, length, set, List, pos, ◌<ℤ◌}
use Rattle.std.proofs.lemmas.List.{length-set}
use Rattle.slice_linear.specs.Rows.{LinearRow}
use Rattle.slice_tableau.specs.Table.{IsTableauOf, HasSizes, IsEntering, IsLeaving, IsFirstMisfit, IsPivot, PivotFits, cell_at, right_column, columns}
use Rattle.slice_tableau.specs.Inside.{row_of}
use Rattle.slice_tableau.proofs.PivotTable.{pivoted, table_of, first_misfit}
use Rattle.slice_tableau.specs.Run.{IsLawfulStep}
use Rattle.slice_tableau.proofs.RunRises.{lawful, keeps_high, rises}
use Rattle.slice_tableau.proofs.tableau.Tableau.pivot.Goals as goal

pub returns-in-Some-clause-fault : goal.returns-in-Some-clause-fault
returns-in-Some-clause-fault c =
    let in_rows : c.args.row < c.self.inside.height = subst (λ v. c.args.row < v.height) (sym c.self.view_is) c.requires.row_there in
    let items = c.deref.ensures.value in
    subst (λ v. IsFirstMisfit v c.args.row c.args.col c.in-Some.at.0 c.in-Some.at.1) c.self.view_is
    (first_misfit c.self.inside.cells.items c.self.inside.unknowns c.self.inside.height c.self.inside.basis.items c.args.row c.args.col c.in-Some.at.0 c.in-Some.at.1 (omega arith) c.self.invariant.2
    (rw items at c.in-Some.ensures))

pub returns-in-None-clause-fits : goal.returns-in-None-clause-fits
returns-in-None-clause-fits c =
    let sizes : HasSizes (table_of c.self.inside.unknowns c.self.inside.height c.self.inside.cells.items c.self.inside.basis.items) = c.self.invariant.2 in
    let tall : length c.self.inside.cells.items ≡ suc c.self.inside.height = sizes.rows in
    let in_rows : c.args.row < c.self.inside.height = subst (λ v. c.args.row < v.height) (sym c.self.view_is) c.requires.row_there in
    let wide : length (row_of c.self.inside.cells.items c.args.row) ≡ c.self.inside.unknowns + c.self.inside.height + 3 = sizes.width c.args.row (omega arith) in
    let none = rw c.deref.ensures.value at c.in-None.ensures in
    subst (λ v. (i j : ℕ) → i ≤ v.height → j < columns v → PivotFits v c.args.row c.args.col i j) c.self.view_is
    (λ i j li lj ne. none i j (omega arith) ne (rw wide lj))

-- the new table has its sizes
sized : (c : goal.After-self-1) → HasSizes (table_of c.self.inside.unknowns c.self.inside.height c.clear_all.new.cells.items (set c.self.inside.basis.items c.args.row c.args.col))
sized c =
    let sizes : HasSizes (table_of c.self.inside.unknowns c.self.inside.height c.self.inside.cells.items c.self.inside.basis.items) = c.self.invariant.2 in
    record {
      rows = c.clear_all.ensures.height ∙ sizes.rows;
      width = λ i le. c.clear_all.ensures.widths i ∙ sizes.width i le;
      basics = length-set c.self.inside.basis.items c.args.row c.args.col ∙ sizes.basics;
    }

made : (c : goal.After-self-1) (rows : List LinearRow) → IsTableauOf rows (table_of c.self.inside.unknowns c.self.inside.height c.self.inside.cells.items c.self.inside.basis.items)
    → IsTableauOf rows (table_of c.self.inside.unknowns c.self.inside.height c.clear_all.new.cells.items (set c.self.inside.basis.items c.args.row c.args.col))
made c rows of =
    let t = table_of c.self.inside.unknowns c.self.inside.height c.self.inside.cells.items c.self.inside.basis.items in
    let tall : length c.self.inside.cells.items ≡ suc c.self.inside.height = of.sizes.rows in
    pivoted rows t (c.clear_all.new.cells.items) c.args.row c.args.col
    (subst (λ v. c.args.row < v.height) (sym c.self.view_is) c.requires.row_there)
    (subst (λ v. c.args.col < right_column v) (sym c.self.view_is) c.requires.col_there)
    (subst (λ v. pos 0 <ℤ (cell_at v c.args.row c.args.col)) (sym c.self.view_is) c.requires.above)
    (sized c) of c.clear_all.ensures.pivot_row (λ l ll ne. c.clear_all.ensures.cleared l (rw tall ll) ne)

pub invariant_of-self : goal.invariant_of-self
invariant_of-self c = (
  c.self.invariant.0,
  c.clear_all.ensures.spare ∙ c.self.invariant.1,
  sized c,
  c.clear_all.ensures.fit,
  (c.self.invariant.4.0, made c c.self.invariant.4.0 c.self.invariant.4.1),
  c.self.invariant.5,
)

is_pivot : (c : goal.After-self-1) → IsPivot c.args.self.now c.args.row c.args.col (table_of c.self.inside.unknowns c.self.inside.height c.clear_all.new.cells.items (set c.self.inside.basis.items c.args.row c.args.col))
is_pivot c = record {
  unknowns_is = ap (λ v. v.unknowns) c.self.view_is;
  height_is = ap (λ v. v.height) c.self.view_is;
  basis_is = ap (λ v. set v.basis c.args.row c.args.col) c.self.view_is;
  keeps = λ rows of. made c rows (subst (λ v. IsTableauOf rows v) (sym c.self.view_is) of);
}

-- where row and column are the lawful choice, it is a lawful step
step : (c : goal.After-self-1) → IsEntering c.args.self.now c.args.col → IsLeaving c.args.self.now c.args.col c.args.row
    → IsLawfulStep c.self.invariant.4.0 c.args.self.now (table_of c.self.inside.unknowns c.self.inside.height c.clear_all.new.cells.items (set c.self.inside.basis.items c.args.row c.args.col))
step c enters leaves =
    lawful c.self.invariant.4.0 c.args.self.now _ c.args.row c.args.col (subst (λ v. IsTableauOf c.self.invariant.4.0 v) c.self.view_is c.self.invariant.4.1) enters leaves (is_pivot c)

pub returns-in-None-clause-keeps : goal.returns-in-None-clause-keeps
returns-in-None-clause-keeps c = λ high enters leaves. keeps_high c.self.invariant.4.0 c.args.self.now _ (step c enters leaves) high

pub returns-in-None-clause-rises : goal.returns-in-None-clause-rises
returns-in-None-clause-rises c = λ high enters leaves. rises c.self.invariant.4.0 c.args.self.now _ (step c enters leaves) high

pub returns-in-None-clause-made : goal.returns-in-None-clause-made
returns-in-None-clause-made c = is_pivot c

use Rattle.std.proofs.Common.{sym, subst}
use Rattle.slice_tableau.specs.Table.{IsEntering, IsLeaving}
use Rattle.slice_tableau.proofs.PivotTable.{table_of}
use Rattle.slice_tableau.proofs.LeavingLaws.{some_leaves, leaves_alone}
use Rattle.slice_tableau.proofs.tableau.Tableau.leaving.Goals as goal

pub returns-in-Some : goal.returns-in-Some
returns-in-Some c =
    let t = table_of c.self.inside.unknowns c.self.inside.height c.self.inside.cells.items c.self.inside.basis.items in
    subst (λ v. IsLeaving v c.args.col c.in-Some.row) c.self.view_is
    (leaves_alone c.self.invariant.4.0 t c.args.col c.in-Some.row c.self.invariant.4.1 (rw c.deref.ensures.value at c.in-Some.ensures))

pub returns-in-None : goal.returns-in-None
returns-in-None c =
    let t = table_of c.self.inside.unknowns c.self.inside.height c.self.inside.cells.items c.self.inside.basis.items in
    absurd (some_leaves c.self.invariant.4.0 t c.args.col c.self.invariant.4.1 (subst (λ v. IsEntering v c.args.col) (sym c.self.view_is) c.requires) (rw c.deref.ensures.value at c.in-None.ensures))

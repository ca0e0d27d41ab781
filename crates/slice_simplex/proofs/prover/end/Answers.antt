use Rattle.std.proofs.Common.{◌≡◌, ◌∙◌, ℕ, ◌≤◌, sym, subst, arith, rules, ℤ, pos, ◌<ℤ◌, ◌≤ℤ◌, inl, inr, List}
use Rattle.slice_linear.specs.Rows.{LinearRow, Refutes}
use Rattle.slice_linear.proofs.Ring.{linear, sign}
use Rattle.slice_tableau.specs.Table.{Table, cell_at, right_column}
use Rattle.slice_simplex.specs.Made.{IsLast}
use Rattle.slice_simplex.specs.Working.{EndFaultMeans}
use Rattle.slice_simplex.specs.Ends.{objective_right, end_multipliers, end_solution, EndFits}
use Rattle.slice_simplex.specs.ProverAnswer.{AreEndMultipliers, IsEndSolution, IsLowestSolution, RunFits}
use Rattle.slice_simplex.proofs.Made.{end_of}
use Rattle.slice_simplex.proofs.EndFacts.{last_refutes, last_is_lowest, has_basis, objective_right_not_below}
use Rattle.slice_simplex.proofs.prover.end.Goals as goal

-- the cell that the code tests
tested : (t : Table) (cell : ℤ) (height right : ℕ) → cell ≡ cell_at t height right → height ≡ t.height → right ≡ right_column t → cell ≡ objective_right t
tested t cell height right e f g = e ∙ (λ i. cell_at t (f i) (g i))

above : (t : Table) (cell : ℤ) → cell ≡ objective_right t → (cell ≡ pos 0 → ⊥) → pos 0 ≤ℤ (objective_right t) → pos 0 <ℤ (objective_right t)
above t cell e ne le = elim (sign (objective_right t)) [
  | inl below ↦ absurd (omega (arith, linear))
  | inr (inl same) ↦ absurd (ne (e ∙ same))
  | inr (inr more) ↦ more
]

refuted : (rows : List LinearRow) (n limit : ℕ) (t : Table) (m : List ℤ) → IsLast rows n t → n ≤ limit → objective_right t ≡ pos 0 → m ≡ end_multipliers rows t → AreEndMultipliers rows m × RunFits rows limit
refuted rows n limit t m last le zero is = (
  record { last = t; ends = end_of rows n t last; right_zero = zero; multipliers_are = is },
  record { pivots = n; last = t; ends = last; within = le; solution_fits = λ p. absurd (omega (arith, linear)) },
)

solved : (rows : List LinearRow) (n limit : ℕ) (t : Table) (xs : List ℤ) → IsLast rows n t → n ≤ limit → pos 0 <ℤ (objective_right t) → EndFits t → xs ≡ end_solution t → IsEndSolution rows xs × RunFits rows limit
solved rows n limit t xs last le above fits is = (
  record { last = t; ends = end_of rows n t last; right_above = above; solution_is = is },
  record { pivots = n; last = t; ends = last; within = le; solution_fits = λ p. fits },
)

pub returns-then-cell-eq0-clause-shows : goal.returns-then-cell-eq0-clause-shows
returns-then-cell-eq0-clause-shows c =
    let t = c.args.tableau.now in
    let zero : c.cell.result ≡ pos 0 = search rules in
    let e = tested t c.cell.result c.height.result c.right-right.result c.cell.ensures.value c.height.ensures c.right-right.ensures in
    subst (Refutes c.args.rows.now) (sym c.in_ok-multipliers.ensures.value) (last_refutes c.args.rows.now t c.requires.rows (end_of c.args.rows.now c.args.pivots t c.requires.last) (sym e ∙ zero))

pub end_solution-requires : goal.end_solution-requires
end_solution-requires c = has_basis c.args.rows.now c.args.tableau.now c.requires.last.made.before c.requires.last.made.run

pub returns-then-cell-eq0-clause-run : goal.returns-then-cell-eq0-clause-run
returns-then-cell-eq0-clause-run c limit le =
    let t = c.args.tableau.now in
    let zero : c.cell.result ≡ pos 0 = search rules in
    let e = tested t c.cell.result c.height.result c.right-right.result c.cell.ensures.value c.height.ensures c.right-right.ensures in
    refuted c.args.rows.now c.args.pivots limit t c.in_ok-multipliers.multipliers.items c.requires.last le (sym e ∙ zero) c.in_ok-multipliers.ensures.value

pub returns-in-Ok-clause-run : goal.returns-in-Ok-clause-run
returns-in-Ok-clause-run c limit le =
    let t = c.args.tableau.now in
    let e = tested t c.cell.result c.height.result c.right-right.result c.cell.ensures.value c.height.ensures c.right-right.ensures in
    let ne : c.cell.result ≡ pos 0 → ⊥ = search rules in
    solved c.args.rows.now c.args.pivots limit t c.in-Ok.solution.items c.requires.last le
    (above t c.cell.result e ne (objective_right_not_below c.args.rows.now t (end_of c.args.rows.now c.args.pivots t c.requires.last))) c.in-Ok.ensures.made c.in-Ok.ensures.value

pub returns-in-Ok-clause-shows : goal.returns-in-Ok-clause-shows
returns-in-Ok-clause-shows c =
    let t = c.args.tableau.now in
    let e = tested t c.cell.result c.height.result c.right-right.result c.cell.ensures.value c.height.ensures c.right-right.ensures in
    let ne : c.cell.result ≡ pos 0 → ⊥ = search rules in
    subst (IsLowestSolution c.args.rows.now) (sym c.in-Ok.ensures.value)
    (last_is_lowest c.args.rows.now t (end_of c.args.rows.now c.args.pivots t c.requires.last) (above t c.cell.result e ne (objective_right_not_below c.args.rows.now t (end_of c.args.rows.now c.args.pivots t c.requires.last))))

pub returns-in-Err-Unfit-clause-fault : goal.returns-in-Err-Unfit-clause-fault
returns-in-Err-Unfit-clause-fault c limit le =
    let t = c.args.tableau.now in
    let e = tested t c.cell.result c.height.result c.right-right.result c.cell.ensures.value c.height.ensures c.right-right.ensures in
    let ne : c.cell.result ≡ pos 0 → ⊥ = search rules in
    inr record {
      last = t;
      ends = c.requires.last;
      within = le;
      right_above = above t c.cell.result e ne (objective_right_not_below c.args.rows.now t (end_of c.args.rows.now c.args.pivots t c.requires.last));
      column = c.right-right.ensures;
      unfit = subst (EndFaultMeans t) c.in-Err-Unfit.field-0-is c.in-Err-Unfit.ensures.fault;
    }

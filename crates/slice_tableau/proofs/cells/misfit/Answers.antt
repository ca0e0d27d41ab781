use Rattle.std.proofs.Common.{◌≡◌, ℕ, ◌∙◌, sym, subst, arith, inl, inr}
use Rattle.std.proofs.lemmas.Grind.{common_steps}
use Rattle.std.proofs.lemmas.Bool.{cases_lt}
use Rattle.slice_linear.specs.Sums.{at}
use Rattle.slice_tableau.specs.Cells.{FitsAt}
use Rattle.slice_tableau.specs.Inside.{row_of}
use Rattle.slice_tableau.proofs.cells.misfit.Goals.{then-i-row+in-None, else-i-row}
use Rattle.slice_tableau.proofs.cells.misfit.Goals as goal

pub returns-in-Some : goal.returns-in-Some
returns-in-Some c =
    let row : c.index-cells-i.result ≡ row_of c.args.cells.now c.loop-i.i = grind (arith, common_steps) in
    let pivot : c.index-cells-row.result ≡ row_of c.args.cells.now c.args.row = grind (arith, common_steps) in
    let h = rw (row, pivot) at c.in-Some.ensures in
    record {
      row_there = omega arith;
      other = c.if-i-row.true;
      column_there = rw (← c.requires.widths c.loop-i.i (omega arith)) h.0;
      misfit = h.1;
      rows_before = λ k l lt ne ll. c.loop-i.invariant k l lt ne ll;
      columns_before = h.2;
    }

pub loop-i-preserved : goal.loop-i-preserved
loop-i-preserved c = λ k j lt ne lj. elim (cases_lt k c.loop-i.i) [
  | inl before ↦ c.loop-i.invariant k j before ne lj
  | inr not_before ↦ let here : k ≡ c.loop-i.i = omega arith in elim c.if-i-row.branch [
    | then-i-row+in-None w ↦
        let row : w.index-cells-i.result ≡ row_of c.args.cells.now c.loop-i.i = grind (arith, common_steps) in
        let pivot : w.index-cells-row.result ≡ row_of c.args.cells.now c.args.row = grind (arith, common_steps) in
        let h = rw (row, pivot) at w.in-None.ensures in
        subst (λ (x : ℕ). FitsAt c.args.col (at (row_of c.args.cells.now x)) (at (row_of c.args.cells.now c.args.row)) j) (sym here) (h j (rw (c.requires.widths c.loop-i.i (omega arith)) lj))
    | else-i-row w ↦ absurd (ne (here ∙ w.if-i-row.false))
  ]
]

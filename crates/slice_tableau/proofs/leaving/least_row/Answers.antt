use Rattle.std.proofs.Common.{◌≡◌, suc, ◌+◌, subst, ℤ, pos, ◌≤ℤ◌, arith, rules, to_z-of_z, SFits, false, inl, inr}
use lib.Dec.{T}
use Rattle.std.specs.Prelude.{int_lt}
use Rattle.slice_linear.proofs.Ring.{linear, sign}
use mir.Syntax.{w128}
use Rattle.slice_tableau.specs.Inside.{list_of, column_of, IsLeastOf}
use Rattle.slice_tableau.proofs.LeastLaws.{next_low}
use Rattle.slice_tableau.proofs.leaving.least_row.Goals.{then-entry-gt0, else-entry-gt0}
use Rattle.slice_tableau.proofs.leaving.least_row.Goals as goal

not_above : (x : ℤ) → int_lt (pos 0) x ≡ false → x ≤ℤ pos 0
not_above x e = elim (sign x) [
  | inl below ↦ omega (arith, linear)
  | inr (inl same) ↦ omega (arith, linear)
  | inr (inr above) ↦ absurd (subst (λ b. T b) e above.lt)
]

pub loop-l-preserved : goal.loop-l-preserved
loop-l-preserved c =
    let fe : SFits w128 c.entry.result = search rules in
    elim c.if-entry-gt0.branch [
      | then-entry-gt0 w ↦
          let e : suc c.loop-l.l ≡ c.loop-l.l + 1 = omega arith in
          rw w.best-is (subst (λ n. IsLeastOf (suc c.args.size.height) n (list_of c.args.cells.now c.args.size.unknowns c.args.size.height) (column_of c.args.cells.now c.args.col) w.better.result) e w.better.ensures)
      | else-entry-gt0 w ↦
          let low : c.entry.result ≤ℤ pos 0 = not_above c.entry.result (simp (to_z-of_z fe) at w.if-entry-gt0.false) in
          rw w.best-is (next_low (suc c.args.size.height) c.loop-l.l (list_of c.args.cells.now c.args.size.unknowns c.args.size.height) (column_of c.args.cells.now c.args.col) c.loop-l.best (subst (λ (x : ℤ). x ≤ℤ pos 0) c.entry.ensures low) c.loop-l.invariant)
    ]

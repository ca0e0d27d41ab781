use Rattle.std.proofs.Common.{ℕ, ◌≡◌, ◌∙◌, ap, subst, rules, SFits, to_z-of_z, unsigned_abs, arith, List, ◌∷◌}
use mir.Syntax.{w128}
use Rattle.std.specs.Int.{IsGcd}
use Rattle.slice_tableau.specs.declared.sparse.Cell.{Cell}
use Rattle.slice_tableau.specs.Sparse.{IsRising}
use Rattle.slice_tableau.proofs.SparseLaws.{earlier}
use Rattle.slice_tableau.proofs.SparseGcd.{IsDivisorSoFar, gcd_step, gcd_one}
use Rattle.slice_tableau.proofs.sparse.cells_gcd.Goals as goal

next : (g h end : ℕ) (c : Cell) (cs rest row : List Cell) (a : ℕ) → rest ≡ c ∷ cs → a ≡ unsigned_abs c.value → IsRising 0 end rest → IsGcd g a h → IsDivisorSoFar g rest row
    → IsRising 0 end cs × IsDivisorSoFar h cs row
next g h end c cs rest row a e ea r gcd inv =
    let rr = subst (λ x. IsRising 0 end x) e r in
    (earlier _ 0 end cs (omega arith) rr.3, gcd_step g h end c cs row rr (subst (λ n. IsGcd g n h) ea gcd) (subst (λ x. IsDivisorSoFar g x row) e inv))

pub returns-then-g-eq1 : goal.returns-then-g-eq1
returns-then-g-eq1 c =
    let f : SFits w128 c.in-Some.first.now.value = search rules in
    let ea = c.unsigned_abs.ensures.value ∙ ap unsigned_abs (to_z-of_z f) in
    let n = next c.loop-first.g c.gcd_natural-g.result c.loop-first.invariant.rising.0 c.in-Some.first.now c.in-Some.tail.now c.loop-first.rest.now c.args.row.now c.unsigned_abs.result c.in-Some.ensures.cases.0 ea c.loop-first.invariant.rising.1 c.gcd_natural-g.ensures.greatest c.loop-first.invariant.divides in
    gcd_one c.gcd_natural-g.result c.in-Some.tail.now c.args.row.now c.if-g-eq1.true n.1

pub loop-first-preserved : goal.loop-first-preserved
loop-first-preserved c =
    let f : SFits w128 c.in-Some.first.now.value = search rules in
    let ea = c.unsigned_abs.ensures.value ∙ ap unsigned_abs (to_z-of_z f) in
    let n = next c.loop-first.g c.gcd_natural-g.result c.loop-first.invariant.rising.0 c.in-Some.first.now c.in-Some.tail.now c.loop-first.rest.now c.args.row.now c.unsigned_abs.result c.in-Some.ensures.cases.0 ea c.loop-first.invariant.rising.1 c.gcd_natural-g.ensures.greatest c.loop-first.invariant.divides in
    record { rising = (c.loop-first.invariant.rising.0, n.0); divides = n.1 }

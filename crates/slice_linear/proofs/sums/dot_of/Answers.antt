use Rattle.std.proofs.Common.{ℕ, suc, ◌+◌, ◌≡◌, ◌∙◌, ap, sym, subst, arith, rules, ℤ, ◌*ℤ◌, ◌+ℤ◌, to_z-of_z, SFits, below_more, inl, inr, Ok, Err, OnErr}
use Rattle.std.specs.declared.result.Result.{Result}
use Rattle.std.proofs.lemmas.Bool.{cases_lt}
use mir.Syntax.{w128}
use Rattle.slice_num.specs.Rational.{Fits}
use Rattle.slice_linear.specs.Sums.{at, sum_to}
use Rattle.slice_linear.proofs.sums.dot_of.Goals as goal

add_one : (j : ℕ) → suc j ≡ j + 1
add_one j = omega arith

on_err : {A E P : Type 0} (r : Result A E) → P → OnErr r P
on_err (Ok x) p = tt
on_err (Err e) p = p

pub returns-in_err-total-clause-no_fit : goal.returns-in_err-total-clause-no_fit
returns-in_err-total-clause-no_fit c =
    let j = c.loop-j.j in
    let f : ℕ → ℤ = λ k. at c.args.coefs.now k *ℤ at c.args.xs.now k in
    let x : SFits w128 (at c.args.coefs.now j) = search rules in
    let y : SFits w128 (at c.args.xs.now j) = search rules in
    let t : SFits w128 c.in_ok-term.term = search rules in
    let term = simp (to_z-of_z x, to_z-of_z y) at c.in_ok-term.ensures in
    let unfit = simp (to_z-of_z t) at c.in_err-total.ensures in
    let e : sum_to (suc j) f ≡ _ = (λ i. sym c.loop-j.invariant.total i +ℤ sym term.1 i) in
    on_err c.from_residual-in_err-total.result (λ d. unfit (subst Fits e (d.sums (suc j) (omega arith))))

pub loop-j-preserved : goal.loop-j-preserved
loop-j-preserved c =
    let j = c.loop-j.j in
    let f : ℕ → ℤ = λ k. at c.args.coefs.now k *ℤ at c.args.xs.now k in
    let x : SFits w128 (at c.args.coefs.now j) = search rules in
    let y : SFits w128 (at c.args.xs.now j) = search rules in
    let t : SFits w128 c.in_ok-term.term = search rules in
    let n : SFits w128 c.in_ok-total.total = search rules in
    let term = simp (to_z-of_z x, to_z-of_z y) at c.in_ok-term.ensures in
    let next = simp (to_z-of_z t) at c.in_ok-total.ensures in
    let i = c.loop-j.invariant in
    let total : c.in_ok-total.total ≡ sum_to (j + 1) f = next.1 ∙ (λ k. i.total k +ℤ term.1 k) ∙ ap (λ m. sum_to m f) (add_one j) in
    record {
      total = to_z-of_z n ∙ total;
      products = below_more _ _ i.products term.0;
      sums = λ k le. elim (cases_lt j k) [
        | inl last ↦ let e : j + 1 ≡ k = omega arith in subst (λ m. Fits (sum_to m f)) e (subst Fits (sym next.1 ∙ total) next.0)
        | inr before ↦ i.sums k before
      ];
    }

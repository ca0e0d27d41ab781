use Rattle.std.proofs.Common.{◌≡◌, ◌-◌, ◌<◌, ◌≤◌, ◌^◌, nat_lt, arith, rules, ap, subst, false, ◌∷◌, drop, pos, to_z-of_z, SFits, Ok, Err, OnErr}
use mir.Syntax.{w128}
use Rattle.std.specs.declared.result.Result.{Result}
use Rattle.std.proofs.lemmas.Grind.{common_steps}
use Rattle.std.proofs.lemmas.Bool.Decides.{nat_tests}
use Rattle.slice_num.specs.Gcd.{lcm_of}
use Rattle.slice_linear.specs.LowestRow.{common_den}
use Rattle.slice_linear.proofs.Multiples.{common_den_drop}
use Rattle.slice_linear.proofs.to_row.common_denominator.Goals as goal

on_err : {A E P : Type 0} (r : Result A E) → P → OnErr r P
on_err (Ok x) p = tt
on_err (Err e) p = p

pub returns-in_err-common-clause-err : goal.returns-in_err-common-clause-err
returns-in_err-common-clause-err c =
    let coefs = c.args.coefs.now in
    let j = c.loop-j.j in
    let q = c.index-coefs-j.result in
    let f : SFits w128 c.den.result = search rules in
    let h : SFits w128 (pos q.den) = subst (SFits w128) c.den.ensures.value f in
    let u : lcm_of q.den (common_den (drop j coefs)) < 2 ^ 127 → ⊥ = simp (to_z-of_z h, c.den.ensures.value, c.loop-j.invariant.value) at c.in_err-common.ensures in
    let e : drop (j - 1) coefs ≡ q ∷ drop j coefs = grind (arith, common_steps) in
    let same : common_den (drop (j - 1) coefs) ≡ lcm_of q.den (common_den (drop j coefs)) = ap common_den e in
    let le : common_den (drop (j - 1) coefs) ≤ common_den coefs = common_den_drop (j - 1) coefs in
    let over : common_den coefs < 2 ^ 127 → ⊥ = λ x. u (omega (arith, same, le, x)) in
    let n : nat_lt (common_den coefs) (2 ^ 127) ≡ false = grind (arith, nat_tests) in
    on_err c.from_residual.result n

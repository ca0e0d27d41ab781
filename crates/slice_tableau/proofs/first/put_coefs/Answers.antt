use Rattle.std.proofs.Common.{◌<◌, ◌≢◌, arith, rules, length, ◌*ℤ◌, below_more, get_or-set_same, get_or-set_other, to_z-of_z, SFits}
use Rattle.std.proofs.lemmas.Int.{fits_signed_from_abs}
use mir.Syntax.{w128}
use Rattle.slice_linear.specs.Sums.{at}
use Rattle.slice_tableau.proofs.first.put_coefs.Goals as goal

pub loop-j-preserved : goal.loop-j-preserved
loop-j-preserved c =
    let i = c.loop-j.j in
    let lt : i < length c.loop-j.row = omega arith in
    let x : SFits w128 (at c.args.coefs.now i) = search rules in
    let f = fits_signed_from_abs w128 (c.args.sign *ℤ at c.args.coefs.now i) (c.requires.fits i) in
    record {
      done = below_more _ _
          (λ k h. let ne : k ≢ i = omega arith in rw (c.put.ensures, get_or-set_other) (c.loop-j.invariant.done k h))
          (rw (c.put.ensures, get_or-set_same) (simp (to_z-of_z x, to_z-of_z c.ranges.sign, to_z-of_z f)));
      left = λ k h. let ne : k ≢ i = omega arith in rw (c.put.ensures, get_or-set_other) (c.loop-j.invariant.left k (omega arith));
      width = search rules;
    }

use Rattle.std.proofs.Common.{◌∙◌, ap, sym, subst, refl, arith, below_more, length, List, ℤ}
use Rattle.slice_num.specs.Rational.{Fits}
use Rattle.slice_linear.specs.Sums.{at}
use Rattle.slice_tableau.proofs.FirstLaws.{coefs_is}
use Rattle.slice_simplex.proofs.tests.are_rows.Goals as goal

pub loop-k-preserved : goal.loop-k-preserved
loop-k-preserved c =
    let e = coefs_is c.args.rows.now c.loop-k.k c.index-rows-k.result (omega arith) c.index-rows-k.is in
    record {
      each = below_more _ _ c.loop-k.invariant.each (
        ap length e ∙ c.if-not-is_over.ensures.width refl,
        (λ j. subst (λ (x : List ℤ). Fits (at x j)) (sym e) (c.if-not-is_over.ensures.fit refl j)),
      );
    }

pub returns : goal.returns
returns c =
    let e = coefs_is c.args.rows.now 0 c.index-rows-0.result (omega arith) c.index-rows-0.is in
    let wide = ap length e ∙ sym (ap length c.coefs-wide.ensures) in
    λ _. record {
      some_row = omega arith;
      some_unknown = omega (arith, wide);
      widths = λ i lt. (c.loop-k.invariant.each i (omega arith)).0 ∙ sym wide;
      fit = λ i j lt. (c.loop-k.invariant.each i (omega arith)).1 j;
    }

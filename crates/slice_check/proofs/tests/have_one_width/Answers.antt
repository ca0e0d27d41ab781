use Rattle.std.proofs.Common.{◌∙◌, ap, sym, refl, arith, below_more, length}
use Rattle.slice_check.proofs.RowsAt.{coefs_of}
use Rattle.slice_check.proofs.tests.have_one_width.Goals as goal

pub loop-k-preserved : goal.loop-k-preserved
loop-k-preserved c =
    let e = coefs_of c.args.rows.now c.loop-k.k c.index-rows-k.result (omega arith) c.index-rows-k.is in
    below_more _ _ c.loop-k.invariant (ap length e ∙ c.if-not-is_over.ensures refl)

pub returns : goal.returns
returns c =
    let e = coefs_of c.args.rows.now 0 c.index-rows-0.result (omega arith) c.index-rows-0.is in
    let wide = ap length e ∙ sym (ap length c.coefs-wide.ensures) in
    λ _ i lt. c.loop-k.invariant i (omega arith) ∙ sym wide

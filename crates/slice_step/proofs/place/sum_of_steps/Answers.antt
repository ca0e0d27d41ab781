use Rattle.std.proofs.Common.{arith}
use Rattle.slice_step.proofs.Walk.{passed, total_passed}
use Rattle.slice_step.proofs.place.sum_of_steps.Goals as goal

pub loop-i-preserved : goal.loop-i-preserved
loop-i-preserved c =
    let w = c.loop-i in
    let es = c.args.ends.now in
    let hs = c.args.heights.now in
    let h = passed w.sum w.start w.i es hs c.requires.small (omega arith) w.invariant.high w.invariant.rises in
    record {
      same = omega (arith, total_passed w.start w.i es hs h.in_ends h.in_heights, w.invariant.same);
      high = h.high;
      near = h.near;
      rises = h.rises;
    }

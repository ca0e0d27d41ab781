use Rattle.std.proofs.Common.{◌≡◌, ◌∙◌, ◌+◌, ◌*◌, ◌-◌, get_or, false, arith}
use Rattle.std.proofs.lemmas.Grind.{common_steps}
use Rattle.slice_step.specs.ValuationShape.{steps}
use Rattle.slice_step.specs.Arithmetic.{reaches}
use Rattle.slice_step.proofs.Steps.{reached_in-is}
use Rattle.slice_step.proofs.Walk.{passed, reached_passed}
use Rattle.slice_step.proofs.place.reached.Goals as goal

pub loop-i-preserved : goal.loop-i-preserved
loop-i-preserved c =
    let w = c.loop-i in
    let es = c.args.ends.now in
    let hs = c.args.heights.now in
    let t : reaches w.base (w.base + get_or hs w.i 0 * (get_or es w.i 0 - w.start)) c.args.target.now ≡ false = grind (arith, common_steps) in
    let h = passed w.base w.start w.i es hs c.requires.small (omega arith) w.invariant.high w.invariant.rises in
    record {
      same = reached_passed w.base w.start w.i es hs c.args.target.now h.in_ends h.in_heights t ∙ w.invariant.same;
      high = h.high;
      near = h.near;
      rises = h.rises;
    }

pub loop-i-init : goal.loop-i-init
loop-i-init c = record {
  same = reached_in-is (steps c.args.ends.now c.args.heights.now) c.args.target.now c.requires.small.0.same_length;
  high = omega arith;
  near = omega arith;
  rises = c.requires.small.0.rises;
}

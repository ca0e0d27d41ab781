use Rattle.std.proofs.Common.{◌≤◌, ◌<◌, ◌+◌, ℕ, length, arith}
use Rattle.slice_counter.specs.Marks.{moved}
use Rattle.slice_counter.proofs.Steps.{mapped_step, holds_there}
use Rattle.slice_counter.proofs.trail.move_parts.Goals as goal

pub moved-requires : goal.moved-requires
moved-requires c =
    let at = c.loop-part in
    let here : at.part-index < length at.part-items = omega (arith, at.auto.part-items, c.loop-part-test.true) in
    holds_there (λ (n : ℕ). n ≤ 64) at.part-items c.args.parts.now.items at.part-index 0 here at.invariant.left c.requires

pub loop-part-preserved : goal.loop-part-preserved
loop-part-preserved c =
    let at = c.loop-part in
    let here : at.part-index < length at.part-items = omega (arith, at.auto.part-items, c.loop-part-test.true) in
    let both = mapped_step (moved c.args.atom) at.part-items c.args.parts.now.items at.part-index (at.part-index + 1) c.moved.result 0 (omega arith) here at.invariant.done at.invariant.left c.moved.ensures in
    record { done = both.0; left = both.1 }

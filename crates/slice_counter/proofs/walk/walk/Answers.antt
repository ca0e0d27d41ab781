use Rattle.std.proofs.Common.{◌∙◌, ◌+◌, ap, sym, length, arith}
use Rattle.slice_core.specs.Cores.{core_of}
use Rattle.slice_core.specs.Nodes.{tree_of}
use Rattle.slice_paths.specs.Ways.{way_of}
use Rattle.slice_counter.specs.Marks.{Tells}
use Rattle.slice_counter.proofs.Starting.{starts}
use Rattle.slice_counter.proofs.walk.walk.Goals as goal

pub loop-trail-init : goal.loop-trail-init
loop-trail-init c = record {
  within = omega arith;
  leads = starts (core_of c.args.core.now) (tree_of c.root-node.result.now) c.args.trace.now c.in_ok-trail.trail c.in_ok-trail.ensures.pieces c.in_ok-trail.ensures.cuts c.agents-formed.ensures.formed.few_cuts c.root-node.ensures;
}

pub loop-trail-preserved : goal.loop-trail-preserved
loop-trail-preserved c =
    let on = (rw c.in-On.is at c.in_ok-next.ensures) (way_of (core_of c.args.core.now) c.args.trace.now) c.loop-trail.invariant.leads in
    record { within = on.0; leads = on.2 }

pub loop-trail-smaller : goal.loop-trail-smaller
loop-trail-smaller c =
    let on = (rw c.in-On.is at c.in_ok-next.ensures) (way_of (core_of c.args.core.now) c.args.trace.now) c.loop-trail.invariant.leads in
    on.1

pub step-requires-clause-leads : goal.step-requires-clause-leads
step-requires-clause-leads c = (way_of (core_of c.args.core.now) c.args.trace.now, c.loop-trail.invariant.leads)

pub returns-in-Ends-clause-marks : goal.returns-in-Ends-clause-marks
returns-in-Ends-clause-marks c =
    let end : Tells (way_of (core_of c.args.core.now) c.args.trace.now) c.step.new.trail = (rw c.in-Ends.is at c.in_ok-next.ensures) (way_of (core_of c.args.core.now) c.args.trace.now) c.loop-trail.invariant.leads in
    ap (λ v. v.items) c.into_cuts.ensures ∙ end.marks

pub returns-in-Ends-clause-atoms : goal.returns-in-Ends-clause-atoms
returns-in-Ends-clause-atoms c =
    let end : Tells (way_of (core_of c.args.core.now) c.args.trace.now) c.step.new.trail = (rw c.in-Ends.is at c.in_ok-next.ensures) (way_of (core_of c.args.core.now) c.args.trace.now) c.loop-trail.invariant.leads in
    end.atoms ∙ ap (λ v. 1 + length v.items) (sym c.into_cuts.ensures)

pub returns-in-Ends-clause-few : goal.returns-in-Ends-clause-few
returns-in-Ends-clause-few c =
    let end : Tells (way_of (core_of c.args.core.now) c.args.trace.now) c.step.new.trail = (rw c.in-Ends.is at c.in_ok-next.ensures) (way_of (core_of c.args.core.now) c.args.trace.now) c.loop-trail.invariant.leads in
    omega (arith, end.few, ap (λ v. length v.items) c.into_cuts.ensures)

use Rattle.std.proofs.Common.{arith, refl, subst}
use Rattle.slice_core.specs.Nodes.{tree_of}
use Rattle.slice_linear.specs.declared.row.RowKind.{RowKind}
use Rattle.slice_num.specs.declared.choice.Choice.TheVariants as choice
use Rattle.slice_paths.specs.Steps.{IsPassed}
use Rattle.slice_paths.proofs.WalkSteps.{no_armed, no_breaks}
use Rattle.slice_paths.proofs.walk.take_no.Goals as goal

pub returns-in-Err-clause-err : goal.returns-in-Err-clause-err
returns-in-Err-clause-err c =
    let t = c.args.test in
    no_breaks t.left t.right t.strict (tree_of t.next.now) c.args.spot.atoms.agents c.args.spot c.in-Err.fault refl c.requires c.in-Err.ensures.err

pub returns-clause-ok : goal.returns-clause-ok
returns-clause-ok c =
    let t = c.args.test in
    let o = no_armed t.left t.right t.strict (tree_of t.next.now) c.args.spot.atoms.agents c.args.spot c.pass.new.self refl c.requires
    (subst (λ (kind : RowKind). IsPassed kind t.right t.left choice.No c.args.spot c.pass.new.self) c.no_kind-kind.ensures c.in-Ok.ensures.ok) c.in-Ok.ensures.tally in
    record { comes = o.comes; ready = o.ready; fewer = omega arith }

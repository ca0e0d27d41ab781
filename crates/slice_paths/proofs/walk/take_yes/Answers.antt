use Rattle.std.proofs.Common.{◌++◌, List, arith, ap}
use Rattle.slice_core.specs.Nodes.{tree_of}
use Rattle.slice_paths.specs.Ahead.{no_from}
use Rattle.slice_paths.specs.Events.{Event}
use Rattle.slice_paths.specs.Spots.{form_of, regs_of, way_of}
use Rattle.slice_paths.proofs.WalkSteps.{yes_from, yes_breaks_from}
use Rattle.slice_paths.proofs.walk.take_yes.Goals as goal

pub returns-in-Err-pass-clause-err : goal.returns-in-Err-pass-clause-err
returns-in-Err-pass-clause-err c =
    let t = c.args.test in
    yes_breaks_from t.left t.right t.strict (tree_of c.args.yes.now) (tree_of t.next.now) c.args.spot c.in-Ok.at_yes c.in-Err-pass.fault c.in-Ok.ensures c.requires c.in-Err-pass.ensures.err

pub returns-clause-ok : goal.returns-clause-ok
returns-clause-ok c =
    let t = c.args.test in
    let s = c.args.spot in
    let h = c.requires in
    let o = yes_from t.left t.right t.strict (tree_of c.args.yes.now) (tree_of t.next.now) s c.in-Ok.at_yes c.pass.new.self c.yes_kind-kind.result c.in-Ok.ensures c.yes_kind-kind.ensures h c.in-Ok-pass.ensures.ok c.in-Ok-pass.ensures.tally in
    record {
      comes = ap (λ (es : List Event). es ++ no_from s.atoms.agents (form_of s.atoms t.left) (form_of s.atoms t.right) t.strict (tree_of t.next.now) (regs_of s) (way_of s)) o.comes;
      ready = (record { known = h.known; left_over = h.left_over; right_over = h.right_over; goes = h.no_goes }, o.ready);
      fewer = omega arith;
    }

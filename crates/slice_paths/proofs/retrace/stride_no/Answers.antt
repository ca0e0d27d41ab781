use Rattle.std.proofs.Common.{arith, false, sym, subst}
use Rattle.slice_core.specs.Nodes.{tree_of}
use Rattle.slice_linear.specs.declared.row.RowKind.{RowKind}
use Rattle.slice_num.specs.declared.choice.Choice.TheVariants as choice
use Rattle.slice_paths.specs.Steps.{IsPassed}
use Rattle.slice_paths.specs.Walking.{CanGo}
use Rattle.slice_paths.proofs.GoLaws.{tests_no}
use Rattle.slice_paths.proofs.RetraceLaws.{no_strode, arm_long}
use Rattle.slice_paths.proofs.retrace.stride_no.Goals as goal

pub returns : goal.returns
returns c = λ n at_yes cs old h taken.
    (let a = c.args in
    let s = a.spot in
    let next = tree_of a.no.now in
    let x = c.in-Ok.ensures.left in
    let y = c.in-Ok.ensures.right in
    let t = c.pass.new.self in
    let l = (x s.atoms s.atoms.agents h.known.numbering h.known.regs).0.within in
    let r = (y s.atoms s.atoms.agents h.known.numbering h.known.regs).0.within in
    let k = subst (λ (kind : RowKind). IsPassed kind c.in-Ok.test.right c.in-Ok.test.left choice.No s t) c.no_kind-kind.ensures c.in-Ok-pass.ensures.ok h.known r l in
    record {
      ready = record { known = k.known; goes = subst (CanGo n next) (sym c.in-Ok-pass.ensures.tally) (tests_no n a.left.now a.right.now a.strict at_yes next _ h.goes) };
      deeper = omega arith;
      made = arm_long cs false taken;
      all_ready = λ z. z;
      strode = λ fs ks ds at. no_strode n a.left.now a.right.now a.strict at_yes next s t c.in-Ok.test.left c.in-Ok.test.right h.known x y cs old fs ks ds at k taken;
    })

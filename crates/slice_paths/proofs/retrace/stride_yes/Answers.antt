use Rattle.std.proofs.Common.{◌≡◌, ◌∙◌, true, arith, sym, ap, subst}
use Rattle.slice_core.specs.Nodes.{tree_of}
use Rattle.slice_core.specs.Tree.{Tree}
use Rattle.slice_linear.specs.declared.row.RowKind.{RowKind}
use Rattle.slice_num.specs.declared.choice.Choice.TheVariants as choice
use Rattle.slice_paths.specs.Ahead.{no_from}
use Rattle.slice_paths.specs.Spots.{Known, tally_of, form_of, regs_of, way_of}
use Rattle.slice_paths.specs.Steps.{IsPassed}
use Rattle.slice_paths.specs.Places.{yes_kind}
use Rattle.slice_paths.specs.Walking.{CanGo, AllReady}
use Rattle.slice_paths.specs.declared.frames.Frame.{Frame}
use Rattle.slice_paths.specs.declared.frames.Rest.TheVariants as rest
use Rattle.slice_paths.proofs.GoLaws.{tests_yes, tests_no}
use Rattle.slice_paths.proofs.RetraceLaws.{yes_strode, arm_long}
use Rattle.slice_paths.proofs.StreamLaws.{ready_put}
use Rattle.slice_paths.proofs.retrace.stride_yes.Goals as goal

pub returns : goal.returns
returns c = λ n cs h taken.
    (let a = c.args in
    let s = a.spot in
    let next = tree_of a.yes.now in
    let other = tree_of a.no.now in
    let test = c.in-Ok.test in
    let x = c.in-Ok.ensures.left in
    let y = c.in-Ok.ensures.right in
    let t = c.pass.new.self in
    let l = (x s.atoms s.atoms.agents h.known.numbering h.known.regs).0.within in
    let r = (y s.atoms s.atoms.agents h.known.numbering h.known.regs).0.within in
    let same = c.in-Ok-copy.ensures in
    let p = subst (λ (kind : RowKind). IsPassed kind test.left test.right choice.Yes c.in-Ok-copy.at_yes t) c.yes_kind-kind.ensures c.in-Ok-pass.ensures.ok in
    let k = subst (λ (z : Known). IsPassed (yes_kind a.strict) test.left test.right choice.Yes z t) same p h.known l r in
    let behind : Frame = record { rest = rest.No test; spot = s } in
    let same_no : tree_of test.next.now ≡ other = λ i. tree_of (c.in-Ok.ensures.next i).now in
    let goes_no = subst (λ (z : Tree). CanGo n z (tally_of s)) (sym same_no) (tests_no n a.left.now a.right.now a.strict next other _ h.goes) in
    record {
      ready = record { known = k.known; goes = subst (CanGo n next) (sym (c.in-Ok-pass.ensures.tally ∙ ap tally_of same)) (tests_yes n a.left.now a.right.now a.strict next other _ h.goes) };
      deeper = omega arith;
      made = arm_long cs true taken;
      all_ready = λ z. subst (AllReady n) (sym c.in-Ok-put_frame.ensures.ok) (ready_put n a.behind.now.items behind z (record { known = h.known; left_over = l; right_over = r; goes = goes_no }));
      strode = λ fs ks ds at.
          yes_strode n a.left.now a.right.now a.strict next other s t test.left test.right h.known x y cs a.behind.now.items fs ks ds at c.put_frame.new.frames.items behind k taken c.in-Ok-put_frame.ensures.ok
          (λ i. no_from n (form_of s.atoms test.left) (form_of s.atoms test.right) (c.in-Ok.ensures.strict i) (same_no i) (regs_of s) (way_of s));
    })

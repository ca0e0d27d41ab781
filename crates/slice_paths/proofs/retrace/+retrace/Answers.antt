use Rattle.std.proofs.Common.{◌≡◌, ◌-◌, suc, arith}
use Rattle.slice_core.specs.Nodes.{tree_of}
use Rattle.slice_atoms.proofs.Items.{all_ok}
use Rattle.slice_paths.proofs.RetraceAll.{none_passed, too_short, strode_on}
use Rattle.slice_paths.proofs.retrace.+retrace.Goals as goal

pub returns-then-passed-eq0 : goal.returns-then-passed-eq0
returns-then-passed-eq0 t c = none_passed c.args.agents c.args.passed (tree_of c.args.node.now) c.args.spot c.args.choices.now c.args.behind.now.items (omega (arith, c.if-passed-eq0.true)) c.requires

pub returns-in-Ok-None : goal.returns-in-Ok-None
returns-in-Ok-None t c =
    let e : c.args.passed ≡ suc (c.args.passed - 1) = omega (arith, c.if-passed-eq0.false) in
    let none = rw c.in-Ok-None.field-0-is at c.in-Ok-None.ensures in
    too_short (c.args.passed - 1) c.args.passed (tree_of c.args.node.now) c.args.spot c.args.choices.now e none

pub returns-in-Ok-Some : goal.returns-in-Ok-Some
returns-in-Ok-Some t c =
    let a = c.args in
    let e : a.passed ≡ suc (a.passed - 1) = omega (arith, c.if-passed-eq0.false) in
    let on = c.in-Ok-Some.on in
    let strides = rw c.in-Ok-Some.field-0-is at c.in-Ok-Some.ensures in
    all_ok c.retrace.result _ _
    (λ o f. strode_on a.agents (a.passed - 1) a.passed c.still-left.result (tree_of a.node.now) a.spot a.choices.now c.choices_after-rest.result.now a.behind.now.items c.go_on.new.behind.items c.retrace.new.behind.items on o e
    (c.still-left.ensures (a.passed - 1) (omega (arith, c.if-passed-eq0.false))) c.choices_after-rest.ensures strides f) c.retrace.ensures

use Rattle.std.proofs.Common.{◌≡◌, length, true, false, refl, arith, Err}
use Rattle.std.proofs.lemmas.Grind.{common_steps}
use Rattle.slice_core.specs.Nodes.{tree_of}
use Rattle.slice_run.specs.Steps.{test_tree}
use Rattle.slice_run.specs.Tables.{board_of}
use Rattle.slice_run.proofs.Ready.{ready_yes, ready_no}
use Rattle.slice_run.proofs.Walking.{walk_tests, test_faults, if_err_from}
use Rattle.slice_run.proofs.run.arm.Goals as goal

pub returns-then-branch-clause-ok : goal.returns-then-branch-clause-ok
returns-then-branch-clause-ok c vs answers =
    let t = c.args.table.now in
    walk_tests vs (test_tree c.args.left.now c.args.right.now c.args.strict c.args.yes.now c.args.no.now) (tree_of c.args.yes.now) (tree_of c.args.no.now) c.args.left.now c.args.right.now c.args.strict t.registers.items answers (board_of t) true refl (rw c.if-branch.true at c.in_ok-test.ensures.ok)

pub returns-then-branch-clause-ready : goal.returns-then-branch-clause-ready
returns-then-branch-clause-ready c agents ready =
    let t = c.args.table.now in (
      ready_yes agents (length t.registers.items) c.args.left.now c.args.right.now c.args.strict (test_tree c.args.left.now c.args.right.now c.args.strict c.args.yes.now c.args.no.now) (tree_of c.args.yes.now) (tree_of c.args.no.now) (board_of t) refl ready,
      omega arith,
    )

pub returns-else-branch-clause-ok : goal.returns-else-branch-clause-ok
returns-else-branch-clause-ok c vs answers =
    let t = c.args.table.now in
    walk_tests vs (test_tree c.args.left.now c.args.right.now c.args.strict c.args.yes.now c.args.no.now) (tree_of c.args.yes.now) (tree_of c.args.no.now) c.args.left.now c.args.right.now c.args.strict t.registers.items answers (board_of t) false refl (rw c.if-branch.false at c.in_ok-test.ensures.ok)

pub returns-else-branch-clause-ready : goal.returns-else-branch-clause-ready
returns-else-branch-clause-ready c agents ready =
    let t = c.args.table.now in (
      ready_no agents (length t.registers.items) c.args.left.now c.args.right.now c.args.strict (test_tree c.args.left.now c.args.right.now c.args.strict c.args.yes.now c.args.no.now) (tree_of c.args.yes.now) (tree_of c.args.no.now) (board_of t) refl ready,
      omega arith,
    )

pub returns-in_err-test-clause-err : goal.returns-in_err-test-clause-err
returns-in_err-test-clause-err c =
    let t = c.args.table.now in
    let e : c.from_residual.result ≡ Err c.in_err-test.field-0.0 = grind (arith, common_steps) in
    if_err_from c.from_residual.result c.in_err-test.field-0.0 _ e
    (λ vs answers. test_faults vs (test_tree c.args.left.now c.args.right.now c.args.strict c.args.yes.now c.args.no.now) (tree_of c.args.yes.now) (tree_of c.args.no.now) c.args.left.now c.args.right.now c.args.strict t.registers.items answers (board_of t) c.in_err-test.field-0.0 refl c.in_err-test.ensures.err)

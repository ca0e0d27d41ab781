use Rattle.std.proofs.Common.{rules, ap, ◌∙◌}
use Rattle.slice_ast.proofs.Rows.{code-turn, code-end, open_marks-taken, if-written, head_of-If}
use Rattle.slice_ast.specs.View.{head_of}
use Rattle.slice_ast.proofs.walk.+blocks.Goals as goal
use Rattle.slice_ast.proofs.TakingLemmas.{on_ok}

pub write_block-loop-stmt-preserved : goal.write_block-loop-stmt-preserved
write_block-loop-stmt-preserved g t c =
    let turn = code-turn g.T.TakesTokens.after c.loop-stmt.out c.as_slice-stmt-items.result.now c.loop-stmt.stmt-index c.stmt-item.result c.loop-stmt-test.true c.stmt-item.is in
    let e = c.loop-stmt.invariant in
    let b = c.in_ok-write_stmt.ensures in
    cc

pub write_block-returns : goal.write_block-returns
write_block-returns g t c =
    let e = c.loop-stmt.invariant in
    let d = code-end g.T.TakesTokens.after c.loop-stmt.out c.as_slice-stmt-items.result.now c.loop-stmt.stmt-index c.loop-stmt-test.false in
    let p = open_marks-taken g.T.TakesTokens.after c.args.out.now c.args.block.now in
    let q = c.as_slice.ensures in
    let r = c.as_slice-stmt-items.ensures in
    let b = c.in_ok-put.ensures in
    on_ok c.write_yields.result (λ h. cc) c.write_yields.ensures

pub write_stmt-returns-in_ok-write_block-in-If-2 : goal.write_stmt-returns-in_ok-write_block-in-If-2
write_stmt-returns-in_ok-write_block-in-If-2 g t c =
    if-written g.T.TakesTokens.after c.args.out.now c.write_test.new.out c.write_block.new.out c.put.new.self c.put-in-If.new.self c.write_block-in-If.new.out c.write_if_end.new.out
    c.args.stmt.now c.in-If.left c.in-If.cmp c.in-If.right c.in-If.yes c.in-If.no c.in-If.names c.in-If.end c.write_if_end.result
    (ap head_of c.in-If.is ∙ head_of-If c.in-If.left c.in-If.cmp c.in-If.right c.in-If.yes c.in-If.no c.in-If.names c.in-If.end)
    (search rules) (search rules) (search rules) (search rules) (search rules) (search rules)

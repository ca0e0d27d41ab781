use Rattle.slice_ast.proofs.Rows.{code-turn, code-end}
use Rattle.slice_ast.proofs.walk.write_protocol.Goals as goal
use Rattle.std.proofs.Common.{◌∷◌, [], codes}
use Rattle.slice_ast.specs.Tokens.{code_marks, Plain}
use Rattle.slice_ast.specs.View.{code_of}
use Rattle.slice_ast.proofs.TakingLemmas.{on_ok, taken-append}

pub loop-stmt-preserved : goal.loop-stmt-preserved
loop-stmt-preserved g c =
    let turn = code-turn g.T.TakesTokens.after c.loop-stmt.out c.args.body.now c.loop-stmt.stmt-index c.stmt-item.result c.loop-stmt-test.true c.stmt-item.is in
    let e = c.loop-stmt.invariant in
    let b = c.in_ok-write_stmt.ensures in
    cc

pub returns : goal.returns
returns g c =
    let d = code-end g.T.TakesTokens.after c.loop-stmt.out c.args.body.now c.loop-stmt.stmt-index c.loop-stmt-test.false in
    let e = c.loop-stmt.invariant in
    let p = taken-append g.T.TakesTokens.after c.put-3.new.self (code_marks (code_of c.args.body.now)) (Plain (codes "}") ∷ []) in
    let b1 = c.in_ok-put.ensures in
    let b2 = c.in_ok-write.ensures in
    let b3 = c.in_ok-put-2.ensures in
    let b4 = c.in_ok-put_number.ensures in
    let b5 = c.in_ok-put-3.ensures in
    on_ok c.put-4.result (λ h. cc) c.put-4.ensures

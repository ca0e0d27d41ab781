use Rattle.slice_ast.proofs.Rows.{procs-turn, procs-end}
use Rattle.slice_ast.proofs.walk.ProgramWritten.write.Goals as goal
use Rattle.std.proofs.Common.{map}
use Rattle.slice_ast.specs.Tokens.{procs_marks, protocol_marks}
use Rattle.slice_ast.specs.View.{proc_of, code_of}
use Rattle.slice_ast.proofs.TakingLemmas.{on_ok, taken-append}

pub loop-proc-preserved : goal.loop-proc-preserved
loop-proc-preserved g c =
    let turn = procs-turn g.T.TakesTokens.after c.loop-proc.out c.as_slice-proc-items.result.now c.loop-proc.proc-index c.proc-item.result c.loop-proc-test.true c.proc-item.is in
    let e = c.loop-proc.invariant in
    let b = c.in_ok-write.ensures in
    cc

pub returns : goal.returns
returns g c =
    let d = procs-end g.T.TakesTokens.after c.loop-proc.out c.as_slice-proc-items.result.now c.loop-proc.proc-index c.loop-proc-test.false in
    let e = c.loop-proc.invariant in
    let p = taken-append g.T.TakesTokens.after c.args.out.now (procs_marks (map proc_of c.args.self.now.procs)) (protocol_marks c.args.self.now.name c.args.self.now.agents (code_of c.args.self.now.body)) in
    let q = c.as_slice.ensures in
    let r = c.as_slice-proc-items.ensures in
    on_ok c.write_protocol.result (λ h. cc) c.write_protocol.ensures

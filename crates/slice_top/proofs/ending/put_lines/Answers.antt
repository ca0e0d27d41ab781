use Rattle.std.proofs.Common.{arith, ◌+◌}
use Rattle.slice_top.proofs.Endings.{line_put, front_put, on_err}
use Rattle.slice_top.proofs.ending.put_lines.Goals as goal

pub loop-from-preserved : goal.loop-from-preserved
loop-from-preserved g c = record {
  within = omega (arith, c.line_length.ensures.within);
  later = omega (arith, c.in_ok-put_all.ensures.cause.later);
  out = line_put _ _ _ c.args.bytes.now c.loop-from.from (c.loop-from.from + c.line_length.result) (omega arith) c.loop-from.invariant.out c.in_ok-put_all.ensures.all;
}

pub returns-in_err-put_all-clause-front : goal.returns-in_err-put_all-clause-front
returns-in_err-put_all-clause-front g c =
    on_err c.from_residual.result
    (front_put _ _ _ c.args.bytes.now c.loop-from.from (c.loop-from.from + c.line_length.result) (omega arith) (omega (arith, c.line_length.ensures.within)) c.loop-from.invariant.out c.in_err-put_all.ensures.front)

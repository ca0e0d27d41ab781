use Rattle.slice_cert.specs.declared.line.Line.TheVariants.{Closing}
use Rattle.slice_check.proofs.Passing.{if_err}
use Rattle.slice_check.proofs.WholeLines.{line_halts, no_lines}
use Rattle.slice_check.proofs.upgrade.close.Goals as goal

pub returns-in-Err-clause-lines_so_far : goal.returns-in-Err-clause-lines_so_far
returns-in-Err-clause-lines_so_far g c = no_lines (g.K.Sink.told c.args.sink.now)

pub returns-clause-lines_so_far : goal.returns-clause-lines_so_far
returns-clause-lines_so_far g c =
    if_err c.put_line.result _ _ (λ h x. line_halts (g.K.Sink.told c.args.sink.now) (g.K.Sink.told c.put_line.new.sink) (Closing c.args.count) h x) c.put_line.ensures.halts

use Rattle.std.proofs.Common.{refl}
use Rattle.slice_cert.specs.declared.line.Line.TheVariants.{Header}
use Rattle.slice_core.specs.Cores.{core_of}
use Rattle.slice_check.proofs.Passing.{if_err}
use Rattle.slice_check.proofs.Upgraded.{begin_halts}
use Rattle.slice_check.proofs.WholeLines.{line_halts, no_lines}
use Rattle.slice_check.proofs.upgrade.begin.Goals as goal

pub returns-in-Err-clause-halt : goal.returns-in-Err-clause-halt
returns-in-Err-clause-halt g c file told s = ((c.in-Err.ensures {u = tt}).stop file told s, refl)

pub returns-clause-halt : goal.returns-clause-halt
returns-clause-halt g c = if_err c.put_header.result _ _ (λ h x file told s.
    let r = (c.in_default.ensures {u = tt}).stands file told s in
    begin_halts (core_of c.args.core.now) file (g.K.Sink.told c.args.sink.now) (g.K.Sink.told c.put_header.new.sink) h r.0.stands.header x) c.put_header.ensures.halts

pub returns-in-Err-clause-lines_so_far : goal.returns-in-Err-clause-lines_so_far
returns-in-Err-clause-lines_so_far g c = no_lines (g.K.Sink.told c.args.sink.now)

pub returns-clause-lines_so_far : goal.returns-clause-lines_so_far
returns-clause-lines_so_far g c = if_err c.put_header.result _ _ (λ h x. line_halts (g.K.Sink.told c.args.sink.now) (g.K.Sink.told c.put_header.new.sink) (Header 2 (core_of c.args.core.now).name (core_of c.args.core.now).agents) h x) c.put_header.ensures.halts

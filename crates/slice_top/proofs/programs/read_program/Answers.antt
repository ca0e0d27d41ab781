use Rattle.std.proofs.Common.{subst, sym}
use Rattle.slice_top.specs.Programs.{RefusesText}
use Rattle.slice_top.specs.Stops.{StopsFor}
use Rattle.slice_top.proofs.Faults.{stops_text}
use Rattle.slice_top.proofs.programs.read_program.Goals as goal

pub returns-in-Err-clause-err : goal.returns-in-Err-clause-err
returns-in-Err-clause-err c = subst (StopsFor (RefusesText c.args.text.now)) (sym c.text_stop.ensures) (stops_text c.args.text.now c.in-Err.fault c.in-Err.ensures.fault)

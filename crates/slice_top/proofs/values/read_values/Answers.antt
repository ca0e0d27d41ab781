use Rattle.std.proofs.Common.{subst, sym}
use Rattle.slice_top.specs.Values.{RefusesValues}
use Rattle.slice_top.specs.Stops.{StopsFor}
use Rattle.slice_top.proofs.Faults.{stops_values}
use Rattle.slice_top.proofs.values.read_values.Goals as goal

pub returns-in-Err-clause-err : goal.returns-in-Err-clause-err
returns-in-Err-clause-err c =
    subst (StopsFor (RefusesValues c.args.bytes.now c.args.agents)) (sym c.values_stop.ensures) (stops_values c.args.bytes.now c.args.agents c.in-Err.fault c.in-Err.ensures.fault)

use Rattle.std.proofs.Common.{subst, sym}
use Rattle.slice_top.specs.Values.{RefusesReplay}
use Rattle.slice_top.specs.Stops.{StopsFor}
use Rattle.slice_top.proofs.Faults.{stops_replay}
use Rattle.slice_top.proofs.values.read_answers.Goals as goal

pub returns-in-Err-clause-err : goal.returns-in-Err-clause-err
returns-in-Err-clause-err c =
    subst (StopsFor (RefusesReplay c.args.bytes.now c.args.agents)) (sym c.values_stop.ensures) (stops_replay c.args.bytes.now c.args.agents c.in-Err.fault c.in-Err.ensures.fault)

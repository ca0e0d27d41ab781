use Rattle.std.proofs.Common.{subst, sym, refl}
use Rattle.slice_core.specs.Cores.{core_of}
use Rattle.slice_run.specs.Outcomes.{told_of}
use Rattle.slice_run.specs.Walk.{Least, outcome}
use Rattle.slice_top.specs.Stops.{StopsFor}
use Rattle.slice_top.specs.Runs.{RefusesRun}
use Rattle.slice_top.specs.Answers.{IsOutcome, stops, refused}
use Rattle.slice_top.proofs.Faults.{stops_run}
use Rattle.slice_top.proofs.Stages.{stops_for}
use Rattle.slice_top.proofs.Outcomes.{line_told, line_worked, memory_stops}
use Rattle.slice_top.proofs.runs.tell_least.Goals as goal

pub returns-in-Ok-clause-worked : goal.returns-in-Ok-clause-worked
returns-in-Ok-clause-worked c = line_worked (told_of c.in-Ok.outcome) c.tell.result c.tell.ensures.ok

pub returns-in-Ok-clause-ok : goal.returns-in-Ok-clause-ok
returns-in-Ok-clause-ok c = line_told (outcome c.args.valuations.now (core_of c.args.core.now) Least) (told_of c.in-Ok.outcome) c.tell.result c.in-Ok.ensures.ok c.tell.ensures.ok

pub returns-in-Ok-clause-err : goal.returns-in-Ok-clause-err
returns-in-Ok-clause-err c = memory_stops (λ r. IsOutcome (outcome c.args.valuations.now (core_of c.args.core.now) Least) (refused r)) c.tell.result c.tell.ensures.err

pub returns-in-Err-clause-err : goal.returns-in-Err-clause-err
returns-in-Err-clause-err c =
    let w = outcome c.args.valuations.now (core_of c.args.core.now) Least in
    stops_for (RefusesRun w) (λ r. IsOutcome w (refused r)) (λ r h. stops r h refl) c.run_stop.result
    (subst (StopsFor (RefusesRun w)) (sym c.run_stop.ensures) (stops_run w c.in-Err.fault c.in-Err.ensures.err))

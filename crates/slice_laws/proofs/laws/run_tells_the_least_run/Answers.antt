use Rattle.slice_laws.proofs.ToldRuns.{run_tells, run_stops}
use Rattle.slice_laws.proofs.laws.run_tells_the_least_run.Goals as goal

pub returns-clause-told : goal.returns-clause-told
returns-clause-told c = run_tells

pub returns-clause-stops : goal.returns-clause-stops
returns-clause-stops c = run_stops

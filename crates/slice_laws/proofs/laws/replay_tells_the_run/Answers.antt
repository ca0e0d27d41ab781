use Rattle.slice_laws.proofs.ToldRuns.{replay_tells, replay_refuses}
use Rattle.slice_laws.proofs.laws.replay_tells_the_run.Goals as goal

pub returns-clause-told : goal.returns-clause-told
returns-clause-told c = replay_tells

pub returns-clause-refused : goal.returns-clause-refused
returns-clause-refused c = replay_refuses

use Rattle.slice_laws.proofs.Replayed.{replayed}
use Rattle.slice_laws.proofs.replay_law.replay_tells_the_counterexample.Goals as goal

pub returns : goal.returns
returns c = replayed c.parsings_are_unique.ensures.read

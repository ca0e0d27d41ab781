use Rattle.slice_counter.proofs.Counters.{solutions_give_counterexamples}
use Rattle.slice_counter.proofs.laws.solutions_give_counterexamples.Goals as goal

pub returns : goal.returns
returns c = solutions_give_counterexamples

use Rattle.slice_counter.proofs.Unfair.{counterexamples_are_unfair}
use Rattle.slice_counter.proofs.laws.counterexamples_are_unfair.Goals as goal

pub returns : goal.returns
returns c = counterexamples_are_unfair

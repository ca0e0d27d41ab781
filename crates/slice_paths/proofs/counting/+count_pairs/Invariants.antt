use Rattle.slice_paths.specs.Walking.{pair_steps}
use Rattle.slice_paths.proofs.counting.+count_pairs.Given as goal

abbrev pub decreases-count_pairs : goal.decreases-count_pairs
decreases-count_pairs l = pair_steps l.agents l.a l.b

use Rattle.slice_laws.proofs.Refuted.{unsolved_fair, refuted_fair}
use Rattle.slice_laws.proofs.laws.refuted_goals_mean_fair_runs.Goals as goal

pub returns-clause-unsolved : goal.returns-clause-unsolved
returns-clause-unsolved c = unsolved_fair

pub returns-clause-refuted : goal.returns-clause-refuted
returns-clause-refuted c = refuted_fair

use Rattle.slice_step.proofs.Exact.{value_in-exact, share_in-exact}
use Rattle.slice_step.proofs.laws.values_are_exact.Goals as goal

pub returns-clause-value : goal.returns-clause-value
returns-clause-value c = value_in-exact

pub returns-clause-share : goal.returns-clause-share
returns-clause-share c = share_in-exact

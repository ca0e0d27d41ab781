use Rattle.slice_paths.proofs.GoodRows.{goals_behind_fit}
use Rattle.slice_paths.proofs.laws.goals_behind_fit.Goals as goal

pub returns : goal.returns
returns c = goals_behind_fit

use Rattle.slice_paths.proofs.GoalCovers.{goals_have_covers}
use Rattle.slice_paths.proofs.laws.goals_have_covers.Goals as goal

pub returns : goal.returns
returns c = goals_have_covers

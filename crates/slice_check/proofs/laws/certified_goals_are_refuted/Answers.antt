use Rattle.slice_check.proofs.Refuted.{certified_goals_are_refuted}
use Rattle.slice_check.proofs.laws.certified_goals_are_refuted.Goals as goal

pub returns : goal.returns
returns c = certified_goals_are_refuted

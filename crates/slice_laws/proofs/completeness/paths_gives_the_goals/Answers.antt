use Rattle.slice_laws.proofs.Complete.{paths_gives_the_goals}
use Rattle.slice_laws.proofs.completeness.paths_gives_the_goals.Goals as goal

pub returns : goal.returns
returns c = paths_gives_the_goals c.parsings_are_unique.ensures.read

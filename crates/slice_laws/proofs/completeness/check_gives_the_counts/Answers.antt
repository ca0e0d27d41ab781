use Rattle.slice_laws.proofs.Complete.{check_gives_the_counts}
use Rattle.slice_laws.proofs.completeness.check_gives_the_counts.Goals as goal

pub returns : goal.returns
returns c = check_gives_the_counts c.parsings_are_unique.ensures.read

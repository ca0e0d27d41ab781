use Rattle.slice_check.proofs.Farthest.{upgrades_go_on}
use Rattle.slice_check.proofs.completeness.upgrades_go_on.Goals as goal

pub returns : goal.returns
returns c = upgrades_go_on

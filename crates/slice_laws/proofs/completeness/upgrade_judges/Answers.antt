use Rattle.slice_laws.proofs.Upgraded.{upgrade_judges}
use Rattle.slice_laws.proofs.completeness.upgrade_judges.Goals as goal

pub returns : goal.returns
returns c = upgrade_judges c.parsings_are_unique.ensures.read

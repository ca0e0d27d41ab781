use Rattle.slice_laws.proofs.Judged.{certify_judges}
use Rattle.slice_laws.proofs.completeness.certify_judges.Goals as goal

pub returns : goal.returns
returns c = certify_judges c.parsings_are_unique.ensures.read

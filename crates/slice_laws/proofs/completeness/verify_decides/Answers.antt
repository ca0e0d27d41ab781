use Rattle.slice_laws.proofs.Verified.{verify_decides}
use Rattle.slice_laws.proofs.completeness.verify_decides.Goals as goal

pub returns : goal.returns
returns c = verify_decides c.parsings_are_unique.ensures.read

use Rattle.slice_laws.proofs.Verified.{verify_is_exact}
use Rattle.slice_laws.proofs.completeness.verify_is_exact.Goals as goal

pub returns : goal.returns
returns c = verify_is_exact c.parsings_are_unique.ensures.read

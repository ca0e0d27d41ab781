use Rattle.slice_check.proofs.Refuted.{certified_cores_are_fair}
use Rattle.slice_check.proofs.laws.certified_cores_are_fair.Goals as goal

pub returns : goal.returns
returns c = certified_cores_are_fair

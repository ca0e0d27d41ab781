use Rattle.slice_laws.proofs.Shown.{demo_decides}
use Rattle.slice_laws.proofs.completeness.demo_decides.Goals as goal

pub returns : goal.returns
returns c = demo_decides c.parsings_are_unique.ensures.read

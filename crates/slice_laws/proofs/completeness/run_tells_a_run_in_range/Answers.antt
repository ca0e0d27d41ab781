use Rattle.slice_laws.proofs.Complete.{run_tells_a_run_in_range}
use Rattle.slice_laws.proofs.completeness.run_tells_a_run_in_range.Goals as goal

pub returns : goal.returns
returns c = run_tells_a_run_in_range c.parsings_are_unique.ensures.read

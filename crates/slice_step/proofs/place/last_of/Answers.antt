use Rattle.slice_step.proofs.Ends.{last_end_at}
use Rattle.slice_step.proofs.place.last_of.Goals as goal

pub returns : goal.returns
returns c = last_end_at 0 c.args.ends.now 0 c.requires

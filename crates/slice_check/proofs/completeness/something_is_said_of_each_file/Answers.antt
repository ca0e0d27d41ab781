use Rattle.slice_check.proofs.SomeStop.{files_decided}
use Rattle.slice_check.proofs.completeness.something_is_said_of_each_file.Goals as goal

pub returns : goal.returns
returns c = files_decided

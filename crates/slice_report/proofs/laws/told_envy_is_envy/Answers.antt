use Rattle.slice_report.proofs.TellsEnvy.{tells_envy}
use Rattle.slice_report.proofs.laws.told_envy_is_envy.Goals as goal

pub returns : goal.returns
returns c = tells_envy

use Rattle.slice_parse.proofs.Unique.{each_parsed}
use Rattle.slice_parse.proofs.laws.parsings_exist.Goals as goal

pub returns : goal.returns
returns c = each_parsed

use Rattle.slice_paths.proofs.FrontLaws.{covers_are_fronts}
use Rattle.slice_paths.proofs.laws.covers_are_fronts.Goals as goal

pub returns : goal.returns
returns c = covers_are_fronts

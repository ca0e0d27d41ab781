use Rattle.slice_paths.proofs.SkipLaws.{skips_pass_over}
use Rattle.slice_paths.proofs.laws.skips_pass_over_those_that_share.Goals as goal

pub returns : goal.returns
returns c = skips_pass_over

use Rattle.slice_check.proofs.OneVerdict.{one_verdict}
use Rattle.slice_check.proofs.laws.verdicts_exclude_one_another.Goals as goal

pub returns : goal.returns
returns c = one_verdict

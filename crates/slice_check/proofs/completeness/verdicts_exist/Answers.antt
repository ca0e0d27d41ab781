use Rattle.slice_check.proofs.SomeVerdict.{some_verdict}
use Rattle.slice_check.proofs.completeness.verdicts_exist.Goals as goal

pub returns : goal.returns
returns c = some_verdict

use Rattle.std.proofs.Common.{◌∙◌, sym}
use Rattle.slice_check.proofs.check.judge.Goals as goal

pub returns-in-Some-clause-stop : goal.returns-in-Some-clause-stop
returns-in-Some-clause-stop c = (c.refutes-verdict.result, sym c.stop_for.ensures ∙ c.in-Some.is, c.refutes-verdict.ensures)

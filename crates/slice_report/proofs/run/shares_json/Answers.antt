use Rattle.slice_report.proofs.Lists.{pieces_listed}
use Rattle.slice_report.proofs.run.shares_json.Goals as goal

pub returns : goal.returns
returns c = rw (← c.shares.ensures, ← pieces_listed c.shares.result.now) c.list.ensures

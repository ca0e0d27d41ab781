use Rattle.slice_report.proofs.Lists.{rows_listed}
use Rattle.slice_report.proofs.run.values_json.Goals as goal

pub returns : goal.returns
returns c = rw (← rows_listed c.args.values.now.items, ← c.deref.ensures.value) c.list.ensures

use Rattle.std.proofs.Common.{◌≡◌, map, take}
use Rattle.serde_json.specs.View.{view}
use Rattle.slice_report.specs.GoalReport.{linear_json}
use Rattle.slice_report.proofs.goal.rows_json.Given as goal

abbrev pub invariant-loop-row : goal.invariant-loop-row
invariant-loop-row l = map view l.values.items ≡ map linear_json (take l.row-index l.rows)

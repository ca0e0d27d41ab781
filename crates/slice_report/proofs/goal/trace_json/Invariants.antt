use Rattle.std.proofs.Common.{◌≡◌, map, take}
use Rattle.serde_json.specs.View.{view}
use Rattle.slice_report.specs.GoalReport.{choice_json}
use Rattle.slice_report.proofs.goal.trace_json.Given as goal

abbrev pub invariant-loop-choice : goal.invariant-loop-choice
invariant-loop-choice l = map view l.values.items ≡ map choice_json (take l.choice-index l.trace)

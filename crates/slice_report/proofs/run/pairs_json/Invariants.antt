use Rattle.std.proofs.Common.{◌≡◌, map, take}
use Rattle.serde_json.specs.View.{view}
use Rattle.slice_report.specs.RunReport.{pair_json}
use Rattle.slice_report.proofs.run.pairs_json.Given as goal

abbrev pub invariant-loop-agent : goal.invariant-loop-agent
invariant-loop-agent l = map view l.values.items ≡ map pair_json (take l.agent-index l.pairs)

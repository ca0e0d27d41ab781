use Rattle.std.proofs.Common.{◌≡◌, map, take}
use Rattle.serde_json.specs.View.{view}
use Rattle.slice_report.specs.RunReport.{query_json}
use Rattle.slice_report.proofs.run.queries_json.Given as goal

abbrev pub invariant-loop-query : goal.invariant-loop-query
invariant-loop-query l = map view l.values.items ≡ map query_json (take l.query-index l.queries)

use Rattle.std.proofs.Common.{◌≡◌, map, take}
use Rattle.serde_json.specs.View.{view}
use Rattle.slice_counter.specs.CounterLine.{valuation_json}
use Rattle.slice_counter.proofs.line.valuations_json.Given as goal

abbrev pub invariant-loop-i : goal.invariant-loop-i
invariant-loop-i l = map view l.values.items ≡ map valuation_json (take l.i l.valuations)

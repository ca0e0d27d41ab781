use Rattle.std.proofs.Common.{◌≡◌, map}
use Rattle.std.specs.List.{flat_map}
use Rattle.slice_report.specs.RunReport.{agents, envy_of}
use Rattle.slice_report.proofs.run.envy.Given as goal

abbrev pub invariant-loop-i : goal.invariant-loop-i
invariant-loop-i l = l.pairs.items ≡ flat_map (envy_of (map (λ row. row.items) l.values)) (agents l.i)

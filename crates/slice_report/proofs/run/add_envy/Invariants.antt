use Rattle.std.proofs.Common.{◌≡◌, ◌++◌, map}
use Rattle.std.specs.List.{filter}
use Rattle.slice_report.specs.RunReport.{agents, envies}
use Rattle.slice_report.proofs.run.add_envy.Given as goal

abbrev pub invariant-loop-i : goal.invariant-loop-i
invariant-loop-i l =
    l.pairs.items ≡ l.initial.pairs.items ++ map (λ b. (l.agent, b)) (filter (envies (map (λ row. row.items) l.values) l.agent) (agents l.i))

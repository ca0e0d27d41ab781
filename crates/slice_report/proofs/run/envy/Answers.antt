use Rattle.std.proofs.Common.{map}
use Rattle.slice_report.specs.RunReport.{envy_of}
use Rattle.slice_report.proofs.EnvyPairs.{all_more}
use Rattle.slice_report.proofs.run.envy.Goals as goal

pub loop-i-preserved : goal.loop-i-preserved
loop-i-preserved c =
    all_more (envy_of (map (λ row. row.items) c.args.values.now)) c.loop-i.i c.loop-i.pairs.items _ c.loop-i.invariant c.in_ok-add_envy.ensures

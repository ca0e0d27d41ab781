use Rattle.std.proofs.Common.{◌∙◌, ℕ, map, sym}
use Rattle.slice_report.specs.RunReport.{envies}
use Rattle.slice_report.proofs.EnvyPairs.{added, kept}
use Rattle.slice_report.proofs.run.add_envy.Goals as goal
use Rattle.slice_report.proofs.run.add_envy.Goals.{then-envies+in_ok-push, else-envies}

pub loop-i-preserved : goal.loop-i-preserved
loop-i-preserved c =
    let p = envies (map (λ row. row.items) c.args.values.now) c.args.agent in
    let f : ℕ → ℕ × ℕ = λ b. (c.args.agent, b) in
    elim c.if-envies.branch [
      | then-envies+in_ok-push w ↦ added p f c.loop-i.i c.args.pairs.now.items c.loop-i.pairs.items _ (sym c.envies.ensures ∙ w.if-envies.true) c.loop-i.invariant (cc w.in_ok-push.ensures.items)
      | else-envies w ↦ kept p f c.loop-i.i c.args.pairs.now.items c.loop-i.pairs.items _ (sym c.envies.ensures ∙ w.if-envies.false) c.loop-i.invariant (cc)
    ]

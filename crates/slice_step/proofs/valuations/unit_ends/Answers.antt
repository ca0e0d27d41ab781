use Rattle.std.proofs.Common.{◌≡◌, ◌+◌, ◌-◌, ◌∷◌, [], ◌++◌, List, ℕ, subst, sym, arith}
use Rattle.std.proofs.lemmas.Grind.{common_steps}
use Rattle.slice_step.specs.UnitSteps.{unit_ends}
use Rattle.slice_step.proofs.Units.{unit_step}
use Rattle.slice_step.proofs.valuations.unit_ends.Goals as goal

pub loop-i-preserved : goal.loop-i-preserved
loop-i-preserved c =
    let i = c.loop-i.i in
    let n = c.args.count in
    let pushed : c.push.new.self.items ≡ c.loop-i.ends.items ++ (i + 1) ∷ [] = grind (arith, common_steps) in
    subst (λ (zs : List ℕ). zs ++ unit_ends (i + 1) (n - (i + 1)) ≡ unit_ends 0 n) (sym pushed) (unit_step c.loop-i.ends.items (unit_ends 0 n) i n c.loop-i-test.true c.loop-i.invariant)

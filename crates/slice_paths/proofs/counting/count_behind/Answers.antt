use Rattle.std.proofs.Common.{◌+◌, ◌<◌, ℕ, List, length, sym, ap, arith}
use Rattle.slice_paths.specs.Ahead.{pairs_from}
use Rattle.slice_paths.proofs.CountSteps.{counted_as}
use Rattle.slice_paths.proofs.PairLaws.{pairs_row}
use Rattle.slice_paths.proofs.counting.count_behind.Goals as goal

pub returns-then-b-agents : goal.returns-then-b-agents
returns-then-b-agents c =
    let a = c.args in
    let last : a.agents < a.b + 1 = omega (arith, c.if-b-agents.true) in
    counted_as (a.given + length (pairs_from a.agents (a.a + 1) 1)) (a.given + length (pairs_from a.agents a.a (a.b + 1))) c.count_pairs.result
    (ap (λ (ps : List (ℕ × ℕ)). a.given + length ps) (sym (pairs_row a.agents a.a (a.b + 1) c.if-a-agents.false last))) c.count_pairs.ensures

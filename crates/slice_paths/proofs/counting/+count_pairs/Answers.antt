use Rattle.std.proofs.Common.{◌≡◌, ◌+◌, ◌≤◌, ℕ, List, length, sym, ap, arith}
use Rattle.slice_paths.specs.Ahead.{pairs_from}
use Rattle.slice_paths.proofs.CountSteps.{counted_as, counted_more}
use Rattle.slice_paths.proofs.PairLaws.{pairs_row, pairs_other}
use Rattle.slice_paths.proofs.counting.+count_pairs.Goals as goal

pub returns-then-b-agents : goal.returns-then-b-agents
returns-then-b-agents t c =
    let a = c.args in
    counted_as (a.given + length (pairs_from a.agents (a.a + 1) 1)) (a.given + length (pairs_from a.agents a.a a.b)) c.count_pairs.result
    (ap (λ (ps : List (ℕ × ℕ)). a.given + length ps) (sym (pairs_row a.agents a.a a.b c.if-a-agents.false c.if-b-agents.true))) c.count_pairs.ensures

pub returns-in-Err : goal.returns-in-Err
returns-in-Err t c =
    let a = c.args in
    let e = ap (λ (ps : List (ℕ × ℕ)). length ps) (pairs_other a.agents a.a a.b c.if-a-agents.false c.if-b-agents.false c.if-a-b.false) in
    let l : a.given + 1 ≤ a.given + length (pairs_from a.agents a.a a.b) = omega (arith, e) in
    counted_more (a.given + 1) (a.given + length (pairs_from a.agents a.a a.b)) c.in-Err.fault l c.in-Err.ensures

pub returns-in-Ok : goal.returns-in-Ok
returns-in-Ok t c =
    let a = c.args in
    let e = ap (λ (ps : List (ℕ × ℕ)). length ps) (pairs_other a.agents a.a a.b c.if-a-agents.false c.if-b-agents.false c.if-a-b.false) in
    let rest = length (pairs_from a.agents a.a (a.b + 1)) in
    let l : c.in-Ok.given + rest ≡ a.given + length (pairs_from a.agents a.a a.b) = omega (arith, e, c.in-Ok.ensures.0) in
    counted_as (c.in-Ok.given + rest) (a.given + length (pairs_from a.agents a.a a.b)) c.count_pairs-in-Ok.result l c.count_pairs-in-Ok.ensures

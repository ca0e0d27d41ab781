use Rattle.std.proofs.Common.{◌≡◌}
use Rattle.slice_ast.specs.Taking.{taken}
use Rattle.slice_ast.proofs.TakingLemmas.{more_listed-turn, more_listed-end, listed-cons}
use Rattle.slice_ast.proofs.walk.write_listed.Goals as goal

pub loop-item-preserved : goal.loop-item-preserved
loop-item-preserved g c =
    let turn = more_listed-turn g.W.Written.marks g.T.TakesTokens.after c.loop-item.out c.in-Some.more.now c.loop-item.item-index c.item-item.result c.loop-item-test.true c.item-item.is in
    let e = c.loop-item.invariant in
    let a = c.in_ok-put.ensures in
    let b = c.in_ok-write-2.ensures in
    cc

pub returns : goal.returns
returns g c =
    let e = c.loop-item.invariant in
    let d = more_listed-end g.W.Written.marks g.T.TakesTokens.after c.loop-item.out c.in-Some.more.now c.loop-item.item-index c.loop-item-test.false in
    let a = c.in-Some.ensures.cases.0 in
    let b : c.write.new.out ≡ taken g.T.TakesTokens.after c.args.out.now (g.W.Written.marks c.in-Some.first.now) = c.in_ok-write.ensures in
    let f = listed-cons g.W.Written.marks g.T.TakesTokens.after c.args.out.now c.in-Some.first.now c.in-Some.more.now in
    cc

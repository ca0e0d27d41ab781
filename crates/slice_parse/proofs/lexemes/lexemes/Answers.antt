use Rattle.std.proofs.Common.{arith, rules}
use Rattle.std.proofs.lemmas.Grind.{common_steps}
use Rattle.slice_parse.proofs.Classed.{told_next}
use Rattle.slice_parse.proofs.lexemes.lexemes.Goals as goal

pub loop-token-preserved : goal.loop-token-preserved
loop-token-preserved c =
    let told = told_next c.args.file.now c.args.tokens.now c.loop-token.token-index _ c.loop-token.found _ c.loop-token-test.true c.loop-token.invariant c.in_ok-next.ensures in
    first_of (search rules, grind (arith, common_steps))

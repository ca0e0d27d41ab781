use Rattle.std.proofs.Common.{rules, arith, ◌≡◌, true}
use Rattle.std.proofs.lemmas.Grind.{common_steps}
use Rattle.slice_parse.specs.Combinators.{Long, next_is}
use Rattle.slice_parse.specs.Lexemes.{is_sign}
use Rattle.slice_parse.specs.Rules.{signed_term}
use Rattle.slice_parse.proofs.Turns.{turn}
use Rattle.slice_parse.proofs.sums.more_terms.Goals as goal

pub loop-turn-preserved : goal.loop-turn-preserved
loop-turn-preserved c =
    let at = c.loop-turn in
    let seen : next_is is_sign at.tokens ≡ true = first_of (search rules, grind (arith, common_steps)) in
    let step = turn Long is_sign signed_term c.args.most at._turn at.found at.tokens _ _ c.loop-turn-test.true at.invariant seen c.in_ok-next.ensures in
    first_of (search rules, grind (arith, common_steps))

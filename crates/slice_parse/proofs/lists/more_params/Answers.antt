use Rattle.std.proofs.Common.{rules, arith, ◌≡◌, true}
use Rattle.std.proofs.lemmas.Grind.{common_steps}
use Rattle.slice_parse.specs.declared.lexeme.Fixed.TheVariants.{Comma}
use Rattle.slice_parse.specs.Combinators.{Tired, next_is}
use Rattle.slice_parse.specs.Lexemes.{is}
use Rattle.slice_parse.specs.Rules.{after_comma, param}
use Rattle.slice_parse.proofs.Turns.{turn, item_stops}
use Rattle.slice_parse.proofs.lists.more_params.Goals as goal

pub loop-turn-preserved : goal.loop-turn-preserved
loop-turn-preserved c =
    let at = c.loop-turn in
    let seen : next_is (is Comma) at.tokens ≡ true = first_of (search rules, grind (arith, common_steps)) in
    let step = turn Tired (is Comma) (after_comma param) c.args.turns at._turn at.found at.tokens _ _ c.loop-turn-test.true at.invariant seen c.in_ok-next.ensures in
    first_of (search rules, grind (arith, common_steps))

pub returns-in_err-next : goal.returns-in_err-next
returns-in_err-next c =
    let at = c.loop-turn in
    let seen : next_is (is Comma) at.tokens ≡ true = first_of (search rules, grind (arith, common_steps)) in
    let stops = item_stops Tired (is Comma) (after_comma param) c.args.turns at._turn at.found at.tokens _ _ c.loop-turn-test.true at.invariant seen c.in_err-next.ensures in
    first_of (search rules, grind (arith, common_steps))

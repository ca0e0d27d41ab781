use Rattle.std.proofs.Common.{rules, arith, ◌≡◌, true}
use Rattle.std.proofs.lemmas.Grind.{common_steps}
use Rattle.slice_ast.specs.View.{head_of}
use Rattle.slice_parse.specs.Combinators.{Tired, next_is}
use Rattle.slice_parse.specs.Lexemes.{starts}
use Rattle.slice_parse.specs.Rules.{head, block}
use Rattle.slice_parse.proofs.Turns.{turn_seen}
use Rattle.slice_parse.proofs.statements.+blocks.Goals as goal

pub statements-loop-turn-preserved : goal.statements-loop-turn-preserved
statements-loop-turn-preserved t c =
    let at = c.loop-turn in
    let item = head 63 c.args.turns (block 63 c.args.turns c.args.depth) in
    let seen : next_is starts at.tokens ≡ true = first_of (search rules, grind (arith, common_steps)) in
    let step = turn_seen head_of Tired starts item c.args.turns at._turn at.found at.tokens _ _ c.loop-turn-test.true at.invariant seen c.in_ok-next.ensures in
    first_of (search rules, grind (arith, common_steps))

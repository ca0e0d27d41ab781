use Rattle.std.proofs.Common.{rules, arith, ◌≡◌, map, true}
use Rattle.std.proofs.lemmas.Grind.{common_steps}
use Rattle.slice_ast.specs.View.{proc_of}
use Rattle.slice_parse.specs.declared.lexeme.Fixed.TheVariants.{Procedure}
use Rattle.slice_parse.specs.Combinators.{Tired, next_is}
use Rattle.slice_parse.specs.Lexemes.{is}
use Rattle.slice_parse.specs.Rules.{proc}
use Rattle.slice_parse.proofs.Turns.{turn_seen, item_stops}
use Rattle.slice_parse.proofs.program.procs.Goals as goal

pub loop-turn-preserved : goal.loop-turn-preserved
loop-turn-preserved c =
    let at = c.loop-turn in
    let item = proc 63 c.args.turns c.args.depth in
    let seen : next_is (is Procedure) at.tokens ≡ true = first_of (search rules, grind (arith, common_steps)) in
    let step = turn_seen proc_of Tired (is Procedure) item c.args.turns at._turn at.found at.tokens _ _ c.loop-turn-test.true at.invariant seen c.in_ok-next.ensures in
    first_of (search rules, grind (arith, common_steps))

pub returns-in_err-next : goal.returns-in_err-next
returns-in_err-next c =
    let at = c.loop-turn in
    let item = proc 63 c.args.turns c.args.depth in
    let seen : next_is (is Procedure) at.tokens ≡ true = first_of (search rules, grind (arith, common_steps)) in
    let stops = item_stops Tired (is Procedure) item c.args.turns at._turn (map proc_of at.found) at.tokens _ _ c.loop-turn-test.true at.invariant seen c.in_err-next.ensures in
    first_of (search rules, grind (arith, common_steps))

use Rattle.std.proofs.Common.{arith, rules}
use Rattle.std.proofs.lemmas.Grind.{common_steps}
use Rattle.slice_parse.proofs.Numbers.{number_more, number_text}
use Rattle.slice_parse.proofs.lexemes.number_of.Goals as goal

pub overflow_mul-value : goal.overflow_mul-value
overflow_mul-value c =
    let m = number_more c.args.digits.now c.loop-digit.digit-index c.loop-digit.value c.requires c.loop-digit-test.true c.loop-digit.invariant in
    let below = m.below in
    omega arith

pub overflow_sub-digit : goal.overflow_sub-digit
overflow_sub-digit c = (number_more c.args.digits.now c.loop-digit.digit-index c.loop-digit.value c.requires c.loop-digit-test.true c.loop-digit.invariant).low

pub overflow_add-value : goal.overflow_add-value
overflow_add-value c =
    let m = number_more c.args.digits.now c.loop-digit.digit-index c.loop-digit.value c.requires c.loop-digit-test.true c.loop-digit.invariant in
    let below = m.below in
    omega arith

pub loop-digit-preserved : goal.loop-digit-preserved
loop-digit-preserved c =
    let m = number_more c.args.digits.now c.loop-digit.digit-index c.loop-digit.value c.requires c.loop-digit-test.true c.loop-digit.invariant in
    let value = m.value in
    first_of (search rules, grind (arith, common_steps))

pub returns-clause-text : goal.returns-clause-text
returns-clause-text c = (number_text c.args.digits.now c.loop-digit.value c.requires (search rules)).0

pub returns-clause-below : goal.returns-clause-below
returns-clause-below c = (number_text c.args.digits.now c.loop-digit.value c.requires (search rules)).1

use Rattle.std.proofs.Common.{arith, false, sym}
use Rattle.std.proofs.lemmas.Str.Pattern.{starts_char}
use Rattle.slice_num.proofs.Written.{number_given, number_large, number_refused, no_plus}
use Rattle.slice_num.proofs.reading.read_number.Goals as goal

pub returns-then-number-le-LIMIT-clause-value : goal.returns-then-number-le-LIMIT-clause-value
returns-then-number-le-LIMIT-clause-value c =
    sym (number_given _ c.args.text.now _ _ c.in-Ok.is c.parse.ensures.value.0 (no_plus c.args.text.now (starts_char 43 c.args.text.now false c.if-starts_with.ensures.cases (omega arith) (omega arith))) (omega (arith, c.if-text-gt39.false)) (omega (arith, c.if-number-le-LIMIT.true)))

pub returns-else-number-le-LIMIT-clause-value : goal.returns-else-number-le-LIMIT-clause-value
returns-else-number-le-LIMIT-clause-value c =
    sym (number_large _ c.args.text.now _ _ c.in-Ok.is c.parse.ensures.value.0 (no_plus c.args.text.now (starts_char 43 c.args.text.now false c.if-starts_with.ensures.cases (omega arith) (omega arith))) (omega (arith, c.if-number-le-LIMIT.false)))

pub returns-in-Err-clause-value : goal.returns-in-Err-clause-value
returns-in-Err-clause-value c =
    sym (number_refused _ c.args.text.now _ _ c.in-Err.is c.parse.ensures.value.0 (no_plus c.args.text.now (starts_char 43 c.args.text.now false c.if-starts_with.ensures.cases (omega arith) (omega arith))))

use Rattle.std.proofs.Common.{◌∙◌, arith, ap}
use Rattle.std.proofs.lemmas.Str.Pattern.{split_parts}
use Rattle.slice_num.specs.FractionReading.{fraction_over}
use Rattle.slice_num.proofs.Written.{read_split, read_whole}
use Rattle.slice_num.proofs.reading.read_unsigned.Goals as goal

pub returns-in-Some : goal.returns-in-Some
returns-in-Some c =
    let parts = split_parts 47 c.args.text.now c.split_once.result c.split_once.ensures.cases (omega arith) in
    let here = rw c.in-Some.is at parts in
    c.over.ensures
    ∙ (λ i. fraction_over c.args.negative (c.read_number.ensures.value i) (c.read_number-in-Some.ensures.value i))
    ∙ read_split c.args.negative c.args.text.now _ _ here.0 here.1

pub returns-in-None : goal.returns-in-None
returns-in-None c =
    let parts = split_parts 47 c.args.text.now c.split_once.result c.split_once.ensures.cases (omega arith) in
    let here = rw c.in-None.is at parts in
    c.over-in-None.ensures
    ∙ ap (λ n. fraction_over c.args.negative n _) c.read_number-in-None.ensures.value
    ∙ read_whole c.args.negative c.args.text.now here

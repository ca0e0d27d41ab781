use Rattle.std.proofs.Common.{◌∙◌, arith, sym}
use Rattle.std.proofs.lemmas.Str.Pattern.{strip_prefix_char}
use Rattle.slice_num.proofs.Written.{read_signed, read_plain, read_exact}
use Rattle.slice_num.proofs.Frac.read.Goals as goal

pub returns-in-Some-clause-value : goal.returns-in-Some-clause-value
returns-in-Some-clause-value c =
    let parts = strip_prefix_char 45 c.args.text.now c.strip_prefix.result c.strip_prefix.ensures.cases (omega arith) in
    c.read_unsigned.ensures ∙ sym (read_signed c.args.text.now _ (rw c.in-Some.is at parts))

pub returns-in-Some-clause-exact : goal.returns-in-Some-clause-exact
returns-in-Some-clause-exact c = read_exact c.args.text.now c.read_unsigned.result (returns-in-Some-clause-value c)

pub returns-in-None-clause-value : goal.returns-in-None-clause-value
returns-in-None-clause-value c =
    let parts = strip_prefix_char 45 c.args.text.now c.strip_prefix.result c.strip_prefix.ensures.cases (omega arith) in
    c.read_unsigned-in-None.ensures ∙ sym (read_plain c.args.text.now (rw c.in-None.is at parts))

pub returns-in-None-clause-exact : goal.returns-in-None-clause-exact
returns-in-None-clause-exact c = read_exact c.args.text.now c.read_unsigned-in-None.result (returns-in-None-clause-value c)

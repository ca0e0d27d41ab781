use Rattle.std.proofs.Common.{◌≡◌, ◌∙◌, Ok, Some, ap, sym, rules, SFits, of_z}
use Rattle.std.specs.Int.{w128}
use Rattle.std.proofs.lemmas.Int.{to_z-of_z}
use Rattle.slice_cert.proofs.Wholes.{parse-signed_wide, ok_same, below_least}
use Rattle.slice_cert.proofs.whole_text.value_of.Goals as goal

pub returns-clause-value : goal.returns-clause-value
returns-clause-value c z f is =
    let e : c.parse.result ≡ Ok z = parse-signed_wide z c.args.text.now c.parse.result f is c.parse.ensures.value.0 in
    let same : c.in-Ok.number ≡ z = ok_same c.in-Ok.number z (sym c.in-Ok.is ∙ e) in
    let k : SFits w128 c.in-Ok.number = search rules in
    ap Some (to_z-of_z w128 c.in-Ok.number k ∙ same)

pub returns-in_default-clause-value : goal.returns-in_default-clause-value
returns-in_default-clause-value c z f is = absurd (c.in_default.not-Ok z (parse-signed_wide z c.args.text.now c.parse.result f is c.parse.ensures.value.0))

pub returns-then-number-clause-value : goal.returns-then-number-clause-value
returns-then-number-clause-value c z f is =
    let e : c.parse.result ≡ Ok z = parse-signed_wide z c.args.text.now c.parse.result f is c.parse.ensures.value.0 in
    let same : c.in-Ok.number ≡ z = ok_same c.in-Ok.number z (sym c.in-Ok.is ∙ e) in
    let k : SFits w128 c.in-Ok.number = search rules in
    absurd (below_least z f (sym (ap (of_z w128) same) ∙ c.if-number.true))

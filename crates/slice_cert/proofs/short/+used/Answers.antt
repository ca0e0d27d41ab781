use Rattle.std.proofs.Common.{◌∙◌, ◌-◌, SFits, ap, get_or, length, of_z, pos, rules, sym, to_z}
use Rattle.std.specs.Int.{w128}
use Rattle.std.proofs.lemmas.Int.{to_z-of_z}
use Rattle.slice_cert.proofs.Used.{last_zero, last_used}
use Rattle.slice_cert.proofs.short.+used.Goals as goal

pub returns-then-last-eq0-clause-count : goal.returns-then-last-eq0-clause-count
returns-then-last-eq0-clause-count t c =
    let ms = c.args.multipliers.now in
    let fits : SFits w128 (get_or ms (length ms - 1) (pos 0)) = search rules in
    c.used.ensures.count ∙ last_zero ms c.in-len1-up.len_at_least (sym (to_z-of_z w128 _ fits) ∙ ap (to_z w128) c.if-last-eq0.true)

pub returns-else-last-eq0-clause-count : goal.returns-else-last-eq0-clause-count
returns-else-last-eq0-clause-count t c = last_used c.args.multipliers.now c.in-len1-up.len_at_least (λ e. c.if-last-eq0.false (ap (of_z w128) e))

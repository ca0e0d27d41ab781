use Rattle.std.proofs.Common.{◌∙◌, Some, ℕ, ap, sym, arith, rules, codes}
use Rattle.serde_json.specs.View.{view}
use Rattle.slice_json.specs.Texts.{whole}
use Rattle.slice_cert.proofs.Values.{array_there, no_cover, texts_there}
use Rattle.slice_cert.proofs.read.cover.Goals as goal

pub returns-in_default-2 : goal.returns-in_default-2
returns-in_default-2 c l is s =
    let there = array_there (codes "multipliers") _ (view c.args.value.now) (sym (c.in-Some-items_at.ensures {u = tt})) in
    let none = rw c.in_default-2.is at (c.in_ok-multipliers.ensures {u = tt}) in
    no_cover (view c.args.value.now) _ l there none is s

pub returns : goal.returns
returns c =
    let p = c.in-Ok in
    let there = array_there (codes "multipliers") _ (view c.args.value.now) (sym (c.in-Some-items_at.ensures {u = tt})) in
    let texts = rw c.in-Some-2.is at (c.in_ok-multipliers.ensures {u = tt}) in (
      c.has_keys.ensures.0 c.if-not-has_keys.false,
      (
        c.in-Some.ensures {u = tt} ∙ ap (λ (n : ℕ). Some (whole n)) (sym (p.ensures.1)),
        (c.in-Some-number_at.ensures {u = tt}, (texts_there (view c.args.value.now) _ c.in-Some-2.multipliers.items c.from_vec.result there texts.1 c.from_vec.ensures, tt)),
      ),
      (search rules, omega (arith, p.ensures.0, p.ensures.1), search rules),
    )

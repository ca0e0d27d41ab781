use Rattle.std.proofs.Common.{◌≡◌, ◌∙◌, ap, sym, map, get_or, to_z-of_z, ℤ, pos, arith, length}
use Rattle.std.specs.Prelude.{int_div}
use Rattle.std.proofs.lemmas.List.{ext_get_or, get_or-map, length-map}
use Rattle.slice_linear.proofs.lowest.divide.Goals as goal

pub returns : goal.returns
returns c =
    let f : ℤ → ℤ = λ z. int_div z c.args.divisor in
    let old = c.args.numbers.now in
    let same : length c.loop-number.numbers ≡ length old = c.loop-number.auto.numbers in
    ext_get_or (pos 0) c.loop-number.numbers (map f old) (same ∙ sym (length-map old f))
    (λ i lt. c.loop-number.invariant.done i (omega arith) ∙ ap (λ (z : ℤ). int_div (get_or old i (pos 0)) z) (to_z-of_z c.ranges.divisor) ∙ sym (get_or-map f old i (pos 0) (pos 0) (omega arith)))

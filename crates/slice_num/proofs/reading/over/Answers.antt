use Rattle.std.proofs.Common.{◌∙◌, sym}
use Rattle.std.specs.Int.{w128}
use Rattle.std.proofs.lemmas.Int.{to_z_pos}
use Rattle.slice_num.specs.FractionReading.{fraction_over}
use Rattle.slice_num.proofs.Wrapped.{W, same}
use Rattle.slice_num.proofs.Written.{over_given}
use Rattle.slice_num.proofs.reading.over.Goals as goal

pub returns : goal.returns
returns c =
    let num_fits = rw c.in_ok-num.was at c.requires.num_fits in
    let den_fits = rw c.in_ok-den.was at c.requires.den_fits in
    c.ok.ensures.value
    ∙ over_given c.args.negative c.in_ok-num.num c.in_ok-den.den (W c.with_sign.result) c.new.result (rw (to_z_pos w128 c.in_ok-den.den den_fits) at c.new.ensures.value) (same c.with_sign.result _ c.with_sign.type_inv c.with_sign.ensures) num_fits den_fits
    ∙ sym (λ i. fraction_over c.args.negative (c.in_ok-num.was i) (c.in_ok-den.was i))

use Rattle.std.proofs.Common.{◌<◌, ◌^◌, ℤ, subst, arith}
use Rattle.std.proofs.lemmas.Int.{ints}
use Rattle.slice_num.specs.Rational.{Fits}
use Rattle.slice_num.specs.Arithmetic.{FitsRational}
use Rattle.slice_counter.proofs.Replays.{answer_said}
use Rattle.slice_counter.proofs.line.answer_json.Goals as goal

pub returns-then-part-eq0-clause-said : goal.returns-then-part-eq0-clause-said
returns-then-part-eq0-clause-said c =
    let y = c.args.answer.now in
    let few : y.part < 2 ^ 32 = omega arith in
    let fits : FitsRational y.point = (subst (λ (z : ℤ). Fits z) c.num.ensures.value c.num.ensures.fits, omega (arith, ints)) in
    answer_said y few fits

pub returns-in-Ok-json-4-clause-said : goal.returns-in-Ok-json-4-clause-said
returns-in-Ok-json-4-clause-said c =
    let y = c.args.answer.now in
    let few : y.part < 2 ^ 32 = omega arith in
    let fits : FitsRational y.point = (subst (λ (z : ℤ). Fits z) c.num.ensures.value c.num.ensures.fits, omega (arith, ints)) in
    answer_said y few fits

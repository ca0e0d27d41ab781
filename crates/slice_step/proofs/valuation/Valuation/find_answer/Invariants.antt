use Rattle.std.specs.Prelude.{◌≡◌, drop}
use Rattle.slice_step.specs.Arithmetic.{answer_from}
use Rattle.slice_num.specs.Rational.{whole}
use Rattle.std.specs.Prelude.{pos}
use Rattle.slice_step.proofs.valuation.Valuation.find_answer.Given as goal

abbrev pub invariant-loop-part : goal.invariant-loop-part
invariant-loop-part l = answer_from l.self l.target l.sum l.part (drop l.part l.piece) ≡ answer_from l.self l.target (whole (pos 0)) 0 l.piece

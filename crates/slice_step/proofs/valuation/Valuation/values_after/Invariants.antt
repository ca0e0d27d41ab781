use Rattle.std.specs.Prelude.{◌≡◌, drop}
use Rattle.slice_step.specs.Arithmetic.{values_from}
use Rattle.slice_step.proofs.valuation.Valuation.values_after.Given as goal

abbrev pub invariant-loop-i : goal.invariant-loop-i
invariant-loop-i l = values_from l.self l.sum (drop l.i l.piece) ≡ values_from l.self l.initial.sum l.piece

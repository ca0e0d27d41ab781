use Rattle.std.specs.Prelude.{◌≡◌, drop}
use Rattle.slice_run.specs.Sums.{terms_in, lin_in}
use Rattle.slice_run.proofs.sums.sum_value.Given as goal

abbrev pub invariant-loop-i : goal.invariant-loop-i
invariant-loop-i l = terms_in l.registers l.total (drop l.i l.terms) ≡ lin_in l.registers l.terms

use Rattle.std.specs.Prelude.{◌≡◌, ◌+◌, ◌*◌, ◌≤◌, ◌^◌, drop}
use Rattle.slice_num.specs.Valuation.{Rises, total_value, total_from}
use Rattle.slice_step.specs.ValuationShape.{steps}
use Rattle.slice_step.proofs.place.sum_of_steps.Given as goal

abbrev pub invariant-loop-i : goal.invariant-loop-i
invariant-loop-i l = record {
  same : l.sum + total_from l.start (drop l.i l.ends) (drop l.i l.heights) ≡ total_value (steps l.ends l.heights);
  high : l.sum ≤ 10 ^ 18 * l.start;
  near : l.start ≤ 10 ^ 6;
  rises : Rises l.start (drop l.i l.ends);
}

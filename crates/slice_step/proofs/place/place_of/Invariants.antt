use Rattle.std.specs.Prelude.{◌≡◌, ◌*◌, ◌≤◌, ◌^◌, drop}
use Rattle.slice_num.specs.Valuation.{Rises}
use Rattle.slice_step.specs.Arithmetic.{place_in}
use Rattle.slice_step.specs.ValuationShape.{steps}
use Rattle.slice_step.proofs.Steps.{place_from}
use Rattle.slice_step.proofs.place.place_of.Given as goal

abbrev pub invariant-loop-i : goal.invariant-loop-i
invariant-loop-i l = record {
  same : place_from l.base l.start (drop l.i l.ends) (drop l.i l.heights) l.p ≡ place_in (steps l.ends l.heights) l.p;
  high : l.base ≤ 10 ^ 18 * l.start;
  near : l.start ≤ 10 ^ 6;
  rises : Rises l.start (drop l.i l.ends);
}

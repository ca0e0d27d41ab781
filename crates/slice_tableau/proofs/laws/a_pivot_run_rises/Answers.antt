use Rattle.slice_tableau.proofs.RunBridge.{known}
use Rattle.slice_tableau.proofs.RunRises.{high_out, keeps_high, rises}
use Rattle.slice_tableau.proofs.laws.a_pivot_run_rises.Goals as goal

pub returns : goal.returns
returns c = record {
  high = λ rows t before run. let k = known rows t before run in high_out rows t k.of_rows k.high;
  keeps = keeps_high;
  rises = rises;
}

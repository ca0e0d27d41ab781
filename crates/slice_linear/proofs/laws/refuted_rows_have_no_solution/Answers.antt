use Rattle.slice_linear.proofs.Motzkin.{refuted_rows_have_no_solution}
use Rattle.slice_linear.proofs.laws.refuted_rows_have_no_solution.Goals as goal

pub returns : goal.returns
returns c = refuted_rows_have_no_solution

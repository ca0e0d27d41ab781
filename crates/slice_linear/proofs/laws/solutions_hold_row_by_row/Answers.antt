use Rattle.slice_linear.proofs.SolutionLaws.{solutions_hold_row_by_row}
use Rattle.slice_linear.proofs.laws.solutions_hold_row_by_row.Goals as goal

pub returns : goal.returns
returns c = solutions_hold_row_by_row

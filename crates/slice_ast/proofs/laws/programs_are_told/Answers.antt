use Rattle.slice_ast.proofs.Whole.{program_same}
use Rattle.slice_ast.proofs.laws.programs_are_told.Goals as goal

pub returns : goal.returns
returns c = program_same

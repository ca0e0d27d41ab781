use Rattle.slice_simplex.proofs.SomeAnswer.{answer_exists}
use Rattle.slice_simplex.proofs.laws.an_answer_exists.Goals as goal

pub returns : goal.returns
returns c = answer_exists

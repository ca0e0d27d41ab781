use Rattle.slice_laws.proofs.UniqueAnswers.{answer_unique}
use Rattle.slice_laws.proofs.laws.answers_are_unique.Goals as goal

pub returns : goal.returns
returns c = answer_unique c.parsings_are_unique.ensures.read

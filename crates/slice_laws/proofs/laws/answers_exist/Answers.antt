use Rattle.slice_laws.proofs.SomeAnswers.{some_answer}
use Rattle.slice_laws.proofs.laws.answers_exist.Goals as goal

pub returns : goal.returns
returns c = some_answer

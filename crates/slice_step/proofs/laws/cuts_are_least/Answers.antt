use Rattle.slice_step.proofs.Least.{least_point_in-least}
use Rattle.slice_step.proofs.LeastAnswer.{answers_exact}
use Rattle.slice_step.proofs.laws.cuts_are_least.Goals as goal

pub returns-clause-point : goal.returns-clause-point
returns-clause-point c = least_point_in-least

pub returns-clause-answer : goal.returns-clause-answer
returns-clause-answer c = answers_exact

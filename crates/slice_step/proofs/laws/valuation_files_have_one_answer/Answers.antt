use Rattle.slice_step.proofs.OneAnswer.{one_list, file_exact}
use Rattle.slice_step.proofs.laws.valuation_files_have_one_answer.Goals as goal

pub returns-clause-one : goal.returns-clause-one
returns-clause-one c = one_list

pub returns-clause-exact : goal.returns-clause-exact
returns-clause-exact c = file_exact

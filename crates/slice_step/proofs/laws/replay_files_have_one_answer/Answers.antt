use Rattle.slice_step.proofs.OneAnswer.{one_replay, replay_exact}
use Rattle.slice_step.proofs.laws.replay_files_have_one_answer.Goals as goal

pub returns-clause-one : goal.returns-clause-one
returns-clause-one c = one_replay

pub returns-clause-exact : goal.returns-clause-exact
returns-clause-exact c = replay_exact

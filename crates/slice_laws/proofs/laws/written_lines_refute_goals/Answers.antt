use Rattle.slice_laws.proofs.Written.{lines_refute_goals, lines_take_all, reached_goals_follow}
use Rattle.slice_laws.proofs.laws.written_lines_refute_goals.Goals as goal

pub returns-clause-refuted : goal.returns-clause-refuted
returns-clause-refuted c = lines_refute_goals

pub returns-clause-next : goal.returns-clause-next
returns-clause-next c = reached_goals_follow

pub returns-clause-all : goal.returns-clause-all
returns-clause-all c = lines_take_all

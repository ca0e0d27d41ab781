use Rattle.slice_counter.proofs.OnTheWay.{goals_are_solved_on_their_way}
use Rattle.slice_counter.proofs.laws.goals_with_solutions_have_them_on_their_way.Goals as goal

pub returns : goal.returns
returns c = goals_are_solved_on_their_way

use Rattle.slice_check.proofs.Giving.{next_or_none}
use Rattle.slice_check.proofs.check.next_goal.Goals as goal

pub returns-in-Ok-clause-goal : goal.returns-in-Ok-clause-goal
returns-in-Ok-clause-goal c =
    let a = c.in-Ok.ensures {u = tt} in
    next_or_none c.args.goals.now c.next.new.self c.in-Ok.goal c.streams_give_goals.ensures.answers c.rows_are_over_the_unknowns.ensures a.ok a.given a.core (a.rest c.requires.rest)

use Rattle.slice_verify.proofs.NextGoals.{next_is}
use Rattle.slice_verify.proofs.verifier.next_goal.Goals as goal

pub returns-clause-goal : goal.returns-clause-goal
returns-clause-goal c = next_is c.args.goals.now c.next.new.self c.next.result c.streams_give_goals.ensures.answers c.requires c.next.ensures.ok c.next.ensures.given c.next.ensures.core (c.next.ensures.rest c.requires.rest)

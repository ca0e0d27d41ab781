use Rattle.std.proofs.Common.{arith}
use Rattle.slice_step.proofs.AnswerLaws.{all_answered}
use Rattle.slice_step.proofs.replay_file.cuts_from.Goals as goal

pub returns-clause-said : goal.returns-clause-said
returns-clause-said c = all_answered c.args.entries.now.items c.loop-i.i c.loop-i.cuts.items (omega arith) c.loop-i.invariant.said

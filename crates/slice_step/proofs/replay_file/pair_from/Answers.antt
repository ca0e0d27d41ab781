use Rattle.std.proofs.Common.{arith}
use Rattle.slice_step.proofs.AnswerLaws.{no_pair}
use Rattle.slice_step.proofs.replay_file.pair_from.Goals as goal

pub returns-then-len-ne2 : goal.returns-then-len-ne2
returns-then-len-ne2 c = no_pair c.args.items.now.items (λ e. let t = c.if-len-ne2.true in let n = c.len.ensures in omega (arith, e, t, n))

use Rattle.std.proofs.Common.{arith}
use Rattle.slice_core.specs.Nodes.{tree_of}
use Rattle.slice_paths.proofs.PartSteps.{early_from, early_breaks}
use Rattle.slice_paths.proofs.walk.early_part.Goals as goal

pub overflow_add-result : goal.overflow_add-result
overflow_add-result c = omega (arith, c.requires.early, c.requires.few)

pub returns-in-Err-answer-clause-err : goal.returns-in-Err-answer-clause-err
returns-in-Err-answer-clause-err c =
    let cut = c.args.cut in
    early_breaks c.args.agents cut.agent cut.piece cut.amount c.args.part (tree_of cut.next.now) c.args.spot c.in-Ok.here c.in-Err-answer.fault c.in-Ok.ensures c.requires.ready (omega (arith, c.requires.early)) c.in-Err-answer.ensures.err

pub returns-clause-ok : goal.returns-clause-ok
returns-clause-ok c =
    let cut = c.args.cut in
    let ready = c.requires.ready in
    let o = early_from c.args.agents cut.agent cut.piece cut.amount c.args.part (tree_of cut.next.now) c.args.spot c.in-Ok.here c.answer.new.self c.in-Ok.ensures ready c.ranges.part.fits c.requires.early c.in-Ok-answer.ensures.ok c.in-Ok-answer.ensures.tally in
    record { comes = o.comes; ready = (record { known = ready.known; over = ready.over; goes = ready.goes }, o.ready); fewer = o.fewer }

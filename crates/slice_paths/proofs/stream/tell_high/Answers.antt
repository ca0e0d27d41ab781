use Rattle.slice_core.specs.Nodes.{tree_of}
use Rattle.slice_paths.proofs.stream.tell_high.Goals as goal

pub high-requires : goal.high-requires
high-requires c = (tree_of c.args.cut.next.now, c.requires)

pub returns-clause-ok : goal.returns-clause-ok
returns-clause-ok c =
    let h = c.requires in
    record { comes = λ es. c.in-Ok.ensures.ok _; few = c.in-Ok.ensures.few; ready = record { known = h.known; over = h.over; goes = h.goes } }

pub returns-in-Err-clause-err : goal.returns-in-Err-clause-err
returns-in-Err-clause-err c es = c.in-Err.ensures.err _

use Rattle.slice_paths.proofs.stream.tell_low.Goals as goal

pub returns-clause-ok : goal.returns-clause-ok
returns-clause-ok c =
    let h = c.requires in
    record { comes = λ es. c.in-Ok.ensures.ok _; few = c.in-Ok.ensures.few; ready = record { known = h.known; over = h.over; goes = h.goes } }

pub returns-in-Err-clause-err : goal.returns-in-Err-clause-err
returns-in-Err-clause-err c es = c.in-Err.ensures.err _

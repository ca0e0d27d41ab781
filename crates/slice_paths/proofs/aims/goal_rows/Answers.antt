use Rattle.std.proofs.Common.{arith, sym, subst}
use Rattle.slice_paths.specs.Walking.{RowsFail}
use Rattle.slice_paths.proofs.AimLaws.{rows_tell, rows_limit, difference_fails, rows_fail}
use Rattle.slice_paths.proofs.aims.goal_rows.Goals as goal

pub returns-then-given-ge-LIMIT-clause-err : goal.returns-then-given-ge-LIMIT-clause-err
returns-then-given-ge-LIMIT-clause-err c f g p q = rows_limit c.args.agents c.args.given c.args.spot.now f g (omega (arith, c.if-given-ge-LIMIT.true))

pub returns-in-Err-clause-err : goal.returns-in-Err-clause-err
returns-in-Err-clause-err c f g p q =
    let a = c.args in
    subst (RowsFail a.agents a.given f g a.spot.now) (sym c.goal_fault.ensures)
    (difference_fails a.agents a.given a.spot.now a.upper.now a.lower.now c.in-Err.fault (omega (arith, c.if-given-ge-LIMIT.false)) c.requires.agents c.requires.known c.requires.over c.in-Err.ensures.overflow f g p q)

pub returns-in-Err-rows-clause-err : goal.returns-in-Err-rows-clause-err
returns-in-Err-rows-clause-err c f g p q =
    let a = c.args in
    subst (RowsFail a.agents a.given f g a.spot.now) (sym c.goal_fault-in-Err-rows.ensures)
    (rows_fail a.agents a.given a.spot.now a.upper.now a.lower.now c.in-Ok.own c.in-Err-rows.fault (omega (arith, c.if-given-ge-LIMIT.false)) c.in-Ok.ensures.difference c.in-Err-rows.ensures.err f g p q)

pub returns-clause-ok : goal.returns-clause-ok
returns-clause-ok c =
    let a = c.args in
    rows_tell a.agents a.given a.spot.now a.upper.now a.lower.now c.in-Ok.own c.in-Ok-rows.rows.items (omega (arith, c.if-given-ge-LIMIT.false)) c.requires.agents c.requires.known c.requires.over c.in-Ok.ensures.difference c.in-Ok.ensures.fits
    c.in-Ok-rows.ensures.ok c.in-Ok-rows.ensures.fit

use Rattle.std.proofs.Common.{◌≤◌, inl, inr, refl, subst, arith, ℤ, List}
use Rattle.slice_core.specs.Cores.{core_of}
use Rattle.slice_check.specs.Upgrading.{ShortHalts}
use Rattle.slice_check.proofs.Passing.{if_err}
use Rattle.slice_check.proofs.WholeLines.{no_lines, short_halts_behind}
use Rattle.slice_check.proofs.upgrade.upgrade_goal.Goals as goal

pub returns-in-Err-clause-halt : goal.returns-in-Err-clause-halt
returns-in-Err-clause-halt g c file told s a =
    let st = (c.in-Err.ensures {u = tt}).stop (core_of c.args.core.now) file told s a in
    inl (c.in-Err.stop, refl, refl, st.0, st.1)

pub returns-clause-halt : goal.returns-clause-halt
returns-clause-halt g c = if_err c.put_short.result _ _ (λ h x file told s a.
    let k = c.in-Ok.ensures {u = tt} in
    let l = k.line file told s in
    let old = g.K.Sink.told c.args.sink.now in
    let new = g.K.Sink.told c.put_short.new.sink in
    let least : c.args.taken ≤ c.args.goal.now.number = omega (arith, c.if-number-taken.false, c.number.ensures) in
    inr (c.in-Ok.multipliers, l.0, k.yes, least, subst (λ (m : List ℤ). ShortHalts (core_of c.args.core.now) c.args.goal.now m old new h) c.as_slice.ensures x)) c.put_short.ensures.halts

pub returns-in-Err-clause-lines_so_far : goal.returns-in-Err-clause-lines_so_far
returns-in-Err-clause-lines_so_far g c = no_lines (g.K.Sink.told c.args.sink.now)

pub returns-clause-lines_so_far : goal.returns-clause-lines_so_far
returns-clause-lines_so_far g c =
    if_err c.put_short.result _ _ (λ h x. short_halts_behind (core_of c.args.core.now) c.args.goal.now c.as_slice.result.now (g.K.Sink.told c.args.sink.now) (g.K.Sink.told c.put_short.new.sink) h x) c.put_short.ensures.halts

use Rattle.std.proofs.Common.{◌∙◌, ap, sym, subst, List, Err}
use Rattle.slice_core.specs.Cores.{core_of}
use Rattle.slice_paths.specs.Events.{Event}
use Rattle.slice_cert.specs.declared.line.Line.TheVariants.{Header, Closing}
use Rattle.slice_check.specs.Steps.{Reached}
use Rattle.slice_check.proofs.Certified.{upgraded}
use Rattle.slice_check.proofs.Ending.{all_put, begin_ends, close_ends, goals_end, lines_end, reached_end}
use Rattle.slice_check.proofs.Passing.{told_moved}
use Rattle.slice_check.proofs.WholeLines.{halts_then, lines_then, one_line}
use Rattle.slice_check.proofs.upgrade.upgrade_lines.Goals as goal

pub returns-in-Err-clause-halt : goal.returns-in-Err-clause-halt
returns-in-Err-clause-halt g c file told s =
    begin_ends (core_of c.args.core.now) file (g.K.Sink.told c.args.sink.now) (g.K.Sink.told c.begin.new.sink) c.in-Err.halt ((c.in-Err.ensures {u = tt}).halt file told s)

pub returns-in-Err-upgrade_goals-clause-halt : goal.returns-in-Err-upgrade_goals-clause-halt
returns-in-Err-upgrade_goals-clause-halt g c file told s =
    let core = core_of c.args.core.now in
    let b = c.in_default.ensures {u = tt} in
    let h = b.stands file told s in
    let t = told_moved _ _ _ _ _ b.same b.keeps.0 told in
    let start = subst (λ (es : List Event). Reached core file 1 0 es 1) (sym c.requires.fresh.ahead) h.0 in
    goals_end core file (g.K.Sink.told c.args.sink.now) (g.K.Sink.told c.begin.new.sink) (g.K.Sink.told c.upgrade_goals.new.sink) c.in-Err-upgrade_goals.halt b.out
    ((c.in-Err-upgrade_goals.ensures {u = tt}).halt file t h.1 start)

pub returns-in-Err-close-clause-halt : goal.returns-in-Err-close-clause-halt
returns-in-Err-close-clause-halt g c file told s =
    let core = core_of c.args.core.now in
    let b = c.in_default.ensures {u = tt} in
    let u = c.in-Ok.ensures {u = tt} in
    let h = b.stands file told s in
    let t = told_moved _ _ _ _ _ b.same b.keeps.0 told in
    let start = subst (λ (es : List Event). Reached core file 1 0 es 1) (sym c.requires.fresh.ahead) h.0 in
    let p = u.put in
    let r = p.4 file t h.1 start in
    let a = all_put core file (g.K.Sink.told c.args.sink.now) (g.K.Sink.told c.begin.new.sink) (g.K.Sink.told c.upgrade_goals.new.sink) c.in-Ok.count c.upgrade_goals.new.lines.given p.1 r.0 p.0 b.out p.3 r.1 r.2 in
    close_ends core file (g.K.Sink.told c.args.sink.now) (g.K.Sink.told c.upgrade_goals.new.sink) (g.K.Sink.told c.close.new.sink) c.in-Ok.count c.upgrade_goals.new.lines.given c.in-Err-close.halt a
    (λ e. c.close.ensures.written (c.in-Err-close.is ∙ ap Err e) core file (told_moved _ _ _ _ _ u.same u.keeps.0 t) r.3 (reached_end core file c.in-Ok.count c.upgrade_goals.new.lines.given r.0 p.0 r.2 r.1 p.2))
    ((c.in-Err-close.ensures {u = tt}).halt core file (told_moved _ _ _ _ _ u.same u.keeps.0 t) r.3 a.ends)

pub returns-clause-answer : goal.returns-clause-answer
returns-clause-answer g c file told s =
    let core = core_of c.args.core.now in
    let b = c.in_default.ensures {u = tt} in
    let u = c.in-Ok.ensures {u = tt} in
    let d = c.in-Ok-close.ensures {u = tt} in
    let h = b.stands file told s in
    let t = told_moved _ _ _ _ _ b.same b.keeps.0 told in
    let start = subst (λ (es : List Event). Reached core file 1 0 es 1) (sym c.requires.fresh.ahead) h.0 in
    let p = u.put in
    let r = p.4 file t h.1 start in
    let a = all_put core file (g.K.Sink.told c.args.sink.now) (g.K.Sink.told c.begin.new.sink) (g.K.Sink.told c.upgrade_goals.new.sink) c.in-Ok.count c.upgrade_goals.new.lines.given p.1 r.0 p.0 b.out p.3 r.1 r.2 in
    let end = reached_end core file c.in-Ok.count c.upgrade_goals.new.lines.given r.0 p.0 r.2 r.1 p.2 in
    lines_end core file (g.K.Sink.told c.args.sink.now) (g.K.Sink.told c.upgrade_goals.new.sink) (g.K.Sink.told c.close.new.sink) c.in-Ok.count c.upgrade_goals.new.lines.given a
    (d.accepts core file (told_moved _ _ _ _ _ u.same u.keeps.0 t) r.3 end) d.out

pub returns-clause-accepted : goal.returns-clause-accepted
returns-clause-accepted g c =
    let b = c.in_default.ensures {u = tt} in
    let u = c.in-Ok.ensures {u = tt} in
    let d = c.in-Ok-close.ensures {u = tt} in
    let p = u.put in
    upgraded (core_of c.args.core.now) (g.K.Sink.told c.args.sink.now) (g.K.Sink.told c.begin.new.sink) (g.K.Sink.told c.upgrade_goals.new.sink) (g.K.Sink.told c.close.new.sink) c.in-Ok.count p.1 p.0
    c.args.core.now.formed b.line b.out p.3 p.2 d.line d.out

pub returns-in-Err-upgrade_goals-clause-lines_so_far : goal.returns-in-Err-upgrade_goals-clause-lines_so_far
returns-in-Err-upgrade_goals-clause-lines_so_far g c =
    let core = core_of c.args.core.now in
    let old = g.K.Sink.told c.args.sink.now in
    let first = g.K.Sink.told c.begin.new.sink in
    halts_then old first (g.K.Sink.told c.upgrade_goals.new.sink) c.in-Err-upgrade_goals.halt (one_line old first (Header 2 core.name core.agents) ((c.in_default.ensures {u = tt}).out)) ((c.in-Err-upgrade_goals.ensures {u = tt}).lines_so_far)

pub returns-in-Err-close-clause-lines_so_far : goal.returns-in-Err-close-clause-lines_so_far
returns-in-Err-close-clause-lines_so_far g c =
    let core = core_of c.args.core.now in
    let old = g.K.Sink.told c.args.sink.now in
    let first = g.K.Sink.told c.begin.new.sink in
    let now = g.K.Sink.told c.upgrade_goals.new.sink in
    let p = (c.in-Ok.ensures {u = tt}).put in
    halts_then old now (g.K.Sink.told c.close.new.sink) c.in-Err-close.halt
    (lines_then old first now (one_line old first (Header 2 core.name core.agents) ((c.in_default.ensures {u = tt}).out)) (p.3.written, p.3.out)) ((c.in-Err-close.ensures {u = tt}).lines_so_far)

pub returns-clause-lines : goal.returns-clause-lines
returns-clause-lines g c =
    let core = core_of c.args.core.now in
    let old = g.K.Sink.told c.args.sink.now in
    let first = g.K.Sink.told c.begin.new.sink in
    let now = g.K.Sink.told c.upgrade_goals.new.sink in
    let new = g.K.Sink.told c.close.new.sink in
    let p = (c.in-Ok.ensures {u = tt}).put in
    lines_then old now new (lines_then old first now (one_line old first (Header 2 core.name core.agents) ((c.in_default.ensures {u = tt}).out)) (p.3.written, p.3.out))
    (one_line now new (Closing c.in-Ok.count) ((c.in-Ok-close.ensures {u = tt}).out))

use Rattle.std.proofs.Common.{subst}
use Rattle.slice_core.specs.Cores.{core_of}
use Rattle.slice_core.specs.Tree.{Core}
use Rattle.slice_check.specs.Steps.{ReachedEnd, Stops}
use Rattle.slice_check.proofs.Passing.{passed_on, told_moved}
use Rattle.slice_check.proofs.Stopping.{at_end, fresh_reached}
use Rattle.slice_check.proofs.check.check_lines.Goals as goal

pub returns-in_err-check_closing-clause-stop : goal.returns-in_err-check_closing-clause-stop
returns-in_err-check_closing-clause-stop g c =
    passed_on c.from_residual-in_err-check_closing.result _ c.in_err-check_closing.field-0.0 c.from_residual-in_err-check_closing.ensures.1 (λ file told s.
    let core : Core = core_of c.args.core.now in
    let f = c.requires.fresh in
    let a = c.in_ok-version.ensures {u = tt} in
    let b = c.in_ok-count.ensures {u = tt} in
    let h = a.stands file told s in
    let t = told_moved _ _ _ _ _ a.same a.keeps.0 told in
    let start = fresh_reached core file c.in_ok-version.version c.args.goals f h.0 in
    let d = b.stands file t h.1 start in
    let e = subst (λ (k : Core). ReachedEnd k file c.in_ok-count.count c.check_goals.new.lines.given) f.core_is d.0 in
    (c.in_err-check_closing.ensures {u = tt}).stop core file (told_moved _ _ _ _ _ b.same b.keeps.0 t) d.1 (at_end core file c.in_ok-count.count _ e))

pub returns-clause-accepts : goal.returns-clause-accepts
returns-clause-accepts g c file told s =
    let core : Core = core_of c.args.core.now in
    let f = c.requires.fresh in
    let a = c.in_ok-version.ensures {u = tt} in
    let b = c.in_ok-count.ensures {u = tt} in
    let h = a.stands file told s in
    let t = told_moved _ _ _ _ _ a.same a.keeps.0 told in
    let start = fresh_reached core file c.in_ok-version.version c.args.goals f h.0 in
    let d = b.stands file t h.1 start in
    let e = subst (λ (k : Core). ReachedEnd k file c.in_ok-count.count c.check_goals.new.lines.given) f.core_is d.0 in
    (c.in_ok-check_closing.ensures {u = tt}).accepts core file (told_moved _ _ _ _ _ b.same b.keeps.0 t) d.1 e

pub returns-in_err-count-clause-stop : goal.returns-in_err-count-clause-stop
returns-in_err-count-clause-stop g c =
    passed_on c.from_residual-in_err-count.result _ c.in_err-count.field-0.0 c.from_residual-in_err-count.ensures.1 (λ file told s.
    let core : Core = core_of c.args.core.now in
    let f = c.requires.fresh in
    let a = c.in_ok-version.ensures {u = tt} in
    let h = a.stands file told s in
    let t = told_moved _ _ _ _ _ a.same a.keeps.0 told in
    let start = fresh_reached core file c.in_ok-version.version c.args.goals f h.0 in
    subst (λ (k : Core). Stops k file c.in_err-count.field-0.0) f.core_is ((c.in_err-count.ensures {u = tt}).stop file t h.1 start))

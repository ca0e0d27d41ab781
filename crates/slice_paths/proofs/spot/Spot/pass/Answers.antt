use Rattle.std.proofs.Common.{sym, subst}
use Rattle.slice_paths.specs.Steps.{IsPassed}
use Rattle.slice_paths.proofs.SpotLaws.{passed_to, no_difference}
use Rattle.slice_paths.proofs.spot.Spot.pass.Goals as goal

pub returns-in-Err-clause-err : goal.returns-in-Err-clause-err
returns-in-Err-clause-err c = λ o. no_difference c.args.self.now c.args.upper.now c.args.lower.now (c.in-Err.ensures.overflow o)

pub returns-in-Ok-choose-clause-ok : goal.returns-in-Ok-choose-clause-ok
returns-in-Ok-choose-clause-ok c =
    let s = c.args.self.now in
    let d = c.in-Ok.ensures in
    subst (IsPassed c.args.kind c.args.upper.now c.args.lower.now c.args.choice s) (sym c.in-Ok-choose.ensures)
    (passed_to s c.args.kind c.args.upper.now c.args.lower.now c.in-Ok.form c.args.choice d.difference d.fits)

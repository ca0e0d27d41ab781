use Rattle.std.proofs.Common.{ℕ, sym, subst}
use Rattle.slice_core.specs.Cores.{core_of}
use Rattle.slice_num.specs.Valuation.{IsValuationList}
use Rattle.slice_run.specs.Walk.{Given, outcome}
use Rattle.slice_run.specs.RunLaws.{run_on}
use Rattle.slice_run.specs.Outcomes.{told_of}
use Rattle.slice_core.proofs.Kept.{runs_divide}
use Rattle.slice_run.proofs.GivenRun.{given_walks}
use Rattle.slice_run.proofs.Told.{if_ok_then, if_err_then, told_of_run, refusal_of, told_divides}
use Rattle.slice_core.specs.Measures.{length_of, worth_of}
use Rattle.slice_run.proofs.run.replay.Goals as goal

pub returns-clause-told : goal.returns-clause-told
returns-clause-told c =
    let vs = c.args.valuations.now in
    let core = core_of c.args.core.now in
    let ys = c.args.cuts.now in
    let list = subst (λ (n : ℕ). IsValuationList n vs) (sym c.requires.agents) c.len-bounds.ensures.bounds.1 in
    if_ok_then c.play.result _ _ c.play.ensures.ok (λ o e. (told_of_run vs (run_on vs core ys) (outcome vs core (Given ys)) (told_of o) (given_walks vs core ys c.agents-formed.ensures.formed list) e).0)

pub returns-clause-values : goal.returns-clause-values
returns-clause-values c =
    let vs = c.args.valuations.now in
    let core = core_of c.args.core.now in
    let ys = c.args.cuts.now in
    let list = subst (λ (n : ℕ). IsValuationList n vs) (sym c.requires.agents) c.len-bounds.ensures.bounds.1 in
    if_ok_then c.play.result _ _ c.play.ensures.ok (λ o e. (told_of_run vs (run_on vs core ys) (outcome vs core (Given ys)) (told_of o) (given_walks vs core ys c.agents-formed.ensures.formed list) e).1)

pub returns-clause-division : goal.returns-clause-division
returns-clause-division c =
    let vs = c.args.valuations.now in
    let core = core_of c.args.core.now in
    let ys = c.args.cuts.now in
    let formed = c.agents-formed.ensures.formed in
    let list = subst (λ (n : ℕ). IsValuationList n vs) (sym c.requires.agents) c.len-bounds.ensures.bounds.1 in
    if_ok_then c.play.result _ _ c.play.ensures.ok
    (λ o e.
    told_divides (length_of vs) (run_on vs core ys) (told_of o) (told_of_run vs (run_on vs core ys) (outcome vs core (Given ys)) (told_of o) (given_walks vs core ys formed list) e).0 (runs_divide (worth_of vs) core (length_of vs) ys formed.agents_there))

pub returns-clause-refused : goal.returns-clause-refused
returns-clause-refused c =
    let vs = c.args.valuations.now in
    let core = core_of c.args.core.now in
    let ys = c.args.cuts.now in
    let list = subst (λ (n : ℕ). IsValuationList n vs) (sym c.requires.agents) c.len-bounds.ensures.bounds.1 in
    if_err_then c.play.result _ _ c.play.ensures.err (λ f h. refusal_of vs (run_on vs core ys) (outcome vs core (Given ys)) f (given_walks vs core ys c.agents-formed.ensures.formed list) h)

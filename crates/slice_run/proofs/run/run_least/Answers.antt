use Rattle.std.proofs.Common.{ℕ, sym, subst}
use Rattle.slice_core.specs.Cores.{core_of}
use Rattle.slice_num.specs.Valuation.{IsValuationList}
use Rattle.slice_run.specs.Walk.{Least, outcome}
use Rattle.slice_run.specs.RunLaws.{run_on}
use Rattle.slice_run.specs.Outcomes.{told_of}
use Rattle.slice_core.proofs.Kept.{runs_divide}
use Rattle.slice_run.proofs.LeastRun.{least_walks}
use Rattle.slice_run.proofs.Told.{if_ok_then, if_err_then, least_of, stops_of, told_divides}
use Rattle.slice_core.specs.Measures.{length_of, worth_of}
use Rattle.slice_run.proofs.run.run_least.Goals as goal

pub returns-clause-least : goal.returns-clause-least
returns-clause-least c =
    let vs = c.args.valuations.now in
    let core = core_of c.args.core.now in
    let list = subst (λ (n : ℕ). IsValuationList n vs) (sym c.requires.agents) c.len-bounds.ensures.bounds.1 in
    if_ok_then c.play.result _ _ c.play.ensures.ok (λ o e. (least_of vs (run_on vs core) (outcome vs core Least) (told_of o) (least_walks vs core c.agents-formed.ensures.formed list) e).0)

pub returns-clause-values : goal.returns-clause-values
returns-clause-values c =
    let vs = c.args.valuations.now in
    let core = core_of c.args.core.now in
    let list = subst (λ (n : ℕ). IsValuationList n vs) (sym c.requires.agents) c.len-bounds.ensures.bounds.1 in
    if_ok_then c.play.result _ _ c.play.ensures.ok (λ o e. (least_of vs (run_on vs core) (outcome vs core Least) (told_of o) (least_walks vs core c.agents-formed.ensures.formed list) e).1)

pub returns-clause-division : goal.returns-clause-division
returns-clause-division c =
    let vs = c.args.valuations.now in
    let core = core_of c.args.core.now in
    let formed = c.agents-formed.ensures.formed in
    let list = subst (λ (n : ℕ). IsValuationList n vs) (sym c.requires.agents) c.len-bounds.ensures.bounds.1 in
    if_ok_then c.play.result _ _ c.play.ensures.ok
    (λ o e.
    let least = (least_of vs (run_on vs core) (outcome vs core Least) (told_of o) (least_walks vs core formed list) e).0 in
    told_divides (length_of vs) (run_on vs core least.answers) (told_of o) least.told (runs_divide (worth_of vs) core (length_of vs) least.answers formed.agents_there))

pub returns-clause-stops : goal.returns-clause-stops
returns-clause-stops c =
    let vs = c.args.valuations.now in
    let core = core_of c.args.core.now in
    let list = subst (λ (n : ℕ). IsValuationList n vs) (sym c.requires.agents) c.len-bounds.ensures.bounds.1 in
    if_err_then c.play.result _ _ c.play.ensures.err (λ f h. stops_of vs (run_on vs core) (outcome vs core Least) f (least_walks vs core c.agents-formed.ensures.formed list) h)

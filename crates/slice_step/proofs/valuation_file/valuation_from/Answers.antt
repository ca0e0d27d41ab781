use Rattle.std.proofs.lemmas.Result.{err_from_is_err_and}
use Rattle.serde_json.specs.View.{view}
use Rattle.slice_step.proofs.EntryLaws.{entry_form, entry_passes, entry_refused, ok_both, err_map}
use Rattle.slice_step.proofs.valuation_file.valuation_from.Goals as goal

pub returns-in_err-lists-clause-fault : goal.returns-in_err-lists-clause-fault
returns-in_err-lists-clause-fault c =
    let p = err_from_is_err_and c.from_residual.result c.from_residual.ensures.1 in
    rw (p.1, p.2) (λ e cake_end. entry_form c.args.agent cake_end (view c.args.entry.now) _ (c.in_err-lists.ensures.fault e))

pub returns-clause-passes : goal.returns-clause-passes
returns-clause-passes c =
    let h = c.in_ok-lists.ensures in
    ok_both c.valuation_of.result c.valuation_of.ensures.none c.valuation_of.ensures.ends
    (λ v none is cake_end. entry_passes c.args.agent (view c.args.entry.now) c.in_ok-lists.lists.ends.items c.in_ok-lists.lists.heights.items v h.none h.ends h.heights none is cake_end)

pub returns-clause-fault : goal.returns-clause-fault
returns-clause-fault c =
    let h = c.in_ok-lists.ensures in
    err_map c.valuation_of.result c.valuation_of.ensures.fault
    (λ f is e cake_end. entry_refused c.args.agent (view c.args.entry.now) c.in_ok-lists.lists.ends.items c.in_ok-lists.lists.heights.items f h.none h.ends h.heights (is e) cake_end)

use Rattle.std.proofs.Common.{◌≡◌, ◌∙◌, ◌+◌, ◌++◌, ◌∷◌, [], List, subst, sym, ap, arith, pos}
use Rattle.std.proofs.lemmas.Result.{err_from_is_err_and}
use Rattle.serde_json.specs.View.{items_view}
use Rattle.slice_num.specs.Valuation.{Valuation, cake_length}
use Rattle.slice_step.specs.ValuationFile.{Hold}
use Rattle.slice_step.proofs.FileLaws.{SoFar, not_as_many, first_read, next_read, first_refused, later_refused, all_read}
use Rattle.slice_step.proofs.EntryLaws.{same_end}
use Rattle.slice_step.proofs.valuation_file.valuations_from.Goals as goal

pub returns-then-len-agents-clause-fault : goal.returns-then-len-agents-clause-fault
returns-then-len-agents-clause-fault c other =
    not_as_many c.args.entries.now.items c.args.agents (λ e. let t = c.if-len-agents.true in let n = c.len.ensures in omega (arith, e, t, n))

pub returns-in_err-first-clause-fault : goal.returns-in_err-first-clause-fault
returns-in_err-first-clause-fault c =
    let p = err_from_is_err_and c.from_residual.result c.from_residual.ensures.1 in
    rw (p.1, p.2)
    (λ e. first_refused c.args.entries.now.items c.args.agents c.index.result.now c.in_err-first.field-0.0 (omega arith) (omega arith) c.index.ensures (c.in_err-first.ensures.fault e))

pub loop-i-init : goal.loop-i-init
loop-i-init c =
    let v = c.in_ok-first.first in
    let h = c.in_ok-first.ensures in
    let far = first_read c.args.entries.now.items c.index.result.now v (omega arith) c.index.ensures h.said h.small (h.passes (pos (cake_length v)) ∙ same_end 1 (cake_length v)) in
    let pushed : c.push.new.self.items ≡ v ∷ [] = c.in_ok-push.ensures.items ∙ ap (λ (vs : List Valuation). vs ++ v ∷ []) c.new-items.ensures.items in
    subst (λ (vs : List Valuation). SoFar c.args.entries.now.items 1 c.length-length.result vs) (sym pushed) (subst (λ n. SoFar c.args.entries.now.items 1 n (v ∷ [])) (sym c.length-length.ensures) far)

pub returns-in_err-next_valuation-clause-fault : goal.returns-in_err-next_valuation-clause-fault
returns-in_err-next_valuation-clause-fault c =
    let p = err_from_is_err_and c.from_residual-in_err-next_valuation.result c.from_residual-in_err-next_valuation.ensures.1 in
    rw (p.1, p.2)
    (λ e. later_refused c.args.entries.now.items c.args.agents c.loop-i.i c.length-length.result c.loop-i.items.items c.index-in-loop-i.result.now c.in_err-next_valuation.field-0.0 (omega arith) c.loop-i.invariant (omega arith) c.index-in-loop-i.ensures (c.in_err-next_valuation.ensures.fault e))

pub loop-i-preserved : goal.loop-i-preserved
loop-i-preserved c =
    let h = c.in_ok-next_valuation.ensures in
    subst (λ (vs : List Valuation). SoFar c.args.entries.now.items (c.loop-i.i + 1) c.length-length.result vs) (sym c.in_ok-push-2.ensures.items)
    (next_read c.args.entries.now.items c.loop-i.i c.length-length.result c.loop-i.items.items c.index-in-loop-i.result.now c.in_ok-next_valuation.field-0 c.loop-i.invariant (omega arith) c.index-in-loop-i.ensures h.said h.small h.long h.none)

pub returns-clause-holds : goal.returns-clause-holds
returns-clause-holds c =
    let done = all_read c.args.entries.now.items c.args.agents c.loop-i.i c.length-length.result c.loop-i.items.items (omega arith) (omega arith) c.loop-i.invariant in
    subst (λ (vs : List Valuation). Hold (items_view c.args.entries.now.items) c.args.agents vs) (sym c.new.ensures) done.hold

pub returns-clause-none : goal.returns-clause-none
returns-clause-none c =
    let done = all_read c.args.entries.now.items c.args.agents c.loop-i.i c.length-length.result c.loop-i.items.items (omega arith) (omega arith) c.loop-i.invariant in
    done.none

use Rattle.std.proofs.Common.{◌≡◌, ◌∙◌, ◌+◌, ◌-◌, ◌≤◌, ℕ, List, [], ◌∷◌, ◌++◌, map, take, length, Some, ap, sym, arith}
use Rattle.std.specs.Prelude.{slice_get}
use Rattle.std.proofs.lemmas.Option.{get_or_from_slice_get, slice_get_within}
use Rattle.serde_json.specs.View.{view}
use Rattle.slice_num.specs.Valuation.{Valuation}
use Rattle.slice_counter.specs.CounterLine.{valuation_json}
use Rattle.slice_counter.proofs.Lists.{take_here, json_more, json_all}
use Rattle.slice_counter.proofs.line.valuations_json.Goals as goal

valuation_here : (vs : List Valuation) (i : ℕ) (v : Valuation) → slice_get vs (i + 1 - 1) ≡ Some v → take (i + 1) vs ≡ take i vs ++ v ∷ []
valuation_here vs i v h =
    let here : slice_get vs i ≡ Some v = ap (slice_get vs) (omega arith) ∙ h in
    take_here vs i v (slice_get_within vs i v here) (get_or_from_slice_get vs i v v here)

pub loop-i-preserved : goal.loop-i-preserved
loop-i-preserved c =
    let vs = c.args.valuations.now in
    let v = c.get.result.now in
    ap (map view) c.in_ok-push.ensures.items
    ∙ (json_more valuation_json c.loop-i.values.items c.in_ok-valuation_json.field-0 (take c.loop-i.i vs) v c.loop-i.invariant c.in_ok-valuation_json.ensures
    ∙ ap (map valuation_json) (sym (valuation_here vs c.loop-i.i v c.get.ensures)))

pub returns : goal.returns
returns c =
    let vs = c.args.valuations.now in
    let low : length vs ≤ c.loop-i.i = omega (arith, c.len-i-end.ensures.count, c.loop-i-test.false) in
    let high : c.loop-i.i ≤ length vs = omega (arith, c.len-i-end.ensures.count, c.loop-i.auto.i-end) in
    json_all valuation_json c.loop-i.values vs c.loop-i.i c.loop-i.invariant low high

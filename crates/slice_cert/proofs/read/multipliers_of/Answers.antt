use Rattle.std.proofs.Common.{◌≡◌, ◌∙◌, ◌<◌, List, get_or, length, pos, ap, subst}
use Rattle.serde_json.specs.declared.value.Value.{Value}
use Rattle.slice_cert.proofs.Values.{item_is}
use Rattle.slice_cert.proofs.read.multipliers_of.Goals as goal

pub returns-in_default : goal.returns-in_default
returns-in_default c zs f e =
    let i = c.loop-item.item-index in
    let none = rw c.in_default.is at (c.in_ok-number.ensures {u = tt}) in
    let same = c.deref-item-items.ensures.value in
    let here : c.item-item.result ≡ get_or c.args.items.now.items i c.item-item.result = c.item-item.is ∙ ap (λ (xs : List Value). get_or xs i c.item-item.result) same in
    let lt : i < length c.args.items.now.items = subst (λ (xs : List Value). i < length xs) same c.loop-item-test.true in
    let z = item_is c.args.items.now.items zs i c.item-item.result lt here e in
    none (get_or zs i (pos 0)) (f i (pos 0) z.0) z.1

use Rattle.std.proofs.Common.{◌≡◌, ◌∙◌, ◌<◌, ◌≤◌, ◌-◌, ◌*◌, suc, length, ap, sym, Bool, arith}
use Rattle.slice_expand.specs.Index.{Index, lent_index, child_of, found, bits_below}
use Rattle.slice_expand.proofs.Indexed.{found_next}
use Rattle.slice_expand.proofs.index.find.Goals as goal

pub loop-left-preserved : goal.loop-left-preserved
loop-left-preserved c =
    let word = c.args.word.now in
    let l = c.loop-left in
    let less = l.left - 1 in
    let most : l.left ≤ 8 * length word = l.invariant.0 in
    let some : 0 < l.left = grind arith in
    let next : l.left ≡ suc less = omega (arith, some) in
    let at = c.child-place.ensures ∙ ap (λ (b : Bool). child_of b (lent_index l.place)) c.bit_at.ensures in
    (omega (arith, most), ap (λ (t : Index). found t (bits_below word less)) at ∙ sym (found_next (lent_index l.place) word l.left less next) ∙ l.invariant.1)

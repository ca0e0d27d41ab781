use Rattle.std.proofs.Common.{◌≡◌, ◌∙◌, suc, ◌<◌, ◌-◌, ap, sym, subst, arith, true, false, Some}
use Rattle.std.specs.Result.{IfOk}
use Rattle.slice_expand.specs.Stand.{link_scope}
use Rattle.slice_expand.specs.Index.{Index, Fork, put, bit_at, bits_below, index_of}
use Rattle.slice_expand.proofs.Indexed.{put_one, put_zero}
use Rattle.slice_expand.proofs.index.+put_below.Goals as goal

pub returns-then-bit_at-clause-index : goal.returns-then-bit_at-clause-index
returns-then-bit_at-clause-index t c =
    let word = c.args.word.now in
    let less = c.args.left - 1 in
    let scope = link_scope c.args.link.value in
    let some : 0 < c.args.left = grind arith in
    let next : c.args.left ≡ suc less = omega (arith, some) in
    let bit : bit_at word less ≡ true = sym c.bit_at.ensures ∙ c.if-bit_at.true in
    let below = c.in_ok-put_below.ensures.index ∙ ap (λ (o : Index). put o (bits_below word less) scope) c.in_ok-here.ensures.one in
    let same = (λ i. Fork (c.in_ok-here.ensures.here i) (c.in_ok-here.ensures.zero i) (below i)) ∙ sym (put_one (index_of c.args.old.now) word c.args.left less scope next bit) in
    subst (λ (x : Index). IfOk c.shared-then-bit_at.result (λ r. index_of (Some r) ≡ x)) same c.shared-then-bit_at.ensures.index

pub returns-clause-index : goal.returns-clause-index
returns-clause-index t c =
    let word = c.args.word.now in
    let less = c.args.left - 1 in
    let scope = link_scope c.args.link.value in
    let some : 0 < c.args.left = grind arith in
    let next : c.args.left ≡ suc less = omega (arith, some) in
    let bit : bit_at word less ≡ false = sym c.bit_at.ensures ∙ c.if-bit_at.false in
    let below = c.in_ok-put_below-2.ensures.index ∙ ap (λ (o : Index). put o (bits_below word less) scope) c.in_ok-here.ensures.zero in
    let same = (λ i. Fork (c.in_ok-here.ensures.here i) (below i) (c.in_ok-here.ensures.one i)) ∙ sym (put_zero (index_of c.args.old.now) word c.args.left less scope next bit) in
    subst (λ (x : Index). IfOk c.shared-2.result (λ r. index_of (Some r) ≡ x)) same c.shared-2.ensures.index

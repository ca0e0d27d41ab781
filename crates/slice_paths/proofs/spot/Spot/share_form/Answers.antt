use Rattle.std.proofs.Common.{◌∙◌, ◌<◌, ◌++◌, ◌==◌, [], List, length, arith, sym, ap, subst}
use Rattle.std.specs.Prelude.{slice_index_or, if◌then◌else◌}
use Rattle.slice_num.specs.Pieces.{piece_at}
use Rattle.slice_num.specs.declared.key.Key.{Key}
use Rattle.slice_linear.specs.Terms.{AreDifferent, IsKeySum}
use Rattle.slice_atoms.specs.Numbers.{unknowns}
use Rattle.slice_atoms.proofs.Items.{all_ok}
use Rattle.slice_paths.specs.Spots.{Known}
use Rattle.slice_paths.specs.Steps.{AreGifts}
use Rattle.slice_paths.specs.declared.spot.Gift.{Gift}
use Rattle.slice_paths.proofs.ShareLaws.{owned, gift_there, put_next, take_all, share_differs, share_value}
use Rattle.slice_paths.proofs.spot.Spot.share_form.Goals as goal

pub put_given-requires : goal.put_given-requires
put_given-requires c =
    let s : Known = c.args.self.now in
    let vi = c.self.view_is in
    let e = c.deref-gift-items.ensures.value ∙ ap (λ (k : Known). k.gifts) vi in
    let made = length c.self.inside.atoms.pieces in
    let a : AreGifts made c.deref-gift-items.result.now =
    subst (λ (gs : List Gift). AreGifts made gs) (sym e) (subst (λ (k : Known). AreGifts (length k.atoms.pieces) s.gifts) (sym vi) c.requires.known.gifts) in
    record { there = gift_there made c.deref-gift-items.result.now c.loop-gift.gift-index (record { agent = 0; piece = 0 }) c.loop-gift-test.true a }

pub loop-gift-preserved : goal.loop-gift-preserved
loop-gift-preserved c =
    let s : Known = c.args.self.now in
    let vi = c.self.view_is in
    let a = c.args.agent in
    let o = c.args.owner in
    let i = c.loop-gift.gift-index in
    let d : Gift = record { agent = 0; piece = 0 } in
    let e = c.deref-gift-items.ensures.value ∙ ap (λ (k : Known). k.gifts) vi in
    let there = subst (λ (gs : List Gift). i < length gs) e c.loop-gift-test.true in
    c.in_ok-put_given.ensures
    ∙ (λ j. c.loop-gift.invariant j ++ (if (slice_index_or (e j) i d).agent == o then unknowns a (piece_at (vi j).atoms.pieces (slice_index_or (e j) i d).piece) else []))
    ∙ put_next a o s.atoms.pieces s.gifts i d there

pub of_keys-requires : goal.of_keys-requires
of_keys-requires c =
    let s : Known = c.args.self.now in
    let a = c.args.agent in
    let o = c.args.owner in
    let e = c.deref-gift-items.ensures.value ∙ ap (λ (k : Known). k.gifts) c.self.view_is in
    let all = take_all s.gifts c.loop-gift.gift-index (let l = ap length e in let f = c.loop-gift-test.false in omega (arith, l, f)) in
    let keys = c.as_slice.ensures.value ∙ c.loop-gift.invariant ∙ ap (λ (gs : List Gift). unknowns a (owned o s.atoms.pieces gs)) all in
    subst AreDifferent (sym keys) (share_differs o (length s.atoms.pieces) a s.atoms s.gifts c.requires.known.numbering c.requires.known.gifts)

pub returns : goal.returns
returns c =
    let s : Known = c.args.self.now in
    let a = c.args.agent in
    let o = c.args.owner in
    let r = c.requires in
    let e = c.deref-gift-items.ensures.value ∙ ap (λ (k : Known). k.gifts) c.self.view_is in
    let all = take_all s.gifts c.loop-gift.gift-index (let l = ap length e in let f = c.loop-gift-test.false in omega (arith, l, f)) in
    let keys = c.as_slice.ensures.value ∙ c.loop-gift.invariant ∙ ap (λ (gs : List Gift). unknowns a (owned o s.atoms.pieces gs)) all in
    all_ok c.of_keys.result _ _ (λ f z. share_value s a o f r.known r.agent r.owner (subst (λ (ks : List Key). IsKeySum ks f) keys z)) c.of_keys.ensures

use Rattle.std.proofs.Common.{◌≡◌, ◌∙◌, ◌+◌, ◌≤◌, ℕ, Some, None, length, sym, ap, arith}
use Rattle.slice_num.specs.Pieces.{piece_at}
use Rattle.slice_core.specs.Nodes.{tree_of}
use Rattle.slice_core.specs.Sizes.{most_cuts}
use Rattle.slice_atoms.proofs.Items.{all_ok}
use Rattle.slice_paths.specs.Retraced.{part_in}
use Rattle.slice_paths.specs.Spots.{Known}
use Rattle.slice_paths.proofs.PartSteps.{few_parts}
use Rattle.slice_paths.proofs.RetraceNone.{no_cut}
use Rattle.slice_paths.proofs.retrace.stride_cut.Goals as goal

pub parts-parts-requires-clause-few : goal.parts-parts-requires-clause-few
parts-parts-requires-clause-few c =
    let s = c.args.spot in
    let h = c.requires.ready.2 in
    let p = c.args.piece in
    let few : length s.atoms.olds + (1 + most_cuts (tree_of c.args.next.now)) ≤ 64 = h.goes.few_cuts in
    let e = ap (λ (k : Known). length (piece_at k.atoms.pieces p)) c.spot.view_is in
    omega (arith, e, few_parts s.atoms p h.known.numbering, few)

pub answer_cut-requires-clause-there : goal.answer_cut-requires-clause-there
answer_cut-requires-clause-there c =
    let e = ap (λ (k : Known). length (piece_at k.atoms.pieces c.args.piece)) c.spot.view_is in
    omega (arith, c.in-Some.ensures.there, c.parts-parts.ensures, e)

pub answer_cut-requires-clause-few : goal.answer_cut-requires-clause-few
answer_cut-requires-clause-few c =
    let s = c.args.spot in
    let h = c.requires.ready.2 in
    let few : length s.atoms.olds + (1 + most_cuts (tree_of c.args.next.now)) ≤ 64 = h.goes.few_cuts in
    omega (arith, few_parts s.atoms c.args.piece h.known.numbering, few)

pub returns-in-None : goal.returns-in-None
returns-in-None c = λ l r.
    (let a = c.args in
    let h = c.requires.ready in
    let e = ap (λ (k : Known). length (piece_at k.atoms.pieces a.piece)) c.spot.view_is in
    let parts : c.parts-parts.result ≡ length (piece_at a.spot.atoms.pieces a.piece) = c.parts-parts.ensures ∙ e in
    let none : part_in (length (piece_at a.spot.atoms.pieces a.piece)) a.by.choices.now ≡ None = ap (λ (m : ℕ). part_in m a.by.choices.now) (sym parts) ∙ sym c.part_taken.ensures.part ∙ c.in-None.is in
    no_cut a.by.agents a.agent a.piece l r h.0 h.1 a.amount.now (tree_of a.next.now) a.spot a.by.choices.now h.2 none)

pub returns : goal.returns
returns c =
    let a = c.args in
    let e = ap (λ (k : Known). length (piece_at k.atoms.pieces a.piece)) c.spot.view_is in
    let parts : c.parts-parts.result ≡ length (piece_at a.spot.atoms.pieces a.piece) = c.parts-parts.ensures ∙ e in
    let named : part_in (length (piece_at a.spot.atoms.pieces a.piece)) a.by.choices.now ≡ Some c.in-Some.part = ap (λ (m : ℕ). part_in m a.by.choices.now) (sym parts) ∙ sym c.part_taken.ensures.part ∙ c.in-Some.is in
    all_ok c.answer_cut.result _ _ (λ o f l r. f l r a.by.choices.now named) c.answer_cut.ensures

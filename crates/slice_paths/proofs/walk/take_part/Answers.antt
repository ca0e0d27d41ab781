use Rattle.std.proofs.Common.{◌+◌, ◌≤◌, length, arith, ap}
use Rattle.slice_num.specs.Pieces.{piece_at}
use Rattle.slice_core.specs.Nodes.{tree_of}
use Rattle.slice_core.specs.Sizes.{most_cuts}
use Rattle.slice_paths.specs.Spots.{Known, form_of}
use Rattle.slice_paths.proofs.PartSteps.{few_parts, parts_end}
use Rattle.slice_paths.proofs.walk.take_part.Goals as goal

pub parts-parts-requires-clause-few : goal.parts-parts-requires-clause-few
parts-parts-requires-clause-few c =
    let s = c.args.spot in
    let h = c.requires.ready in
    let p = c.args.cut.piece in
    let few : length s.atoms.olds + 1 + most_cuts (tree_of c.args.cut.next.now) ≤ 64 = h.goes.few_cuts in
    let e = ap (λ (k : Known). length (piece_at k.atoms.pieces p)) c.spot.view_is in
    omega (arith, e, few_parts s.atoms p h.known.numbering, few)

pub early_part-requires-clause-few : goal.early_part-requires-clause-few
early_part-requires-clause-few c =
    let s = c.args.spot in
    let h = c.requires.ready in
    let few : length s.atoms.olds + 1 + most_cuts (tree_of c.args.cut.next.now) ≤ 64 = h.goes.few_cuts in
    omega (arith, few_parts s.atoms c.args.cut.piece h.known.numbering, few)

pub returns-then-part-parts-clause-ok : goal.returns-then-part-parts-clause-ok
returns-then-part-parts-clause-ok c =
    let s = c.args.spot in
    let cut = c.args.cut in
    let h = c.requires.ready in
    let e = ap (λ (k : Known). length (piece_at k.atoms.pieces cut.piece)) c.spot.view_is in
    let few : length (piece_at s.atoms.pieces cut.piece) ≤ c.args.part = omega (arith, e, c.parts-parts.ensures, c.if-part-parts.true) in
    record {
      comes = parts_end c.args.agents cut.agent cut.piece (form_of s.atoms cut.amount) c.args.part (tree_of cut.next.now) s (h.goes.held cut.piece h.goes.is_live) few;
      ready = tt;
      fewer = omega arith;
    }

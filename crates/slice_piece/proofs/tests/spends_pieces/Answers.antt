use Rattle.std.proofs.Common.{◌≡◌, ◌∙◌, ◌∷◌, [], List, pos, ap, sym, subst, arith, lit<}
use Rattle.std.specs.Prelude.{slice_get, Some}
use Rattle.std.proofs.lemmas.Int.{ints}
use Rattle.slice_num.specs.Rational.{Rational, ratio}
use Rattle.slice_num.specs.Valuation.{cake}
use Rattle.slice_num.specs.declared.interval.Interval.{Interval}
use Rattle.slice_num.proofs.FieldLaws.{at_most_ratios}
use Rattle.slice_piece.specs.Ledger.{IsWithin}
use Rattle.slice_piece.proofs.tests.spends_pieces.Goals as goal

pub cut-requires-clause-within : goal.cut-requires-clause-within
cut-requires-clause-within g c i one =
    let is : c.in_ok-y.y ≡ ratio (pos 3) 2 = c.in_ok-y.ensures.value.1 in
    let first : Some (cake 4) ≡ Some i = ap (λ (piece : List Interval). slice_get piece 0) (sym c.in_ok-whole.ensures) ∙ one in
    let here : cake 4 ≡ i = cc in
    let within : IsWithin (ratio (pos 3) 2) (cake 4) = (at_most_ratios (pos 0) (pos 3) 1 2 (lit< tt) (lit< tt) (omega (arith, ints)), at_most_ratios (pos 3) (pos 4) 2 1 (lit< tt) (lit< tt) (omega (arith, ints))) in
    subst (λ (j : Interval). IsWithin c.in_ok-y.y j) here (subst (λ (q : Rational). IsWithin q (cake 4)) (sym is) within)

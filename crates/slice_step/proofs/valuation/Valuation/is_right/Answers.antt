use Rattle.std.proofs.Common.{◌≡◌, ◌∙◌, ap, sym, arith, true, false, ◌<◌, length}
use Rattle.std.specs.Prelude.{◌&&◌}
use Rattle.std.proofs.lemmas.Grind.{common_steps}
use Rattle.slice_num.specs.Fitting.{Fitted, Unfit, fitting_of, at_most, same_as}
use Rattle.slice_step.proofs.Answering.{right_none, right_outside, right_inside, lies_in}
use Rattle.slice_step.proofs.valuation.Valuation.is_right.Goals as goal

pub returns-then-part-piece-clause-fitting : goal.returns-then-part-piece-clause-fitting
returns-then-part-piece-clause-fitting c = sym (right_none c.args.self.now c.args.piece.now c.args.share.now c.args.answer.now c.if-part-piece.true)

pub returns-then-not-is_within-clause-fitting : goal.returns-then-not-is_within-clause-fitting
returns-then-not-is_within-clause-fitting c =
    let there : c.args.answer.now.part < length c.args.piece.now = omega arith in
    let out : (at_most c.index-piece-part.result.from c.args.answer.now.point && at_most c.args.answer.now.point c.index-piece-part.result.to) ≡ false = grind (arith, common_steps) in
    sym (right_outside c.args.self.now c.args.piece.now c.args.share.now c.args.answer.now c.index-piece-part.result there c.index-piece-part.is out)

pub returns-in_err-worth-clause-fitting : goal.returns-in_err-worth-clause-fitting
returns-in_err-worth-clause-fitting c =
    let there : c.args.answer.now.part < length c.args.piece.now = omega arith in
    let inside : (at_most c.index-piece-part.result.from c.args.answer.now.point && at_most c.args.answer.now.point c.index-piece-part.result.to) ≡ true = grind (arith, common_steps) in
    let e : fitting_of c.from_residual.result ≡ Unfit = grind (arith, common_steps) in
    e ∙ right_inside c.args.self.now c.args.piece.now c.args.share.now c.args.answer.now c.index-piece-part.result Unfit there c.index-piece-part.is inside c.in_err-worth.ensures

pub returns-clause-fitting : goal.returns-clause-fitting
returns-clause-fitting c =
    let there : c.args.answer.now.part < length c.args.piece.now = omega arith in
    let inside : (at_most c.index-piece-part.result.from c.args.answer.now.point && at_most c.args.answer.now.point c.index-piece-part.result.to) ≡ true = grind (arith, common_steps) in
    let e : c.eq.result ≡ same_as c.in_ok-worth.worth c.args.share.now = grind (arith, common_steps) in
    ap Fitted e ∙ right_inside c.args.self.now c.args.piece.now c.args.share.now c.args.answer.now c.index-piece-part.result (Fitted c.in_ok-worth.worth) there c.index-piece-part.is inside c.in_ok-worth.ensures

pub returns-clause-lies : goal.returns-clause-lies
returns-clause-lies c _ =
    let there : c.args.answer.now.part < length c.args.piece.now = omega arith in
    let inside : (at_most c.index-piece-part.result.from c.args.answer.now.point && at_most c.args.answer.now.point c.index-piece-part.result.to) ≡ true = grind (arith, common_steps) in
    lies_in c.args.piece.now c.args.answer.now c.index-piece-part.result there c.index-piece-part.is inside

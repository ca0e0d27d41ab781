use Rattle.std.proofs.Common.{◌≡◌, ◌∙◌, ap, sym, arith, subst}
use Rattle.std.proofs.lemmas.Grind.{common_steps}
use Rattle.slice_num.specs.Rational.{Rational}
use Rattle.slice_num.specs.Fitting.{fitting_of}
use Rattle.slice_num.specs.Valuation.{IsValuation}
use Rattle.slice_step.specs.Arithmetic.{share_in}
use Rattle.slice_step.proofs.Walk.{whole_some}
use Rattle.slice_step.proofs.Exact.{if_ok-fitting, share_in-exact}
use Rattle.slice_step.proofs.valuation.Valuation.share.Goals as goal

pub div-requires : goal.div-requires
div-requires c = λ e. whole_some c.whole_value.result c.whole_value.ensures.some (ap (λ (q : Rational). q.num) (sym c.whole.ensures) ∙ e)

pub returns-clause-exact : goal.returns-clause-exact
returns-clause-exact c =
    let v = c.args.self.now in
    let piece = c.args.piece.now in
    let valuation : IsValuation v = subst IsValuation c.self.view_is c.self.invariant.0 in
    let fitting : fitting_of c.div.result ≡ share_in v piece = grind (arith, common_steps) in
    if_ok-fitting c.div.result (share_in v piece) _ fitting (λ r e order. share_in-exact v piece r valuation order e)

use Rattle.std.proofs.Common.{◌∙◌, ap, sym}
use Rattle.slice_num.specs.Rational.{Rational}
use Rattle.slice_step.proofs.Walk.{whole_some}
use Rattle.slice_step.proofs.valuation.Valuation.share_with.Goals as goal

pub div-requires : goal.div-requires
div-requires c = λ e. whole_some c.whole_value.result c.whole_value.ensures.some (ap (λ (q : Rational). q.num) (sym c.whole.ensures) ∙ e)

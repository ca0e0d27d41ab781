use Rattle.std.proofs.Common.{ap, ◌∙◌, sym}
use Rattle.slice_num.specs.Rational.{Rational}
use Rattle.slice_step.proofs.Walk.{whole_some}
use Rattle.slice_step.proofs.place.point_of.Goals as goal

pub div-requires : goal.div-requires
div-requires c = λ e. whole_some c.args.place.height c.requires.rises (ap (λ (q : Rational). q.num) (sym c.whole-2.ensures) ∙ e)

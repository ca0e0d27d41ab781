use Rattle.std.proofs.Common.{sym, subst, List, ℤ}
use Rattle.slice_num.specs.Rational.{Fits}
use Rattle.slice_linear.specs.Sums.{at}
use Rattle.slice_linear.specs.LowestRow.{IsInLowestForm}
use Rattle.slice_linear.proofs.Reduced.{reduced_is, reduced_fits}
use Rattle.slice_linear.proofs.lowest.reduce.Goals as goal

pub returns-clause-lowest : goal.returns-clause-lowest
returns-clause-lowest c = subst IsInLowestForm (sym c.divide_out.ensures) (reduced_is c.args.numbers.now).lowest

pub returns-clause-fit : goal.returns-clause-fit
returns-clause-fit c = λ j. subst (λ (xs : List ℤ). Fits (at xs j)) (sym c.divide_out.ensures) (reduced_fits c.args.numbers.now c.requires j)

use Rattle.std.proofs.Common.{◌∙◌, ap}
use Rattle.slice_tableau.specs.Sparse.{dense}
use Rattle.slice_tableau.proofs.DenseLaws.{empty_is}
use Rattle.slice_tableau.proofs.row.SparseRow.zeros.Goals as goal

pub returns : goal.returns
returns c = ap (dense c.args.width) (c.reserve.ensures.items ∙ c.clear.ensures.items) ∙ empty_is c.args.width

use Rattle.slice_linear.proofs.Told.{forms_are_told}
use Rattle.slice_linear.proofs.laws.forms_are_told_by_coefficients.Goals as goal

pub returns : goal.returns
returns c = forms_are_told

use Rattle.slice_linear.proofs.Dots.{rows_mean_their_forms}
use Rattle.slice_linear.proofs.laws.rows_mean_their_forms.Goals as goal

pub returns : goal.returns
returns c = rows_mean_their_forms

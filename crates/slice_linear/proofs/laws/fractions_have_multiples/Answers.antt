use Rattle.slice_linear.proofs.Dots.{multiple}
use Rattle.slice_linear.proofs.laws.fractions_have_multiples.Goals as goal

pub returns : goal.returns
returns c = multiple

use Rattle.slice_paths.proofs.ShortForms.{short_forms_refute}
use Rattle.slice_paths.proofs.laws.short_forms_refute.Goals as goal

pub returns : goal.returns
returns c = short_forms_refute

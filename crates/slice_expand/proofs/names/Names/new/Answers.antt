use Rattle.slice_expand.proofs.Indexed.{none_indexed}
use Rattle.slice_expand.proofs.names.Names.new.Goals as goal

pub invariant_of-result : goal.invariant_of-result
invariant_of-result c = none_indexed

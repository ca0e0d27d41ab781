use Rattle.slice_cert.proofs.OneLine.{one_line}
use Rattle.slice_cert.proofs.laws.bytes_are_one_line_at_most.Goals as goal

pub returns : goal.returns
returns c = one_line

use Rattle.std.proofs.Common.{length}
use Rattle.slice_cert.proofs.short.+used.Given as goal

abbrev pub decreases-used : goal.decreases-used
decreases-used l = length l.multipliers.now

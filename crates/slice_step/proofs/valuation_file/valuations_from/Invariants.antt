use Rattle.slice_step.proofs.FileLaws.{SoFar}
use Rattle.slice_step.proofs.valuation_file.valuations_from.Given as goal

abbrev pub invariant-loop-i : goal.invariant-loop-i
invariant-loop-i l = SoFar l.entries.items l.i l.length l.items.items

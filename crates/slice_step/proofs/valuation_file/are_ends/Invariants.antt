use Rattle.std.proofs.Common.{◌≡◌, ◌&&◌, ◌^◌, drop, pos, int_le}
use Rattle.slice_step.specs.ValuationFile.{are_ends, do_rise, last_number}
use Rattle.slice_step.proofs.valuation_file.are_ends.Given as goal

abbrev pub invariant-loop-end : goal.invariant-loop-end
invariant-loop-end l = are_ends l.ends.items ≡ (do_rise l.low (drop l.end-index l.ends.items) && int_le (last_number l.low (drop l.end-index l.ends.items)) (pos (10 ^ 6)))

use Rattle.std.proofs.Common.{◌≡◌, take, map, pos}
use Rattle.slice_step.proofs.valuation_file.naturals.Given as goal

abbrev pub invariant-loop-number : goal.invariant-loop-number
invariant-loop-number l = take l.number-index l.numbers.items ≡ map (λ n. pos n) l.copy.items

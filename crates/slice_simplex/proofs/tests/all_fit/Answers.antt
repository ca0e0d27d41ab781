use Rattle.std.proofs.Common.{arith, inl, inr, length, pos}
use Rattle.std.proofs.lemmas.Bool.{cases_lt}
use Rattle.std.proofs.lemmas.List.{get_or_past}
use Rattle.slice_simplex.proofs.tests.all_fit.Goals as goal

pub returns : goal.returns
returns c = λ _ j. elim (cases_lt j (length c.args.coefs.now)) [
  | inl lt ↦ c.loop-j.invariant.done j (omega arith)
  | inr ge ↦ rw (get_or_past c.args.coefs.now j (pos 0) ge) (omega arith)
]

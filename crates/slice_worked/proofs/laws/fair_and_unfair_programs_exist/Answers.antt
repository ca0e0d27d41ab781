use Rattle.slice_worked.proofs.Headlines.{a_fair_and_an_unfair_program}
use Rattle.slice_worked.proofs.laws.fair_and_unfair_programs_exist.Goals as goal

pub returns : goal.returns
returns c = a_fair_and_an_unfair_program

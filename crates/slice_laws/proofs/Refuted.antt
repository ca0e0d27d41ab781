-- Where no goal of a program's core has rows with a solution, or some multipliers refute each, every run of the program is fair.
use Rattle.std.proofs.Common.{get_or, inl}
use Rattle.slice_linear.proofs.Motzkin.{refuted_rows_have_no_solution}
use Rattle.slice_paths.specs.Goals.{goals}
use Rattle.slice_laws.specs.Laws.{UnsolvedGoalsMeanFairRuns, RefutedGoalsMeanFairRuns}
use Rattle.slice_top.proofs.Fair.{refuted_program_fair}

pub unsolved_fair : UnsolvedGoalsMeanFairRuns
unsolved_fair text p c is made none = refuted_program_fair text p c is made (λ i g l. inl (none i g l))

pub refuted_fair : RefutedGoalsMeanFairRuns
refuted_fair text p c is made refuted =
    unsolved_fair text p c is made (λ i g l. let h = refuted i g l in refuted_rows_have_no_solution (get_or (goals c) i g).rows h.0 h.1)

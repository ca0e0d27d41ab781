use Rattle.std.proofs.Common.{ap, pos, subst, List}
use Rattle.std.proofs.lemmas.List.Elements.{All-from_get_or}
use Rattle.slice_core.specs.Cores.{core_of}
use Rattle.slice_num.specs.Rational.{Fits}
use Rattle.slice_linear.specs.Rows.{LinearRow, Refutes}
use Rattle.slice_simplex.specs.ProverAnswer.{IsProverAnswer, RefutedBy}
use Rattle.slice_verify.specs.Report.{pivot_limit}
use Rattle.slice_verify.proofs.Takes.{last_is_goal}
use Rattle.slice_verify.proofs.verifier.decide.Goals as goal

pub settle-requires-clause-refuted : goal.settle-requires-clause-refuted
settle-requires-clause-refuted g c =
    let m = c.in-Ok-Refuted.multipliers.items in
    let run = rw c.in-Ok-Refuted.field-0-is at c.in-Ok-Refuted.ensures.run in
    let shows = rw c.in-Ok-Refuted.field-0-is at c.in-Ok-Refuted.ensures.shows in
    record {
      ends = subst (λ (rows : List LinearRow). IsProverAnswer rows pivot_limit (RefutedBy m)) c.rows.ensures run;
      refutes = subst (λ (rows : List LinearRow). Refutes rows m) c.rows.ensures shows;
    }

pub settle-requires-clause-fits : goal.settle-requires-clause-fits
settle-requires-clause-fits g c =
    let fits = rw c.in-Ok-Refuted.field-0-is at c.in-Ok-Refuted.ensures.fits in
    All-from_get_or Fits c.in-Ok-Refuted.multipliers.items (pos 0) (λ i l. fits i)

pub found-requires-clause-goal : goal.found-requires-clause-goal
found-requires-clause-goal g c = last_is_goal (core_of c.args.core.now) c.args.goals.now c.args.goal.now (ap core_of c.requires.core) c.requires.last

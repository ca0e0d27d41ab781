use Rattle.std.proofs.Common.{inl, refl, arith}
use Rattle.slice_check.proofs.Giving.{passed_over, too_many}
use Rattle.slice_check.proofs.check.pass_over.Goals as goal

pub returns-in-Ok-clause-ok : goal.returns-in-Ok-clause-ok
returns-in-Ok-clause-ok c =
    let a = (c.in-Ok.ensures {u = tt}).ok in
    passed_over c.args.goals.now c.skip.new.self c.args.goal.now c.args.passed _ c.requires.last a.0 a.1 a.2

pub returns-in-Ok-clause-went : goal.returns-in-Ok-clause-went
returns-in-Ok-clause-went c =
    let a = c.in-Ok.ensures {u = tt} in
    record {
      same_core = a.core;
      more = omega (arith, a.ok.1);
      few = a.few;
      rest = a.rest;
    }

pub returns-in-Err-GoalLimit-clause-stop : goal.returns-in-Err-GoalLimit-clause-stop
returns-in-Err-GoalLimit-clause-stop c =
    let h = (c.in-Err-GoalLimit.ensures {u = tt}).limit c.in-Err-GoalLimit.field-0-is in
    inl (refl, too_many c.args.goals.now c.args.goal.now c.args.passed h.0 c.requires.last h.1 h.2)

use Rattle.std.proofs.Common.{◌≡◌, ◌∙◌, ◌+◌, sym, subst, ℕ, List, length, arith}
use Rattle.slice_core.specs.Cores.{core_of}
use Rattle.slice_core.specs.declared.core_tree.Core.{Core}
use Rattle.slice_paths.specs.Events.{Gives, next_goal}
use Rattle.slice_paths.specs.Goals.{goals}
use Rattle.slice_check.specs.Certificate.{AtGoal}
use Rattle.slice_check.specs.Steps.{Reached, ReachedEnd, Stops}
use Rattle.slice_check.proofs.Passing.{passed_on, told_moved}
use Rattle.slice_check.proofs.Standing.{all_given}
use Rattle.slice_check.proofs.Stopping.{at_goal, goals_stop}
use Rattle.slice_check.proofs.check.check_goals.Goals as goal

pub returns-in_err-goal-clause-stop : goal.returns-in_err-goal-clause-stop
returns-in_err-goal-clause-stop g c =
    passed_on c.from_residual.result _ c.in_err-goal.field-0.0 c.from_residual.ensures.1 (λ file told s r.
    let i = c.loop-goal.invariant.reached file told s r in
    goals_stop (core_of c.args.goals.now.core) file c.args.version c.loop-goal.lines.given c.loop-goal.goals _ i.0 ((c.in_err-goal.ensures {u = tt}).fault))

pub returns-in_err-check_goal-clause-stop : goal.returns-in_err-check_goal-clause-stop
returns-in_err-check_goal-clause-stop g c =
    passed_on c.from_residual-in_err-check_goal.result _ c.in_err-check_goal.field-0.0 c.from_residual-in_err-check_goal.ensures.1 (λ file told s r.
    let v = c.loop-goal.invariant in
    let i = v.reached file told s r in
    let k = rw c.in-Some.is at ((c.in_ok-goal.ensures {u = tt}).goal) in
    let first = c.args.goals.now.core in
    let same : c.next_goal.new.goals.core ≡ first = k.went.same_core ∙ v.core in
    let number : c.in-Some.goal.number ≡ c.loop-goal.goals.given = k.number in
    let here = at_goal (core_of first) file c.args.version c.loop-goal.goals.given c.loop-goal.lines.given c.in-Some.goal c.loop-goal.goals.ahead _ i.0 k.comes in
    let there = subst (λ (x : ℕ). AtGoal (core_of first) file c.args.version x c.loop-goal.lines.given c.in-Some.goal) (sym number) here in
    subst (λ (x : Core). Stops (core_of x) file c.in_err-check_goal.field-0.0) same
    ((c.in_err-check_goal.ensures {u = tt}).stop file (told_moved _ _ _ _ _ v.same v.keeps.0 told) i.1
    (subst (λ (x : Core). AtGoal (core_of x) file c.args.version c.in-Some.goal.number c.loop-goal.lines.given c.in-Some.goal) (sym same) there)))

pub loop-goal-preserved : goal.loop-goal-preserved
loop-goal-preserved g c =
    let v = c.loop-goal.invariant in
    let a = c.in_ok-check_goal.ensures {u = tt} in
    let k = rw c.in-Some.is at ((c.in_ok-goal.ensures {u = tt}).goal) in
    let first = c.args.goals.now.core in
    let same : c.next_goal.new.goals.core ≡ first = k.went.same_core ∙ v.core in
    let number : c.in-Some.goal.number ≡ c.loop-goal.goals.given = k.number in
    record {
      same = a.same ∙ v.same;
      asked = subst (λ (x : List ℕ). g.S.Shelf.CanAsk c.check_goal.new.shelf x) (sym a.keeps.0) ((a.rule c.loop-goal.lines.name).0 v.asked);
      rule = λ x. (λ q. (a.rule x).0 ((v.rule x).0 q), λ q. (v.rule x).1 ((a.rule x).1 q));
      later = omega (arith, v.later, a.later);
      keeps = (a.keeps.0 ∙ v.keeps.0, a.keeps.1 ∙ v.keeps.1, a.keeps.2 ∙ v.keeps.2);
      core = a.went.same_core ∙ same;
      rest = a.went.rest;
      few = a.went.few;
      given = omega (arith, a.given, v.given, a.went.more, k.last.number, k.number);
      reached = λ file told s r.
          let i = v.reached file told s r in
          let here = subst (λ (x : ℕ). Reached (core_of first) file c.args.version x c.loop-goal.goals.ahead c.loop-goal.lines.given) (sym number) i.0 in
          let comes = subst (λ (x : ℕ). next_goal c.loop-goal.goals.ahead x ≡ Gives c.in-Some.goal c.next_goal.new.goals.ahead) (sym number) k.comes in
          let there = subst (λ (x : Core). Reached (core_of x) file c.args.version c.in-Some.goal.number c.loop-goal.goals.ahead c.loop-goal.lines.given) (sym same) here in
          let w = a.stands file c.loop-goal.goals.ahead (told_moved _ _ _ _ _ v.same v.keeps.0 told) i.1 there comes in (
            subst (λ (x : ℕ). Reached (core_of first) file c.args.version c.check_goal.new.goals.given c.check_goal.new.goals.ahead x) (sym a.given)
                (subst (λ (x : Core). Reached (core_of x) file c.args.version c.check_goal.new.goals.given c.check_goal.new.goals.ahead (c.loop-goal.lines.given + 1)) same w.0),
            w.1,
          );
    }

pub returns-clause-stands : goal.returns-clause-stands
returns-clause-stands g c file told s r =
    let v = c.loop-goal.invariant in
    let i = v.reached file told s r in
    let k = rw c.in_default.is at ((c.in_ok-goal.ensures {u = tt}).goal) in
    let n : c.given.result ≡ c.loop-goal.goals.given = c.given.ensures ∙ k.1 in
    let first = c.args.goals.now.core in
    let all = subst (λ (x : Core). c.loop-goal.goals.given ≡ length (goals (core_of x))) v.core (all_given c.loop-goal.goals v.rest k.0) in (
      subst (λ (x : ℕ). ReachedEnd (core_of first) file x c.loop-goal.lines.given) (sym n)
          (record { version = c.args.version; ahead = c.loop-goal.goals.ahead; reached = i.0; ends = k.0; all = all }),
      i.1,
    )

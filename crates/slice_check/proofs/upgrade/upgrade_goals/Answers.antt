use Rattle.std.proofs.Common.{◌≡◌, ◌∙◌, sym, subst, ap, refl, ℕ, List, [], ◌∷◌, ◌++◌, length, arith}
use Rattle.slice_core.specs.Cores.{core_of}
use Rattle.slice_core.specs.declared.core_tree.Core.{Core}
use Rattle.slice_paths.specs.Events.{Gives, NoMore, next_goal}
use Rattle.slice_paths.specs.Goals.{goals}
use Rattle.slice_cert.specs.declared.line.Line.TheVariants.{Refutation}
use Rattle.slice_check.specs.Upgrading.{IsPut, IsReadTo}
use Rattle.slice_check.proofs.Passing.{told_moved}
use Rattle.slice_check.proofs.Putting.{goal_halts, none_halts, put_first, put_next, read_first, read_next}
use Rattle.slice_check.proofs.Standing.{all_given}
use Rattle.slice_check.proofs.Stopping.{at_goal}
use Rattle.slice_check.proofs.WholeLines.{halts_then}
use Rattle.slice_check.proofs.upgrade.upgrade_goals.Goals as goal

pub loop-stop-init : goal.loop-stop-init
loop-stop-init g c =
    let first = c.requires.first in
    record {
      same = refl;
      asked = c.requires.asked;
      rule = λ n. (λ q. q, λ q. q);
      later = omega arith;
      out_later = omega arith;
      keeps = (refl, refl, refl);
      core = c.requires.core;
      rest = c.requires.rest;
      few = omega (arith, first.1);
      given = omega (arith, first.0, first.1);
      put = (
        [],
        put_first (core_of c.args.core.now) (g.K.Sink.told c.args.sink.now) c.args.goals.now.given first.1,
        λ file told s r. (read_first (core_of c.args.core.now) file c.args.goals.now.given c.args.lines.now.given c.args.goals.now.ahead first.1 first.0 r, s),
      );
    }

pub returns-in-Err-clause-halt : goal.returns-in-Err-clause-halt
returns-in-Err-clause-halt g c file told s r =
    let v = c.loop-stop.invariant in
    let p = v.put in
    let x = p.2 file told s r in
    none_halts (core_of c.args.core.now) file (g.K.Sink.told c.args.sink.now) (g.K.Sink.told c.loop-stop.sink) c.loop-stop.lines.given c.loop-stop.taken c.loop-stop.goals p.0 c.in-Err.stop p.1 x.0 ((c.in-Err.ensures {u = tt}).fault)

pub returns-in-Ok-None-clause-put : goal.returns-in-Ok-None-clause-put
returns-in-Ok-None-clause-put g c =
    let v = c.loop-stop.invariant in
    let k = rw c.in-Ok-None.field-0-is at ((c.in-Ok-None.ensures {u = tt}).goal) in
    let p = v.put in
    let core = core_of c.args.core.now in
    let n : c.given.result ≡ c.loop-stop.goals.given = c.given.ensures ∙ k.1 in
    let all = subst (λ (x : Core). c.loop-stop.goals.given ≡ length (goals (core_of x))) v.core (all_given c.loop-stop.goals v.rest k.0) in (
      p.0,
      c.loop-stop.taken,
      n ∙ all,
      subst (λ (x : ℕ). IsPut core (g.K.Sink.told c.args.sink.now) (g.K.Sink.told c.loop-stop.sink) x c.loop-stop.taken p.0) (sym n) p.1,
      λ file told s r.
          let x = p.2 file told s r in (
            c.loop-stop.goals.ahead,
            subst (λ (y : ℕ). next_goal c.loop-stop.goals.ahead y ≡ NoMore) (sym n) k.0,
            subst (λ (y : ℕ). IsReadTo core file y c.loop-stop.goals.ahead c.loop-stop.lines.given p.0) (sym n) x.0,
            x.1,
          ),
    )

pub returns-in-Err-upgrade_goal-clause-halt : goal.returns-in-Err-upgrade_goal-clause-halt
returns-in-Err-upgrade_goal-clause-halt g c file told s r =
    let v = c.loop-stop.invariant in
    let k = rw c.in-Ok-Some.field-0-is at ((c.in-Ok-Some.ensures {u = tt}).goal) in
    let p = v.put in
    let x = p.2 file told s r in
    let core = core_of c.args.core.now in
    let old = g.K.Sink.told c.args.sink.now in
    let now = g.K.Sink.told c.loop-stop.sink in
    let goal = c.in-Ok-Some.goal in
    let number : goal.number ≡ c.loop-stop.goals.given = k.number in
    let same : c.next_goal.new.goals.core ≡ c.args.core.now = k.went.same_core ∙ v.core in
    let here = subst (λ (y : ℕ). IsReadTo core file y c.loop-stop.goals.ahead c.loop-stop.lines.given p.0) (sym number) x.0 in
    let comes = subst (λ (y : ℕ). next_goal c.loop-stop.goals.ahead y ≡ Gives goal c.next_goal.new.goals.ahead) (sym number) k.comes in
    let a = (c.in-Err-upgrade_goal.ensures {u = tt}).halt file (told_moved _ _ _ _ _ v.same v.keeps.0 told) x.1 (at_goal core file 1 goal.number c.loop-stop.lines.given goal c.loop-stop.goals.ahead c.next_goal.new.goals.ahead here.reached comes) in
    goal_halts core file old now (g.K.Sink.told c.upgrade_goal.new.sink) c.loop-stop.lines.given c.loop-stop.taken goal c.next_goal.new.goals c.in-Err-upgrade_goal.halt (record {
      same = ap core_of same;
      body = p.0;
      ahead = c.loop-stop.goals.ahead;
      put = subst (λ (y : ℕ). IsPut core old now y c.loop-stop.taken p.0) (sym number) p.1;
      read = here;
      comes = comes;
      last = k.last;
      few = k.few;
    }) a

pub loop-stop-preserved : goal.loop-stop-preserved
loop-stop-preserved g c =
    let v = c.loop-stop.invariant in
    let a = c.in-Ok.ensures {u = tt} in
    let k = rw c.in-Ok-Some.field-0-is at ((c.in-Ok-Some.ensures {u = tt}).goal) in
    let p = v.put in
    let core = core_of c.args.core.now in
    let old = g.K.Sink.told c.args.sink.now in
    let now = g.K.Sink.told c.loop-stop.sink in
    let goal = c.in-Ok-Some.goal in
    let t = c.next_goal.new.goals in
    let d = a.done in
    let number : goal.number ≡ c.loop-stop.goals.given = k.number in
    let same : t.core ≡ c.args.core.now = k.went.same_core ∙ v.core in
    let put = subst (λ (y : ℕ). IsPut core old now y c.loop-stop.taken p.0) (sym number) p.1 in
    record {
      same = a.same ∙ v.same;
      asked = subst (λ (x : List ℕ). g.S.Shelf.CanAsk c.upgrade_goal.new.shelf x) (sym a.keeps.0) ((a.rule c.loop-stop.lines.name).0 v.asked);
      rule = λ x. (λ q. (a.rule x).0 ((v.rule x).0 q), λ q. (v.rule x).1 ((a.rule x).1 q));
      later = omega (arith, v.later, a.later);
      out_later = omega (arith, v.out_later, a.out_later);
      keeps = (a.keeps.0 ∙ v.keeps.0, a.keeps.1 ∙ v.keeps.1, a.keeps.2 ∙ v.keeps.2);
      core = same;
      rest = k.went.rest;
      few = k.went.few;
      given = omega (arith, a.given, v.given, k.last.number, number);
      put = (
        p.0 ++ Refutation goal.number d.0 ∷ [],
        put_next core old now (g.K.Sink.told c.upgrade_goal.new.sink) goal d.0 t.given c.loop-stop.taken c.in-Ok.taken p.0 put k.few k.last.number d.2,
        λ file told s r.
            let x = p.2 file told s r in
            let here = subst (λ (y : ℕ). IsReadTo core file y c.loop-stop.goals.ahead c.loop-stop.lines.given p.0) (sym number) x.0 in
            let comes = subst (λ (y : ℕ). next_goal c.loop-stop.goals.ahead y ≡ Gives goal t.ahead) (sym number) k.comes in
            let says = d.3 file (told_moved _ _ _ _ _ v.same v.keeps.0 told) x.1 in (
              subst (λ (y : ℕ). IsReadTo core file t.given t.ahead y (p.0 ++ Refutation goal.number d.0 ∷ [])) (sym a.given)
                  (read_next core file c.loop-stop.lines.given goal c.loop-stop.goals.ahead d.0 t p.0 (ap core_of same) here comes k.last says.0 d.1),
              says.1,
            ),
      );
    }

pub returns-in-Err-clause-lines_so_far : goal.returns-in-Err-clause-lines_so_far
returns-in-Err-clause-lines_so_far g c = let p = c.loop-stop.invariant.put in (p.1.written, p.1.out)

pub returns-in-Err-upgrade_goal-clause-lines_so_far : goal.returns-in-Err-upgrade_goal-clause-lines_so_far
returns-in-Err-upgrade_goal-clause-lines_so_far g c =
    let p = c.loop-stop.invariant.put in
    halts_then (g.K.Sink.told c.args.sink.now) (g.K.Sink.told c.loop-stop.sink) (g.K.Sink.told c.upgrade_goal.new.sink) c.in-Err-upgrade_goal.halt (p.1.written, p.1.out) ((c.in-Err-upgrade_goal.ensures {u = tt}).lines_so_far)

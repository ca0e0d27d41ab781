use Rattle.std.proofs.Common.{◌≡◌, ℕ, ap, sym, subst, arith}
use Rattle.slice_core.specs.Cores.{core_of}
use Rattle.slice_io.specs.Causes.{Rose}
use Rattle.slice_paths.specs.Events.{events_of}
use Rattle.slice_top.specs.Answers.{goals_answer}
use Rattle.slice_top.specs.Settled.{Wrote, LinesStop}
use Rattle.slice_top.specs.declared.stop.Stop.{Stop}
use Rattle.slice_top.proofs.GoalLines.{Continues, begun, fewer_ahead, went_on, line_stopped, stopped_so, told_all, starved_all}
use Rattle.slice_top.proofs.Stages.{rose_earlier}
use Rattle.slice_top.proofs.goals.put_goals.Goals as goal

pub goals-init : goal.goals-init
goals-init g c =
    let before = g.K.Sink.told c.args.sink.now in
    let whole = goals_answer (events_of (core_of c.args.core.now)) 0 in
    let es = c.in-Ok.stream.ahead in
    record {
      later = omega arith;
      wrote = subst (λ (n : ℕ). Wrote before before (Continues whole es n)) (sym c.in-Ok.ensures.given) (begun whole before es (ap (λ es. goals_answer es 0) (sym c.in-Ok.ensures.ahead)));
    }

pub goals-preserved : goal.goals-preserved
goals-preserved g c =
    let before = g.K.Sink.told c.args.sink.now in
    let whole = goals_answer (events_of (core_of c.args.core.now)) 0 in
    let next = rw c.in-Ok-Some.field-0-is at c.in-Ok-Some.ensures.ok in
    let more = rw c.in-Ok-Some.field-0-is at c.in-Ok-Some.ensures.given in
    let after = g.K.Sink.told c.put_goal.new.sink in
    record {
      later = omega (arith, c.goals.invariant.later, c.in-Ok-put_goal.ensures.later);
      wrote = subst (λ (n : ℕ). Wrote before after (Continues whole c.next.new.self.ahead n)) (sym more)
          (went_on whole before (g.K.Sink.told c.goals.sink) after c.goals.stream.ahead c.next.new.self.ahead c.goals.stream.given c.in-Ok-Some.goal c.goals.invariant.wrote next c.in-Ok-put_goal.ensures.ok);
    }

pub goals-smaller : goal.goals-smaller
goals-smaller g c =
    fewer_ahead c.goals.stream.ahead c.goals.stream.given c.in-Ok-Some.goal c.next.new.self.ahead (rw c.in-Ok-Some.field-0-is at c.in-Ok-Some.ensures.ok)

pub returns-in-Err-put_goal-clause-err : goal.returns-in-Err-put_goal-clause-err
returns-in-Err-put_goal-clause-err g c =
    let before = g.K.Sink.told c.args.sink.now in
    let whole = goals_answer (events_of (core_of c.args.core.now)) 0 in
    let next = rw c.in-Ok-Some.field-0-is at c.in-Ok-Some.ensures.ok in
    let start = g.K.Sink.faults c.args.sink.now in
    let mid = g.K.Sink.faults c.goals.sink in
    let end = g.K.Sink.faults c.put_goal.new.sink in
    line_stopped whole before (Rose mid end) (Rose start end) (rose_earlier start mid end c.goals.invariant.later) (g.K.Sink.told c.goals.sink) (g.K.Sink.told c.put_goal.new.sink)
    c.goals.stream.ahead c.next.new.self.ahead c.goals.stream.given c.in-Ok-Some.goal c.in-Err-put_goal.stop c.goals.invariant.wrote next c.in-Err-put_goal.ensures.err

pub returns-in-Ok-None-clause-ok : goal.returns-in-Ok-None-clause-ok
returns-in-Ok-None-clause-ok g c =
    let before = g.K.Sink.told c.args.sink.now in
    let whole = goals_answer (events_of (core_of c.args.core.now)) 0 in
    let next = rw c.in-Ok-None.field-0-is at c.in-Ok-None.ensures.ok in
    let more = rw c.in-Ok-None.field-0-is at c.in-Ok-None.ensures.given in
    told_all whole before (g.K.Sink.told c.goals.sink) c.goals.stream.ahead c.goals.stream.given c.given.result c.count_output.result c.goals.invariant.wrote next
    (omega (arith, c.given.ensures, more)) c.count_output.ensures.status c.count_output.ensures.line

pub returns-in-Ok-None-clause-err : goal.returns-in-Ok-None-clause-err
returns-in-Ok-None-clause-err g c =
    let before = g.K.Sink.told c.args.sink.now in
    let whole = goals_answer (events_of (core_of c.args.core.now)) 0 in
    starved_all whole before (Rose (g.K.Sink.faults c.args.sink.now) (g.K.Sink.faults c.goals.sink)) (g.K.Sink.told c.goals.sink) c.goals.stream.ahead c.goals.stream.given c.count_output.result
    c.goals.invariant.wrote c.count_output.ensures.err

pub returns-in-Err-clause-err : goal.returns-in-Err-clause-err
returns-in-Err-clause-err g c =
    let before = g.K.Sink.told c.args.sink.now in
    let after = g.K.Sink.told c.goals.sink in
    let whole = goals_answer (events_of (core_of c.args.core.now)) 0 in
    let sink = Rose (g.K.Sink.faults c.args.sink.now) (g.K.Sink.faults c.goals.sink) in
    subst (λ (s : Stop). LinesStop (λ a. a ≡ whole) sink before after s) (sym c.goal_stop.ensures)
    (stopped_so whole before sink after c.goals.stream.ahead c.goals.stream.given c.in-Err.fault c.goals.invariant.wrote c.in-Err.ensures.err)

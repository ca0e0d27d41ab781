use Rattle.std.proofs.Common.{◌∙◌, ℕ, List, Option, ap, subst, arith}
use Rattle.slice_io.specs.Told.{appended}
use Rattle.slice_core.specs.Cores.{core_of}
use Rattle.slice_verify.specs.Report.{closing_text}
use Rattle.slice_verify.specs.Working.{LineStops}
use Rattle.slice_verify.specs.declared.verifier.Decision.TheVariants.{EnvyFree, Found}
use Rattle.slice_verify.proofs.Passing.{passed_on, err_map, ok_also, ok_also_two}
use Rattle.slice_verify.proofs.Standing.{Laws, starts, goes_first, goes_on, went_on}
use Rattle.slice_verify.proofs.Accepted.{accepted, all_refuted}
use Rattle.slice_verify.proofs.Ends.{all_decided, found_decided, decision_is, close_stops, header_stops, stream_stops, goal_stops, runs_are_fair}
use Rattle.slice_verify.proofs.verifier.report.Goals as goal

pub returns-in_err-put_header-clause-fault : goal.returns-in_err-put_header-clause-fault
returns-in_err-put_header-clause-fault g c =
    passed_on c.from_residual.result _ c.in_err-put_header.field-0.0 c.from_residual.ensures.1
    (header_stops (core_of c.args.core.now) (g.K.Sink.told c.args.sink.now) (g.K.Sink.told c.put_header.new.sink) c.in_err-put_header.field-0.0 (c.in_err-put_header.ensures {u = tt}).stops)

pub loop-goal-init : goal.loop-goal-init
loop-goal-init g c =
    let core = core_of c.args.core.now in
    let out = c.in_ok-put_header.ensures {u = tt} in
    record {
      stands = starts core (g.K.Sink.told c.args.sink.now) (g.K.Sink.told c.put_header.new.sink) c.args.goals.now.given c.args.goals.now.ahead c.requires.given c.requires.ahead out.line out.out;
      goes = goes_first core c.args.goals.now c.streams_give_goals.ensures.fit c.requires.given c.requires.ahead c.requires.rest;
      same = c.requires.core;
      later = c.put_header.ensures.later;
    }

pub returns-in_err-goal-clause-fault : goal.returns-in_err-goal-clause-fault
returns-in_err-goal-clause-fault g c =
    passed_on c.from_residual-in_err-goal.result _ _ c.from_residual-in_err-goal.ensures.1
    (stream_stops (core_of c.args.core.now) (g.K.Sink.told c.args.sink.now) (g.K.Sink.told c.loop-goal.sink) c.loop-goal.goals.given c.loop-goal.goals.ahead c.in_err-goal.field-0.0 c.loop-goal.invariant.stands (c.in_err-goal.ensures {u = tt}).fault)

pub decide-requires : goal.decide-requires
decide-requires g c =
    let came = rw c.in-Some.is at ((c.in_ok-goal.ensures {u = tt}).goal) in
    record { core = came.same_core ∙ c.loop-goal.invariant.same; last = came.last; goes = came.goes; rows = came.rows }

pub returns-in_err-counter-clause-fault : goal.returns-in_err-counter-clause-fault
returns-in_err-counter-clause-fault g c =
    let came = rw c.in-Some.is at ((c.in_ok-goal.ensures {u = tt}).goal) in
    passed_on c.from_residual-in_err-counter.result _ c.in_err-counter.field-0.0 c.from_residual-in_err-counter.ensures.1
    (goal_stops (core_of c.args.core.now) (g.K.Sink.told c.args.sink.now) (g.K.Sink.told c.loop-goal.sink) (g.K.Sink.told c.decide.new.sink) c.loop-goal.goals c.next_goal.new.goals c.in-Some.goal c.in_err-counter.field-0.0
    (ap core_of c.loop-goal.invariant.same) c.loop-goal.invariant.stands came (c.in_err-counter.ensures {u = tt}).stops)

pub returns-in-Some-2-clause-decision : goal.returns-in-Some-2-clause-decision
returns-in-Some-2-clause-decision g c =
    let core = core_of c.args.core.now in
    let came = rw c.in-Some.is at ((c.in_ok-goal.ensures {u = tt}).goal) in
    let is = rw c.in-Some-2.is at ((c.in_ok-counter.ensures {u = tt}).decided) in
    let s = c.loop-goal.invariant.stands in
    ok_also c.close_found.result (Found c.in-Some-2.counter) _ _ c.close_found.ensures.decision c.close_found.ensures.out (λ h.
    decision_is core (g.K.Sink.told c.args.sink.now) (g.K.Sink.told c.loop-goal.sink) (g.K.Sink.told c.close_found.new.sink) c.loop-goal.goals.given c.loop-goal.goals.ahead (Found c.in-Some-2.counter) s
    (found_decided core (g.K.Sink.told c.args.sink.now) (g.K.Sink.told c.loop-goal.sink) c.loop-goal.goals c.next_goal.new.goals c.in-Some.goal c.in-Some-2.counter s came is.0 is.1 is.2)
    (h ∙ ap (λ (o : Option (List ℕ)). appended o (closing_text (Found c.in-Some-2.counter))) is.3))

pub returns-in-Some-2-clause-fault : goal.returns-in-Some-2-clause-fault
returns-in-Some-2-clause-fault g c =
    let core = core_of c.args.core.now in
    let came = rw c.in-Some.is at ((c.in_ok-goal.ensures {u = tt}).goal) in
    let is = rw c.in-Some-2.is at ((c.in_ok-counter.ensures {u = tt}).decided) in
    let s = c.loop-goal.invariant.stands in
    err_map c.close_found.result _ _ c.close_found.ensures.stops (λ e h.
    close_stops core (g.K.Sink.told c.args.sink.now) (g.K.Sink.told c.loop-goal.sink) (g.K.Sink.told c.close_found.new.sink) c.loop-goal.goals.given c.loop-goal.goals.ahead (Found c.in-Some-2.counter) e s
    (found_decided core (g.K.Sink.told c.args.sink.now) (g.K.Sink.told c.loop-goal.sink) c.loop-goal.goals c.next_goal.new.goals c.in-Some.goal c.in-Some-2.counter s came is.0 is.1 is.2)
    (subst (λ (o : Option (List ℕ)). LineStops o (g.K.Sink.told c.close_found.new.sink) (closing_text (Found c.in-Some-2.counter)) e) is.3 h))

pub loop-goal-preserved : goal.loop-goal-preserved
loop-goal-preserved g c =
    let core = core_of c.args.core.now in
    let i = c.loop-goal.invariant in
    let came = rw c.in-Some.is at ((c.in_ok-goal.ensures {u = tt}).goal) in
    let is = rw c.in_default-2.is at ((c.in_ok-counter.ensures {u = tt}).decided) in
    let laws : Laws = record { fronts = c.covers_are_fronts.ensures; have = c.goals_have_covers.ensures; short = c.short_forms_refute.ensures; fit = c.goals_behind_fit.ensures } in
    record {
      stands =
          goes_on laws core c.args.core.now.formed (g.K.Sink.told c.args.sink.now) (g.K.Sink.told c.loop-goal.sink) (g.K.Sink.told c.decide.new.sink) c.loop-goal.goals c.next_goal.new.goals c.decide.new.goals c.in-Some.goal (ap core_of i.same) i.stands came is;
      goes = went_on laws core c.loop-goal.goals c.next_goal.new.goals c.decide.new.goals c.in-Some.goal (g.K.Sink.told c.loop-goal.sink) (g.K.Sink.told c.decide.new.sink) (ap core_of i.same) came is;
      same = is.same_core ∙ came.same_core ∙ i.same;
      later = let a = i.later in let b = c.decide.ensures.later in omega (arith, a, b);
    }

pub returns-clause-decision : goal.returns-clause-decision
returns-clause-decision g c =
    let core = core_of c.args.core.now in
    let none_ = rw c.in_default.is at ((c.in_ok-goal.ensures {u = tt}).goal) in
    let s = c.loop-goal.invariant.stands in
    ok_also c.close.result (EnvyFree c.given.result) _ _ c.close.ensures.decision c.close.ensures.out (λ h.
    decision_is core (g.K.Sink.told c.args.sink.now) (g.K.Sink.told c.loop-goal.sink) (g.K.Sink.told c.close.new.sink) c.loop-goal.goals.given c.loop-goal.goals.ahead (EnvyFree c.given.result) s
    (all_decided core (g.K.Sink.told c.args.sink.now) (g.K.Sink.told c.loop-goal.sink) c.loop-goal.goals c.next_goal.new.goals c.given.result s none_ c.given.ensures) h)

pub returns-clause-fault : goal.returns-clause-fault
returns-clause-fault g c =
    let core = core_of c.args.core.now in
    let none_ = rw c.in_default.is at ((c.in_ok-goal.ensures {u = tt}).goal) in
    let s = c.loop-goal.invariant.stands in
    err_map c.close.result _ _ c.close.ensures.stops (λ e h.
    close_stops core (g.K.Sink.told c.args.sink.now) (g.K.Sink.told c.loop-goal.sink) (g.K.Sink.told c.close.new.sink) c.loop-goal.goals.given c.loop-goal.goals.ahead (EnvyFree c.given.result) e s
    (all_decided core (g.K.Sink.told c.args.sink.now) (g.K.Sink.told c.loop-goal.sink) c.loop-goal.goals c.next_goal.new.goals c.given.result s none_ c.given.ensures) h)

pub returns-clause-exact : goal.returns-clause-exact
returns-clause-exact g c =
    let core = core_of c.args.core.now in
    let i = c.loop-goal.invariant in
    let none_ = rw c.in_default.is at ((c.in_ok-goal.ensures {u = tt}).goal) in
    ok_also c.close.result (EnvyFree c.given.result) _ _ c.close.ensures.decision c.close.ensures.out (λ h.
    runs_are_fair c.goals_refuted_on_the_way_mean_fair_runs.ensures core c.args.core.now.formed.agents_there
    (all_refuted core (g.K.Sink.told c.args.sink.now) (g.K.Sink.told c.loop-goal.sink) c.loop-goal.goals (ap core_of i.same) i.goes i.stands none_.0))

pub returns-clause-accepted : goal.returns-clause-accepted
returns-clause-accepted g c =
    let core = core_of c.args.core.now in
    let i = c.loop-goal.invariant in
    let none_ = rw c.in_default.is at ((c.in_ok-goal.ensures {u = tt}).goal) in
    ok_also_two c.close.result (EnvyFree c.given.result) _ _ _ c.close.ensures.decision c.close.ensures.out c.close.ensures.line (λ h back.
    accepted core (g.K.Sink.told c.args.sink.now) (g.K.Sink.told c.loop-goal.sink) (g.K.Sink.told c.close.new.sink) c.loop-goal.goals c.next_goal.new.goals c.given.result c.args.core.now.formed (ap core_of i.same) i.goes i.stands none_ c.given.ensures back h)

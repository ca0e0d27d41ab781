use Rattle.std.proofs.Common.{◌∙◌, ◌+◌, ◌++◌, List, arith, sym, ap, subst}
use Rattle.slice_paths.specs.Ahead.{left_at}
use Rattle.slice_paths.specs.Events.{Event, next_goal}
use Rattle.slice_paths.specs.Told.{IsRefusal}
use Rattle.slice_paths.specs.Walking.{Leads, steps_at}
use Rattle.slice_paths.specs.declared.frames.Onward.{Onward}
use Rattle.slice_paths.specs.declared.frames.Rest.TheVariants as rest
use Rattle.slice_paths.proofs.PairSteps.{row_leads, same_leads, other_comes}
use Rattle.slice_paths.proofs.stream.tell_pair.Goals as goal

pub returns-then-b-agents-clause-ok : goal.returns-then-b-agents-clause-ok
returns-then-b-agents-clause-ok c =
    let a = c.args in
    subst (λ (o : Onward). Leads a.agents (left_at a.agents (rest.Pairs a.a a.b) a.spot) (steps_at a.agents (rest.Pairs a.a a.b)) o) (sym c.pairs_left.ensures)
    (row_leads a.agents a.a a.b a.spot c.requires (omega (arith, c.if-a-agents.false)) (omega (arith, c.if-b-agents.true)))

pub returns-then-a-b-clause-ok : goal.returns-then-a-b-clause-ok
returns-then-a-b-clause-ok c =
    let a = c.args in
    subst (λ (o : Onward). Leads a.agents (left_at a.agents (rest.Pairs a.a a.b) a.spot) (steps_at a.agents (rest.Pairs a.a a.b)) o) (sym c.pairs_left-then-a-b.ensures)
    (same_leads a.agents a.a a.b a.spot c.requires (omega (arith, c.if-a-agents.false)) (omega (arith, c.if-b-agents.false)) c.if-a-b.true)

pub returns-in-Err-clause-err : goal.returns-in-Err-clause-err
returns-in-Err-clause-err c es =
    let a = c.args in
    let e = other_comes a.agents a.a a.b a.spot (omega (arith, c.if-a-agents.false)) (omega (arith, c.if-b-agents.false)) c.if-a-b.false in
    subst (λ (xs : List Event). IsRefusal c.in-Err.fault a.given (next_goal (xs ++ es) a.given)) (sym e) (c.in-Err.ensures.err (left_at a.agents (rest.Pairs a.a (a.b + 1)) a.spot ++ es))

pub returns-clause-ok : goal.returns-clause-ok
returns-clause-ok c =
    let a = c.args in
    let h = c.requires in
    let e = other_comes a.agents a.a a.b a.spot (omega (arith, c.if-a-agents.false)) (omega (arith, c.if-b-agents.false)) c.if-a-b.false in
    record {
      comes = λ es. ap (λ (xs : List Event). next_goal (xs ++ es) a.given) e ∙ c.in-Ok.ensures.ok (left_at a.agents (rest.Pairs a.a (a.b + 1)) a.spot ++ es);
      few = c.in-Ok.ensures.few;
      ready = record { known = h.known; agents_are = h.agents_are; few_agents = h.few_agents; first = h.first; second = omega (arith, h.second) };
    }

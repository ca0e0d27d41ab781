use Rattle.std.proofs.Common.{◌∙◌, ◌<◌, List, [], arith, sym, ap, subst}
use Rattle.std.specs.Prelude.{Option}
use Rattle.slice_paths.specs.Ahead.{ahead_of}
use Rattle.slice_paths.specs.Events.{Event, next_goal}
use Rattle.slice_paths.specs.Goals.{Goal}
use Rattle.slice_paths.specs.Told.{IsRefusal}
use Rattle.slice_paths.specs.Walking.{IsTurn, steps_of}
use Rattle.slice_paths.proofs.StreamLaws.{popped, popped_ready, popped_steps}
use Rattle.slice_paths.proofs.stream.advance.Goals as goal

pub turn-requires-clause-frame : goal.turn-requires-clause-frame
turn-requires-clause-frame c = (popped_ready c.args.agents c.loop-frame.frames.items c.pop.new.self.items c.in-Some.frame c.in-Some.ensures.items c.loop-frame.invariant.ready).1

pub turn-requires-clause-ready : goal.turn-requires-clause-ready
turn-requires-clause-ready c = (popped_ready c.args.agents c.loop-frame.frames.items c.pop.new.self.items c.in-Some.frame c.in-Some.ensures.items c.loop-frame.invariant.ready).0

pub loop-frame-preserved : goal.loop-frame-preserved
loop-frame-preserved c =
    let a = c.args in
    let quiet = subst (λ (o : Option Goal). IsTurn a.agents a.given c.in-Some.frame c.pop.new.self.items o c.turn.new.frames.items) c.in-Ok-None.field-0-is c.in-Ok-None.ensures.ok in
    record {
      ready = c.turn.ensures.ready;
      ahead = sym quiet.comes ∙ popped a.agents c.loop-frame.frames.items c.pop.new.self.items c.in-Some.frame (ahead_of a.agents a.frames.now.items []) c.in-Some.ensures.items c.loop-frame.invariant.ahead;
    }

pub loop-frame-smaller : goal.loop-frame-smaller
loop-frame-smaller c =
    let a = c.args in
    let quiet = subst (λ (o : Option Goal). IsTurn a.agents a.given c.in-Some.frame c.pop.new.self.items o c.turn.new.frames.items) c.in-Ok-None.field-0-is c.in-Ok-None.ensures.ok in
    let fewer : steps_of a.agents c.turn.new.frames.items < steps_of a.agents c.loop-frame.frames.items =
    omega (arith, quiet.fewer, popped_steps a.agents c.loop-frame.frames.items c.pop.new.self.items c.in-Some.frame c.in-Some.ensures.items) in
    fewer

pub returns-in-Err-clause-err : goal.returns-in-Err-clause-err
returns-in-Err-clause-err c =
    let a = c.args in
    let e = popped a.agents c.loop-frame.frames.items c.pop.new.self.items c.in-Some.frame (ahead_of a.agents a.frames.now.items []) c.in-Some.ensures.items c.loop-frame.invariant.ahead in
    subst (λ (es : List Event). IsRefusal c.in-Err.fault a.given (next_goal es a.given)) e c.in-Err.ensures.err

pub returns-in-Ok-Some-clause-ok : goal.returns-in-Ok-Some-clause-ok
returns-in-Ok-Some-clause-ok c =
    let a = c.args in
    let e = popped a.agents c.loop-frame.frames.items c.pop.new.self.items c.in-Some.frame (ahead_of a.agents a.frames.now.items []) c.in-Some.ensures.items c.loop-frame.invariant.ahead in
    let told = subst (λ (o : Option Goal). IsTurn a.agents a.given c.in-Some.frame c.pop.new.self.items o c.turn.new.frames.items) c.in-Ok-Some.field-0-is c.in-Ok-Some.ensures.ok in
    ap (λ (es : List Event). next_goal es a.given) (sym e) ∙ told.comes

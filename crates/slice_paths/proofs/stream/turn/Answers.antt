use Rattle.std.proofs.Common.{[], subst}
use Rattle.slice_paths.specs.Ahead.{ahead_of}
use Rattle.slice_paths.specs.Walking.{IsStep}
use Rattle.slice_paths.specs.declared.frames.Step.{Step}
use Rattle.slice_paths.proofs.StreamLaws.{quiet_turn, goal_turn}
use Rattle.slice_paths.proofs.stream.turn.Goals as goal

pub returns-in-Err-clause-err : goal.returns-in-Err-clause-err
returns-in-Err-clause-err c = c.in-Err.ensures.err (ahead_of c.args.agents c.args.frames.now.items [])

pub returns-in-Err-put-clause-ready : goal.returns-in-Err-put-clause-ready
returns-in-Err-put-clause-ready c =
    let leads = subst (λ (x : Step). IsStep c.args.agents c.args.given c.args.frame.rest c.args.frame.spot x) c.in-Ok-Quiet.field-0-is c.in-Ok-Quiet.ensures.ok in
    c.put.ensures.ready c.args.agents c.requires.ready leads.ready

pub returns-in-Ok-clause-ok : goal.returns-in-Ok-clause-ok
returns-in-Ok-clause-ok c =
    let leads = subst (λ (x : Step). IsStep c.args.agents c.args.given c.args.frame.rest c.args.frame.spot x) c.in-Ok-Quiet.field-0-is c.in-Ok-Quiet.ensures.ok in
    quiet_turn c.args.agents c.args.frame c.args.frames.now.items c.put.new.frames.items c.in-Ok-Quiet.onward leads c.in-Ok.ensures.ok

pub returns-in-Ok-clause-ready : goal.returns-in-Ok-clause-ready
returns-in-Ok-clause-ready c =
    let leads = subst (λ (x : Step). IsStep c.args.agents c.args.given c.args.frame.rest c.args.frame.spot x) c.in-Ok-Quiet.field-0-is c.in-Ok-Quiet.ensures.ok in
    c.put.ensures.ready c.args.agents c.requires.ready leads.ready

pub returns-in-Ok-put-clause-ok : goal.returns-in-Ok-put-clause-ok
returns-in-Ok-put-clause-ok c =
    let told = subst (λ (x : Step). IsStep c.args.agents c.args.given c.args.frame.rest c.args.frame.spot x) c.in-Ok-Told.field-0-is c.in-Ok-Told.ensures.ok in
    goal_turn c.args.agents c.args.given c.args.frame c.in-Ok-Told.frame c.args.frames.now.items c.put-in-Ok-Told.new.frames.items c.in-Ok-Told.goal told c.in-Ok-put.ensures.ok

use Rattle.std.proofs.Common.{◌≡◌, ◌∙◌, ◌∷◌, ◌++◌, List, [], sym, ap, subst, arith}
use Rattle.slice_core.specs.Cores.{core_of}
use Rattle.slice_core.specs.Nodes.{tree_of}
use Rattle.slice_paths.specs.Ahead.{ahead_of}
use Rattle.slice_paths.specs.Events.{Event, events_of, Tell}
use Rattle.slice_paths.specs.Goals.{goals}
use Rattle.slice_paths.specs.Walking.{AllReady}
use Rattle.slice_paths.specs.declared.frames.Frame.{Frame}
use Rattle.slice_paths.specs.declared.frames.Rest.TheVariants as rest
use Rattle.slice_paths.proofs.StreamLaws.{first_ready, first_ahead}
use Rattle.slice_paths.proofs.Tells.{events_tell_goals}
use Rattle.slice_paths.proofs.stream.GoalStream.new.Goals as goal

pub invariant_of-result : goal.invariant_of-result
invariant_of-result c =
    let n = c.agents-agents.result in
    let core = core_of c.args.core.now in
    let s = c.in_ok-spot.spot in
    let f : Frame = record { rest = rest.Walk c.root.result; spot = s } in
    let ready = first_ready core n (tree_of c.root.result.now) s c.agents-agents.ensures.formed c.agents-agents.ensures.value c.root.ensures c.in_ok-spot.ensures.known c.in_ok-spot.ensures.tally in
    let is : c.put_frame.new.frames.items ≡ f ∷ [] = c.in_ok-put_frame.ensures.ok ∙ ap (λ (fs : List Frame). fs ++ f ∷ []) c.new-frames.ensures.items in
    (subst (AllReady n) (sym is) (ready, tt), c.agents-agents.ensures.value, omega arith)

pub returns-clause-ahead : goal.returns-clause-ahead
returns-clause-ahead c =
    let n = c.agents-agents.result in
    let core = core_of c.args.core.now in
    let s = c.in_ok-spot.spot in
    let f : Frame = record { rest = rest.Walk c.root.result; spot = s } in
    let is : c.put_frame.new.frames.items ≡ f ∷ [] = c.in_ok-put_frame.ensures.ok ∙ ap (λ (fs : List Frame). fs ++ f ∷ []) c.new-frames.ensures.items in
    ap (λ (fs : List Frame). ahead_of n fs []) is
    ∙ first_ahead core n (tree_of c.root.result.now) s c.agents-agents.ensures.value c.root.ensures c.in_ok-spot.ensures.regs c.in_ok-spot.ensures.way

pub returns-clause-rest : goal.returns-clause-rest
returns-clause-rest c =
    let n = c.agents-agents.result in
    let core = core_of c.args.core.now in
    let s = c.in_ok-spot.spot in
    let f : Frame = record { rest = rest.Walk c.root.result; spot = s } in
    let is : c.put_frame.new.frames.items ≡ f ∷ [] = c.in_ok-put_frame.ensures.ok ∙ ap (λ (fs : List Frame). fs ++ f ∷ []) c.new-frames.ensures.items in
    let ahead : ahead_of n c.put_frame.new.frames.items [] ≡ events_of core = ap (λ (fs : List Frame). ahead_of n fs []) is
    ∙ first_ahead core n (tree_of c.root.result.now) s c.agents-agents.ensures.value c.root.ensures c.in_ok-spot.ensures.regs c.in_ok-spot.ensures.way in
    record { tells = subst (λ (es : List Event). Tell es (goals core) 0) (sym ahead) (events_tell_goals core); within = omega arith }

use Rattle.std.proofs.Common.{◌∙◌, ◌+◌, sym, ap}
use Rattle.slice_paths.specs.Events.{next_goal}
use Rattle.slice_paths.specs.Streams.{Stream}
use Rattle.slice_paths.proofs.GivenLaws.{rest_after_goal}
use Rattle.slice_paths.proofs.stream.GoalStream.next.Goals as goal

pub returns-in-Ok-clause-rest : goal.returns-in-Ok-clause-rest
returns-in-Ok-clause-rest c = λ h.
    (let s = c.args.self.now in
    let is = c.self.view_is in
    let told = rw c.in-Ok-Some.field-0-is at c.in-Ok-Some.ensures.ok in
    rest_after_goal s _ c.in-Ok-Some.goal h
    ((λ i. next_goal (sym is i).ahead (sym is i).given) ∙ told)
    (ap (λ (v : Stream). v.given + 1) is)
    (ap (λ (v : Stream). v.core) is)
    (c.in-Ok.ensures.items ∙ c.trace.ensures)
    c.kind-self-inside.ensures)

use Rattle.std.proofs.Common.{◌∙◌, ◌∷◌, ◌++◌, List, [], sym, ap, subst}
use Rattle.slice_paths.specs.Ahead.{frames_of}
use Rattle.slice_paths.specs.Walking.{AllReady, OnwardReady}
use Rattle.slice_paths.specs.declared.frames.Frame.{Frame}
use Rattle.slice_paths.specs.declared.frames.Onward.{Onward}
use Rattle.slice_paths.proofs.SpotLaws.{on_ok}
use Rattle.slice_paths.proofs.StreamLaws.{ready_put, ready_either, two_put}
use Rattle.slice_paths.proofs.stream.put.Goals as goal

pub returns-in-One-clause-ready : goal.returns-in-One-clause-ready
returns-in-One-clause-ready c n h r =
    ready_either n c.put_frame.result c.args.frames.now.items c.put_frame.new.frames.items c.in-One.frame c.put_frame.ensures.ok c.put_frame.ensures.err h (subst (OnwardReady n) c.in-One.is r)

pub returns-in-Err-clause-ready : goal.returns-in-Err-clause-ready
returns-in-Err-clause-ready c n h r = subst (AllReady n) (sym c.in-Err.ensures.err) h

pub returns-in-Ok-clause-ok : goal.returns-in-Ok-clause-ok
returns-in-Ok-clause-ok c =
    let old = c.args.frames.now.items in
    on_ok c.put_frame-in-Ok.result _ _
    (λ e. e ∙ ap (λ (fs : List Frame). fs ++ c.in-Two.sooner ∷ []) c.in-Ok.ensures.ok ∙ sym (two_put old c.in-Two.later c.in-Two.sooner) ∙ ap (λ (o : Onward). old ++ frames_of o) (sym c.in-Two.is))
    c.put_frame-in-Ok.ensures.ok

pub returns-in-Ok-clause-ready : goal.returns-in-Ok-clause-ready
returns-in-Ok-clause-ready c n h r =
    let both = subst (OnwardReady n) c.in-Two.is r in
    let mid = subst (AllReady n) (sym c.in-Ok.ensures.ok) (ready_put n c.args.frames.now.items c.in-Two.later h both.0) in
    ready_either n c.put_frame-in-Ok.result c.put_frame-in-Two.new.frames.items c.put_frame-in-Ok.new.frames.items c.in-Two.sooner c.put_frame-in-Ok.ensures.ok c.put_frame-in-Ok.ensures.err mid both.1

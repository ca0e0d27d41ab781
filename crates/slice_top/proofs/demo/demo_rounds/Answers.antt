use Rattle.std.proofs.Common.{◌≡◌, ◌∙◌, List, ℕ, subst}
use Rattle.slice_core.specs.Cores.{core_of}
use Rattle.slice_gen.specs.Rounds.{rounds_text}
use Rattle.slice_top.specs.Answers.{IsDemoAnswer, OfText, answer_of, refused}
use Rattle.slice_top.specs.Turns.{RefusesCoreOfText}
use Rattle.slice_top.specs.Stops.{StopsFor}
use Rattle.slice_top.proofs.Stages.{if_err_so, if_ok_so, no_core_of_text, stops_for, with_core_of_text}
use Rattle.slice_top.proofs.demo.demo_rounds.Goals as goal

pub returns-in-Err-clause-err : goal.returns-in-Err-clause-err
returns-in-Err-clause-err c =
    let text = c.deref.result.now in
    let made : text ≡ rounds_text c.args.count = c.deref.ensures.value ∙ c.in-Ok.ensures.text in
    subst (λ (t : List ℕ). StopsFor (λ r. OfText t IsDemoAnswer (refused r)) c.in-Err.stop) made
    (stops_for (RefusesCoreOfText text) (λ r. OfText text IsDemoAnswer (refused r)) (λ r h. no_core_of_text text IsDemoAnswer r h) c.in-Err.stop c.in-Err.ensures.err)

pub returns-clause-ok : goal.returns-clause-ok
returns-clause-ok c =
    let text = c.deref.result.now in
    let made : text ≡ rounds_text c.args.count = c.deref.ensures.value ∙ c.in-Ok.ensures.text in
    if_ok_so _ _
    (λ l h. subst (λ (t : List ℕ). OfText t IsDemoAnswer (answer_of l.bytes.items l.status)) made
    (with_core_of_text text IsDemoAnswer (core_of c.in-Ok-core_of_text.core) (answer_of l.bytes.items l.status) c.in-Ok-core_of_text.ensures.ok h)) c.demo_core.result c.demo_core.ensures.ok

pub returns-clause-err : goal.returns-clause-err
returns-clause-err c =
    let text = c.deref.result.now in
    let core = core_of c.in-Ok-core_of_text.core in
    let made : text ≡ rounds_text c.args.count = c.deref.ensures.value ∙ c.in-Ok.ensures.text in
    if_err_so _ (StopsFor (λ r. OfText (rounds_text c.args.count) IsDemoAnswer (refused r)))
    (λ s h. stops_for (λ r. IsDemoAnswer core (refused r)) (λ r. OfText (rounds_text c.args.count) IsDemoAnswer (refused r))
    (λ r k. subst (λ (t : List ℕ). OfText t IsDemoAnswer (refused r)) made (with_core_of_text text IsDemoAnswer core (refused r) c.in-Ok-core_of_text.ensures.ok k)) s h)
    c.demo_core.result c.demo_core.ensures.err

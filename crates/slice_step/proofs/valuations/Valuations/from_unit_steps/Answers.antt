use Rattle.std.proofs.Common.{◌≡◌, ◌∙◌, ◌∷◌, [], ◌++◌, length, map, sym, ap, subst, append_assoc, append-nil, arith}
use Rattle.std.specs.Vec.Iter.{into_iter_items}
use Rattle.std.proofs.lemmas.Grind.{common_steps}
use Rattle.slice_step.specs.UnitSteps.{unit_ends, unit_steps}
use Rattle.slice_step.specs.ValuationShape.{steps, IsSmallList}
use Rattle.slice_step.proofs.Units.{next_small, nothing_left, map_more}
use Rattle.slice_step.proofs.valuations.Valuations.from_unit_steps.Goals as goal

pub new-requires : goal.new-requires
new-requires c =
    let at = c.loop-list in
    let steps_are : into_iter_items at.list-iterator ≡ c.in-Some.list ∷ into_iter_items c.next.new.self = c.in-Some.ensures.steps.0 in
    let ends_are : c.in_ok-ends.ends.items ≡ unit_ends 0 (length c.in-Some.list.items) = c.in_ok-ends.ensures ∙ ap (unit_ends 0) (c.len.ensures ∙ c.in-Some.list.ok.0) in
    next_small (λ hs. unit_steps hs.items) c.args.heights.items at.yielded c.in-Some.list (into_iter_items c.next.new.self) (steps c.in_ok-ends.ends.items c.in-Some.list.items)
    (rw (← steps_are) at.invariant.all) c.requires (ap (λ es. steps es c.in-Some.list.items) ends_are)

pub loop-list-preserved : goal.loop-list-preserved
loop-list-preserved c =
    let at = c.loop-list in
    let pushed : c.push.new.self.items ≡ at.items.items ++ c.new.result ∷ [] = grind (arith, common_steps) in
    let ends_are : c.in_ok-ends.ends.items ≡ unit_ends 0 (length c.in-Some.list.items) = c.in_ok-ends.ensures ∙ ap (unit_ends 0) (c.len.ensures ∙ c.in-Some.list.ok.0) in
    let made_is : c.new.result ≡ unit_steps c.in-Some.list.items = c.new.ensures ∙ ap (λ es. steps es c.in-Some.list.items) ends_are in
    let steps_are : into_iter_items at.list-iterator ≡ c.in-Some.list ∷ into_iter_items c.next.new.self = c.in-Some.ensures.steps.0 in
    record {
      all = append_assoc at.yielded (c.in-Some.list ∷ []) _ ∙ rw (← steps_are) at.invariant.all;
      counted = let was = at.invariant.counted in let gone = c.in-Some.ensures.steps.1 in let short = ap length steps_are in omega arith;
      made = pushed ∙ map_more (λ hs. unit_steps hs.items) at.yielded c.in-Some.list at.items.items c.new.result at.invariant.made made_is;
    }

pub new-requires-2 : goal.new-requires-2
new-requires-2 c =
    let at = c.loop-list in
    let empty : into_iter_items at.list-iterator ≡ [] = nothing_left _ (sym at.invariant.counted ∙ c.in-None.ensures.steps.0) in
    let all : at.yielded ≡ c.args.heights.items = sym (append-nil at.yielded) ∙ rw empty at at.invariant.all in
    subst IsSmallList (sym (at.invariant.made ∙ ap (map (λ hs. unit_steps hs.items)) all)) c.requires

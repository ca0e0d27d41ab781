use Rattle.std.proofs.Common.{◌≡◌, ◌+◌, ◌++◌, ◌∷◌, [], List, refl, take, sym, subst, arith}
use Rattle.std.proofs.lemmas.Grind.{common_steps}
use Rattle.slice_paths.specs.Steps.{CanSplit, ConditionsSplit}
use Rattle.slice_paths.specs.declared.spot.Condition as held
use Rattle.slice_paths.proofs.Among.{can_at_condition, split_condition_put}
use Rattle.slice_paths.proofs.spot.replace_conditions.Goals as goal

pub replace_form-requires-clause-can : goal.replace_form-requires-clause-can
replace_form-requires-clause-can c =
    let p = c.args.split in
    let x = c.condition-item.result in
    subst (λ (d : held.Condition). CanSplit c.args.agents p.old p.left p.right d.form) (sym c.condition-item.is)
    (can_at_condition c.args.agents p.old p.left p.right c.args.conditions.now c.loop-condition.condition-index x c.loop-condition-test.true c.requires.can)

pub loop-condition-preserved : goal.loop-condition-preserved
loop-condition-preserved c =
    let p = c.args.split in
    let x = c.condition-item.result in
    let z : held.Condition = record { kind = x.kind; form = c.in_ok-form.form } in
    let made = c.loop-condition.made.items in
    let fs : List held.Condition = c.args.conditions.now in
    let e : c.push.new.self.items ≡ made ++ z ∷ [] = grind (arith, common_steps) in
    let f : take (c.loop-condition.condition-index + 1) fs ≡ take c.loop-condition.condition-index fs ++ x ∷ [] = grind (arith, common_steps) in
    let done = split_condition_put p.old p.left p.right (take c.loop-condition.condition-index fs) made x z c.loop-condition.invariant refl c.in_ok-form.ensures in
    subst (λ (zs : List held.Condition). ConditionsSplit p.old p.left p.right (take (c.loop-condition.condition-index + 1) fs) zs) (sym e)
    (subst (λ (xs : List held.Condition). ConditionsSplit p.old p.left p.right xs (made ++ z ∷ [])) (sym f) done)

use Rattle.std.proofs.Common.{◌≡◌, ◌+◌, ◌++◌, ◌∷◌, [], List, take, sym, subst, arith}
use Rattle.std.proofs.lemmas.Grind.{common_steps}
use Rattle.slice_linear.specs.declared.forms.Term.{Term}
use Rattle.slice_paths.specs.Steps.{CanSplit, AllSplit}
use Rattle.slice_paths.proofs.Among.{can_at, split_put}
use Rattle.slice_paths.proofs.spot.replace_forms.Goals as goal

pub replace_form-requires-clause-can : goal.replace_form-requires-clause-can
replace_form-requires-clause-can c =
    let p = c.args.split in
    let x = c.form-item.result in
    subst (CanSplit c.args.agents p.old p.left p.right) (sym c.form-item.is) (can_at c.args.agents p.old p.left p.right c.args.forms.now c.loop-form.form-index x c.loop-form-test.true c.requires.can)

pub loop-form-preserved : goal.loop-form-preserved
loop-form-preserved c =
    let p = c.args.split in
    let x = c.form-item.result in
    let z = c.in_ok-form.form in
    let made = c.loop-form.made.items in
    let fs : List (List Term) = c.args.forms.now in
    let e : c.push.new.self.items ≡ made ++ z ∷ [] = grind (arith, common_steps) in
    let f : take (c.loop-form.form-index + 1) fs ≡ take c.loop-form.form-index fs ++ x ∷ [] = grind (arith, common_steps) in
    let done = split_put p.old p.left p.right (take c.loop-form.form-index fs) made x z c.loop-form.invariant c.in_ok-form.ensures in
    subst (λ (zs : List (List Term)). AllSplit p.old p.left p.right (take (c.loop-form.form-index + 1) fs) zs) (sym e)
    (subst (λ (xs : List (List Term)). AllSplit p.old p.left p.right xs (made ++ z ∷ [])) (sym f) done)

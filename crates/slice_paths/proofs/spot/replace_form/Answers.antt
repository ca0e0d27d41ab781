use Rattle.std.proofs.Common.{◌≡◌, ◌∙◌, ◌+◌, ℕ, List, sym, subst, arith}
use Rattle.slice_linear.specs.declared.forms.Term.{Term}
use Rattle.slice_paths.proofs.Among.{SplitTo, split_none, split_later, split_next, split_all}
use Rattle.slice_paths.proofs.spot.replace_form.Goals as goal

pub loop-agent-init : goal.loop-agent-init
loop-agent-init c =
    let p = c.args.split in
    let e = c.in_ok-made.ensures in
    subst (λ (zs : List Term). SplitTo 0 p.old p.left p.right c.args.form.now zs) (sym e) (split_none p.old p.left p.right c.args.form.now)

pub replace_one-requires-clause-no_left : goal.replace_one-requires-clause-no_left
replace_one-requires-clause-no_left c =
    let p = c.args.split in
    split_later c.loop-agent.agent p.old p.left p.right p.left c.args.form.now c.loop-agent.made c.loop-agent.invariant ∙ c.requires.can.left_new (c.loop-agent.agent + 1)

pub replace_one-requires-clause-no_right : goal.replace_one-requires-clause-no_right
replace_one-requires-clause-no_right c =
    let p = c.args.split in
    split_later c.loop-agent.agent p.old p.left p.right p.right c.args.form.now c.loop-agent.made c.loop-agent.invariant ∙ c.requires.can.right_new (c.loop-agent.agent + 1)

pub loop-agent-preserved : goal.loop-agent-preserved
loop-agent-preserved c =
    let p = c.args.split in
    split_next c.loop-agent.agent p.old p.left p.right c.args.form.now c.loop-agent.made c.in_ok-made-2.made c.loop-agent.invariant c.in_ok-made-2.ensures

pub returns : goal.returns
returns c =
    let p = c.args.split in
    let r = c.requires in
    let e : c.loop-agent.agent ≡ c.args.agents = omega arith in
    split_all c.args.agents p.old p.left p.right c.args.form.now c.loop-agent.made r.old r.left r.right r.can
    (subst (λ (i : ℕ). SplitTo i p.old p.left p.right c.args.form.now c.loop-agent.made) e c.loop-agent.invariant)

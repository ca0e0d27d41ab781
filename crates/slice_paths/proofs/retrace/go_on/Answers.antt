use Rattle.std.proofs.Common.{◌≡◌, ◌∙◌, sym, ap, subst}
use Rattle.slice_core.specs.Nodes.{tree_of}
use Rattle.slice_core.specs.Tree.{Tree}
use Rattle.slice_core.specs.Tree as tree
use Rattle.slice_core.proofs.NodeLaws.{tree_of-Ask, tree_of-Set, tree_of-Cut, tree_of-Join, tree_of-Test, tree_of-Give, tree_of-Done}
use Rattle.slice_atoms.proofs.Items.{all_ok}
use Rattle.slice_paths.specs.Retraced.{IsNoStride, Strides}
use Rattle.slice_paths.specs.Walking.{Ready}
use Rattle.slice_paths.proofs.RetraceNone.{no_end}
use Rattle.slice_paths.proofs.retrace.go_on.Goals as goal

pub stride_ask-requires : goal.stride_ask-requires
stride_ask-requires c =
    let n = c.in-Ask in
    let s = c.args.spot in
    let is : tree_of c.args.node.now ≡ tree.Ask n.agent n.piece n.reg (tree_of c.get.result.now) = ap tree_of n.is ∙ tree_of-Ask n.agent n.piece n.reg n.next ∙ ap (tree.Ask n.agent n.piece n.reg) (sym (ap tree_of c.get.ensures)) in
    record { ready = (c.args.by.agents, n.reg, subst (λ (t : Tree). Ready c.args.by.agents t s) is c.requires) }

pub returns-in-Ask : goal.returns-in-Ask
returns-in-Ask c =
    let n = c.in-Ask in
    let s = c.args.spot in
    let is : tree_of c.args.node.now ≡ tree.Ask n.agent n.piece n.reg (tree_of c.get.result.now) = ap tree_of n.is ∙ tree_of-Ask n.agent n.piece n.reg n.next ∙ ap (tree.Ask n.agent n.piece n.reg) (sym (ap tree_of c.get.ensures)) in
    all_ok c.stride_ask.result _ _ (λ o f. subst (λ (t : Tree). Strides c.args.by.agents t s c.args.by.choices.now c.args.behind.now.items c.args.behind.now.items o) (sym is) (f c.args.by.agents n.reg c.args.by.choices.now c.args.behind.now.items (subst (λ (t : Tree). Ready c.args.by.agents t s) is c.requires))) c.stride_ask.ensures

pub stride_set-requires : goal.stride_set-requires
stride_set-requires c =
    let n = c.in-Set in
    let s = c.args.spot in
    let is : tree_of c.args.node.now ≡ tree.Set n.reg n.sum (tree_of c.get-in-Set.result.now) = ap tree_of n.is ∙ tree_of-Set n.reg n.sum n.next ∙ ap (tree.Set n.reg n.sum) (sym (ap tree_of c.get-in-Set.ensures)) in
    record { ready = (c.args.by.agents, n.reg, subst (λ (t : Tree). Ready c.args.by.agents t s) is c.requires) }

pub returns-in-Set : goal.returns-in-Set
returns-in-Set c =
    let n = c.in-Set in
    let s = c.args.spot in
    let is : tree_of c.args.node.now ≡ tree.Set n.reg n.sum (tree_of c.get-in-Set.result.now) = ap tree_of n.is ∙ tree_of-Set n.reg n.sum n.next ∙ ap (tree.Set n.reg n.sum) (sym (ap tree_of c.get-in-Set.ensures)) in
    all_ok c.stride_set.result _ _ (λ o f. subst (λ (t : Tree). Strides c.args.by.agents t s c.args.by.choices.now c.args.behind.now.items c.args.behind.now.items o) (sym is) (f c.args.by.agents n.reg c.args.by.choices.now c.args.behind.now.items (subst (λ (t : Tree). Ready c.args.by.agents t s) is c.requires))) c.stride_set.ensures

pub stride_join-requires : goal.stride_join-requires
stride_join-requires c =
    let n = c.in-Join in
    let s = c.args.spot in
    let is : tree_of c.args.node.now ≡ tree.Join n.first n.second n.piece (tree_of c.get-in-Join.result.now) = ap tree_of n.is ∙ tree_of-Join n.first n.second n.piece n.next ∙ ap (tree.Join n.first n.second n.piece) (sym (ap tree_of c.get-in-Join.ensures)) in
    record { ready = (c.args.by.agents, subst (λ (t : Tree). Ready c.args.by.agents t s) is c.requires) }

pub returns-in-Join : goal.returns-in-Join
returns-in-Join c =
    let n = c.in-Join in
    let s = c.args.spot in
    let is : tree_of c.args.node.now ≡ tree.Join n.first n.second n.piece (tree_of c.get-in-Join.result.now) = ap tree_of n.is ∙ tree_of-Join n.first n.second n.piece n.next ∙ ap (tree.Join n.first n.second n.piece) (sym (ap tree_of c.get-in-Join.ensures)) in
    all_ok c.stride_join.result _ _ (λ o f. subst (λ (t : Tree). Strides c.args.by.agents t s c.args.by.choices.now c.args.behind.now.items c.args.behind.now.items o) (sym is) (f c.args.by.agents c.args.by.choices.now c.args.behind.now.items (subst (λ (t : Tree). Ready c.args.by.agents t s) is c.requires))) c.stride_join.ensures

pub stride_give-requires : goal.stride_give-requires
stride_give-requires c =
    let n = c.in-Give in
    let s = c.args.spot in
    let is : tree_of c.args.node.now ≡ tree.Give n.piece n.agent (tree_of c.get-in-Give.result.now) = ap tree_of n.is ∙ tree_of-Give n.piece n.agent n.next ∙ ap (tree.Give n.piece n.agent) (sym (ap tree_of c.get-in-Give.ensures)) in
    record { ready = (c.args.by.agents, subst (λ (t : Tree). Ready c.args.by.agents t s) is c.requires) }

pub returns-in-Give : goal.returns-in-Give
returns-in-Give c =
    let n = c.in-Give in
    let s = c.args.spot in
    let is : tree_of c.args.node.now ≡ tree.Give n.piece n.agent (tree_of c.get-in-Give.result.now) = ap tree_of n.is ∙ tree_of-Give n.piece n.agent n.next ∙ ap (tree.Give n.piece n.agent) (sym (ap tree_of c.get-in-Give.ensures)) in
    all_ok c.stride_give.result _ _ (λ o f. subst (λ (t : Tree). Strides c.args.by.agents t s c.args.by.choices.now c.args.behind.now.items c.args.behind.now.items o) (sym is) (f c.args.by.agents c.args.by.choices.now c.args.behind.now.items (subst (λ (t : Tree). Ready c.args.by.agents t s) is c.requires))) c.stride_give.ensures

pub stride_cut-requires : goal.stride_cut-requires
stride_cut-requires c =
    let n = c.in-Cut in
    let s = c.args.spot in
    let is : tree_of c.args.node.now ≡ tree.Cut n.agent n.piece n.amount n.left n.right (tree_of c.get-in-Cut.result.now) = ap tree_of n.is ∙ tree_of-Cut n.agent n.piece n.amount n.left n.right n.next ∙ ap (tree.Cut n.agent n.piece n.amount n.left n.right) (sym (ap tree_of c.get-in-Cut.ensures)) in
    record { ready = (n.left, n.right, subst (λ (t : Tree). Ready c.args.by.agents t s) is c.requires) }

pub returns-in-Cut : goal.returns-in-Cut
returns-in-Cut c =
    let n = c.in-Cut in
    let s = c.args.spot in
    let is : tree_of c.args.node.now ≡ tree.Cut n.agent n.piece n.amount n.left n.right (tree_of c.get-in-Cut.result.now) = ap tree_of n.is ∙ tree_of-Cut n.agent n.piece n.amount n.left n.right n.next ∙ ap (tree.Cut n.agent n.piece n.amount n.left n.right) (sym (ap tree_of c.get-in-Cut.ensures)) in
    all_ok c.stride_cut.result _ _ (λ o f. subst (λ (t : Tree). Strides c.args.by.agents t s c.args.by.choices.now c.args.behind.now.items c.stride_cut.new.behind.items o) (sym is) (f n.left n.right)) c.stride_cut.ensures

pub stride_test-requires : goal.stride_test-requires
stride_test-requires c =
    let n = c.in-Test in
    let s = c.args.spot in
    let is : tree_of c.args.node.now ≡ tree.Test n.left n.right n.strict (tree_of c.get-in-Test.result.now) (tree_of c.get-in-Test-2.result.now) =
    ap tree_of n.is ∙ tree_of-Test n.left n.right n.strict n.yes n.no
    ∙ (λ i. tree.Test n.left n.right n.strict (sym (ap tree_of c.get-in-Test.ensures) i) (sym (ap tree_of c.get-in-Test-2.ensures) i)) in
    record { ready = (c.args.by.agents, subst (λ (t : Tree). Ready c.args.by.agents t s) is c.requires) }

pub returns-in-Test : goal.returns-in-Test
returns-in-Test c =
    let n = c.in-Test in
    let s = c.args.spot in
    let is : tree_of c.args.node.now ≡ tree.Test n.left n.right n.strict (tree_of c.get-in-Test.result.now) (tree_of c.get-in-Test-2.result.now) =
    ap tree_of n.is ∙ tree_of-Test n.left n.right n.strict n.yes n.no
    ∙ (λ i. tree.Test n.left n.right n.strict (sym (ap tree_of c.get-in-Test.ensures) i) (sym (ap tree_of c.get-in-Test-2.ensures) i)) in
    all_ok c.stride_test.result _ _ (λ o f. subst (λ (t : Tree). Strides c.args.by.agents t s c.args.by.choices.now c.args.behind.now.items c.stride_test.new.behind.items o) (sym is) (f c.args.by.agents (subst (λ (t : Tree). Ready c.args.by.agents t s) is c.requires))) c.stride_test.ensures

pub returns-in-Done : goal.returns-in-Done
returns-in-Done c =
    let is : tree_of c.args.node.now ≡ tree.End = ap tree_of c.in-Done.is ∙ tree_of-Done in
    subst (λ (t : Tree). IsNoStride t c.args.spot c.args.by.choices.now) (sym is) (no_end c.args.spot c.args.by.choices.now)

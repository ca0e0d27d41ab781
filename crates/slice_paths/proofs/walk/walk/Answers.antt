use Rattle.std.proofs.Common.{◌≡◌, ◌∙◌, sym, ap, subst}
use Rattle.slice_core.specs.Nodes.{tree_of}
use Rattle.slice_core.specs.Tree.{Tree}
use Rattle.slice_core.specs.Tree as tree
use Rattle.slice_core.proofs.NodeLaws.{tree_of-Ask, tree_of-Set, tree_of-Cut, tree_of-Join, tree_of-Test, tree_of-Give, tree_of-Done}
use Rattle.slice_atoms.proofs.Items.{all_ok}
use Rattle.slice_paths.specs.Walking.{Ready, WalkLeads, WalkBreaks}
use Rattle.slice_paths.specs.declared.frames.Onward.TheVariants as onward
use Rattle.slice_paths.specs.declared.frames.Rest.TheVariants as rest
use Rattle.slice_paths.proofs.PairSteps.{end_leads}
use Rattle.slice_paths.proofs.SumLaws.{all_err}
use Rattle.slice_paths.proofs.walk.walk.Goals as goal

pub walk_ask-requires : goal.walk_ask-requires
walk_ask-requires c =
    let n = c.in-Ask in
    let s = c.args.spot in
    let is : tree_of c.args.node.now ≡ tree.Ask n.agent n.piece n.reg (tree_of c.get.result.now) = ap tree_of n.is ∙ tree_of-Ask n.agent n.piece n.reg n.next ∙ ap (tree.Ask n.agent n.piece n.reg) (sym (ap tree_of c.get.ensures)) in
    record { ready = (n.reg, subst (λ (t : Tree). Ready s.atoms.agents t s) is c.requires) }

pub returns-in-Ask-clause-ok : goal.returns-in-Ask-clause-ok
returns-in-Ask-clause-ok c =
    let n = c.in-Ask in
    let s = c.args.spot in
    let is : tree_of c.args.node.now ≡ tree.Ask n.agent n.piece n.reg (tree_of c.get.result.now) = ap tree_of n.is ∙ tree_of-Ask n.agent n.piece n.reg n.next ∙ ap (tree.Ask n.agent n.piece n.reg) (sym (ap tree_of c.get.ensures)) in
    all_ok c.walk_ask.result _ _ (λ o f. subst (λ (t : Tree). WalkLeads s.atoms.agents t s o) (sym is) (f n.reg)) c.walk_ask.ensures.ok

pub returns-in-Ask-clause-err : goal.returns-in-Ask-clause-err
returns-in-Ask-clause-err c =
    let n = c.in-Ask in
    let s = c.args.spot in
    let is : tree_of c.args.node.now ≡ tree.Ask n.agent n.piece n.reg (tree_of c.get.result.now) = ap tree_of n.is ∙ tree_of-Ask n.agent n.piece n.reg n.next ∙ ap (tree.Ask n.agent n.piece n.reg) (sym (ap tree_of c.get.ensures)) in
    all_err c.walk_ask.result _ _ (λ e f. subst (λ (t : Tree). WalkBreaks s.atoms.agents t s e) (sym is) (f n.reg)) c.walk_ask.ensures.err

pub walk_set-requires : goal.walk_set-requires
walk_set-requires c =
    let n = c.in-Set in
    let s = c.args.spot in
    let is : tree_of c.args.node.now ≡ tree.Set n.reg n.sum (tree_of c.get-in-Set.result.now) = ap tree_of n.is ∙ tree_of-Set n.reg n.sum n.next ∙ ap (tree.Set n.reg n.sum) (sym (ap tree_of c.get-in-Set.ensures)) in
    record { ready = (n.reg, subst (λ (t : Tree). Ready s.atoms.agents t s) is c.requires) }

pub returns-in-Set-clause-ok : goal.returns-in-Set-clause-ok
returns-in-Set-clause-ok c =
    let n = c.in-Set in
    let s = c.args.spot in
    let is : tree_of c.args.node.now ≡ tree.Set n.reg n.sum (tree_of c.get-in-Set.result.now) = ap tree_of n.is ∙ tree_of-Set n.reg n.sum n.next ∙ ap (tree.Set n.reg n.sum) (sym (ap tree_of c.get-in-Set.ensures)) in
    all_ok c.walk_set.result _ _ (λ o f. subst (λ (t : Tree). WalkLeads s.atoms.agents t s o) (sym is) (f n.reg)) c.walk_set.ensures.ok

pub returns-in-Set-clause-err : goal.returns-in-Set-clause-err
returns-in-Set-clause-err c =
    let n = c.in-Set in
    let s = c.args.spot in
    let is : tree_of c.args.node.now ≡ tree.Set n.reg n.sum (tree_of c.get-in-Set.result.now) = ap tree_of n.is ∙ tree_of-Set n.reg n.sum n.next ∙ ap (tree.Set n.reg n.sum) (sym (ap tree_of c.get-in-Set.ensures)) in
    all_err c.walk_set.result _ _ (λ e f. subst (λ (t : Tree). WalkBreaks s.atoms.agents t s e) (sym is) (f n.reg)) c.walk_set.ensures.err

pub walk_cut-requires : goal.walk_cut-requires
walk_cut-requires c =
    let n = c.in-Cut in
    let s = c.args.spot in
    let is : tree_of c.args.node.now ≡ tree.Cut n.agent n.piece n.amount n.left n.right (tree_of c.get-in-Cut.result.now) = ap tree_of n.is ∙ tree_of-Cut n.agent n.piece n.amount n.left n.right n.next ∙ ap (tree.Cut n.agent n.piece n.amount n.left n.right) (sym (ap tree_of c.get-in-Cut.ensures)) in
    record { ready = (n.left, n.right, subst (λ (t : Tree). Ready s.atoms.agents t s) is c.requires) }

pub returns-in-Cut-clause-ok : goal.returns-in-Cut-clause-ok
returns-in-Cut-clause-ok c =
    let n = c.in-Cut in
    let s = c.args.spot in
    let is : tree_of c.args.node.now ≡ tree.Cut n.agent n.piece n.amount n.left n.right (tree_of c.get-in-Cut.result.now) = ap tree_of n.is ∙ tree_of-Cut n.agent n.piece n.amount n.left n.right n.next ∙ ap (tree.Cut n.agent n.piece n.amount n.left n.right) (sym (ap tree_of c.get-in-Cut.ensures)) in
    all_ok c.walk_cut.result _ _ (λ o f. subst (λ (t : Tree). WalkLeads s.atoms.agents t s o) (sym is) (f n.left n.right)) c.walk_cut.ensures.ok

pub returns-in-Cut-clause-err : goal.returns-in-Cut-clause-err
returns-in-Cut-clause-err c =
    let n = c.in-Cut in
    let s = c.args.spot in
    let is : tree_of c.args.node.now ≡ tree.Cut n.agent n.piece n.amount n.left n.right (tree_of c.get-in-Cut.result.now) = ap tree_of n.is ∙ tree_of-Cut n.agent n.piece n.amount n.left n.right n.next ∙ ap (tree.Cut n.agent n.piece n.amount n.left n.right) (sym (ap tree_of c.get-in-Cut.ensures)) in
    all_err c.walk_cut.result _ _ (λ e f. subst (λ (t : Tree). WalkBreaks s.atoms.agents t s e) (sym is) (f n.left n.right)) c.walk_cut.ensures.err

pub walk_join-requires : goal.walk_join-requires
walk_join-requires c =
    let n = c.in-Join in
    let s = c.args.spot in
    let is : tree_of c.args.node.now ≡ tree.Join n.first n.second n.piece (tree_of c.get-in-Join.result.now) = ap tree_of n.is ∙ tree_of-Join n.first n.second n.piece n.next ∙ ap (tree.Join n.first n.second n.piece) (sym (ap tree_of c.get-in-Join.ensures)) in
    subst (λ (t : Tree). Ready s.atoms.agents t s) is c.requires

pub returns-in-Join-clause-ok : goal.returns-in-Join-clause-ok
returns-in-Join-clause-ok c =
    let n = c.in-Join in
    let s = c.args.spot in
    let is : tree_of c.args.node.now ≡ tree.Join n.first n.second n.piece (tree_of c.get-in-Join.result.now) = ap tree_of n.is ∙ tree_of-Join n.first n.second n.piece n.next ∙ ap (tree.Join n.first n.second n.piece) (sym (ap tree_of c.get-in-Join.ensures)) in
    all_ok c.walk_join.result _ _ (λ o f. subst (λ (t : Tree). WalkLeads s.atoms.agents t s o) (sym is) (f)) c.walk_join.ensures.ok

pub returns-in-Join-clause-err : goal.returns-in-Join-clause-err
returns-in-Join-clause-err c =
    let n = c.in-Join in
    let s = c.args.spot in
    let is : tree_of c.args.node.now ≡ tree.Join n.first n.second n.piece (tree_of c.get-in-Join.result.now) = ap tree_of n.is ∙ tree_of-Join n.first n.second n.piece n.next ∙ ap (tree.Join n.first n.second n.piece) (sym (ap tree_of c.get-in-Join.ensures)) in
    all_err c.walk_join.result _ _ (λ e f. subst (λ (t : Tree). WalkBreaks s.atoms.agents t s e) (sym is) (f)) c.walk_join.ensures.err

pub walk_give-requires : goal.walk_give-requires
walk_give-requires c =
    let n = c.in-Give in
    let s = c.args.spot in
    let is : tree_of c.args.node.now ≡ tree.Give n.piece n.agent (tree_of c.get-in-Give.result.now) = ap tree_of n.is ∙ tree_of-Give n.piece n.agent n.next ∙ ap (tree.Give n.piece n.agent) (sym (ap tree_of c.get-in-Give.ensures)) in
    subst (λ (t : Tree). Ready s.atoms.agents t s) is c.requires

pub returns-in-Give-clause-ok : goal.returns-in-Give-clause-ok
returns-in-Give-clause-ok c =
    let n = c.in-Give in
    let s = c.args.spot in
    let is : tree_of c.args.node.now ≡ tree.Give n.piece n.agent (tree_of c.get-in-Give.result.now) = ap tree_of n.is ∙ tree_of-Give n.piece n.agent n.next ∙ ap (tree.Give n.piece n.agent) (sym (ap tree_of c.get-in-Give.ensures)) in
    all_ok c.walk_give.result _ _ (λ o f. subst (λ (t : Tree). WalkLeads s.atoms.agents t s o) (sym is) (f)) c.walk_give.ensures.ok

pub returns-in-Give-clause-err : goal.returns-in-Give-clause-err
returns-in-Give-clause-err c =
    let n = c.in-Give in
    let s = c.args.spot in
    let is : tree_of c.args.node.now ≡ tree.Give n.piece n.agent (tree_of c.get-in-Give.result.now) = ap tree_of n.is ∙ tree_of-Give n.piece n.agent n.next ∙ ap (tree.Give n.piece n.agent) (sym (ap tree_of c.get-in-Give.ensures)) in
    all_err c.walk_give.result _ _ (λ e f. subst (λ (t : Tree). WalkBreaks s.atoms.agents t s e) (sym is) (f)) c.walk_give.ensures.err

pub walk_test-requires : goal.walk_test-requires
walk_test-requires c =
    let n = c.in-Test in
    let s = c.args.spot in
    let is : tree_of c.args.node.now ≡ tree.Test n.left n.right n.strict (tree_of c.get-in-Test.result.now) (tree_of c.get-in-Test-2.result.now) =
    ap tree_of n.is ∙ tree_of-Test n.left n.right n.strict n.yes n.no
    ∙ (λ i. tree.Test n.left n.right n.strict (sym (ap tree_of c.get-in-Test.ensures) i) (sym (ap tree_of c.get-in-Test-2.ensures) i)) in
    subst (λ (t : Tree). Ready s.atoms.agents t s) is c.requires

pub returns-in-Test-clause-ok : goal.returns-in-Test-clause-ok
returns-in-Test-clause-ok c =
    let n = c.in-Test in
    let s = c.args.spot in
    let is : tree_of c.args.node.now ≡ tree.Test n.left n.right n.strict (tree_of c.get-in-Test.result.now) (tree_of c.get-in-Test-2.result.now) =
    ap tree_of n.is ∙ tree_of-Test n.left n.right n.strict n.yes n.no
    ∙ (λ i. tree.Test n.left n.right n.strict (sym (ap tree_of c.get-in-Test.ensures) i) (sym (ap tree_of c.get-in-Test-2.ensures) i)) in
    all_ok c.walk_test.result _ _ (λ o f. subst (λ (t : Tree). WalkLeads s.atoms.agents t s o) (sym is) f) c.walk_test.ensures.ok

pub returns-in-Test-clause-err : goal.returns-in-Test-clause-err
returns-in-Test-clause-err c =
    let n = c.in-Test in
    let s = c.args.spot in
    let is : tree_of c.args.node.now ≡ tree.Test n.left n.right n.strict (tree_of c.get-in-Test.result.now) (tree_of c.get-in-Test-2.result.now) =
    ap tree_of n.is ∙ tree_of-Test n.left n.right n.strict n.yes n.no
    ∙ (λ i. tree.Test n.left n.right n.strict (sym (ap tree_of c.get-in-Test.ensures) i) (sym (ap tree_of c.get-in-Test-2.ensures) i)) in
    all_err c.walk_test.result _ _ (λ e f. subst (λ (t : Tree). WalkBreaks s.atoms.agents t s e) (sym is) f) c.walk_test.ensures.err

pub returns-in-Done-clause-ok : goal.returns-in-Done-clause-ok
returns-in-Done-clause-ok c =
    let s = c.args.spot in
    let is : tree_of c.args.node.now ≡ tree.End = ap tree_of c.in-Done.is ∙ tree_of-Done in
    subst (λ (t : Tree). WalkLeads s.atoms.agents t s (onward.One (record { rest = rest.Pairs 1 1; spot = s }))) (sym is)
    (end_leads s (subst (λ (t : Tree). Ready s.atoms.agents t s) is c.requires))

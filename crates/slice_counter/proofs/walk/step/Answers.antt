use Rattle.std.proofs.Common.{◌≡◌, ◌∙◌, sym, ap, drop, Some}
use Rattle.slice_core.specs.Tree as tree
use Rattle.slice_core.specs.Tree.{Tree}
use Rattle.slice_core.specs.Nodes.{tree_of}
use Rattle.slice_core.proofs.NodeLaws.{tree_of-Cut, tree_of-Join, tree_of-Test, tree_of-Give}
use Rattle.slice_counter.proofs.Nodes.{goes_join, goes_give, goes_cut, ends_cut, goes_yes, goes_no}
use Rattle.slice_counter.proofs.walk.step.Goals as goal

pub returns-in_ok-join-in-Join : goal.returns-in_ok-join-in-Join
returns-in_ok-join-in-Join c = λ end h.
    let n = c.in-Join in
    let is : tree_of c.args.node.now ≡ tree.Join n.first n.second n.piece (tree_of c.get-in-Join.result.now) = ap tree_of n.is ∙ (tree_of-Join n.first n.second n.piece n.next ∙ ap (λ m. tree.Join n.first n.second n.piece (tree_of m)) (sym c.get-in-Join.ensures)) in
    goes_join end (tree_of c.args.node.now) (tree_of c.get-in-Join.result.now) c.args.trace.now c.args.at c.requires.within c.args.trail.now c.join.new.self h n.first n.second n.piece is c.in_ok-join-in-Join.ensures.pieces c.in_ok-join-in-Join.ensures.cuts

pub returns-in-Give : goal.returns-in-Give
returns-in-Give c = λ end h.
    let n = c.in-Give in
    let is : tree_of c.args.node.now ≡ tree.Give n.piece n.agent (tree_of c.get-in-Give.result.now) = ap tree_of n.is ∙ (tree_of-Give n.piece n.agent n.next ∙ ap (λ m. tree.Give n.piece n.agent (tree_of m)) (sym c.get-in-Give.ensures)) in
    goes_give end (tree_of c.args.node.now) (tree_of c.get-in-Give.result.now) c.args.trace.now c.args.at c.requires.within c.args.trail.now c.give.new.self h n.piece n.agent is c.give.ensures.pieces c.give.ensures.cuts

pub returns-in-Some : goal.returns-in-Some
returns-in-Some c = λ end h.
    let n = c.in-Cut in
    let is : tree_of c.args.node.now ≡ tree.Cut n.agent n.piece n.amount n.left n.right (tree_of c.get-in-Some.result.now) = ap tree_of n.is ∙ (tree_of-Cut n.agent n.piece n.amount n.left n.right n.next ∙ ap (λ m. tree.Cut n.agent n.piece n.amount n.left n.right (tree_of m)) (sym c.get-in-Some.ensures)) in
    goes_cut end (tree_of c.args.node.now) (tree_of c.get-in-Some.result.now) c.args.trace.now (drop c.args.at c.args.trace.now) c.args.trail.now c.pass.new.trail n.agent n.piece n.left n.right c.in-Some.made n.amount is (rw c.in-Some.is at c.in_ok-made-in-Cut.ensures) h

pub returns-in-None : goal.returns-in-None
returns-in-None c = λ end h.
    let n = c.in-Cut in
    let is : tree_of c.args.node.now ≡ tree.Cut n.agent n.piece n.amount n.left n.right (tree_of n.next) = ap tree_of n.is ∙ tree_of-Cut n.agent n.piece n.amount n.left n.right n.next in
    ends_cut end (tree_of c.args.node.now) (tree_of n.next) c.args.trace.now (drop c.args.at c.args.trace.now) c.args.trail.now c.pass.new.trail n.agent n.piece n.left n.right n.amount is (rw c.in-None.is at c.in_ok-made-in-Cut.ensures) h

pub returns-in-Some-true : goal.returns-in-Some-true
returns-in-Some-true c = λ end h.
    let n = c.in-Test in
    let is : tree_of c.args.node.now ≡ tree.Test n.left n.right n.strict (tree_of c.get-in-Some-true.result.now) (tree_of n.no) = ap tree_of n.is ∙ (tree_of-Test n.left n.right n.strict n.yes n.no ∙ ap (λ m. tree.Test n.left n.right n.strict (tree_of m) (tree_of n.no)) (sym c.get-in-Some-true.ensures)) in
    goes_yes end (tree_of c.args.node.now) (tree_of c.get-in-Some-true.result.now) c.args.trace.now c.args.at c.requires.within c.args.trail.now c.args.trail.now h n.left n.right n.strict (tree_of n.no) is (sym c.in-Some-true.ensures.taken ∙ ap Some c.in-Some-true.field-0-test) c.in-Some-true.ensures.within

pub returns-in-Some-false : goal.returns-in-Some-false
returns-in-Some-false c = λ end h.
    let n = c.in-Test in
    let is : tree_of c.args.node.now ≡ tree.Test n.left n.right n.strict (tree_of n.yes) (tree_of c.get-in-Some-false.result.now) = ap tree_of n.is ∙ (tree_of-Test n.left n.right n.strict n.yes n.no ∙ ap (λ m. tree.Test n.left n.right n.strict (tree_of n.yes) (tree_of m)) (sym c.get-in-Some-false.ensures)) in
    goes_no end (tree_of c.args.node.now) (tree_of c.get-in-Some-false.result.now) c.args.trace.now c.args.at c.requires.within c.args.trail.now c.args.trail.now h n.left n.right n.strict (tree_of n.yes) is (sym c.in-Some-false.ensures.taken ∙ ap Some c.in-Some-false.field-0-test) c.in-Some-false.ensures.within

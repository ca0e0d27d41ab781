use Rattle.std.proofs.Common.{◌≡◌, ◌∙◌, ◌+◌, ◌-◌, ◌≤◌, ◌<◌, ℕ, true, false, Some, drop, sym, ap, arith, rules}
use Rattle.std.proofs.lemmas.Grind.{common_steps}
use Rattle.slice_core.specs.Nodes.{tree_of}
use Rattle.slice_core.specs.Sizes.{depth, most_cuts}
use Rattle.slice_core.specs.Tree.{Tree}
use Rattle.slice_core.specs.Tree as tree
use Rattle.slice_core.proofs.NodeLaws.{tree_of-Cut, tree_of-Join, tree_of-Test, tree_of-Give}
use Rattle.slice_paths.specs.Counting.{part_count, cut_counts, all_parts, goals_on, goals_left, one_less, once_passed}
use Rattle.slice_paths.specs.Retraced.{arm_in}
use Rattle.slice_paths.proofs.CountSteps.{counted_as, counted_more, parts_joined, parts_used, parts_here, left_at_yes, left_at_no}
use Rattle.slice_paths.proofs.RetraceCut.{choices_long}
use Rattle.slice_paths.proofs.counting.+left_goals.Goals as goal

pub count_left-count_left-requires-in-Ok : goal.count_left-count_left-requires-in-Ok
count_left-count_left-requires-in-Ok t c =
    let n = c.in-Join in
    let is : tree_of c.args.node.now ≡ tree.Join n.first n.second n.piece (tree_of c.get-in-Ok.result.now) = ap tree_of n.is ∙ tree_of-Join n.first n.second n.piece n.next ∙ ap (tree.Join n.first n.second n.piece) (sym (ap tree_of c.get-in-Ok.ensures)) in
    let e = ap all_parts (c.as_slice.ensures.value ∙ c.in-Ok.ensures) in
    let few : all_parts c.as_slice.result.now + most_cuts (tree_of c.get-in-Ok.result.now) ≤ 65 = omega (arith, c.requires.parts, ap most_cuts is, e, parts_joined c.args.counts.now n.first n.second) in
    let less = ap depth is in
    (omega (arith, less), (c.requires.agents, (few, c.requires.few)))

pub count_left-count_left-requires-in-Ok-after_use : goal.count_left-count_left-requires-in-Ok-after_use
count_left-count_left-requires-in-Ok-after_use t c =
    let n = c.in-Give in
    let is : tree_of c.args.node.now ≡ tree.Give n.piece n.agent (tree_of c.get-in-Ok-after_use.result.now) = ap tree_of n.is ∙ tree_of-Give n.piece n.agent n.next ∙ ap (tree.Give n.piece n.agent) (sym (ap tree_of c.get-in-Ok-after_use.ensures)) in
    let e = ap all_parts (c.as_slice-in-Ok-after_use.ensures.value ∙ c.in-Ok-after_use.ensures) in
    let few : all_parts c.as_slice-in-Ok-after_use.result.now + most_cuts (tree_of c.get-in-Ok-after_use.result.now) ≤ 65 = omega (arith, c.requires.parts, ap most_cuts is, e, parts_used c.args.counts.now n.piece) in
    let less = ap depth is in
    (omega (arith, less), (c.requires.agents, (few, c.requires.few)))

pub count_left-returns-in-Cut : goal.count_left-returns-in-Cut
count_left-returns-in-Cut t c =
    let a = c.args in
    let n = c.in-Cut in
    let is : tree_of a.node.now ≡ tree.Cut n.agent n.piece n.amount n.left n.right (tree_of c.get-in-Cut.result.now) = ap tree_of n.is ∙ tree_of-Cut n.agent n.piece n.amount n.left n.right n.next ∙ ap (tree.Cut n.agent n.piece n.amount n.left n.right) (sym (ap tree_of c.get-in-Cut.ensures)) in
    counted_as (a.given + goals_left a.behind.agents a.passed (tree.Cut n.agent n.piece n.amount n.left n.right (tree_of c.get-in-Cut.result.now)) a.counts.now a.choices.now a.behind.kind) (a.given + goals_left a.behind.agents a.passed (tree_of a.node.now) a.counts.now a.choices.now a.behind.kind) c.left_of_cut.result
    (ap (λ (x : Tree). a.given + goals_left a.behind.agents a.passed x a.counts.now a.choices.now a.behind.kind) (sym is)) (c.left_of_cut.ensures n.agent n.left n.right n.amount)

pub count_left-returns-in-Test : goal.count_left-returns-in-Test
count_left-returns-in-Test t c =
    let a = c.args in
    let n = c.in-Test in
    let is : tree_of a.node.now ≡ tree.Test n.left n.right n.strict (tree_of c.get-in-Test.result.now) (tree_of c.get-in-Test-2.result.now) =
    ap tree_of n.is ∙ tree_of-Test n.left n.right n.strict n.yes n.no
    ∙ (λ i. tree.Test n.left n.right n.strict (sym (ap tree_of c.get-in-Test.ensures) i) (sym (ap tree_of c.get-in-Test-2.ensures) i)) in
    counted_as (a.given + goals_left a.behind.agents a.passed (tree.Test n.left n.right n.strict (tree_of c.get-in-Test.result.now) (tree_of c.get-in-Test-2.result.now)) a.counts.now a.choices.now a.behind.kind) (a.given + goals_left a.behind.agents a.passed (tree_of a.node.now) a.counts.now a.choices.now a.behind.kind) c.left_of_test.result
    (ap (λ (x : Tree). a.given + goals_left a.behind.agents a.passed x a.counts.now a.choices.now a.behind.kind) (sym is)) (c.left_of_test.ensures n.left n.right n.strict)

pub left_of_cut-choices_after-rest-requires : goal.left_of_cut-choices_after-rest-requires
left_of_cut-choices_after-rest-requires t c = choices_long c.parts_of-parts.result c.args.choices.now c.in-Some.part (sym c.in-Some.ensures.part)

pub left_of_cut-count_left-requires : goal.left_of_cut-count_left-requires
left_of_cut-count_left-requires t c =
    let a = c.args in
    let counts = a.counts.now in
    let part = c.in-Some.part in
    let there : part < part_count counts a.piece = omega (arith, c.in-Some.ensures.there, c.parts_of-parts.ensures) in
    let here : c.as_slice.result.now ≡ cut_counts counts a.piece (part + 1) (part_count counts a.piece - part) =
    c.as_slice.ensures.value ∙ c.in-Ok.ensures ∙ ap (λ (m : ℕ). cut_counts counts a.piece (part + 1) (m - part)) c.parts_of-parts.ensures in
    let few : all_parts c.as_slice.result.now + most_cuts (tree_of a.next.now) ≤ 65 = omega (arith, c.requires.parts, parts_here counts c.as_slice.result.now a.piece part there here) in
    (omega arith, (c.requires.agents, (few, c.requires.few)))

pub left_of_test-returns-then-not-taken : goal.left_of_test-returns-then-not-taken
left_of_test-returns-then-not-taken t c = λ left right strict.
    (let a = c.args in
    let taken : c.in-Some.taken ≡ false = first_of (search rules, grind (arith, common_steps)) in
    let arm : arm_in a.choices.now ≡ Some false = sym c.in-Some.ensures ∙ ap Some taken in
    let y = tree_of a.yes.now in
    let z = tree_of a.no.now in
    let e = left_at_no a.behind.agents a.passed left right strict y z a.counts.now a.choices.now a.behind.kind arm in
    let same : goals_left a.behind.agents c.one_passed-left.result z a.counts.now c.choices_after-rest.result.now a.behind.kind ≡ goals_left a.behind.agents (one_less a.passed) z a.counts.now (drop 1 a.choices.now) a.behind.kind =
    λ i. goals_left a.behind.agents (c.one_passed-left.ensures i) z a.counts.now (c.choices_after-rest.ensures i) a.behind.kind in
    counted_as (a.given + goals_left a.behind.agents c.one_passed-left.result z a.counts.now c.choices_after-rest.result.now a.behind.kind) (a.given + goals_left a.behind.agents a.passed (tree.Test left right strict y z) a.counts.now a.choices.now a.behind.kind) c.count_left.result
    (ap (λ (m : ℕ). a.given + m) (same ∙ sym e)) c.count_left.ensures)

pub left_of_test-returns-in-Err : goal.left_of_test-returns-in-Err
left_of_test-returns-in-Err t c = λ left right strict.
    (let a = c.args in
    let taken : c.in-Some.taken ≡ true = first_of (search rules, grind (arith, common_steps)) in
    let arm : arm_in a.choices.now ≡ Some true = sym c.in-Some.ensures ∙ ap Some taken in
    let y = tree_of a.yes.now in
    let z = tree_of a.no.now in
    let e = left_at_yes a.behind.agents a.passed left right strict y z a.counts.now a.choices.now a.behind.kind arm in
    let same : goals_left a.behind.agents c.one_passed-left.result y a.counts.now c.choices_after-rest.result.now a.behind.kind ≡ goals_left a.behind.agents (one_less a.passed) y a.counts.now (drop 1 a.choices.now) a.behind.kind =
    λ i. goals_left a.behind.agents (c.one_passed-left.ensures i) y a.counts.now (c.choices_after-rest.ensures i) a.behind.kind in
    let whole = goals_left a.behind.agents a.passed (tree.Test left right strict y z) a.counts.now a.choices.now a.behind.kind in
    let l : a.given + goals_left a.behind.agents c.one_passed-left.result y a.counts.now c.choices_after-rest.result.now a.behind.kind ≤ a.given + whole = omega (arith, same, e) in
    counted_more (a.given + goals_left a.behind.agents c.one_passed-left.result y a.counts.now c.choices_after-rest.result.now a.behind.kind) (a.given + whole) c.in-Err.fault l c.in-Err.ensures)

pub left_of_test-returns-in-Ok : goal.left_of_test-returns-in-Ok
left_of_test-returns-in-Ok t c = λ left right strict.
    (let a = c.args in
    let taken : c.in-Some.taken ≡ true = first_of (search rules, grind (arith, common_steps)) in
    let arm : arm_in a.choices.now ≡ Some true = sym c.in-Some.ensures ∙ ap Some taken in
    let y = tree_of a.yes.now in
    let z = tree_of a.no.now in
    let e = left_at_yes a.behind.agents a.passed left right strict y z a.counts.now a.choices.now a.behind.kind arm in
    let same : goals_left a.behind.agents c.one_passed-left.result y a.counts.now c.choices_after-rest.result.now a.behind.kind ≡ goals_left a.behind.agents (one_less a.passed) y a.counts.now (drop 1 a.choices.now) a.behind.kind =
    λ i. goals_left a.behind.agents (c.one_passed-left.ensures i) y a.counts.now (c.choices_after-rest.ensures i) a.behind.kind in
    let later = once_passed a.passed (goals_on a.behind.agents z a.counts.now) in
    let whole = goals_left a.behind.agents a.passed (tree.Test left right strict y z) a.counts.now a.choices.now a.behind.kind in
    let l : c.in-Ok.given + later ≡ a.given + whole = omega (arith, same, e, c.in-Ok.ensures.0) in
    counted_as (c.in-Ok.given + later) (a.given + whole) c.later_no.result l c.later_no.ensures)

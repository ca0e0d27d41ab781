use Rattle.std.proofs.Common.{◌≡◌, ◌∙◌, ◌+◌, ◌-◌, ◌≤◌, ◌<◌, ℕ, refl, sym, ap, arith}
use Rattle.slice_core.specs.Nodes.{tree_of}
use Rattle.slice_core.specs.Sizes.{depth, most_cuts}
use Rattle.slice_core.specs.Tree.{Tree}
use Rattle.slice_core.specs.Tree as tree
use Rattle.slice_core.proofs.NodeLaws.{tree_of-Cut, tree_of-Join, tree_of-Give, tree_of-Done}
use Rattle.slice_paths.specs.Counting.{part_count, cut_counts, all_parts, goals_on, goals_in_parts}
use Rattle.slice_paths.proofs.CountSteps.{counted_as, counted_more, cut_goals, parts_joined, parts_used, parts_here, part_counted, no_part_left, pairs_long}
use Rattle.slice_paths.proofs.counting.+all_goals.Goals as goal

pub count_on-count_on-requires-in-Ok-after_join : goal.count_on-count_on-requires-in-Ok-after_join
count_on-count_on-requires-in-Ok-after_join t c =
    let n = c.in-Join in
    let counts = c.args.counts.now in
    let is : tree_of c.args.node.now ≡ tree.Join n.first n.second n.piece (tree_of c.get-in-Ok-after_join.result.now) = ap tree_of n.is ∙ tree_of-Join n.first n.second n.piece n.next ∙ ap (tree.Join n.first n.second n.piece) (sym (ap tree_of c.get-in-Ok-after_join.ensures)) in
    let e = ap all_parts (c.as_slice.ensures.value ∙ c.in-Ok-after_join.ensures) in
    let few : all_parts c.as_slice.result.now + most_cuts (tree_of c.get-in-Ok-after_join.result.now) ≤ 65 = omega (arith, c.requires.parts, ap most_cuts is, e, parts_joined counts n.first n.second) in
    let less = ap depth is in
    (omega (arith, less), (c.requires.agents, (few, c.requires.few)))

pub count_on-count_on-requires-in-Ok-after_use : goal.count_on-count_on-requires-in-Ok-after_use
count_on-count_on-requires-in-Ok-after_use t c =
    let n = c.in-Give in
    let counts = c.args.counts.now in
    let is : tree_of c.args.node.now ≡ tree.Give n.piece n.agent (tree_of c.get-in-Ok-after_use.result.now) = ap tree_of n.is ∙ tree_of-Give n.piece n.agent n.next ∙ ap (tree.Give n.piece n.agent) (sym (ap tree_of c.get-in-Ok-after_use.ensures)) in
    let e = ap all_parts (c.as_slice-in-Ok-after_use.ensures.value ∙ c.in-Ok-after_use.ensures) in
    let few : all_parts c.as_slice-in-Ok-after_use.result.now + most_cuts (tree_of c.get-in-Ok-after_use.result.now) ≤ 65 = omega (arith, c.requires.parts, ap most_cuts is, e, parts_used counts n.piece) in
    let less = ap depth is in
    (omega (arith, less), (c.requires.agents, (few, c.requires.few)))

pub count_on-returns-in-Ok : goal.count_on-returns-in-Ok
count_on-returns-in-Ok t c =
    let a = c.args in
    let n = c.in-Cut in
    let next = tree_of c.get-in-Ok.result.now in
    let is : tree_of a.node.now ≡ tree.Cut n.agent n.piece n.amount n.left n.right next = ap tree_of n.is ∙ tree_of-Cut n.agent n.piece n.amount n.left n.right n.next ∙ ap (tree.Cut n.agent n.piece n.amount n.left n.right) (sym (ap tree_of c.get-in-Ok.ensures)) in
    let all = goals_in_parts a.agents next a.counts.now n.piece 0 in
    let e : goals_on a.agents (tree_of a.node.now) a.counts.now ≡ 2 + all = ap (λ (x : Tree). goals_on a.agents x a.counts.now) is ∙ cut_goals a.agents n.agent n.piece n.left n.right n.amount next a.counts.now in
    let l : c.in-Ok.given + all ≡ a.given + goals_on a.agents (tree_of a.node.now) a.counts.now = omega (arith, e, c.in-Ok.ensures.0) in
    counted_as (c.in-Ok.given + all) (a.given + goals_on a.agents (tree_of a.node.now) a.counts.now) c.count_parts.result l c.count_parts.ensures

pub count_on-returns-in-Done : goal.count_on-returns-in-Done
count_on-returns-in-Done t c =
    let a = c.args in
    let is : tree_of a.node.now ≡ tree.End = ap tree_of c.in-Done.is ∙ tree_of-Done in
    counted_as _ (a.given + goals_on a.agents (tree_of a.node.now) a.counts.now) c.count_pairs.result
    (ap (λ (m : ℕ). a.given + m) (pairs_long a.agents ∙ ap (λ (x : Tree). goals_on a.agents x a.counts.now) (sym is))) c.count_pairs.ensures

pub count_parts-loop-part-init : goal.count_parts-loop-part-init
count_parts-loop-part-init t c = record { few = c.requires.few; left = refl }

pub count_parts-count_on-requires : goal.count_parts-count_on-requires
count_parts-count_on-requires t c =
    let a = c.args in
    let counts = a.counts.now in
    let part = c.loop-part.part in
    let there : part < part_count counts a.piece = omega (arith, c.loop-part-test.true, c.parts_of-parts.ensures) in
    let here : c.as_slice.result.now ≡ cut_counts counts a.piece (part + 1) (part_count counts a.piece - part) =
    c.as_slice.ensures.value ∙ c.in-Ok.ensures ∙ ap (λ (m : ℕ). cut_counts counts a.piece (part + 1) (m - part)) c.parts_of-parts.ensures in
    let few : all_parts c.as_slice.result.now + most_cuts (tree_of a.next.now) ≤ 65 = omega (arith, c.requires.parts, parts_here counts c.as_slice.result.now a.piece part there here) in
    (omega arith, (c.requires.agents, (few, c.loop-part.invariant.few)))

pub count_parts-returns-in-Err-count_on : goal.count_parts-returns-in-Err-count_on
count_parts-returns-in-Err-count_on t c =
    let a = c.args in
    let counts = a.counts.now in
    let next = tree_of a.next.now in
    let part = c.loop-part.part in
    let there : part < part_count counts a.piece = omega (arith, c.loop-part-test.true, c.parts_of-parts.ensures) in
    let here : c.as_slice.result.now ≡ cut_counts counts a.piece (part + 1) (part_count counts a.piece - part) =
    c.as_slice.ensures.value ∙ c.in-Ok.ensures ∙ ap (λ (m : ℕ). cut_counts counts a.piece (part + 1) (m - part)) c.parts_of-parts.ensures in
    let step = part_counted a.agents next counts c.as_slice.result.now a.piece part there here in
    let some = c.loop-part.given + goals_on a.agents next c.as_slice.result.now in
    let whole = a.given + goals_in_parts a.agents next counts a.piece a.from in
    let l : some ≤ whole = omega (arith, c.loop-part.invariant.left, step) in
    counted_more some whole c.in-Err-count_on.fault l c.in-Err-count_on.ensures

pub count_parts-loop-part-preserved : goal.count_parts-loop-part-preserved
count_parts-loop-part-preserved t c =
    let a = c.args in
    let counts = a.counts.now in
    let next = tree_of a.next.now in
    let part = c.loop-part.part in
    let there : part < part_count counts a.piece = omega (arith, c.loop-part-test.true, c.parts_of-parts.ensures) in
    let here : c.as_slice.result.now ≡ cut_counts counts a.piece (part + 1) (part_count counts a.piece - part) =
    c.as_slice.ensures.value ∙ c.in-Ok.ensures ∙ ap (λ (m : ℕ). cut_counts counts a.piece (part + 1) (m - part)) c.parts_of-parts.ensures in
    let step = part_counted a.agents next counts c.as_slice.result.now a.piece part there here in
    record { few = c.in-Ok-count_on.ensures.1; left = omega (arith, c.loop-part.invariant.left, c.in-Ok-count_on.ensures.0, step) }

pub count_parts-returns : goal.count_parts-returns
count_parts-returns t c =
    let a = c.args in
    let over : part_count a.counts.now a.piece ≤ c.loop-part.part = omega (arith, c.loop-part-test.false, c.parts_of-parts.ensures) in
    (omega (arith, c.loop-part.invariant.left, no_part_left a.agents (tree_of a.next.now) a.counts.now a.piece c.loop-part.part over), c.loop-part.invariant.few)

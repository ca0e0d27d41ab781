use Rattle.std.proofs.Common.{◌≡◌, ◌∙◌, ◌∷◌, ◌+◌, [], List, false, sym, ap, arith, rules}
use Rattle.std.proofs.lemmas.Grind.{common_steps}
use Rattle.slice_core.specs.Tree.{Tree}
use Rattle.slice_core.specs.Tree as tree
use Rattle.slice_core.specs.Nodes.{tree_of}
use Rattle.slice_core.specs.declared.node.Lin.{Lin}
use Rattle.slice_expand.specs.declared.trail.Step.{Step}
use Rattle.slice_expand.specs.declared.grow.Offer as declared
use Rattle.slice_expand.specs.Scope.{pieces_named}
use Rattle.slice_expand.specs.Expansion.{one_reg, offers, sum_lin, asks_of}
use Rattle.slice_expand.specs.Trail.{PlainTrail, Made, Good, attach, test_tree, noded}
use Rattle.slice_expand.specs.Frames.{Spot, build_at, inside, moved}
use Rattle.slice_expand.specs.Spots.{spot_of, arm_of, made_of}
use Rattle.slice_expand.specs.Growing.{PlainOrder, forked_at, arms_at, orders_at, contest_at, keep, beat, offer_of, offers_of, order_of}
use Rattle.slice_expand.proofs.Forks.{spot_same, arms_good, duel_good, duel_fault, orders_good, test_good, test_first, test_second, pick_on, pick_first, match_on, fault_is}
use Rattle.slice_expand.proofs.grow.+advance.Goals as goal

pub both_arms-returns : goal.both_arms-returns
both_arms-returns t c =
    let s = spot_of c.args.builder in
    let one = arm_of c.args.item.yes.now in
    let other = arm_of c.args.item.no.now in
    let xs = c.args.item.names.now in
    let a = made_of c.in_ok-yes.yes in
    let first : spot_of c.in_ok-first.first ≡ forked_at s s.trail.nodes s.trail.calls = spot_same _ _ c.in_ok-first.ensures.frames.0 c.in_ok-first.ensures.frames.1 c.in_ok-first.ensures.trail in
    let e = ap build_at (sym (c.in_ok-open.ensures.inside ∙ ap (λ (x : Spot). inside one.code one.yields xs x) first)) ∙ c.in_ok-yes.ensures in
    let f = ap build_at (sym (c.in_ok-open-2.ensures.inside ∙ ap (λ (x : PlainTrail). inside other.code other.yields xs (record { top = s.top; outer = s.outer; trail = x })) c.fork.ensures)) ∙ c.in_ok-no.ensures in
    ((a.nodes, a.calls), arms_good s one other xs a (made_of c.in_ok-no.no) e f)

pub both_orders-returns : goal.both_orders-returns
both_orders-returns t c =
    let s = spot_of c.args.builder in
    let one = order_of c.args.orders.0 in
    let other = order_of c.args.orders.1 in
    let left = offers_of c.args.left.now in
    let xs = c.args.names.now in
    let a = made_of c.in_ok-yes.yes in
    let first : spot_of c.in_ok-first.first ≡ forked_at s s.trail.nodes s.trail.calls = spot_same _ _ c.in_ok-first.ensures.frames.0 c.in_ok-first.ensures.frames.1 c.in_ok-first.ensures.trail in
    let e = ap (λ (p : Spot). contest_at one left xs p) (sym first) ∙ c.in_ok-yes.ensures in
    let f = ap (λ (x : PlainTrail). contest_at other left xs (record { top = s.top; outer = s.outer; trail = x })) (sym c.fork.ensures) ∙ c.in_ok-no.ensures in
    ((a.nodes, a.calls), orders_good s one other left xs a (made_of c.in_ok-no.no) e f)

pub duel-returns-in_err-yes : goal.duel-returns-in_err-yes
duel-returns-in_err-yes t c =
    let s = spot_of c.args.builder in
    let u = c.node.new.self in
    let o = order_of c.args.order in
    let x = offer_of c.args.offer in
    let left = offers_of c.args.left.now in
    let ys = c.args.names.now in
    let g : noded s.trail.cuts s.trail ≡ Good u = first_of (search rules, grind (arith, common_steps)) in
    let same : orders_at (keep x o) (beat x o) left ys (moved (s.top.names, u) s) ≡ orders_at (order_of c.in_ok-kept.kept) (order_of c.in_ok-beaten.beaten) left ys (moved (s.top.names, c.take_steps-steps.new.self) s) =
    ap (λ (k : PlainOrder). orders_at k (beat x o) left ys (moved (s.top.names, u) s)) (sym c.in_ok-kept.ensures.order)
    ∙ ap (λ (k : PlainOrder). orders_at (order_of c.in_ok-kept.kept) k left ys (moved (s.top.names, u) s)) (sym c.in_ok-beaten.ensures.order)
    ∙ ap (λ (w : PlainTrail). orders_at (order_of c.in_ok-kept.kept) (order_of c.in_ok-beaten.beaten) left ys (moved (s.top.names, w) s)) (sym c.take_steps-steps.ensures.rest) in
    let h = duel_fault s o x left ys u c.in_err-yes.field-0.0 g (fault_is c.in_err-yes.field-0.0 _ _ same c.in_err-yes.ensures) in
    first_of (search rules, grind (arith, common_steps))

pub duel-returns : goal.duel-returns
duel-returns t c =
    let s = spot_of c.args.builder in
    let u = c.node.new.self in
    let o = order_of c.args.order in
    let x = offer_of c.args.offer in
    let left = offers_of c.args.left.now in
    let ys = c.args.names.now in
    let g : noded s.trail.cuts s.trail ≡ Good u = first_of (search rules, grind (arith, common_steps)) in
    let same : orders_at (keep x o) (beat x o) left ys (moved (s.top.names, u) s) ≡ orders_at (order_of c.in_ok-kept.kept) (order_of c.in_ok-beaten.beaten) left ys (moved (s.top.names, c.take_steps-steps.new.self) s) =
    ap (λ (k : PlainOrder). orders_at k (beat x o) left ys (moved (s.top.names, u) s)) (sym c.in_ok-kept.ensures.order)
    ∙ ap (λ (k : PlainOrder). orders_at (order_of c.in_ok-kept.kept) k left ys (moved (s.top.names, u) s)) (sym c.in_ok-beaten.ensures.order)
    ∙ ap (λ (w : PlainTrail). orders_at (order_of c.in_ok-kept.kept) (order_of c.in_ok-beaten.beaten) left ys (moved (s.top.names, w) s)) (sym c.take_steps-steps.ensures.rest) in
    let arms = c.in_ok-yes.field-0 in
    let h = c.in_ok-yes.ensures in
    let m : Made × Made = (record { tree = tree_of arms.yes; nodes = h.0.0; calls = h.0.1 }, record { tree = tree_of arms.no; nodes = arms.nodes; calls = arms.calls }) in
    let node : tree_of c.in_ok-test.test ≡ tree.Test (one_reg o.best.reg) (one_reg x.reg) false (tree_of arms.yes) (tree_of arms.no) =
    c.in_ok-test.ensures.tree ∙ ap (λ (l : Lin). tree.Test l c.in_ok-other.other false (tree_of arms.yes) (tree_of arms.no)) c.in_ok-best.ensures.sum ∙ ap (λ (l : Lin). tree.Test (one_reg o.best.reg) l false (tree_of arms.yes) (tree_of arms.no)) c.in_ok-other.ensures.sum in
    let whole : tree_of c.in_ok-root.root ≡ attach u.steps (tree.Test (one_reg o.best.reg) (one_reg x.reg) false (tree_of arms.yes) (tree_of arms.no)) =
    c.in_ok-root.ensures.tree ∙ ap (λ (ss : List Step). attach ss (tree_of c.in_ok-test.test)) c.take_steps-steps.ensures.steps ∙ ap (λ (y : Tree). attach u.steps y) node in
    duel_good s o x left ys u m g (same ∙ h.1)
    ∙ ap (λ (y : Tree). Good (record { tree = y; nodes = arms.nodes; calls = arms.calls })) (sym whole)

pub run_pick-returns-in_err-offers : goal.run_pick-returns-in_err-offers
run_pick-returns-in_err-offers t c =
    let h = pick_first (spot_of c.args.builder) c.args.item.agent.now c.args.item.pieces.now c.args.item.names.now 0 c.in_err-offers.field-0.0 c.in_err-offers.ensures.queries in
    first_of (search rules, grind (arith, common_steps))

pub run_pick-returns : goal.run_pick-returns
run_pick-returns t c =
    let s = spot_of c.args.builder in
    let u = c.begin_pick.new.trail in
    let found : c.as_slice.result.now ≡ c.in-Some.best.now ∷ c.in-Some.left.now = first_of (search rules, grind (arith, common_steps)) in
    let os : offers s.trail.regs (pieces_named s.top.names c.args.item.pieces.now) ≡ offer_of c.in-Some.best.now ∷ offers_of c.in-Some.left.now =
    sym c.in_ok-offers.ensures.offers ∙ ap offers_of (sym c.as_slice.ensures.value ∙ found) in
    let ends : contest_at (record { before = []; best = offer_of c.in-Some.best.now; after = [] }) (offers_of c.in-Some.left.now) c.args.item.names.now (moved (s.top.names, u) s)
    ≡ contest_at (record { before = offers_of c.new.result.items; best = offer_of c.in-Some.best.now; after = offers_of c.new-2.result.items }) (offers_of c.in-Some.left.now) c.args.item.names.now (moved (s.top.names, u) s) =
    ap (λ (os : List declared.Offer). contest_at (record { before = offers_of os; best = offer_of c.in-Some.best.now; after = [] }) (offers_of c.in-Some.left.now) c.args.item.names.now (moved (s.top.names, u) s)) (sym c.new.ensures.items)
    ∙ ap (λ (os : List declared.Offer). contest_at (record { before = offers_of c.new.result.items; best = offer_of c.in-Some.best.now; after = offers_of os }) (offers_of c.in-Some.left.now) c.args.item.names.now (moved (s.top.names, u) s)) (sym c.new-2.ensures.items) in
    match_on _ _ _ (pick_on s c.args.item.agent.now c.args.item.pieces.now c.args.item.names.now 0 u (offer_of c.in-Some.best.now) (offers_of c.in-Some.left.now) c.in_ok-offers.ensures.queries os ∙ ends) c.contest.ensures

pub run_test-returns-in_err-left : goal.run_test-returns-in_err-left
run_test-returns-in_err-left t c =
    let i = c.args.item in
    let h = test_first (spot_of c.args.builder) i.left.now i.cmp i.right.now (arm_of i.yes.now) (arm_of i.no.now) i.names.now 0 c.in_err-left.field-0.0 c.in_err-left.ensures.queries in
    first_of (search rules, grind (arith, common_steps))

pub run_test-returns-in_err-yes : goal.run_test-returns-in_err-yes
run_test-returns-in_err-yes t c =
    let i = c.args.item in
    let s = spot_of c.args.builder in
    let u = c.begin_test.new.trail in
    let one = arm_of i.yes.now in
    let other = arm_of i.no.now in
    let same = ap (λ (w : PlainTrail). arms_at one other i.names.now (moved (s.top.names, w) s)) (sym c.take_steps-steps.ensures.rest) in
    let h = test_second s i.left.now i.cmp i.right.now one other i.names.now 0 u c.in_err-yes.field-0.0 c.in_ok-left.ensures.queries (fault_is c.in_err-yes.field-0.0 _ _ same c.in_err-yes.ensures) in
    first_of (search rules, grind (arith, common_steps))

pub run_test-returns : goal.run_test-returns
run_test-returns t c =
    let i = c.args.item in
    let s = spot_of c.args.builder in
    let u = c.begin_test.new.trail in
    let one = arm_of i.yes.now in
    let other = arm_of i.no.now in
    let arms = c.in_ok-yes.field-0 in
    let l = sum_lin s.top.names s.trail.regs i.left.now.terms in
    let r = sum_lin s.top.names (s.trail.regs + asks_of i.left.now.terms) i.right.now.terms in
    let h = c.in_ok-yes.ensures in
    let m : Made × Made = (record { tree = tree_of arms.yes; nodes = h.0.0; calls = h.0.1 }, record { tree = tree_of arms.no; nodes = arms.nodes; calls = arms.calls }) in
    let same = ap (λ (w : PlainTrail). arms_at one other i.names.now (moved (s.top.names, w) s)) (sym c.take_steps-steps.ensures.rest) in
    let node : tree_of c.in_ok-node.node ≡ test_tree i.cmp l r (tree_of arms.yes) (tree_of arms.no) =
    c.in_ok-node.ensures.tree ∙ ap (λ (x : Lin). test_tree i.cmp x c.in_ok-left.right (tree_of arms.yes) (tree_of arms.no)) c.in_ok-left.ensures.left ∙ ap (λ (x : Lin). test_tree i.cmp l x (tree_of arms.yes) (tree_of arms.no)) c.in_ok-left.ensures.right in
    let whole : tree_of c.in_ok-root.root ≡ attach u.steps (test_tree i.cmp l r (tree_of arms.yes) (tree_of arms.no)) =
    c.in_ok-root.ensures.tree ∙ ap (λ (ss : List Step). attach ss (tree_of c.in_ok-node.node)) c.take_steps-steps.ensures.steps ∙ ap (λ (y : Tree). attach u.steps y) node in
    test_good s i.left.now i.cmp i.right.now one other i.names.now 0 u m c.in_ok-left.ensures.queries (same ∙ h.1)
    ∙ ap (λ (y : Tree). Good (record { tree = y; nodes = arms.nodes; calls = arms.calls })) (sym whole)

-- The forks of a core as plain data. For clauses of private functions and proofs: a reader of the definitions needs none of it.
use Rattle.std.specs.Prelude.{◌≡◌, ℕ, List, [], ◌∷◌, ◌++◌, map}
use Rattle.slice_ast.specs.Code.{PlainBlock}
use Rattle.slice_ast.specs.declared.tree.Name.{Name}
use Rattle.slice_core.specs.Nodes.{tree_of}
use Rattle.slice_expand.specs.Scope.{bind, as_pieces}
use Rattle.slice_expand.specs.Expansion.{Offer, offered, contest}
use Rattle.slice_expand.specs.Marked.{Marked}
use Rattle.slice_expand.specs.Trail.{Building, Good, Made, and_then, build, forked_after}
use Rattle.slice_expand.specs.Frames.{Spot, build_at, to_make, inside, moved}
use Rattle.slice_expand.specs.declared.grow.Offer as code
use Rattle.slice_expand.specs.declared.grow.Order.{Order}
use Rattle.slice_expand.specs.declared.grow.Arms.{Arms}

abbrev pub offer_of : code.Offer → Offer
offer_of o = record { piece = o.piece; reg = o.reg }

abbrev pub offers_of : List code.Offer → List Offer
offers_of = map offer_of

-- the best so far, and the others before and after it
pub record PlainOrder : Type 0 where
  pub before : List Offer
  pub best : Offer
  pub after : List Offer

abbrev pub order_of : Order → PlainOrder
order_of o = record { before = offers_of o.before.items; best = offer_of o.best; after = offers_of o.after.items }

-- the best, then the others in their order
abbrev pub order_pieces : PlainOrder → List ℕ
order_pieces o = o.best.piece ∷ offered (o.before ++ o.after)

abbrev pub keep : Offer → PlainOrder → PlainOrder
keep x o = record { before = o.before; best = o.best; after = o.after ++ x ∷ [] }

abbrev pub beat : Offer → PlainOrder → PlainOrder
beat x o = record { before = o.before ++ o.best ∷ o.after; best = x; after = [] }

-- what comes after a pick
abbrev pub picked_at : List Name → Spot → List ℕ → Marked
picked_at names s ps = to_make (moved (bind names (as_pieces ps) s.top.names, s.trail) s)

-- the tests of a pick, and what comes after
abbrev pub contest_at : PlainOrder → List Offer → List Name → Spot → Building Made
contest_at o left names s = build (contest o.before o.best o.after left (picked_at names s)) s.trail

-- the place on the way, where so many nodes and calls were made
abbrev pub forked_at : Spot → (nodes calls : ℕ) → Spot
forked_at s n c = record { top = s.top; outer = s.outer; trail = forked_after s.trail n c }

abbrev pub arm_at : PlainBlock → List Name → Spot → Building Made
arm_at b names s = build_at (inside b.code b.yields names s)

-- both arms of a test, the second counted on from the first
abbrev pub arms_at : (one other : PlainBlock) → List Name → Spot → Building (Made × Made)
arms_at one other names s =
    and_then (arm_at one names (forked_at s s.trail.nodes s.trail.calls)) (λ a.
    and_then (arm_at other names (forked_at s a.nodes a.calls)) (λ b. Good (a, b)))

-- the rest of a pick from two orders, the second counted on from the first
abbrev pub orders_at : (one other : PlainOrder) → List Offer → List Name → Spot → Building (Made × Made)
orders_at one other left names s =
    and_then (contest_at one left names (forked_at s s.trail.nodes s.trail.calls)) (λ a.
    and_then (contest_at other left names (forked_at s a.nodes a.calls)) (λ b. Good (a, b)))

-- these arms, with the counts after both
abbrev pub IsArms : Building (Made × Made) → Arms → Type 0
IsArms x a = (first : ℕ × ℕ) × (x ≡ Good (record { tree = tree_of a.yes; nodes = first.0; calls = first.1 }, record { tree = tree_of a.no; nodes = a.nodes; calls = a.calls }))

-- A core that passes no limit has few nodes, few on each way, and few cuts on each way.
use Rattle.std.proofs.Common.{◌≡◌, ◌∙◌, ℕ, ◌+◌, ◌≤◌, ◌++◌, List, [], ◌∷◌, Bool, true, false, arith, refl, ap}
use Rattle.std.specs.Prelude.{nat_lt, if◌then◌else◌, ⊤, Some, None}
use Rattle.std.proofs.lemmas.Bool.Decides.{nat_tests}
use Rattle.slice_ast.specs.Code.{PlainProgram}
use Rattle.slice_core.specs.Sizes.{nodes, depth, most_cuts}
use Rattle.slice_core.specs.Tree as tree
use Rattle.slice_expand.specs.declared.fault.ExpandFault.{ExpandFault}
use Rattle.slice_expand.specs.declared.fault.ExpandFault.TheVariants.{NodeLimit, DepthLimit, CutLimit, CallLimit}
use Rattle.slice_core.specs.Tree.{Tree}
use Rattle.slice_expand.specs.Expansion.{core_of, marked}
use Rattle.slice_expand.specs.Limits.{Event, ACall, ANode, events, Counted, Within, Past, counted, limit_of, first_limit}
use Rattle.slice_expand.specs.Marked.{Marked, Called, Ask, Set, Cut, Join, Test, Give, End, plain}

abbrev node_count : List Event → ℕ
node_count [] = 0
node_count (ACall ∷ es) = node_count es
node_count (ANode d k ∷ es) = 1 + node_count es

node_count-append : (es fs : List Event) → node_count (es ++ fs) ≡ node_count es + node_count fs
node_count-append [] fs = omega arith
node_count-append (ACall ∷ es) fs = node_count-append es fs
node_count-append (ANode d k ∷ es) fs = let h = node_count-append es fs in omega (arith, h)

-- each node stands at a place within the limits
abbrev AllSmall : List Event → Type 0
AllSmall [] = ⊤
AllSmall (ACall ∷ es) = AllSmall es
AllSmall (ANode d k ∷ es) = (d ≤ 512) × (k ≤ 64) × AllSmall es

small_both : (es fs : List Event) → AllSmall (es ++ fs) → AllSmall es × AllSmall fs
small_both [] fs h = (tt, h)
small_both (ACall ∷ es) fs h = small_both es fs h
small_both (ANode d k ∷ es) fs h = let r = small_both es fs h.2 in ((h.0, h.1, r.0), r.1)

record Small (es : List Event) (n m : ℕ) : Type 0 where
  count : m ≡ n + node_count es
  few : m ≤ 200000
  all : AllSmall es

none_past : {A : Type 0} (f : ExpandFault) (m c : ℕ) → Past f ≡ Within m c → A
none_past f m c e = let bad : Some f ≡ None = ap limit_of e in absurd cc

small : (es : List Event) (n c m b : ℕ) → n ≤ 200000 → counted es n c ≡ Within m b → Small es n m
small [] n c m b le e = let s : n ≡ m = cc in record { count = omega (arith, s); few = omega (arith, s, le); all = tt }
small (ACall ∷ es) n c m b le e = by (λ k. small es n (c + 1) m b le k) (nat_lt 100000 (c + 1)) e
  where
    by : (counted es n (c + 1) ≡ Within m b → Small es n m) → (x : Bool) → (if x then Past CallLimit else counted es n (c + 1)) ≡ Within m b → Small (ACall ∷ es) n m
    by rest true e = none_past CallLimit m b e
    by rest false e = let r = rest e in record { count = r.count; few = r.few; all = r.all }
small (ANode d k ∷ es) n c m b le e = by (λ f g. small es (n + 1) c m b f g) (nat_lt 200000 (n + 1)) (nat_lt 512 d) (nat_lt 64 k) refl refl refl e
  where
    by : (n + 1 ≤ 200000 → counted es (n + 1) c ≡ Within m b → Small es (n + 1) m) → (x y z : Bool) → nat_lt 200000 (n + 1) ≡ x → nat_lt 512 d ≡ y → nat_lt 64 k ≡ z
        → (if x then Past NodeLimit else (if y then Past DepthLimit else (if z then Past CutLimit else counted es (n + 1) c))) ≡ Within m b → Small (ANode d k ∷ es) n m
    by rest true y z p q r e = none_past NodeLimit m b e
    by rest false true z p q r e = none_past DepthLimit m b e
    by rest false false true p q r e = none_past CutLimit m b e
    by rest false false false p q r e =
        let fits : n + 1 ≤ 200000 = grind (arith, nat_tests) in
        let s = rest fits e in
        record { count = let t = s.count in omega (arith, t); few = s.few; all = (grind (arith, nat_tests), grind (arith, nat_tests), s.all) }

nodes_are : (m : Marked) (d k : ℕ) → node_count (events m d k) ≡ nodes (plain m)
nodes_are (Called next) d k = nodes_are next d k
nodes_are (Ask a p r next) d k = ap (λ x. 1 + x) (nodes_are next (d + 1) k)
nodes_are (Set r sum next) d k = ap (λ x. 1 + x) (nodes_are next (d + 1) k)
nodes_are (Cut a p e l r next) d k = ap (λ x. 1 + x) (nodes_are next (d + 1) (k + 1))
nodes_are (Join p q r next) d k = ap (λ x. 1 + x) (nodes_are next (d + 1) k)
nodes_are (Test l r strict y n) d k = ap (λ x. 1 + x) (node_count-append (events y (d + 1) k) (events n (d + 1) k) ∙ (λ i. nodes_are y (d + 1) k i + nodes_are n (d + 1) k i))
nodes_are (Give p a next) d k = ap (λ x. 1 + x) (nodes_are next (d + 1) k)
nodes_are End d k = refl

record Shallow (t : tree.Tree) (d k : ℕ) : Type 0 where
  way : d + depth t ≤ 512
  cut : k + most_cuts t ≤ 64

deeper : (t u : tree.Tree) (d k : ℕ) → depth u ≡ 1 + depth t → most_cuts u ≡ most_cuts t → Shallow t (d + 1) k → Shallow u d k
deeper t u d k e f s = let w = s.way in let c = s.cut in record { way = omega (arith, w, e); cut = omega (arith, c, f) }

shallow : (m : Marked) (d k : ℕ) → AllSmall (events m d k) → Shallow (plain m) d k
shallow (Called next) d k h = shallow next d k h
shallow (Ask a p r next) d k h = deeper (plain next) _ d k refl refl (shallow next (d + 1) k h.2)
shallow (Set r sum next) d k h = deeper (plain next) _ d k refl refl (shallow next (d + 1) k h.2)
shallow (Cut a p e l r next) d k h = let s = shallow next (d + 1) (k + 1) h.2 in let w = s.way in let c = s.cut in record { way = omega (arith, w); cut = omega (arith, c) }
shallow (Join p q r next) d k h = deeper (plain next) _ d k refl refl (shallow next (d + 1) k h.2)
shallow (Test l r strict y n) d k h =
    let both = small_both (events y (d + 1) k) (events n (d + 1) k) h.2 in
    let s = shallow y (d + 1) k both.0 in
    let t = shallow n (d + 1) k both.1 in
    let a = s.way in let b = t.way in let e = s.cut in let f = t.cut in
    record { way = omega (arith, a, b); cut = omega (arith, e, f) }
shallow (Give p a next) d k h = deeper (plain next) _ d k refl refl (shallow next (d + 1) k h.2)
shallow End d k h = let p = h.0 in let q = h.1 in record { way = omega (arith, p); cut = omega (arith, q) }

-- few nodes, few on each way, and few cuts on each way
pub record IsSmallTree (t : Tree) : Type 0 where
  pub few_nodes : nodes t ≤ 200000
  pub few_deep : depth t ≤ 512
  pub few_cuts : most_cuts t ≤ 64

pub small_core : (p : PlainProgram) → first_limit p ≡ None → IsSmallTree (core_of p).tree
small_core p none = by (counted (events (marked p) 0 0) 0 0) refl none
  where
    by : (x : Counted) → counted (events (marked p) 0 0) 0 0 ≡ x → limit_of x ≡ None → IsSmallTree (core_of p).tree
    by (Past f) e n = let bad : Some f ≡ None = n in absurd cc
    by (Within m c) e n =
        let s = small (events (marked p) 0 0) 0 0 m c (omega arith) e in
        let w = shallow (marked p) 0 0 s.all in
        let few = s.few in let count = s.count in let way = w.way in let cut = w.cut in let are = nodes_are (marked p) 0 0 in
        record { few_nodes = omega (arith, few, count, are); few_deep = omega (arith, way); few_cuts = omega (arith, cut) }

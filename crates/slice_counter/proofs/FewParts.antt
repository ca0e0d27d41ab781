-- How many parts, cuts and queries a way has at most.
use Rattle.std.proofs.Common.{◌≡◌, ◌∙◌, ℕ, ◌+◌, ◌≤◌, arith, refl, sym, ap, subst, List, [], ◌∷◌, ◌++◌, length, length-append, ◌⊎◌, inl, inr}
use Rattle.std.specs.Prelude.{⊤}
use Rattle.std.specs.List.{Contains}
use Rattle.slice_num.specs.Pieces.{piece_at, emptied, join_pieces, cut_pieces}
use Rattle.slice_num.specs.declared.choice.Choice.TheVariants as choice
use Rattle.slice_core.specs.Sizes.{depth, most_cuts}
use Rattle.slice_core.specs.Tree.{Tree, Core, Ask, Set, Cut, Join, Test, Give, End}
use Rattle.slice_atoms.specs.Addresses.{Address, left_of, right_of}
use Rattle.slice_atoms.specs.Counts.{count_in, all_of}
use Rattle.slice_atoms.specs.Forms.{Form, sub_form}
use Rattle.slice_paths.specs.Goals.{Goal, goals}
use Rattle.slice_paths.specs.Places.{PassedCut, Way, Place, places, sum_form, yes_kind, no_kind, first_way, test_way}
use Rattle.slice_paths.specs.Ways.{way_of}
use Rattle.slice_paths.proofs.Counts.{count_append, all_append, all_emptied}
use Rattle.slice_paths.proofs.Fits.{IsIn}
use Rattle.slice_paths.proofs.GoalLaws.{of_aim, aims_out, aim_way}
use Rattle.slice_paths.proofs.Later.{in_each}
use Rattle.slice_paths.proofs.Parts.{in_either}
use Rattle.slice_counter.proofs.Bounds.{count_ones}

-- ---- parts

abbrev parts : List (List Address) → ℕ
parts pieces = all_of (λ A. 1) pieces

after_join : (pieces : List (List Address)) (p q : ℕ) → parts (join_pieces pieces p q) ≡ parts pieces
after_join pieces p q =
    let first = all_emptied (λ A. 1) pieces p in
    let second = all_emptied (λ A. 1) (emptied pieces p) q in
    let all = all_append (λ A. 1) (emptied (emptied pieces p) q) ((piece_at pieces p ++ piece_at (emptied pieces p) q) ∷ []) in
    let both = count_append (λ A. 1) (piece_at pieces p) (piece_at (emptied pieces p) q) in
    omega (arith, first, second, all, both)

after_give : (pieces : List (List Address)) (p : ℕ) → parts (emptied pieces p) ≤ parts pieces
after_give pieces p = let e = all_emptied (λ A. 1) pieces p in omega (arith, e)

-- a cut makes two parts of one
after_cut : (pieces : List (List Address)) (p : ℕ) (before : List Address) (A : Address) (after : List Address) → before ++ A ∷ after ≡ piece_at pieces p
    → parts (cut_pieces pieces p (before ++ left_of A ∷ []) (right_of A ∷ after)) ≡ parts pieces + 1
after_cut pieces p before A after e =
    let rest = all_emptied (λ A. 1) pieces p in
    let all = all_append (λ A. 1) (emptied pieces p) ((before ++ left_of A ∷ []) ∷ (right_of A ∷ after) ∷ []) in
    let old = count_append (λ A. 1) before (A ∷ after) in
    let new = count_append (λ A. 1) before (left_of A ∷ []) in
    let same = ap (count_in (λ A. 1)) e in
    omega (arith, rest, all, old, new, same)

-- a part of a piece has fewer before it than there are
few_before : (pieces : List (List Address)) (p : ℕ) (before : List Address) (A : Address) (after : List Address) → before ++ A ∷ after ≡ piece_at pieces p → 1 + length before ≤ parts pieces
few_before pieces p before A after e =
    let rest = all_emptied (λ A. 1) pieces p in
    let many = count_ones (piece_at pieces p) in
    let same = ap length e in
    let long = length-append before (A ∷ after) in
    omega (arith, rest, many, same, long)

-- ---- ways

-- each was passed in one of the first 65 parts
abbrev pub AreNear : List PassedCut → Type 0
AreNear [] = ⊤
AreNear (d ∷ ds) = (d.part ≤ 64) × AreNear ds

near_more : (ds : List PassedCut) (d : PassedCut) → AreNear ds → d.part ≤ 64 → AreNear (ds ++ d ∷ [])
near_more [] d h le = (le, tt)
near_more (x ∷ ds) d h le = (h.0, near_more ds d h.1 le)

-- at most 64 cuts and 512 queries
pub record IsFew (k : Way) : Type 0 where
  pub cuts : length k.cuts ≤ 64
  pub queries : k.queries ≤ 512
  pub near : AreNear k.cuts

-- so it is on each way from here on
record StaysFew (tree : Tree) (k : Way) : Type 0 where
  parts : parts k.pieces + most_cuts tree ≤ 65
  cuts : length k.cuts + most_cuts tree ≤ 64
  queries : k.queries + depth tree ≤ 512
  near : AreNear k.cuts

few_now : (tree : Tree) (k : Way) → StaysFew tree k → IsFew k
few_now tree k s = record { cuts = omega (arith, s.cuts); queries = omega (arith, s.queries); near = s.near }

few_at : (tree : Tree) (regs : List Form) (k : Way) (x : Place) → StaysFew tree k → IsIn x (places tree regs k) → IsFew x.way
few_at (Ask a p r next) regs k x s h = few_at next _ _ x (record { parts = s.parts; cuts = s.cuts; queries = omega (arith, s.queries); near = s.near }) h
few_at (Set r sum next) regs k x s h = few_at next _ _ x (record { parts = s.parts; cuts = s.cuts; queries = omega (arith, s.queries); near = s.near }) h
few_at (Join p q r next) regs k x s h =
    few_at next _ _ x (record { parts = omega (arith, s.parts, after_join k.pieces p q); cuts = s.cuts; queries = omega (arith, s.queries); near = s.near }) h
few_at (Give p a next) regs k x s h =
    few_at next _ _ x (record { parts = omega (arith, s.parts, after_give k.pieces p); cuts = s.cuts; queries = omega (arith, s.queries); near = s.near }) h
few_at End regs k x s (inl e) = subst (λ (y : Place). IsFew y.way) (sym e) (few_now End k s)
few_at End regs k x s (inr h) = absurd h
few_at (Test left right strict y n) regs k x s h =
    by (in_either x (places y regs ym) (places n regs nm) h) (few_at y regs ym x) (few_at n regs nm x)
  where
    ym : Way
    ym = test_way (yes_kind strict) (sub_form (sum_form regs left.terms) (sum_form regs right.terms)) choice.Yes k

    nm : Way
    nm = test_way (no_kind strict) (sub_form (sum_form regs right.terms) (sum_form regs left.terms)) choice.No k

    by : IsIn x (places y regs ym) ⊎ IsIn x (places n regs nm) → (StaysFew y ym → IsIn x (places y regs ym) → IsFew x.way) → (StaysFew n nm → IsIn x (places n regs nm) → IsFew x.way) → IsFew x.way
    by (inl i) f g = f (record { parts = omega (arith, s.parts); cuts = omega (arith, s.cuts); queries = omega (arith, s.queries); near = s.near }) i
    by (inr i) f g = g (record { parts = omega (arith, s.parts); cuts = omega (arith, s.cuts); queries = omega (arith, s.queries); near = s.near }) i
few_at (Cut a p amount l r next) regs k x s (inl e) = subst (λ (y : Place). IsFew y.way) (sym e) (record { cuts = omega (arith, s.cuts); queries = omega (arith, s.queries); near = s.near })
few_at (Cut a p amount l r next) regs k x s (inr (inl e)) = subst (λ (y : Place). IsFew y.way) (sym e) (record { cuts = omega (arith, s.cuts); queries = omega (arith, s.queries); near = s.near })
few_at (Cut a p amount l r next) regs k x s (inr (inr h)) =
    let g = in_each x [] (piece_at k.pieces p) (piece_at k.pieces p) _ refl h in
    let many = length-append k.cuts (record { part = length g.before; address = g.part } ∷ []) in
    few_at next _ _ x (record {
      parts = omega (arith, s.parts, after_cut k.pieces p g.before g.part g.after g.parts_are);
      cuts = omega (arith, s.cuts, many);
      queries = omega (arith, s.queries);
      near = near_more k.cuts (record { part = length g.before; address = g.part }) s.near (omega (arith, s.parts, few_before k.pieces p g.before g.part g.after g.parts_are));
    }) g.is_one

-- ---- goals

-- the way of a goal, and the queries that it counts
pub few_of_goal : (core : Core) (g : Goal) → most_cuts core.tree ≤ 64 → depth core.tree ≤ 512 → Contains (goals core) g → IsFew (way_of core g.trace) × (g.query ≤ 512)
few_of_goal core g cuts deep h =
    let o = of_aim core g h in
    let p = aims_out core.agents (places core.tree [] (first_way core.agents)) o.aim o.is_one in
    let few = few_at core.tree [] (first_way core.agents) p.0 (record { parts = omega (arith, cuts); cuts = omega (arith, cuts); queries = omega (arith, deep); near = tt }) p.1 in
    let same = aim_way core.agents p.0.stop p.0.way o.aim p.2 in
    let way = subst IsFew (sym (o.way_is ∙ same)) few in
    let asked : g.query ≡ p.0.way.queries = ap (λ (x : Goal). x.query) o.is ∙ ap (λ (k : Way). k.queries) same in
    (way, omega (arith, asked, few.queries))

-- The steps of a count of goals.
use Rattle.std.proofs.Common.{◌≡◌, ◌∙◌, ℕ, zero, suc, ◌+◌, ◌-◌, ◌<◌, ◌≤◌, arith, refl, sym, ap, subst, Bool, true, false, List, [], ◌∷◌, ◌++◌, length, drop}
use Rattle.std.specs.Prelude.{Option, Some, None, Err}
use Rattle.std.specs.declared.result.Result.{Result}
use Rattle.slice_num.specs.declared.choice.Choice.{Choice}
use Rattle.slice_core.specs.Tree.{Tree, Cut, Test}
use Rattle.slice_core.specs.declared.node.Lin.{Lin}
use Rattle.slice_paths.specs.Ahead.{pairs_from}
use Rattle.slice_paths.specs.Counting.{part_count, used_counts, cut_counts, join_counts, all_parts, over_parts, goals_on, goals_in_parts, one_less, once_passed, by_part, left_at_cut, goals_left, IsCounted}
use Rattle.slice_paths.specs.Goals.{pairs}
use Rattle.slice_paths.specs.Retraced.{part_in, arm_in}
use Rattle.slice_paths.specs.declared.goal.GoalKind.{GoalKind}
use Rattle.slice_paths.specs.declared.goal.SkipFault.{SkipFault}
use Rattle.slice_paths.specs.declared.goal.SkipFault.TheVariants.{GoalLimit, Memory}
use Rattle.slice_paths.proofs.CountLaws.{none_off}
use Rattle.slice_paths.proofs.PairLaws.{pairs_first}
use Rattle.slice_paths.proofs.RetraceLaws.{arm_yes, arm_no, arm_none}

-- ---- parts
pub used_beyond : (cs : List ℕ) (p : ℕ) → length cs ≤ p → used_counts cs p ≡ cs
used_beyond [] p h = refl
used_beyond (c ∷ cs) zero h = absurd (omega (arith, h))
used_beyond (c ∷ cs) (suc p) h = ap (λ (ds : List ℕ). c ∷ ds) (used_beyond cs p (omega (arith, h)))

parts_put : (cs ds : List ℕ) → all_parts (cs ++ ds) ≡ all_parts cs + all_parts ds
parts_put [] ds = omega arith
parts_put (c ∷ cs) ds = omega (arith, parts_put cs ds)

pub parts_used : (cs : List ℕ) (p : ℕ) → all_parts (used_counts cs p) + part_count cs p ≡ all_parts cs
parts_used [] p = refl
parts_used (c ∷ cs) zero = omega arith
parts_used (c ∷ cs) (suc p) = omega (arith, parts_used cs p)

pub parts_cut : (cs : List ℕ) (p part : ℕ) → part < part_count cs p → all_parts (cut_counts cs p (part + 1) (part_count cs p - part)) ≡ all_parts cs + 1
parts_cut cs p part h = omega (arith, parts_put (used_counts cs p) ((part + 1) ∷ (part_count cs p - part) ∷ []), parts_used cs p, h)

pub parts_joined : (cs : List ℕ) (p q : ℕ) → all_parts (join_counts cs p q) ≡ all_parts cs
parts_joined cs p q =
    let both = part_count cs p + part_count (used_counts cs p) q in
    omega (arith, parts_put (used_counts (used_counts cs p) q) (both ∷ []), parts_used cs p, parts_used (used_counts cs p) q)

pub few_joined : (cs : List ℕ) (p q : ℕ) → part_count cs p + part_count (used_counts cs p) q ≤ all_parts cs
few_joined cs p q = omega (arith, parts_used cs p, parts_used (used_counts cs p) q)

-- ---- sums over parts
pub next_part : (number : ℕ → ℕ → ℕ) (part c : ℕ) → part < c → over_parts number part (c - part) ≡ number (part + 1) (c - part) + over_parts number (part + 1) (c - (part + 1))
next_part number part c h =
    ap (over_parts number part) some
    ∙ ap (λ (m : ℕ). number (part + 1) m + over_parts number (part + 1) (c - (part + 1))) (sym some)
  where
    some : c - part ≡ suc (c - (part + 1))
    some = omega (arith, h)

pub no_part : (number : ℕ → ℕ → ℕ) (part c : ℕ) → c ≤ part → over_parts number part (c - part) ≡ 0
no_part number part c h = ap (over_parts number part) none
  where
    none : c - part ≡ 0
    none = omega (arith, h)

-- all goals of a cut
pub cut_goals : (n a p l r : ℕ) (amount : Lin) (next : Tree) (counts : List ℕ) → goals_on n (Cut a p amount l r next) counts ≡ 2 + goals_in_parts n next counts p 0
cut_goals n a p l r amount next counts = ap (λ (m : ℕ). 2 + over_parts (λ left right. goals_on n next (cut_counts counts p left right)) 0 m) (sym (none_off (part_count counts p)))

-- ---- what a count comes to
pub counted_more : (total whole : ℕ) (f : SkipFault) → total ≤ whole → IsCounted total (Err f) → IsCounted whole (Err f)
counted_more total whole GoalLimit l h = omega (arith, l, h)
counted_more total whole Memory l h = tt

pub counted_as : (total whole : ℕ) (r : Result ℕ SkipFault) → total ≡ whole → IsCounted total r → IsCounted whole r
counted_as total whole r e h = subst (λ (n : ℕ). IsCounted n r) e h

-- ---- choices that are left to pass
pub not_passed : (passed n : ℕ) → 0 < passed → once_passed passed n ≡ 0
not_passed zero n h = absurd (omega (arith, h))
not_passed (suc more) n h = refl

pub all_passed : (passed n : ℕ) → passed ≤ 0 → once_passed passed n ≡ n
all_passed zero n h = refl
all_passed (suc more) n h = absurd (omega (arith, h))

pub less_is : (n : ℕ) → n - 1 ≡ one_less n
less_is zero = refl
less_is (suc n) = omega arith

-- ---- what is left of a cut and of a test
pub left_answered : (n m a p l r : ℕ) (amount : Lin) (next : Tree) (counts : List ℕ) (cs : List Choice) (kind : GoalKind) (part : ℕ) → part_in (part_count counts p) cs ≡ Some part
    → goals_left n m (Cut a p amount l r next) counts cs kind
    ≡ goals_left n (one_less m) next (cut_counts counts p (part + 1) (part_count counts p - part)) (drop (part + 1) cs) kind
    + once_passed m (goals_in_parts n next counts p (part + 1))
left_answered n m a p l r amount next counts cs kind part e =
    let c = part_count counts p in
    let go : ℕ → ℕ = λ i. goals_left n (one_less m) next (cut_counts counts p (i + 1) (c - i)) (drop (i + 1) cs) kind + once_passed m (goals_in_parts n next counts p (i + 1)) in
    ap (λ (o : Option ℕ). by_part o go (left_at_cut kind (goals_in_parts n next counts p 0))) e

pub left_unanswered : (n m a p l r : ℕ) (amount : Lin) (next : Tree) (counts : List ℕ) (cs : List Choice) (kind : GoalKind) → part_in (part_count counts p) cs ≡ None
    → goals_left n m (Cut a p amount l r next) counts cs kind ≡ left_at_cut kind (goals_in_parts n next counts p 0)
left_unanswered n m a p l r amount next counts cs kind e =
    let c = part_count counts p in
    let go : ℕ → ℕ = λ i. goals_left n (one_less m) next (cut_counts counts p (i + 1) (c - i)) (drop (i + 1) cs) kind + once_passed m (goals_in_parts n next counts p (i + 1)) in
    ap (λ (o : Option ℕ). by_part o go (left_at_cut kind (goals_in_parts n next counts p 0))) e

pub left_at_yes : (n m : ℕ) (left right : Lin) (strict : Bool) (y z : Tree) (counts : List ℕ) (cs : List Choice) (kind : GoalKind) → arm_in cs ≡ Some true
    → goals_left n m (Test left right strict y z) counts cs kind ≡ goals_left n (one_less m) y counts (drop 1 cs) kind + once_passed m (goals_on n z counts)
left_at_yes n m left right strict y z counts cs kind e =
    arm_yes cs (λ ds. goals_left n (one_less m) y counts ds kind + once_passed m (goals_on n z counts)) (λ ds. goals_left n (one_less m) z counts ds kind) 0 e

pub left_at_no : (n m : ℕ) (left right : Lin) (strict : Bool) (y z : Tree) (counts : List ℕ) (cs : List Choice) (kind : GoalKind) → arm_in cs ≡ Some false
    → goals_left n m (Test left right strict y z) counts cs kind ≡ goals_left n (one_less m) z counts (drop 1 cs) kind
left_at_no n m left right strict y z counts cs kind e =
    arm_no cs (λ ds. goals_left n (one_less m) y counts ds kind + once_passed m (goals_on n z counts)) (λ ds. goals_left n (one_less m) z counts ds kind) 0 e

pub left_at_none : (n m : ℕ) (left right : Lin) (strict : Bool) (y z : Tree) (counts : List ℕ) (cs : List Choice) (kind : GoalKind) → arm_in cs ≡ None
    → goals_left n m (Test left right strict y z) counts cs kind ≡ 0
left_at_none n m left right strict y z counts cs kind e =
    arm_none cs (λ ds. goals_left n (one_less m) y counts ds kind + once_passed m (goals_on n z counts)) (λ ds. goals_left n (one_less m) z counts ds kind) 0 e

-- ---- pairs
pub pairs_long : (n : ℕ) → length (pairs_from n 1 1) ≡ length (pairs n n)
pairs_long n = ap (λ (ps : List (ℕ × ℕ)). length ps) (pairs_first n)

-- ---- one part after another
pub parts_here : (cs here : List ℕ) (p part : ℕ) → part < part_count cs p → here ≡ cut_counts cs p (part + 1) (part_count cs p - part) → all_parts here ≡ all_parts cs + 1
parts_here cs here p part h e = ap all_parts e ∙ parts_cut cs p part h

pub part_counted : (n : ℕ) (next : Tree) (cs here : List ℕ) (p part : ℕ) → part < part_count cs p → here ≡ cut_counts cs p (part + 1) (part_count cs p - part)
    → goals_in_parts n next cs p part ≡ goals_on n next here + goals_in_parts n next cs p (part + 1)
part_counted n next cs here p part h e =
    next_part (λ left right. goals_on n next (cut_counts cs p left right)) part (part_count cs p) h
    ∙ ap (λ (ds : List ℕ). goals_on n next ds + goals_in_parts n next cs p (part + 1)) (sym e)

pub no_part_left : (n : ℕ) (next : Tree) (cs : List ℕ) (p part : ℕ) → part_count cs p ≤ part → goals_in_parts n next cs p part ≡ 0
no_part_left n next cs p part h = no_part (λ left right. goals_on n next (cut_counts cs p left right)) part (part_count cs p) h

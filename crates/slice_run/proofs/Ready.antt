-- What keeps a core ready to go on: its pieces, agents and registers are there, and room is left.
use Rattle.std.proofs.Common.{◌≡◌, ◌∙◌, ℕ, zero, suc, ◌+◌, ◌-◌, ◌<◌, ◌≤◌, ◌++◌, ◌∷◌, List, [], length, map, take, drop, get_or, Bool, true, false, arith, refl, ap, sym, subst}
use Rattle.std.specs.List.{All}
use Rattle.std.proofs.lemmas.List.{length-set, length-map}
use Rattle.std.proofs.lemmas.List.Elements.{All-head, All-tail}
use Rattle.slice_num.specs.Rational.{Rational}
use Rattle.slice_num.specs.Valuation.{cake}
use Rattle.slice_num.specs.declared.interval.Interval.{Interval}
use Rattle.slice_core.specs.Tree.{Tree, Ask, Set, Cut, Join, Test, Give}
use Rattle.slice_core.specs.Sizes.{most_cuts, depth}
use Rattle.slice_core.specs.WellFormed.{IsFormed, IsLive}
use Rattle.slice_num.specs.Pieces.{piece_at, emptied, joined, join_pieces, is_held}
use Rattle.slice_core.specs.Run.{Piece, Board, join_on, give_on, before_point, after_point}
use Rattle.slice_core.specs.declared.node.Lin.{Lin}
use Rattle.slice_core.proofs.Counting.{sum_of, sum_of-cut, sum_of-join}
use Rattle.slice_core.proofs.FormedLaws.{part_of, ask_formed, set_formed, cut_formed, join_formed, test_formed, give_formed, held_emptied, held_cut, held_join}
use Rattle.slice_step.specs.Exact.{InOrder}
use Rattle.slice_run.specs.Pieces.{cut_part}
use Rattle.slice_run.specs.Tables.{Ready, AllInOrder, IsCut}
use Rattle.slice_run.proofs.Ordered.{AllOrdered, ordered_emptied, ordered_cut, ordered_join, cake_ordered}
use Rattle.slice_step.proofs.InOrder.{piece_all, piece_each}
use Rattle.slice_run.proofs.PieceLemmas.{length-joined-emptied}
use Rattle.slice_step.proofs.Answering.{part_split}
use Rattle.slice_run.proofs.Walking.{part_is}

one_piece : Piece → Type 0
one_piece piece = All InOrder piece

-- the order of all stretches by std's word
pub ordered_in : (pieces : List Piece) → AllInOrder pieces → AllOrdered pieces
unfolding one_piece
ordered_in [] h = tt
ordered_in (x ∷ xs) h = (piece_each x (All-head one_piece x xs h), ordered_in xs (All-tail one_piece x xs h))

pub ordered_out : (pieces : List Piece) → AllOrdered pieces → AllInOrder pieces
ordered_out [] h k d l = absurd (omega (arith, l))
ordered_out (x ∷ xs) h zero d l = piece_all x h.0
ordered_out (x ∷ xs) h (suc k) d l = ordered_out xs h.1 k d (omega (arith, l))

-- ---- pieces that can be used are there
used_there : (us : List Bool) (p : ℕ) → IsLive us p → p < length us
used_there [] p h = (let e : false ≡ true = h in cc)
used_there (u ∷ us) zero h = omega arith
used_there (u ∷ us) (suc p) h = omega (arith, used_there us p h)

pub piece_there : (pieces : List Piece) (p : ℕ) → IsLive (map is_held pieces) p → p < length pieces
piece_there pieces p h = omega (arith, used_there (map is_held pieces) p h, length-map pieces is_held)

pub piece_some : (pieces : List Piece) (p : ℕ) → IsLive (map is_held pieces) p → 0 < length (piece_at pieces p)
piece_some pieces p h = let one = part_of pieces p h in omega (arith, ap length one.is)

-- a piece has no more parts than all together
pub few_parts : (pieces : List Piece) (p n : ℕ) → length (joined pieces) ≤ n → length (piece_at pieces p) ≤ n
few_parts pieces p n h = omega (arith, length-joined-emptied pieces p)

-- ---- how many stretches there are
one : Interval → ℕ
one i = 1

length-one : (xs : Piece) → length xs ≡ sum_of one xs
unfolding one
length-one [] = refl
length-one (x ∷ xs) = omega (arith, length-one xs)

length-cut : (pieces : List Piece) (p : ℕ) (before : Piece) (i : Interval) (after : Piece) (y : Rational) (new : List Piece) → piece_at pieces p ≡ before ++ i ∷ after → sum_of one (joined new) + one i ≡ sum_of one (joined pieces) + (one (before_point i y) + one (after_point i y))
    → length (joined new) ≡ length (joined pieces) + 1
unfolding one
length-cut pieces p before i after y new e h = omega (arith, h, length-one (joined new), length-one (joined pieces))

length-join : (pieces : List Piece) (p q : ℕ) → length (joined (join_pieces pieces p q)) ≡ length (joined pieces)
length-join pieces p q = length-one (joined (join_pieces pieces p q)) ∙ sum_of-join one pieces p q ∙ sym (length-one (joined pieces))

-- ---- the steps
-- the same pieces and shares, at most one query more
record Same (b new : Board) : Type 0 where
  pieces : new.pieces ≡ b.pieces
  shares : new.shares ≡ b.shares
  queries : length new.queries ≤ length b.queries + 1

ready_same : (agents count more : ℕ) (tree next : Tree) (b new : Board) → Same b new → IsFormed agents (map is_held b.pieces) more next → most_cuts next ≤ most_cuts tree → depth next + 1 ≤ depth tree → Ready agents count tree b → Ready agents more next new
ready_same agents count more tree next b new s formed fewer below h = record {
  formed = subst (λ (ps : List Piece). IsFormed agents (map is_held ps) more next) (sym s.pieces) formed;
  ordered = subst AllInOrder (sym s.pieces) h.ordered;
  room = omega (arith, ap (λ (ps : List Piece). length (joined ps)) s.pieces, h.room, fewer);
  shares = ap (λ (ps : List Piece). length ps) s.shares ∙ h.shares;
  few = omega (arith, s.queries, below, h.few);
}

-- the tree at hand, and that which follows
pub ready_ask : (agents count more a p r : ℕ) (tree next : Tree) (b new : Board) → tree ≡ Ask a p r next → more ≡ count + 1 → new.pieces ≡ b.pieces → new.shares ≡ b.shares → length new.queries ≡ length b.queries + 1 → Ready agents count tree b → Ready agents more next new
ready_ask agents count more a p r tree next b new t m ps ss qs h =
    let k = subst (λ (x : Tree). Ready agents count x b) t h in
    ready_same agents count more (Ask a p r next) next b new (record { pieces = ps; shares = ss; queries = omega (arith, qs) })
    (subst (λ (n : ℕ). IsFormed agents (map is_held b.pieces) n next) (sym m) (ask_formed agents (map is_held b.pieces) count a p r next k.formed).then_formed)
    (omega arith) (omega arith) k

pub ready_set : (agents count more r : ℕ) (sum : Lin) (tree next : Tree) (b new : Board) → tree ≡ Set r sum next → more ≡ count + 1 → new.pieces ≡ b.pieces → new.shares ≡ b.shares → new.queries ≡ b.queries → Ready agents count tree b → Ready agents more next new
ready_set agents count more r sum tree next b new t m ps ss qs h =
    let k = subst (λ (x : Tree). Ready agents count x b) t h in
    ready_same agents count more (Set r sum next) next b new (record { pieces = ps; shares = ss; queries = omega (arith, ap length qs) })
    (subst (λ (n : ℕ). IsFormed agents (map is_held b.pieces) n next) (sym m) (set_formed agents (map is_held b.pieces) count r sum next k.formed).then_formed)
    (omega arith) (omega arith) k

pub ready_yes : (agents count : ℕ) (left right : Lin) (strict : Bool) (tree at_yes at_no : Tree) (b : Board) → tree ≡ Test left right strict at_yes at_no → Ready agents count tree b → Ready agents count at_yes b
ready_yes agents count left right strict tree at_yes at_no b t h =
    let k = subst (λ (x : Tree). Ready agents count x b) t h in
    ready_same agents count count (Test left right strict at_yes at_no) at_yes b b (record { pieces = refl; shares = refl; queries = omega arith })
    (test_formed agents (map is_held b.pieces) count left right strict at_yes at_no k.formed).yes_formed (omega arith) (omega arith) k

pub ready_no : (agents count : ℕ) (left right : Lin) (strict : Bool) (tree at_yes at_no : Tree) (b : Board) → tree ≡ Test left right strict at_yes at_no → Ready agents count tree b → Ready agents count at_no b
ready_no agents count left right strict tree at_yes at_no b t h =
    let k = subst (λ (x : Tree). Ready agents count x b) t h in
    ready_same agents count count (Test left right strict at_yes at_no) at_no b b (record { pieces = refl; shares = refl; queries = omega arith })
    (test_formed agents (map is_held b.pieces) count left right strict at_yes at_no k.formed).no_formed (omega arith) (omega arith) k

pub ready_cut : (agents count a p : ℕ) (amount : Lin) (l r : ℕ) (tree next : Tree) (b new : Board) → tree ≡ Cut a p amount l r next → IsCut b.pieces p new.pieces → new.shares ≡ b.shares → length new.queries ≤ length b.queries + 1 → Ready agents count tree b → Ready agents count next new
ready_cut agents count a p amount l r tree next b new t cut ss qs h =
    let k = subst (λ (x : Tree). Ready agents count x b) t h in
    let y = cut.answer in
    let piece = piece_at b.pieces p in
    let i = get_or piece y.part (cake 0) in
    let there = part_is piece y.part cut.lies.there in
    let split = part_split piece y.part i there in
    let before = take y.part piece in
    let after = drop (y.part + 1) piece in
    let within = cut.lies.within i there in
    let is : new.pieces ≡ cut_part b.pieces p y.part i y.point = cut.is i there in
    let longer = length-cut b.pieces p before i after y.point (cut_part b.pieces p y.part i y.point) split.split (sum_of-cut one b.pieces p before i after (before_point i y.point) (after_point i y.point) split.split) in
    record {
      formed = subst (λ (us : List Bool). IsFormed agents us count next) (sym (ap (map is_held) is ∙ held_cut b.pieces p before (before_point i y.point) (after_point i y.point) after)) (cut_formed agents (map is_held b.pieces) count a p amount l r next k.formed).then_formed;
      ordered = subst AllInOrder (sym is) (ordered_out (cut_part b.pieces p y.part i y.point) (ordered_cut b.pieces p before i after y.point (ordered_in b.pieces k.ordered) split.split within.0 within.1));
      room = omega (arith, ap (λ (ps : List Piece). length (joined ps)) is, longer, k.room);
      shares = ap (λ (ps : List Piece). length ps) ss ∙ k.shares;
      few = omega (arith, qs, k.few);
    }

pub ready_join : (agents count p q r : ℕ) (tree next : Tree) (b new : Board) → tree ≡ Join p q r next → new ≡ join_on p q b → Ready agents count tree b → Ready agents count next new
ready_join agents count p q r tree next b new t e h =
    let k = subst (λ (x : Tree). Ready agents count x b) t h in
    let f = join_formed agents (map is_held b.pieces) count p q r next k.formed in
    let long = length-join b.pieces p q in
    subst (Ready agents count next) (sym e)
    (record {
      formed = subst (λ (us : List Bool). IsFormed agents us count next) (sym (held_join b.pieces p q f.first)) f.then_formed;
      ordered = ordered_out (join_on p q b).pieces (ordered_join b.pieces p q (ordered_in b.pieces k.ordered));
      room = omega (arith, long, k.room);
      shares = k.shares;
      few = omega (arith, k.few);
    })

pub ready_give : (agents count p a : ℕ) (tree next : Tree) (b new : Board) → tree ≡ Give p a next → new ≡ give_on p a b → Ready agents count tree b → Ready agents count next new
ready_give agents count p a tree next b new t e h =
    let k = subst (λ (x : Tree). Ready agents count x b) t h in
    let f = give_formed agents (map is_held b.pieces) count p a next k.formed in
    subst (Ready agents count next) (sym e)
    (record {
      formed = subst (λ (us : List Bool). IsFormed agents us count next) (sym (held_emptied b.pieces p)) f.then_formed;
      ordered = ordered_out (emptied b.pieces p) (ordered_emptied b.pieces p (ordered_in b.pieces k.ordered));
      room = omega (arith, length-joined-emptied b.pieces p, k.room);
      shares = length-set b.shares (a - 1) (piece_at b.shares (a - 1) ++ piece_at b.pieces p) ∙ k.shares;
      few = omega (arith, k.few);
    })

-- ---- the uncut cake
pub ready_first : (agents n count : ℕ) (tree root : Tree) (b : Board) → root ≡ tree → IsFormed agents (true ∷ []) 0 tree → most_cuts tree ≤ 64 → depth tree ≤ 512 → b.pieces ≡ (cake n ∷ []) ∷ [] → length b.shares ≡ agents → length b.queries ≡ 0 → count ≡ 0
    → Ready agents count root b
ready_first agents n count tree root b r formed few deep ps ss qs regs = record {
  formed = subst (λ (x : Tree). IsFormed agents (map is_held b.pieces) count x) (sym r)
      (subst (λ (m : ℕ). IsFormed agents (map is_held b.pieces) m tree) (sym regs)
      (subst (λ (us : List Bool). IsFormed agents us 0 tree) (sym (ap (map is_held) ps)) formed));
  ordered = subst AllInOrder (sym ps) (ordered_out ((cake n ∷ []) ∷ []) (cake_ordered n));
  room = omega (arith, ap (λ (xs : List Piece). length (joined xs)) ps, ap most_cuts r, few);
  shares = ss;
  few = omega (arith, qs, ap depth r, deep);
}

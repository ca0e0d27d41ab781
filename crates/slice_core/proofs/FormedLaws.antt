-- What a well-formed tree says at each node, and that its pieces stay live as it says.
use Rattle.std.proofs.Common.{◌≡◌, ◌∙◌, ℕ, ◌+◌, ◌-◌, ◌<◌, ◌++◌, List, [], ◌∷◌, map, length, length-set, Bool, true, false, arith, refl, ap, sym, subst}
use Rattle.std.specs.Prelude.{IsTrue}
use Rattle.std.proofs.lemmas.List.{map-set, map-append, length-append}
use Rattle.std.proofs.Math.ListN.{get_or-map}
use Rattle.slice_num.specs.Pieces.{piece_at, emptied, cut_pieces, join_pieces, is_held}
use Rattle.slice_core.specs.Tree.{Tree, Core, Ask, Set, Cut, Join, Test, Give}
use Rattle.slice_core.specs.Agents.{IsAgent, HasAgents}
use Rattle.slice_core.specs.WellFormed.{IsWellFormed, IsFormed, IsNumbered, IsSingleUse, IsSumOver, IsLive, spent}
use Rattle.slice_core.specs.declared.node.Lin.{Lin}

no_truth : {A : Type 0} → IsTrue false → A
no_truth h = let e : false ≡ true = h in cc

-- an agent's number, from 0
pub agent_place : (agents a : ℕ) → IsAgent agents a → a - 1 < agents
agent_place agents a h = omega (arith, h.0, h.1)

cut_length : (live : List Bool) (p : ℕ) → length (spent live p ++ true ∷ true ∷ []) ≡ length live + 2
cut_length live p = length-append (spent live p) (true ∷ true ∷ []) ∙ ap (λ n. n + 2) (length-set live p false)

join_length : (live : List Bool) (p q : ℕ) → length (spent (spent live p) q ++ true ∷ []) ≡ length live + 1
join_length live p q = length-append (spent (spent live p) q) (true ∷ []) ∙ ap (λ n. n + 1) (length-set (spent live p) q false ∙ length-set live p false)

-- a tree whose numbers come next is formed where as many pieces are told of
formed : (agents k : ℕ) (live : List Bool) (registers : ℕ) (tree : Tree) → length live ≡ k → HasAgents agents tree → IsNumbered registers k tree → IsSingleUse live tree → IsFormed agents live registers tree
formed agents k live registers tree e has numbered single = record {
  agents_there = has;
  numbered = subst (λ n. IsNumbered registers n tree) (sym e) numbered;
  single_use = single;
}

pub core_formed : (core : Core) → IsWellFormed core → IsFormed core.agents (true ∷ []) 0 core.tree
core_formed core h = record { agents_there = h.agents_there; numbered = h.numbered; single_use = h.single_use }

pub record AskFormed (agents : ℕ) (live : List Bool) (regs a p r : ℕ) (next : Tree) : Type 0 where
  pub agent : IsAgent agents a
  pub is_live : IsLive live p
  pub register : r ≡ regs
  pub then_formed : IsFormed agents live (regs + 1) next

pub ask_formed : (agents : ℕ) (live : List Bool) (regs a p r : ℕ) (next : Tree) → IsFormed agents live regs (Ask a p r next) → AskFormed agents live regs a p r next
ask_formed agents live regs a p r next h = record {
  agent = h.agents_there.0;
  is_live = h.single_use.0;
  register = h.numbered.1;
  then_formed = formed agents (length live) live (regs + 1) next refl h.agents_there.1 h.numbered.2 h.single_use.1;
}

pub record SetFormed (agents : ℕ) (live : List Bool) (regs r : ℕ) (total : Lin) (next : Tree) : Type 0 where
  pub sum : IsSumOver regs total.terms
  pub register : r ≡ regs
  pub then_formed : IsFormed agents live (regs + 1) next

pub set_formed : (agents : ℕ) (live : List Bool) (regs r : ℕ) (total : Lin) (next : Tree) → IsFormed agents live regs (Set r total next) → SetFormed agents live regs r total next
set_formed agents live regs r total next h = record {
  sum = h.numbered.1;
  register = h.numbered.0;
  then_formed = formed agents (length live) live (regs + 1) next refl h.agents_there h.numbered.2 h.single_use;
}

pub record CutFormed (agents : ℕ) (live : List Bool) (regs a p : ℕ) (amount : Lin) (left right : ℕ) (next : Tree) : Type 0 where
  pub agent : IsAgent agents a
  pub is_live : IsLive live p
  pub sum : IsSumOver regs amount.terms
  pub left_next : left ≡ length live
  pub right_next : right ≡ length live + 1
  pub then_formed : IsFormed agents (spent live p ++ true ∷ true ∷ []) regs next

pub cut_formed : (agents : ℕ) (live : List Bool) (regs a p : ℕ) (amount : Lin) (left right : ℕ) (next : Tree)
    → IsFormed agents live regs (Cut a p amount left right next) → CutFormed agents live regs a p amount left right next
cut_formed agents live regs a p amount left right next h = record {
  agent = h.agents_there.0;
  is_live = h.single_use.0;
  sum = h.numbered.1;
  left_next = h.numbered.2;
  right_next = h.numbered.3;
  then_formed = formed agents (length live + 2) (spent live p ++ true ∷ true ∷ []) regs next (cut_length live p) h.agents_there.1 h.numbered.4 h.single_use.1;
}

pub record JoinFormed (agents : ℕ) (live : List Bool) (regs p q new : ℕ) (next : Tree) : Type 0 where
  pub first : IsLive live p
  pub second : IsLive (spent live p) q
  pub new_next : new ≡ length live
  pub then_formed : IsFormed agents (spent (spent live p) q ++ true ∷ []) regs next

pub join_formed : (agents : ℕ) (live : List Bool) (regs p q new : ℕ) (next : Tree) → IsFormed agents live regs (Join p q new next) → JoinFormed agents live regs p q new next
join_formed agents live regs p q new next h = record {
  first = h.single_use.0;
  second = h.single_use.1;
  new_next = h.numbered.2;
  then_formed = formed agents (length live + 1) (spent (spent live p) q ++ true ∷ []) regs next (join_length live p q) h.agents_there h.numbered.3 h.single_use.2;
}

pub record TestFormed (agents : ℕ) (live : List Bool) (regs : ℕ) (left right : Lin) (at_yes at_no : Tree) : Type 0 where
  pub left_sum : IsSumOver regs left.terms
  pub right_sum : IsSumOver regs right.terms
  pub yes_formed : IsFormed agents live regs at_yes
  pub no_formed : IsFormed agents live regs at_no

pub test_formed : (agents : ℕ) (live : List Bool) (regs : ℕ) (left right : Lin) (strict : Bool) (at_yes at_no : Tree)
    → IsFormed agents live regs (Test left right strict at_yes at_no) → TestFormed agents live regs left right at_yes at_no
test_formed agents live regs left right strict at_yes at_no h = record {
  left_sum = h.numbered.0;
  right_sum = h.numbered.1;
  yes_formed = formed agents (length live) live regs at_yes refl h.agents_there.0 h.numbered.2 h.single_use.0;
  no_formed = formed agents (length live) live regs at_no refl h.agents_there.1 h.numbered.3 h.single_use.1;
}

pub record GiveFormed (agents : ℕ) (live : List Bool) (regs p a : ℕ) (next : Tree) : Type 0 where
  pub agent : IsAgent agents a
  pub is_live : IsLive live p
  pub then_formed : IsFormed agents (spent live p) regs next

pub give_formed : (agents : ℕ) (live : List Bool) (regs p a : ℕ) (next : Tree) → IsFormed agents live regs (Give p a next) → GiveFormed agents live regs p a next
give_formed agents live regs p a next h = record {
  agent = h.agents_there.0;
  is_live = h.single_use.0;
  then_formed = formed agents (length live) (spent live p) regs next (length-set live p false) h.agents_there.1 h.numbered.1 h.single_use.1;
}

-- ---- a live piece has a part
held_at : {A : Type 0} (pieces : List (List A)) (p : ℕ) → IsLive (map is_held pieces) p → IsTrue (is_held (piece_at pieces p))
held_at pieces p h = subst IsTrue (get_or-map is_held pieces p []) h

pub record HasPart {A : Type 0} (piece : List A) : Type 0 where
  pub first : A
  pub others : List A
  pub is : piece ≡ first ∷ others

has_part : {A : Type 0} (piece : List A) → IsTrue (is_held piece) → HasPart piece
has_part [] h = no_truth h
has_part (x ∷ xs) h = record { first = x; others = xs; is = refl }

pub part_of : {A : Type 0} (pieces : List (List A)) (p : ℕ) → IsLive (map is_held pieces) p → HasPart (piece_at pieces p)
part_of pieces p h = has_part (piece_at pieces p) (held_at pieces p h)

held_append : {A : Type 0} (xs : List A) (y : A) (ys : List A) → is_held (xs ++ y ∷ ys) ≡ true
held_append [] y ys = refl
held_append (x ∷ xs) y ys = refl

pub held_emptied : {A : Type 0} (pieces : List (List A)) (p : ℕ) → map is_held (emptied pieces p) ≡ spent (map is_held pieces) p
held_emptied pieces p = map-set is_held pieces p []

pub held_cut : {A : Type 0} (pieces : List (List A)) (p : ℕ) (before : List A) (x y : A) (after : List A) → map is_held (cut_pieces pieces p (before ++ x ∷ []) (y ∷ after)) ≡ spent (map is_held pieces) p ++ true ∷ true ∷ []
held_cut pieces p before x y after =
    map-append is_held (emptied pieces p) ((before ++ x ∷ []) ∷ (y ∷ after) ∷ [])
    ∙ (λ i. held_emptied pieces p i ++ held_append before x [] i ∷ true ∷ [])

pub held_join : {A : Type 0} (pieces : List (List A)) (p q : ℕ) → IsLive (map is_held pieces) p → map is_held (join_pieces pieces p q) ≡ spent (spent (map is_held pieces) p) q ++ true ∷ []
held_join {A} pieces p q h =
    let one = part_of pieces p h in
    let new : List A = piece_at pieces p ++ piece_at (emptied pieces p) q in
    let some : is_held new ≡ true = ap (λ ps. is_held (ps ++ piece_at (emptied pieces p) q)) one.is in
    map-append is_held (emptied (emptied pieces p) q) (new ∷ [])
    ∙ (λ i. held_emptied (emptied pieces p) q i ++ some i ∷ [])
    ∙ ap (λ us. spent us q ++ true ∷ []) (held_emptied pieces p)

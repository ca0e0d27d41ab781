-- What each step of the walk needs is there, and stays there.
use Rattle.std.proofs.Common.{◌≡◌, ◌∙◌, ◌≢◌, ℕ, zero, suc, ◌+◌, ◌<◌, ◌≤◌, ◌⊎◌, inl, inr, arith, Bool, true, false, List, [], ◌∷◌, ◌++◌, length}
use Rattle.std.specs.Prelude.{IsTrue}
use Rattle.slice_core.specs.Tree.{Tree, Ask, Set, Cut, Join, Test, Give}
use Rattle.slice_core.specs.WellFormed.{IsLive, spent, IsSumOver, AreBound}
use Rattle.slice_core.specs.declared.node.Lin.{Lin}
use Rattle.slice_core.specs.declared.node.LinTerm.{LinTerm}
use Rattle.slice_core.proofs.FormedLaws.{ask_formed, set_formed, cut_formed, join_formed, test_formed, give_formed}
use Rattle.std.proofs.lemmas.List.{length-set, length-append}
use Rattle.slice_paths.specs.Spots.{Tally}
use Rattle.slice_paths.specs.Steps.{IsNotGiven, AreGifts}
use Rattle.slice_paths.specs.Walking.{CanGo, CanCut}
use Rattle.slice_paths.specs.declared.spot.Gift.{Gift}

-- ---- live pieces
no_truth : {A : Type 0} → IsTrue false → A
no_truth h = let e : false ≡ true = h in absurd cc

pub live_there : (live : List Bool) (p : ℕ) → IsLive live p → p < length live
live_there [] p h = no_truth h
live_there (u ∷ us) zero h = omega arith
live_there (u ∷ us) (suc p) h = omega (arith, live_there us p h)

pub spent_live : (live : List Bool) (p q : ℕ) → IsLive (spent live p) q → IsLive live q
spent_live [] p q h = no_truth h
spent_live (u ∷ us) zero zero h = no_truth h
spent_live (u ∷ us) zero (suc q) h = h
spent_live (u ∷ us) (suc p) zero h = h
spent_live (u ∷ us) (suc p) (suc q) h = spent_live us p q h

pub spent_other : (live : List Bool) (p q : ℕ) → IsLive (spent live p) q → p ≢ q
spent_other [] p q h = no_truth h
spent_other (u ∷ us) zero zero h = no_truth h
spent_other (u ∷ us) zero (suc q) h = λ e. absurd (omega (arith, e))
spent_other (u ∷ us) (suc p) zero h = λ e. absurd (omega (arith, e))
spent_other (u ∷ us) (suc p) (suc q) h = λ e. spent_other us p q h (omega (arith, e))

live_put : (live more : List Bool) (q : ℕ) → IsLive (live ++ more) q → IsLive live q ⊎ (length live ≤ q)
live_put [] more q h = inr (omega arith)
live_put (u ∷ us) more zero h = inl h
live_put (u ∷ us) more (suc q) h = elim (live_put us more q h) [ inl l ↦ inl l | inr l ↦ inr (omega (arith, l)) ]

not_made : (made : ℕ) (gs : List Gift) (q : ℕ) → AreGifts made gs → made ≤ q → IsNotGiven q gs
not_made made [] q h l = tt
not_made made (g ∷ gs) q h l = (λ e. absurd (omega (arith, h.0, e, l)), not_made made gs q h.2 l)

given_put : (gs : List Gift) (g : Gift) (q : ℕ) → IsNotGiven q gs → g.piece ≢ q → IsNotGiven q (gs ++ g ∷ [])
given_put [] g q h n = (n, tt)
given_put (x ∷ gs) g q h n = (h.0, given_put gs g q h.1 n)

-- the pieces that are live after some were made
held_put : (made : ℕ) (gs : List Gift) (live more : List Bool) → AreGifts made gs → length live ≡ made → ((p : ℕ) → IsLive live p → IsNotGiven p gs) → (p : ℕ) → IsLive (live ++ more) p → IsNotGiven p gs
held_put made gs live more h e held p l = elim (live_put live more p l) [ inl here ↦ held p here | inr there ↦ not_made made gs p h (omega (arith, e, there)) ]

-- ---- sums
pub bound : (r : ℕ) (ts : List LinTerm) → IsSumOver r ts → AreBound r ts
bound r [] h = absurd h
bound r (t ∷ ts) h = h.1

-- ---- steps
pub asks : (agents a p r : ℕ) (next : Tree) (t : Tally) → CanGo agents (Ask a p r next) t → CanGo agents next (record t { regs = t.regs + 1; queries = t.queries + 1 })
asks agents a p r next t h =
    let f = ask_formed agents h.live t.regs a p r next h.formed in
    record {
      agents_are = h.agents_are;
      few_agents = h.few_agents;
      live = h.live;
      made = h.made;
      held = h.held;
      formed = f.then_formed;
      few_cuts = h.few_cuts;
      few_queries = omega (arith, h.few_queries);
      few_pieces = omega (arith, h.few_pieces);
    }

pub sets : (agents r : ℕ) (sum : Lin) (next : Tree) (t : Tally) → CanGo agents (Set r sum next) t → CanGo agents next (record t { regs = t.regs + 1 })
sets agents r sum next t h =
    let f = set_formed agents h.live t.regs r sum next h.formed in
    record {
      agents_are = h.agents_are;
      few_agents = h.few_agents;
      live = h.live;
      made = h.made;
      held = h.held;
      formed = f.then_formed;
      few_cuts = h.few_cuts;
      few_queries = omega (arith, h.few_queries);
      few_pieces = omega (arith, h.few_pieces);
    }

pub tests_yes : (agents : ℕ) (left right : Lin) (strict : Bool) (at_yes at_no : Tree) (t : Tally) → CanGo agents (Test left right strict at_yes at_no) t → CanGo agents at_yes t
tests_yes agents left right strict at_yes at_no t h =
    let f = test_formed agents h.live t.regs left right strict at_yes at_no h.formed in
    record {
      agents_are = h.agents_are;
      few_agents = h.few_agents;
      live = h.live;
      made = h.made;
      held = h.held;
      formed = f.yes_formed;
      few_cuts = omega (arith, h.few_cuts);
      few_queries = omega (arith, h.few_queries);
      few_pieces = omega (arith, h.few_pieces);
    }

pub tests_no : (agents : ℕ) (left right : Lin) (strict : Bool) (at_yes at_no : Tree) (t : Tally) → CanGo agents (Test left right strict at_yes at_no) t → CanGo agents at_no t
tests_no agents left right strict at_yes at_no t h =
    let f = test_formed agents h.live t.regs left right strict at_yes at_no h.formed in
    record {
      agents_are = h.agents_are;
      few_agents = h.few_agents;
      live = h.live;
      made = h.made;
      held = h.held;
      formed = f.no_formed;
      few_cuts = omega (arith, h.few_cuts);
      few_queries = omega (arith, h.few_queries);
      few_pieces = omega (arith, h.few_pieces);
    }

pub joins : (agents p q r : ℕ) (next : Tree) (t : Tally) → AreGifts t.pieces t.gifts → CanGo agents (Join p q r next) t → CanGo agents next (record t { pieces = t.pieces + 1 })
joins agents p q r next t gs h =
    let f = join_formed agents h.live t.regs p q r next h.formed in
    let kept : List Bool = spent (spent h.live p) q in
    let long : length kept ≡ t.pieces = length-set (spent h.live p) q false ∙ length-set h.live p false ∙ h.made in
    record {
      agents_are = h.agents_are;
      few_agents = h.few_agents;
      live = kept ++ true ∷ [];
      made = omega (arith, length-append kept (true ∷ []), long);
      held = held_put t.pieces t.gifts kept (true ∷ []) gs long (λ x l. h.held x (spent_live h.live p x (spent_live (spent h.live p) q x l)));
      formed = f.then_formed;
      few_cuts = h.few_cuts;
      few_queries = omega (arith, h.few_queries);
      few_pieces = omega (arith, h.few_pieces);
    }

pub gives : (agents p a : ℕ) (next : Tree) (t : Tally) → CanGo agents (Give p a next) t → CanGo agents next (record t { gifts = t.gifts ++ record { agent = a; piece = p } ∷ [] })
gives agents p a next t h =
    let f = give_formed agents h.live t.regs p a next h.formed in
    record {
      agents_are = h.agents_are;
      few_agents = h.few_agents;
      live = spent h.live p;
      made = length-set h.live p false ∙ h.made;
      held = λ x l. given_put t.gifts (record { agent = a; piece = p }) x (h.held x (spent_live h.live p x l)) (spent_other h.live p x l);
      formed = f.then_formed;
      few_cuts = h.few_cuts;
      few_queries = omega (arith, h.few_queries);
      few_pieces = omega (arith, h.few_pieces);
    }

pub cuts : (agents a p : ℕ) (amount : Lin) (l r : ℕ) (next : Tree) (t : Tally) → CanGo agents (Cut a p amount l r next) t → CanCut agents a p next t
cuts agents a p amount l r next t h =
    let f = cut_formed agents h.live t.regs a p amount l r next h.formed in
    record {
      agents_are = h.agents_are;
      few_agents = h.few_agents;
      agent_there = f.agent;
      live = h.live;
      made = h.made;
      held = h.held;
      is_live = f.is_live;
      formed = f.then_formed;
      few_cuts = omega (arith, h.few_cuts);
      few_queries = omega (arith, h.few_queries);
      few_pieces = omega (arith, h.few_pieces);
    }

pub answers : (agents a p : ℕ) (next : Tree) (t : Tally) → AreGifts t.pieces t.gifts → CanCut agents a p next t
    → CanGo agents next (record t { pieces = t.pieces + 2; cuts = t.cuts + 1; queries = t.queries + 1 })
answers agents a p next t gs h =
    let kept : List Bool = spent h.live p in
    let long : length kept ≡ t.pieces = length-set h.live p false ∙ h.made in
    record {
      agents_are = h.agents_are;
      few_agents = h.few_agents;
      live = kept ++ true ∷ true ∷ [];
      made = omega (arith, length-append kept (true ∷ true ∷ []), long);
      held = held_put t.pieces t.gifts kept (true ∷ true ∷ []) gs long (λ x l. h.held x (spent_live h.live p x l));
      formed = h.formed;
      few_cuts = omega (arith, h.few_cuts);
      few_queries = omega (arith, h.few_queries);
      few_pieces = omega (arith, h.few_pieces);
    }

-- What a node of the code leads to.
use Rattle.std.proofs.Common.{◌≡◌, ℕ, ◌+◌, ◌<◌, ◌≤◌, arith, ap, subst, List, drop, length, Some, None, true, false, Bool}
use Rattle.std.proofs.lemmas.List.{drop-drop}
use Rattle.slice_num.specs.declared.choice.Choice.{Choice}
use Rattle.slice_core.specs.Sizes.{depth}
use Rattle.slice_num.specs.Pieces.{emptied, join_pieces}
use Rattle.slice_core.specs.Tree.{Tree}
use Rattle.slice_core.specs.Tree as tree
use Rattle.slice_core.specs.declared.node.Lin.{Lin}
use Rattle.slice_paths.specs.Places.{Way}
use Rattle.slice_counter.specs.Marks.{parts_of, arm_taken, LeadsTo, Tells}
use Rattle.slice_counter.specs.Walks.{PassesTo}
use Rattle.slice_counter.specs.declared.trail.Trail.{Trail}
use Rattle.slice_counter.proofs.Leading.{lead_ask, lead_set, lead_join, lead_give, lead_end}
use Rattle.slice_counter.proofs.Passing.{lead_yes, lead_no, test_ends}

-- on to a node that is nearer to the end
abbrev pub GoesTo : Way → Tree → Tree → List Choice → ℕ → Trail → Type 0
GoesTo end here next trace made t = (made ≤ length trace) × (depth next < depth here) × LeadsTo end next (drop made trace) t

module _ (end : Way) (here next : Tree) (trace : List Choice) (at : ℕ) (within : at ≤ length trace) (t u : Trail) (h : LeadsTo end here (drop at trace) t) where
  deeper : (a : Tree) → here ≡ a → depth next + 1 ≤ depth a → depth next < depth here
  deeper a e l = let f = ap depth e in omega (arith, f, l)

  led : (a : Tree) → here ≡ a → LeadsTo end a (drop at trace) t
  led a e = subst (λ (s : Tree). LeadsTo end s (drop at trace) t) e h

  pub goes_ask : (a p r : ℕ) → here ≡ tree.Ask a p r next → GoesTo end here next trace at t
  goes_ask a p r e = (within, deeper (tree.Ask a p r next) e (omega arith), lead_ask end a p r next (drop at trace) t (led (tree.Ask a p r next) e))

  pub goes_set : (r : ℕ) (sum : Lin) → here ≡ tree.Set r sum next → GoesTo end here next trace at t
  goes_set r sum e = (within, deeper (tree.Set r sum next) e (omega arith), lead_set end r sum next (drop at trace) t (led (tree.Set r sum next) e))

  pub goes_join : (p q r : ℕ) → here ≡ tree.Join p q r next → parts_of u ≡ join_pieces (parts_of t) p q → u.cuts ≡ t.cuts → GoesTo end here next trace at u
  goes_join p q r e is same = (within, deeper (tree.Join p q r next) e (omega arith), lead_join end p q r next (drop at trace) t u (led (tree.Join p q r next) e) is same)

  pub goes_give : (p a : ℕ) → here ≡ tree.Give p a next → parts_of u ≡ emptied (parts_of t) p → u.cuts ≡ t.cuts → GoesTo end here next trace at u
  goes_give p a e is same = (within, deeper (tree.Give p a next) e (omega arith), lead_give end p a next (drop at trace) t u (led (tree.Give p a next) e) is same)

  one_on : drop 1 (drop at trace) ≡ drop (at + 1) trace
  one_on = drop-drop 1 at trace

  pub goes_yes : (l r : Lin) (strict : Bool) (n : Tree) → here ≡ tree.Test l r strict next n → arm_taken (drop at trace) ≡ Some true → at < length trace → GoesTo end here next trace (at + 1) t
  goes_yes l r strict n e is more =
      (omega (arith, more), deeper (tree.Test l r strict next n) e (omega arith), subst (λ (cs : List Choice). LeadsTo end next cs t) one_on (lead_yes end l r strict next n (drop at trace) t is (led (tree.Test l r strict next n) e)))

  pub goes_no : (l r : Lin) (strict : Bool) (y : Tree) → here ≡ tree.Test l r strict y next → arm_taken (drop at trace) ≡ Some false → at < length trace → GoesTo end here next trace (at + 1) t
  goes_no l r strict y e is more =
      (omega (arith, more), deeper (tree.Test l r strict y next) e (omega arith), subst (λ (cs : List Choice). LeadsTo end next cs t) one_on (lead_no end l r strict y next (drop at trace) t is (led (tree.Test l r strict y next) e)))

pub ends_test : (end : Way) (here : Tree) (cs : List Choice) (t : Trail) (l r : Lin) (strict : Bool) (y n : Tree) → here ≡ tree.Test l r strict y n → arm_taken cs ≡ None → LeadsTo end here cs t → Tells end t
ends_test end here cs t l r strict y n e is h = test_ends end l r strict y n cs t is (subst (λ (s : Tree). LeadsTo end s cs t) e h)

pub ends_done : (end : Way) (here : Tree) (cs : List Choice) (t : Trail) → here ≡ tree.End → LeadsTo end here cs t → Tells end t
ends_done end here cs t e h = lead_end end cs t (subst (λ (s : Tree). LeadsTo end s cs t) e h)

pub goes_cut : (end : Way) (here next : Tree) (trace : List Choice) (cs : List Choice) (t u : Trail) (a p l r made : ℕ) (amount : Lin) → here ≡ tree.Cut a p amount l r next
    → ((w : Way) (b : ℕ) (sum : Lin) (x y : ℕ) (s : Tree) → LeadsTo w (tree.Cut b p sum x y s) cs t → PassesTo w s trace u (Some made)) → LeadsTo end here cs t → GoesTo end here next trace made u
goes_cut end here next trace cs t u a p l r made amount e f h =
    let k = f end a amount l r next (subst (λ (s : Tree). LeadsTo end s cs t) e h) in
    let d = ap depth e in
    (k.0, omega (arith, d), k.1)

pub ends_cut : (end : Way) (here next : Tree) (trace : List Choice) (cs : List Choice) (t u : Trail) (a p l r : ℕ) (amount : Lin) → here ≡ tree.Cut a p amount l r next
    → ((w : Way) (b : ℕ) (sum : Lin) (x y : ℕ) (s : Tree) → LeadsTo w (tree.Cut b p sum x y s) cs t → PassesTo w s trace u None) → LeadsTo end here cs t → Tells end u
ends_cut end here next trace cs t u a p l r amount e f h = f end a amount l r next (subst (λ (s : Tree). LeadsTo end s cs t) e h)

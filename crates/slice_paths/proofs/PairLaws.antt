-- The pairs of agents in their order.
use Rattle.std.proofs.Common.{◌≡◌, ◌∙◌, ◌≢◌, ℕ, zero, suc, ◌+◌, ◌-◌, ◌*◌, ◌<◌, ◌≤◌, ◌==◌, arith, refl, sym, ap, Bool, true, false, List, [], ◌∷◌, ◌++◌, append_assoc}
use Rattle.std.specs.Prelude.{if◌then◌else◌}
use Rattle.std.proofs.Math.Nat.{suc-mul}
use Rattle.std.proofs.lemmas.Bool.Decides.{nat_tests}
use Rattle.std.proofs.lemmas.List.{append-nil}
use Rattle.slice_paths.specs.Ahead.{pairs_after, pairs_beyond, pairs_left, pairs_from}
use Rattle.slice_paths.specs.Goals.{pairs, pairs_with}
use Rattle.slice_paths.specs.Walking.{pair_steps}

-- a pair, but for an agent with itself
pub pair_of : ℕ → ℕ → List (ℕ × ℕ)
pair_of a b = if a == b then [] else (a, b) ∷ []

-- ---- in order from the first
after_last : (a b more : ℕ) → pairs_after a b (suc more) ≡ pairs_after a b more ++ pair_of a (b + more)
unfolding pair_of
after_last a b zero = append-nil (pair_of a b) ∙ ap (pair_of a) (omega arith)
after_last a b (suc more) =
    ap (λ (xs : List (ℕ × ℕ)). pair_of a b ++ xs) (after_last a (b + 1) more)
    ∙ sym (append_assoc (pair_of a b) (pairs_after a (b + 1) more) (pair_of a (b + 1 + more)))
    ∙ ap (λ (c : ℕ). (pair_of a b ++ pairs_after a (b + 1) more) ++ pair_of a c) (omega arith)

with_after : (a n : ℕ) → pairs_after a 1 n ≡ pairs_with a n
unfolding pair_of
with_after a zero = refl
with_after a (suc n) =
    after_last a 1 n
    ∙ (λ i. with_after a n i ++ pair_of a (one_more i))
  where
    one_more : 1 + n ≡ suc n
    one_more = omega arith

beyond_last : (agents a more : ℕ) → pairs_beyond agents a (suc more) ≡ pairs_beyond agents a more ++ pairs_after (a + more) 1 agents
beyond_last agents a zero = append-nil (pairs_after a 1 agents) ∙ ap (λ (c : ℕ). pairs_after c 1 agents) (omega arith)
beyond_last agents a (suc more) =
    ap (λ (xs : List (ℕ × ℕ)). pairs_after a 1 agents ++ xs) (beyond_last agents (a + 1) more)
    ∙ sym (append_assoc (pairs_after a 1 agents) (pairs_beyond agents (a + 1) more) (pairs_after (a + 1 + more) 1 agents))
    ∙ ap (λ (c : ℕ). (pairs_after a 1 agents ++ pairs_beyond agents (a + 1) more) ++ pairs_after c 1 agents) (omega arith)

pub beyond_pairs : (agents m : ℕ) → pairs_beyond agents 1 m ≡ pairs agents m
beyond_pairs agents zero = refl
beyond_pairs agents (suc m) =
    beyond_last agents 1 m
    ∙ (λ i. beyond_pairs agents m i ++ (ap (λ (c : ℕ). pairs_after c 1 agents) one_more ∙ with_after (suc m) agents) i)
  where
    one_more : 1 + m ≡ suc m
    one_more = omega arith

left_beyond : (agents others : ℕ) → pairs_left agents 1 1 others agents ≡ pairs_beyond agents 1 others
left_beyond agents zero = refl
left_beyond agents (suc others) = refl

pub pairs_first : (agents : ℕ) → pairs_from agents 1 1 ≡ pairs agents agents
pairs_first agents =
    (λ i. pairs_left agents 1 1 (same i) (same i))
    ∙ left_beyond agents agents
    ∙ beyond_pairs agents agents
  where
    same : agents + 1 - 1 ≡ agents
    same = omega arith

-- ---- from one pair to the next
pub pairs_none : (agents a b : ℕ) → agents < a → pairs_from agents a b ≡ []
pairs_none agents a b l = ap (λ (k : ℕ). pairs_left agents a b k (agents + 1 - b)) none
  where
    none : agents + 1 - a ≡ 0
    none = omega (arith, l)

pub pairs_row : (agents a b : ℕ) → a ≤ agents → agents < b → pairs_from agents a b ≡ pairs_from agents (a + 1) 1
pairs_row agents a b l m =
    (λ i. pairs_left agents a b (some i) (none i))
    ∙ next (agents - a)
    ∙ (λ i. pairs_left agents (a + 1) 1 (left i) (all i))
  where
    some : agents + 1 - a ≡ suc (agents - a)
    some = omega (arith, l)

    none : agents + 1 - b ≡ 0
    none = omega (arith, m)

    left : agents - a ≡ agents + 1 - (a + 1)
    left = omega (arith, l)

    all : agents ≡ agents + 1 - 1
    all = omega arith

    next : (k : ℕ) → pairs_beyond agents (a + 1) k ≡ pairs_left agents (a + 1) 1 k agents
    next zero = refl
    next (suc k) = refl

pub pairs_next : (agents a b : ℕ) → a ≤ agents → b ≤ agents → pairs_from agents a b ≡ pair_of a b ++ pairs_from agents a (b + 1)
unfolding pair_of
pairs_next agents a b l m =
    (λ i. pairs_left agents a b (some i) (more i))
    ∙ append_assoc (pair_of a b) (pairs_after a (b + 1) (agents - b)) (pairs_beyond agents (a + 1) (agents - a))
    ∙ (λ i. pair_of a b ++ pairs_left agents a (b + 1) (sym some i) (less i))
  where
    some : agents + 1 - a ≡ suc (agents - a)
    some = omega (arith, l)

    more : agents + 1 - b ≡ suc (agents - b)
    more = omega (arith, m)

    less : agents - b ≡ agents + 1 - (b + 1)
    less = omega (arith, m)

no_pair : (t : Bool) (p : ℕ × ℕ) (xs : List (ℕ × ℕ)) → t ≡ true → (if t then [] else p ∷ []) ++ xs ≡ xs
no_pair t p xs e = ap (λ (u : Bool). (if u then [] else p ∷ []) ++ xs) e

one_pair : (t : Bool) (p : ℕ × ℕ) (xs : List (ℕ × ℕ)) → t ≡ false → (if t then [] else p ∷ []) ++ xs ≡ p ∷ xs
one_pair t p xs e = ap (λ (u : Bool). (if u then [] else p ∷ []) ++ xs) e

pub pairs_same : (agents a b : ℕ) → a ≤ agents → b ≤ agents → a ≡ b → pairs_from agents a b ≡ pairs_from agents a (b + 1)
unfolding pair_of
pairs_same agents a b l m e = pairs_next agents a b l m ∙ no_pair (a == b) (a, b) (pairs_from agents a (b + 1)) (grind (arith, nat_tests))

pub pairs_other : (agents a b : ℕ) → a ≤ agents → b ≤ agents → a ≢ b → pairs_from agents a b ≡ (a, b) ∷ pairs_from agents a (b + 1)
unfolding pair_of
pairs_other agents a b l m n = pairs_next agents a b l m ∙ one_pair (a == b) (a, b) (pairs_from agents a (b + 1)) (grind (arith, nat_tests))

-- ---- each takes a step less
pub row_fewer : (agents a b : ℕ) → a ≤ agents → pair_steps agents (a + 1) 1 < pair_steps agents a b
row_fewer agents a b l =
    let less : agents + 1 - a ≡ suc (agents + 1 - (a + 1)) = omega (arith, l) in
    let wide : (agents + 1 - a) * (agents + 2) ≡ (agents + 1 - (a + 1)) * (agents + 2) + (agents + 2) = ap (λ (k : ℕ). k * (agents + 2)) less ∙ suc-mul (agents + 1 - (a + 1)) (agents + 2) in
    omega (arith, wide)

pub pair_fewer : (agents a b : ℕ) → b ≤ agents → pair_steps agents a (b + 1) < pair_steps agents a b
pair_fewer agents a b l = omega (arith, l)

-- A pair of agents of whom the first values the other's share above its own is told.
use Rattle.std.proofs.Common.{◌≡◌, ◌∙◌, ℕ, zero, suc, ◌+◌, ◌<◌, ◌≤◌, List, [], ◌∷◌, map, length, filter, flat_map, cond, Bool, true, false, arith, refl, sym, ap, subst}
use Rattle.std.specs.Prelude.{IsTrue}
use Rattle.std.proofs.Common.{inl, inr}
use Rattle.std.proofs.lemmas.Bool.{cases_eq}
use Rattle.std.specs.List.{Contains, range_with_len}
use Rattle.std.proofs.lemmas.List.Elements.{Contains-append_left, Contains-append_right}
use Rattle.slice_num.specs.Rational.{Rational}
use Rattle.slice_report.specs.RunReport.{agents, envies, envy_of, envy}
use Rattle.slice_top.specs.Runs.{envy_status}
use Rattle.slice_top.specs.declared.status.Status.TheVariants as status

in_later : {A : Type 0} (y x : A) (xs : List A) → Contains xs x → Contains (y ∷ xs) x
in_later y x xs h = (suc h.0, (let lt = h.1 in omega (arith, lt)), h.2)

in_first : {A : Type 0} (y x : A) (xs : List A) → y ≡ x → Contains (y ∷ xs) x
in_first y x xs e = (0, omega arith, e)

in_range : (n a i : ℕ) → a ≤ i → i < a + n → Contains (range_with_len a n) i
in_range zero a i le lt = absurd (omega (arith, le, lt))
in_range (suc n) a i le lt = elim (cases_eq a i) [
  | inl same ↦ in_first a i (range_with_len (a + 1) n) same
  | inr apart ↦ in_later a i (range_with_len (a + 1) n) (in_range n (a + 1) i (omega arith) (omega arith))
]

in_filter : {A : Type 0} (test : A → Bool) (xs : List A) (x : A) → Contains xs x → test x ≡ true → Contains (filter test xs) x
in_filter test [] x h e = absurd (let lt = h.1 in omega (arith, lt))
in_filter test (y ∷ xs) x (zero, lt, same) e =
    let yes : test y ≡ true = ap test same ∙ e in
    subst (λ (b : Bool). Contains (cond b (y ∷ filter test xs) (filter test xs)) x) (sym yes) (in_first y x (filter test xs) same)
in_filter test (y ∷ xs) x (suc k, lt, same) e = by (test y) (in_filter test xs x (k, omega (arith, lt), same) e)
  where
    by : (b : Bool) → Contains (filter test xs) x → Contains (cond b (y ∷ filter test xs) (filter test xs)) x
    by true h = in_later y x (filter test xs) h
    by false h = h

in_map : {A B : Type 0} (f : A → B) (xs : List A) (x : A) → Contains xs x → Contains (map f xs) (f x)
in_map f [] x h = absurd (let lt = h.1 in omega (arith, lt))
in_map f (y ∷ xs) x (zero, lt, same) = in_first (f y) (f x) (map f xs) (ap f same)
in_map f (y ∷ xs) x (suc k, lt, same) = in_later (f y) (f x) (map f xs) (in_map f xs x (k, omega (arith, lt), same))

in_flat_map : {A B : Type 0} (f : A → List B) (xs : List A) (x : A) (z : B) → Contains xs x → Contains (f x) z → Contains (flat_map f xs) z
in_flat_map f [] x z h k = absurd (let lt = h.1 in omega (arith, lt))
in_flat_map f (y ∷ xs) x z (zero, lt, same) k = Contains-append_left (f y) (flat_map f xs) z (subst (λ w. Contains (f w) z) (sym same) k)
in_flat_map f (y ∷ xs) x z (suc i, lt, same) k = Contains-append_right (f y) (flat_map f xs) z (in_flat_map f xs x z (i, omega (arith, lt), same) k)

in_agents : (n a : ℕ) → 1 ≤ a → a ≤ n → Contains (agents n) a
in_agents n a some few = in_range n 1 a some (omega (arith, few))

pub pair_told : (values : List (List Rational)) (a b : ℕ) → 1 ≤ a → a ≤ length values → 1 ≤ b → b ≤ length values → IsTrue (envies values a b) → Contains (envy values) (a, b)
pair_told values a b a1 an b1 bn h =
    let row : Contains (envy_of values a) (a, b) = in_map (λ c. (a, c)) (filter (envies values a) (agents (length values))) b (in_filter (envies values a) (agents (length values)) b (in_agents (length values) b b1 bn) h) in
    in_flat_map (envy_of values) (agents (length values)) a (a, b) (in_agents (length values) a a1 an) row

-- where a pair is told the status is negative
pub pair_negative : (pairs : List (ℕ × ℕ)) (p : ℕ × ℕ) → Contains pairs p → envy_status pairs ≡ status.Negative
pair_negative [] p h = absurd (let lt = h.1 in omega (arith, lt))
pair_negative (q ∷ pairs) p h = refl

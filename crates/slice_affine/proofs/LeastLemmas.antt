-- The fault that is told of a list, and the lesser of two places.
use Rattle.std.proofs.Common.{◌≡◌, ℕ, ◌<◌, ◌≤◌, Bool, true, false, ◌||◌, ◌&&◌, ◌==◌, List, [], ◌∷◌, ◌⊎◌, inl, inr, ⊎_elim, Option, Some, None, min, refl, ap, sym, subst, ◌∙◌, arith}
use Rattle.std.specs.Prelude.{nat_lt, if◌then◌else◌}
use Rattle.std.proofs.lemmas.Bool.Decides.{nat_tests}
use Rattle.slice_affine.specs.Faults.{place_of, rank_of, is_before}
use Rattle.slice_affine.specs.Pass.{earlier}
use Rattle.slice_affine.proofs.Scan.{least}
use Rattle.slice_affine.specs.Ways.{IsIn}
use Rattle.slice_affine.specs.Pass.{lesser}
use Rattle.slice_affine.specs.declared.fault.AffineFault.{AffineFault}

abbrev before : ℕ → ℕ → ℕ → ℕ → Bool
before p r q s = nat_lt p q || ((p == q) && nat_lt r s)

asym : (p r q s : ℕ) → before p r q s ≡ true → before q s p r ≡ false
asym p r q s h = grind (arith, nat_tests)

trans : (p r q s o t : ℕ) → before p r q s ≡ false → before q s o t ≡ false → before p r o t ≡ false
trans p r q s o t h k = grind (arith, nat_tests)

irrefl : (p r : ℕ) → before p r p r ≡ false
irrefl p r = grind (arith, nat_tests)

far : (p r q s : ℕ) → q < p → before p r q s ≡ false
far p r q s h = grind (arith, nat_tests)

-- a fault further back isn't told before
pub not_before : (g f : AffineFault) → place_of f < place_of g → is_before g f ≡ false
unfolding is_before
not_before g f h = far (place_of g) (rank_of g) (place_of f) (rank_of f) h

pub same_before : (g h f : AffineFault) → place_of g ≡ place_of h → rank_of g ≡ rank_of h → is_before g f ≡ is_before h f
unfolding is_before
same_before g h f p r = ap (λ n. before n (rank_of g) (place_of f) (rank_of f)) p ∙ ap (λ n. before (place_of h) n (place_of f) (rank_of f)) r

-- none of the list is told before this one
pub record Told (fs : List AffineFault) (f : AffineFault) : Type 0 where
  pub among : IsIn f fs
  pub first : (g : AffineFault) → IsIn g fs → is_before g f ≡ false

pub least_none : (fs : List AffineFault) → least fs ≡ None → (g : AffineFault) → IsIn g fs → ⊥
unfolding least earlier
least_none [] e g h = h
least_none (f ∷ fs) e g h = by (least fs) e
  where
    by : (o : Option AffineFault) → earlier (Some f) o ≡ None → ⊥
    by None x = cc
    by (Some g) x = by_test (is_before g f) x
      where
        by_test : (b : Bool) → (if b then Some g else Some f) ≡ None → ⊥
        by_test true y = cc
        by_test false y = cc

pub least_some : (fs : List AffineFault) (f : AffineFault) → least fs ≡ Some f → Told fs f
unfolding least earlier is_before
least_some [] f e = cc
least_some (x ∷ xs) f e = by (least xs) refl (λ y n. least_some xs y n) e
  where
    by : (o : Option AffineFault) → least xs ≡ o → ((y : AffineFault) → least xs ≡ Some y → Told xs y) → earlier (Some x) o ≡ Some f → Told (x ∷ xs) f
    by None n k e =
        let same : x ≡ f = cc in
        subst (λ (y : AffineFault). Told (x ∷ xs) y) same (record {
          among = inl refl;
          first = λ g h. ⊎_elim (λ s. subst (λ (y : AffineFault). is_before y x ≡ false) (sym s) (irrefl (place_of x) (rank_of x))) (λ i. absurd (least_none xs n g i)) h;
        })
    by (Some y) n k e = by_test (is_before y x) refl e
      where
        rest : Told xs y
        rest = k y n

        by_test : (b : Bool) → is_before y x ≡ b → (if b then Some y else Some x) ≡ Some f → Told (x ∷ xs) f
        by_test true t e =
            let same : y ≡ f = cc in
            subst (λ (z : AffineFault). Told (x ∷ xs) z) same (record {
              among = inr rest.among;
              first = λ g h. ⊎_elim (λ s. subst (λ (z : AffineFault). is_before z y ≡ false) (sym s) (asym (place_of y) (rank_of y) (place_of x) (rank_of x) t)) (λ i. rest.first g i) h;
            })
        by_test false t e =
            let same : x ≡ f = cc in
            subst (λ (z : AffineFault). Told (x ∷ xs) z) same (record {
              among = inl refl;
              first = λ g h. ⊎_elim
                  (λ s. subst (λ (z : AffineFault). is_before z x ≡ false) (sym s) (irrefl (place_of x) (rank_of x)))
                  (λ i. trans (place_of g) (rank_of g) (place_of y) (rank_of y) (place_of x) (rank_of x) (rest.first g i) t) h;
            })

-- what is kept of a set of places: that there is none, or the least
abbrev pub Keeps : Option ℕ → (ℕ → Type 0) → Type 0
Keeps None S = (q : ℕ) → S q → ⊥
Keeps (Some p) S = S p × ((q : ℕ) → S q → p ≤ q)

pub keeps_same : (o : Option ℕ) (S T : ℕ → Type 0) → ((q : ℕ) → S q → T q) → ((q : ℕ) → T q → S q) → Keeps o S → Keeps o T
keeps_same None S T f g h = λ q t. h q (g q t)
keeps_same (Some p) S T f g h = (f p h.0, λ q t. h.1 q (g q t))

min_is : (p q : ℕ) → (min p q ≡ p) ⊎ (min p q ≡ q)
min_is p q = ⊎_elim (λ a. inl (omega (arith, a))) (λ b. inr (omega (arith, b))) (le_or p q)
  where
    le_or : (p q : ℕ) → (p ≤ q) ⊎ (q ≤ p)
    le_or p q = grind arith

pub keeps_lesser : (o r : Option ℕ) (S T : ℕ → Type 0) → Keeps o S → Keeps r T → Keeps (lesser o r) (λ q. S q ⊎ T q)
keeps_lesser None None S T h k = λ q x. ⊎_elim (h q) (k q) x
keeps_lesser None (Some p) S T h k = (inr k.0, λ q x. ⊎_elim (λ s. absurd (h q s)) (k.1 q) x)
keeps_lesser (Some p) None S T h k = (inl h.0, λ q x. ⊎_elim (h.1 q) (λ t. absurd (k q t)) x)
keeps_lesser (Some p) (Some r) S T h k = (
  ⊎_elim (λ e. inl (subst S (sym e) h.0)) (λ e. inr (subst T (sym e) k.0)) (min_is p r),
  λ q x. ⊎_elim (λ s. let l : p ≤ q = h.1 q s in omega arith) (λ t. let l : r ≤ q = k.1 q t in omega arith) x,
)

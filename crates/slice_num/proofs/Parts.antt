-- The parts of a piece by number.
use Rattle.std.proofs.Common.{◌≡◌, ◌∙◌, ℕ, zero, suc, ◌≤◌, ◌++◌, List, [], ◌∷◌, length, arith, refl, ap, sym, subst, append_assoc, append-nil}
use Rattle.slice_num.specs.Pieces.{with_part}

-- what holds where there is no such part, and at each part, holds of the choice
pub part_by : {A R : Type 0} (P : R → Type 0) (done xs : List A) (k : ℕ) (other : R) (go : List A → A → List A → R) → P other
    → ((before : List A) (x : A) (after : List A) → xs ≡ before ++ x ∷ after → k ≡ length before → P (go (done ++ before) x after)) → P (with_part done xs k other go)
part_by P done [] k other go h f = h
part_by P done (x ∷ xs) zero other go h f = subst (λ ds. P (go ds x xs)) (append-nil done) (f [] x xs refl refl)
part_by P done (x ∷ xs) (suc k) other go h f =
    part_by P (done ++ x ∷ []) xs k other go h
    (λ before y after e n. subst (λ ds. P (go ds y after)) (sym (append_assoc done (x ∷ []) before)) (f (x ∷ before) y after (ap (λ zs. x ∷ zs) e) (ap suc n)))

-- the part after so many others
part_after : {A R : Type 0} (done before : List A) (x : A) (after : List A) (other : R) (go : List A → A → List A → R) → with_part done (before ++ x ∷ after) (length before) other go ≡ go (done ++ before) x after
part_after done [] x after other go = ap (λ ds. go ds x after) (sym (append-nil done))
part_after done (y ∷ before) x after other go = part_after (done ++ y ∷ []) before x after other go ∙ ap (λ ds. go ds x after) (append_assoc done (y ∷ []) before)

pub part_at : {A R : Type 0} (xs before : List A) (x : A) (after : List A) (k : ℕ) (other : R) (go : List A → A → List A → R) → xs ≡ before ++ x ∷ after → k ≡ length before
    → with_part [] xs k other go ≡ go before x after
part_at xs before x after k other go e n = (λ i. with_part [] (e i) (n i) other go) ∙ part_after [] before x after other go

-- a list is split at a number in one way
pub record SameSplit {A : Type 0} (b : List A) (x : A) (a c : List A) (y : A) (d : List A) : Type 0 where
  pub front : b ≡ c
  pub item : x ≡ y
  pub rest : a ≡ d

pub same_split : {A : Type 0} (b : List A) (x : A) (a c : List A) (y : A) (d : List A) → b ++ x ∷ a ≡ c ++ y ∷ d → length b ≡ length c → SameSplit b x a c y d
same_split [] x a [] y d e n = record { front = refl; item = cc; rest = cc }
same_split [] x a (z ∷ c) y d e n = absurd (omega (arith, n))
same_split (u ∷ b) x a [] y d e n = absurd (omega (arith, n))
same_split (u ∷ b) x a (z ∷ c) y d e n =
    let first : u ≡ z = cc in
    let others : b ++ x ∷ a ≡ c ++ y ∷ d = cc in
    let rest = same_split b x a c y d others (omega (arith, n)) in
    record { front = (λ i. first i ∷ rest.front i); item = rest.item; rest = rest.rest }

-- the same of two choices at once
pub parts_both : {A R S : Type 0} (P : R → S → Type 0) (done xs : List A) (k : ℕ) (one : R) (go : List A → A → List A → R) (two : S) (on : List A → A → List A → S) → P one two
    → ((before : List A) (x : A) (after : List A) → xs ≡ before ++ x ∷ after → k ≡ length before → P (go (done ++ before) x after) (on (done ++ before) x after)) → P (with_part done xs k one go) (with_part done xs k two on)
parts_both P done [] k one go two on h f = h
parts_both P done (x ∷ xs) zero one go two on h f = subst (λ ds. P (go ds x xs) (on ds x xs)) (append-nil done) (f [] x xs refl refl)
parts_both P done (x ∷ xs) (suc k) one go two on h f =
    parts_both P (done ++ x ∷ []) xs k one go two on h
    (λ before y after e n. subst (λ ds. P (go ds y after) (on ds y after)) (sym (append_assoc done (x ∷ []) before)) (f (x ∷ before) y after (ap (λ zs. x ∷ zs) e) (ap suc n)))

-- there is no such part
pub part_none : {A R : Type 0} (done xs : List A) (k : ℕ) (other : R) (go : List A → A → List A → R) → length xs ≤ k → with_part done xs k other go ≡ other
part_none done [] k other go h = refl
part_none done (x ∷ xs) zero other go h = absurd (omega (arith, h))
part_none done (x ∷ xs) (suc k) other go h = part_none (done ++ x ∷ []) xs k other go (omega (arith, h))

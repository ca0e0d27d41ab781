-- What a merge makes: sums of coefficients, key by key.
use Rattle.std.proofs.Common.{◌≡◌, ◌∙◌, ◌&&◌, arith, refl, sym, ap, subst, Bool, true, false, List, [], ◌∷◌}
use Rattle.std.specs.Prelude.{if◌then◌else◌}
use Rattle.slice_num.specs.Rational.{Rational, plus}
use Rattle.slice_num.proofs.Laws.{plus_zero}
use Rattle.slice_num.proofs.FieldLaws.{plus_zero_right}
use Rattle.slice_num.specs.declared.key.Key.{Key}
use Rattle.slice_linear.specs.declared.forms.Term.{Term}
use Rattle.slice_linear.specs.TermOrder.{is_before, AllAfter, AreTerms}
use Rattle.slice_linear.specs.Terms.{is_same, coef_of, raw_sum_fits, sum_fits, IsFormSum, SumsFit}
use Rattle.slice_linear.specs.TermSteps.{both, kept}
use Rattle.slice_linear.proofs.Coefs.{before_of_same, same_self, neither_before, coef_after, after_trans, coef_kept, terms_kept, after_kept, fits_left, fits_right, fits_some}
use Rattle.slice_linear.proofs.Merge.{into, merge, into_fits, merge_fits}

-- zs is the sum of xs and ys, and the test tells whether all numbers fit
pub record Merged (xs ys zs : List Term) (fit : Bool) : Type 0 where
  pub sums : IsFormSum xs ys zs
  pub all_fit : fit ≡ true → SumsFit xs ys
  pub fit_is : SumsFit xs ys → fit ≡ true
  pub terms : AreTerms zs
  pub after : (b : Key) → AllAfter b xs → AllAfter b ys → AllAfter b zs

-- the first term is one of xs
first_left : (x : Term) (xs ys zs : List Term) (fit : Bool) → AreTerms (x ∷ xs) → AllAfter x.key ys → Merged xs ys zs fit → Merged (x ∷ xs) ys (x ∷ zs) fit
first_left x xs ys zs fit t a m = record {
  sums = λ k. sums k (is_same x.key k) refl;
  all_fit = λ e k. fits_in (m.all_fit e) k (is_same x.key k) refl;
  fit_is = λ h. m.fit_is (λ k. fits_out k (h k) (is_same x.key k) refl);
  terms = (t.0, (m.after x.key t.1.0 a, m.terms));
  after = λ b p q. (p.0, m.after b p.1 q);
}
  where
    sums : (k : Key) (s : Bool) → is_same x.key k ≡ s → (if s then x.coef else coef_of zs k) ≡ plus (if s then x.coef else coef_of xs k) (coef_of ys k)
    sums k true e = sym (ap (plus x.coef) (coef_after x.key ys k a e) ∙ plus_zero_right x.coef)
    sums k false e = m.sums k

    fits_in : SumsFit xs ys → (k : Key) (s : Bool) → is_same x.key k ≡ s → sum_fits (if s then x.coef else coef_of xs k) (coef_of ys k) ≡ true
    fits_in h k true e = ap (sum_fits x.coef) (coef_after x.key ys k a e) ∙ fits_right x.coef
    fits_in h k false e = h k

    fits_out : (k : Key) → sum_fits (coef_of (x ∷ xs) k) (coef_of ys k) ≡ true → (s : Bool) → is_same x.key k ≡ s → sum_fits (coef_of xs k) (coef_of ys k) ≡ true
    fits_out k h true e = ap (λ (q : Rational). sum_fits q (coef_of ys k)) (coef_after x.key xs k t.1.0 e) ∙ fits_left (coef_of ys k)
    fits_out k h false e = subst (λ (s : Bool). sum_fits (if s then x.coef else coef_of xs k) (coef_of ys k) ≡ true) e h

-- or one of ys
first_right : (y : Term) (xs ys zs : List Term) (fit : Bool) → AreTerms (y ∷ ys) → AllAfter y.key xs → Merged xs ys zs fit → Merged xs (y ∷ ys) (y ∷ zs) fit
first_right y xs ys zs fit t a m = record {
  sums = λ k. sums k (is_same y.key k) refl;
  all_fit = λ e k. fits_in (m.all_fit e) k (is_same y.key k) refl;
  fit_is = λ h. m.fit_is (λ k. fits_out k (h k) (is_same y.key k) refl);
  terms = (t.0, (m.after y.key a t.1.0, m.terms));
  after = λ b p q. (q.0, m.after b p q.1);
}
  where
    sums : (k : Key) (s : Bool) → is_same y.key k ≡ s → (if s then y.coef else coef_of zs k) ≡ plus (coef_of xs k) (if s then y.coef else coef_of ys k)
    sums k true e = sym (ap (λ (q : Rational). plus q y.coef) (coef_after y.key xs k a e) ∙ plus_zero y.coef)
    sums k false e = m.sums k

    fits_in : SumsFit xs ys → (k : Key) (s : Bool) → is_same y.key k ≡ s → sum_fits (coef_of xs k) (if s then y.coef else coef_of ys k) ≡ true
    fits_in h k true e = ap (λ (q : Rational). sum_fits q y.coef) (coef_after y.key xs k a e) ∙ fits_left y.coef
    fits_in h k false e = h k

    fits_out : (k : Key) → sum_fits (coef_of xs k) (coef_of (y ∷ ys) k) ≡ true → (s : Bool) → is_same y.key k ≡ s → sum_fits (coef_of xs k) (coef_of ys k) ≡ true
    fits_out k h true e = ap (sum_fits (coef_of xs k)) (coef_after y.key ys k t.1.0 e) ∙ fits_right (coef_of xs k)
    fits_out k h false e = subst (λ (s : Bool). sum_fits (coef_of xs k) (if s then y.coef else coef_of ys k) ≡ true) e h

-- or both have one for the key
first_both :
    (x y : Term) (xs ys zs : List Term) (fit : Bool) → AreTerms (x ∷ xs) → AreTerms (y ∷ ys) → is_before x.key y.key ≡ false → is_before y.key x.key ≡ false
    → Merged xs ys zs fit → Merged (x ∷ xs) (y ∷ ys) (kept (both x y) zs) (raw_sum_fits x.coef y.coef && fit)
first_both x y xs ys zs fit t u p q m = record {
  sums = λ k. coef_kept (both x y) zs k ahead ∙ sums k (is_same x.key k) refl;
  all_fit = λ e k. fits_in (m.all_fit (and_right (raw_sum_fits x.coef y.coef) fit e)) (and_left (raw_sum_fits x.coef y.coef) fit e) k (is_same x.key k) refl;
  fit_is = λ h. and_both (raw_sum_fits x.coef y.coef) fit (sym (fits_some x.coef y.coef t.0 u.0) ∙ at_key h) (m.fit_is (λ k. fits_out h k (is_same x.key k) refl));
  terms = terms_kept (both x y) zs ahead m.terms;
  after = λ b r s. after_kept b (both x y) zs r.0 (m.after b r.1 s.1);
}
  where
    and_left : (a b : Bool) → a && b ≡ true → a ≡ true
    and_left a b e = grind arith

    and_right : (a b : Bool) → a && b ≡ true → b ≡ true
    and_right a b e = grind arith

    and_both : (a b : Bool) → a ≡ true → b ≡ true → a && b ≡ true
    and_both a b e f = grind arith

    same : (k : Key) → is_same x.key k ≡ is_same y.key k
    same k = neither_before x.key y.key k p q

    right_after : (ts : List Term) → AllAfter y.key ts → AllAfter x.key ts
    right_after [] h = tt
    right_after (r ∷ rs) h = (before_of_same x.key y.key r.key p q h.0, right_after rs h.1)

    ahead : AllAfter x.key zs
    ahead = m.after x.key t.1.0 (right_after ys u.1.0)

    right : (k : Key) (s : Bool) → is_same x.key k ≡ s → coef_of (y ∷ ys) k ≡ (if s then y.coef else coef_of ys k)
    right k s e = ap (λ (b : Bool). if b then y.coef else coef_of ys k) (sym (same k) ∙ e)

    left : (k : Key) (s : Bool) → is_same x.key k ≡ s → coef_of (x ∷ xs) k ≡ (if s then x.coef else coef_of xs k)
    left k s e = ap (λ (b : Bool). if b then x.coef else coef_of xs k) e

    fits_at : (k : Key) (s : Bool) → is_same x.key k ≡ s → sum_fits (coef_of (x ∷ xs) k) (coef_of (y ∷ ys) k) ≡ sum_fits (if s then x.coef else coef_of xs k) (if s then y.coef else coef_of ys k)
    fits_at k s e = λ i. sum_fits (left k s e i) (right k s e i)

    at_key : SumsFit (x ∷ xs) (y ∷ ys) → sum_fits x.coef y.coef ≡ true
    at_key h = sym (fits_at x.key true (same_self x.key)) ∙ h x.key

    sums : (k : Key) (s : Bool) → is_same x.key k ≡ s → (if s then plus x.coef y.coef else coef_of zs k) ≡ plus (if s then x.coef else coef_of xs k) (coef_of (y ∷ ys) k)
    sums k true e = ap (plus x.coef) (sym (right k true e))
    sums k false e = m.sums k ∙ ap (plus (coef_of xs k)) (sym (right k false e))

    fits_in : SumsFit xs ys → raw_sum_fits x.coef y.coef ≡ true → (k : Key) (s : Bool) → is_same x.key k ≡ s → sum_fits (if s then x.coef else coef_of xs k) (coef_of (y ∷ ys) k) ≡ true
    fits_in h r k true e = ap (sum_fits x.coef) (right k true e) ∙ fits_some x.coef y.coef t.0 u.0 ∙ r
    fits_in h r k false e = ap (sum_fits (coef_of xs k)) (right k false e) ∙ h k

    fits_out : SumsFit (x ∷ xs) (y ∷ ys) → (k : Key) (s : Bool) → is_same x.key k ≡ s → sum_fits (coef_of xs k) (coef_of ys k) ≡ true
    fits_out h k true e = ap (λ (c : Rational). sum_fits c (coef_of ys k)) (coef_after x.key xs k t.1.0 e) ∙ fits_left (coef_of ys k)
    fits_out h k false e = sym (fits_at k false e) ∙ h k

merged_into :
    (x : Term) (xs : List Term) → AreTerms (x ∷ xs) → ((zs : List Term) → AreTerms zs → Merged xs zs (merge xs zs) (merge_fits xs zs))
    → (ys : List Term) → AreTerms ys → Merged (x ∷ xs) ys (into x (merge xs) ys) (into_fits x (merge_fits xs) ys)
merged_into x xs t h [] u = first_left x xs [] (merge xs []) (merge_fits xs []) t tt (h [] tt)
merged_into x xs t h (y ∷ ys) u = by (is_before x.key y.key) (is_before y.key x.key) refl refl (merged_into x xs t h ys u.1.1)
  where
    by : (p q : Bool) → is_before x.key y.key ≡ p → is_before y.key x.key ≡ q → Merged (x ∷ xs) ys (into x (merge xs) ys) (into_fits x (merge_fits xs) ys)
        → Merged (x ∷ xs) (y ∷ ys) (if p then x ∷ merge xs (y ∷ ys) else (if q then y ∷ into x (merge xs) ys else kept (both x y) (merge xs ys)))
        (if p then merge_fits xs (y ∷ ys) else (if q then into_fits x (merge_fits xs) ys else raw_sum_fits x.coef y.coef && merge_fits xs ys))
    by true q e f m = first_left x xs (y ∷ ys) (merge xs (y ∷ ys)) (merge_fits xs (y ∷ ys)) t (e, after_trans x.key y.key ys e u.1.0) (h (y ∷ ys) u)
    by false true e f m = first_right y (x ∷ xs) ys (into x (merge xs) ys) (into_fits x (merge_fits xs) ys) u (f, after_trans y.key x.key xs f t.1.0) m
    by false false e f m = first_both x y xs ys (merge xs ys) (merge_fits xs ys) t u e f (h ys u.1.1)

pub merged : (xs ys : List Term) → AreTerms xs → AreTerms ys → Merged xs ys (merge xs ys) (merge_fits xs ys)
merged [] ys t u = record {
  sums = λ k. sym (plus_zero (coef_of ys k));
  all_fit = λ e k. fits_left (coef_of ys k);
  fit_is = λ h. refl;
  terms = u;
  after = λ b p q. q;
}
merged (x ∷ xs) ys t u = merged_into x xs t (λ zs v. merged xs zs t.1.1 v) ys u

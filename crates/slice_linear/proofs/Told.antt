-- Forms are told by their coefficients.
use Rattle.std.proofs.Common.{◌≡◌, ◌∙◌, arith, refl, sym, ap, Bool, true, false, List, [], ◌∷◌, pos}
use Rattle.std.specs.Prelude.{if◌then◌else◌}
use Rattle.std.proofs.lemmas.Bool.Decides.{nat_tests}
use Rattle.slice_num.specs.Rational.{whole}
use Rattle.slice_num.specs.declared.key.Key.{Key}
use Rattle.slice_linear.specs.declared.forms.Term.{Term}
use Rattle.slice_linear.specs.Terms.{coef_of, is_same, is_zero}
use Rattle.slice_linear.specs.TermOrder.{AllAfter, FormsAreTold, is_before}
use Rattle.slice_linear.proofs.Coefs.{after_trans, coef_after, same_self, zero_zero}

abbrev SameCoefs : List Term → List Term → Type 0
SameCoefs xs ys = (k : Key) → coef_of xs k ≡ coef_of ys k

-- the first term's coefficient
coef_first : (t : Term) (ts : List Term) (k : Key) → is_same t.key k ≡ true → coef_of (t ∷ ts) k ≡ t.coef
coef_first t ts k e = ap (λ (b : Bool). if b then t.coef else coef_of ts k) e

-- which the terms after its key can't have
no_other : (t : Term) (ts us : List Term) → is_zero t.coef ≡ false → AllAfter t.key us → coef_of (t ∷ ts) t.key ≡ coef_of us t.key → ⊥
no_other t ts us some after e =
    let z : t.coef ≡ whole (pos 0) = sym (coef_first t ts t.key (same_self t.key)) ∙ e ∙ coef_after t.key us t.key after (same_self t.key) in
    let y : is_zero t.coef ≡ true = ap is_zero z ∙ zero_zero in
    cc

same_key : (a b : Key) → is_before a b ≡ false → is_before b a ≡ false → a ≡ b
same_key a b h e =
    let p : a.agent ≡ b.agent = grind (arith, nat_tests) in
    let q : a.atom ≡ b.atom = grind (arith, nat_tests) in
    λ i. record { agent = p i; atom = q i }

-- the rests have the same coefficients
rests : (x y : Term) (xs ys : List Term) → x.key ≡ y.key → AllAfter x.key xs → AllAfter y.key ys → SameCoefs (x ∷ xs) (y ∷ ys) → SameCoefs xs ys
rests x y xs ys e a b h k = by (is_same x.key k) (is_same y.key k) refl refl (h k)
  where
    same : is_same x.key k ≡ is_same y.key k
    same = ap (λ (j : Key). is_same j k) e

    by : (p q : Bool) → is_same x.key k ≡ p → is_same y.key k ≡ q → (if p then x.coef else coef_of xs k) ≡ (if q then y.coef else coef_of ys k) → coef_of xs k ≡ coef_of ys k
    by true true f g m = coef_after x.key xs k a f ∙ sym (coef_after y.key ys k b g)
    by true false f g m = cc
    by false true f g m = cc
    by false false f g m = m

pub forms_are_told : FormsAreTold
forms_are_told [] [] t u h = refl
forms_are_told [] (y ∷ ys) t u h = absurd (no_other y ys [] u.0 tt (sym (h y.key)))
forms_are_told (x ∷ xs) [] t u h = absurd (no_other x xs [] t.0 tt (h x.key))
forms_are_told (x ∷ xs) (y ∷ ys) t u h = by (is_before x.key y.key) (is_before y.key x.key) refl refl (forms_are_told xs ys t.1.1 u.1.1)
  where
    by : (p q : Bool) → is_before x.key y.key ≡ p → is_before y.key x.key ≡ q → (SameCoefs xs ys → xs ≡ ys) → (x ∷ xs) ≡ (y ∷ ys)
    by true q f g rest = absurd (no_other x xs (y ∷ ys) t.0 (f, after_trans x.key y.key ys f u.1.0) (h x.key))
    by false true f g rest = absurd (no_other y ys (x ∷ xs) u.0 (g, after_trans y.key x.key xs g t.1.0) (sym (h y.key)))
    by false false f g rest =
        let e : x.key ≡ y.key = same_key x.key y.key f g in
        let c : x.coef ≡ y.coef = sym (coef_first x xs x.key (same_self x.key)) ∙ h x.key ∙ coef_first y ys x.key (ap (λ (j : Key). is_same j x.key) (sym e) ∙ same_self x.key) in
        let r : xs ≡ ys = rest (rests x y xs ys e t.1.0 u.1.0 h) in
        λ i. record { key = e i; coef = c i } ∷ r i

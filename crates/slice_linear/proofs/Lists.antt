-- Lists of terms that are made term by term.
use Rattle.std.proofs.Common.{◌≡◌, ◌∙◌, ◌&&◌, arith, refl, sym, ap, Bool, true, false, List, [], ◌∷◌, pos}
use Rattle.std.specs.Prelude.{⊤, if◌then◌else◌, map}
use Rattle.std.proofs.lemmas.Bool.Decides.{nat_tests}
use Rattle.slice_num.specs.Rational.{Rational, plus, times, negated, whole, ratio}
use Rattle.slice_num.specs.Fitting.{rational_fits}
use Rattle.slice_num.specs.Gcd.{gcd_of, gcd_steps}
use Rattle.slice_num.proofs.FieldLaws.{times_zero, whole_negated, plus_zero_right, minus_same}
use Rattle.slice_num.specs.declared.key.Key.{Key}
use Rattle.slice_linear.specs.declared.forms.Term.{Term}
use Rattle.slice_linear.specs.TermOrder.{is_before, AllAfter, AreTerms}
use Rattle.slice_linear.specs.Terms.{is_same, coef_of, is_zero, IsFormMultiple, ProductsFit}
use Rattle.slice_linear.specs.TermSteps.{kept, multiple}
use Rattle.slice_linear.proofs.Coefs.{coef_after, after_trans, coef_kept, terms_kept, after_kept, zero_is, zero_zero, same_self}

-- ---- all but one key
abbrev pub others : Key → List Term → List Term
others k [] = []
others k (t ∷ ts) = if is_same t.key k then others k ts else t ∷ others k ts

same_both : (a b c : Key) → is_same a b ≡ true → is_same a c ≡ is_same b c
same_both a b c e = grind (arith, nat_tests)

same_turn : (a b : Key) → is_same a b ≡ is_same b a
same_turn a b = grind (arith, nat_tests)

pub coef_others : (j : Key) (ts : List Term) (k : Key) → coef_of (others j ts) k ≡ (if is_same j k then whole (pos 0) else coef_of ts k)
coef_others j [] k = by (is_same j k)
  where
    by : (b : Bool) → whole (pos 0) ≡ (if b then whole (pos 0) else whole (pos 0))
    by true = refl
    by false = refl
coef_others j (t ∷ ts) k = by (is_same t.key j) (is_same j k) (is_same t.key k) refl refl refl (coef_others j ts k)
  where
    by :
        (p q r : Bool) → is_same t.key j ≡ p → is_same j k ≡ q → is_same t.key k ≡ r → coef_of (others j ts) k ≡ (if is_same j k then whole (pos 0) else coef_of ts k)
        → coef_of (if p then others j ts else t ∷ others j ts) k ≡ (if q then whole (pos 0) else (if r then t.coef else coef_of ts k))
    by true true r e f g h = h ∙ ap (λ (b : Bool). if b then whole (pos 0) else coef_of ts k) f
    by true false true e f g h = let x = same_both t.key j k e in cc
    by true false false e f g h = h ∙ ap (λ (b : Bool). if b then whole (pos 0) else coef_of ts k) f
    by false true true e f g h = let x : is_same t.key j ≡ true = grind (arith, nat_tests) in cc
    by false true false e f g h = ap (λ (b : Bool). if b then t.coef else coef_of (others j ts) k) g ∙ h ∙ ap (λ (b : Bool). if b then whole (pos 0) else coef_of ts k) f
    by false false true e f g h = ap (λ (b : Bool). if b then t.coef else coef_of (others j ts) k) g
    by false false false e f g h = ap (λ (b : Bool). if b then t.coef else coef_of (others j ts) k) g ∙ h ∙ ap (λ (b : Bool). if b then whole (pos 0) else coef_of ts k) f

after_others : (b j : Key) (ts : List Term) → AllAfter b ts → AllAfter b (others j ts)
after_others b j [] h = tt
after_others b j (t ∷ ts) h = by (is_same t.key j) (after_others b j ts h.1)
  where
    by : (p : Bool) → AllAfter b (others j ts) → AllAfter b (if p then others j ts else t ∷ others j ts)
    by true r = r
    by false r = (h.0, r)

pub terms_others : (j : Key) (ts : List Term) → AreTerms ts → AreTerms (others j ts)
terms_others j [] h = tt
terms_others j (t ∷ ts) h = by (is_same t.key j) (terms_others j ts h.1.1)
  where
    by : (p : Bool) → AreTerms (others j ts) → AreTerms (if p then others j ts else t ∷ others j ts)
    by true r = r
    by false r = (h.0, (after_others t.key j ts h.1.0, r))

-- ---- negated
abbrev pub minus_term : Term → Term
minus_term t = record { key = t.key; coef = negated t.coef }

negated_zero : negated (whole (pos 0)) ≡ whole (pos 0)
negated_zero = sym (whole_negated (pos 0))

pub coef_minus : (ts : List Term) (k : Key) → coef_of (map minus_term ts) k ≡ negated (coef_of ts k)
coef_minus [] k = sym negated_zero
coef_minus (t ∷ ts) k = by (is_same t.key k) (coef_minus ts k)
  where
    by : (b : Bool) → coef_of (map minus_term ts) k ≡ negated (coef_of ts k) → (if b then negated t.coef else coef_of (map minus_term ts) k) ≡ negated (if b then t.coef else coef_of ts k)
    by true r = refl
    by false r = r

after_minus : (b : Key) (ts : List Term) → AllAfter b ts → AllAfter b (map minus_term ts)
after_minus b [] h = tt
after_minus b (t ∷ ts) h = (h.0, after_minus b ts h.1)

pub zero_negated : (q : Rational) → is_zero q ≡ false → is_zero (negated q) ≡ false
zero_negated q e = by (is_zero (negated q)) refl
  where
    by : (b : Bool) → is_zero (negated q) ≡ b → b ≡ false
    by true f =
        let z : q ≡ whole (pos 0) = sym (plus_zero_right q) ∙ ap (plus q) (sym (zero_is (negated q) f)) ∙ minus_same q q refl in
        let y : is_zero q ≡ true = ap is_zero z ∙ zero_zero in
        cc
    by false f = refl

pub terms_minus : (ts : List Term) → AreTerms ts → AreTerms (map minus_term ts)
terms_minus [] h = tt
terms_minus (t ∷ ts) h = (zero_negated t.coef h.0, (after_minus t.key ts h.1.0, terms_minus ts h.1.1))

-- ---- times a number
abbrev pub scaled : Rational → List Term → List Term
scaled c [] = []
scaled c (t ∷ ts) = kept (multiple c t) (scaled c ts)

abbrev pub scaled_fits : Rational → List Term → Bool
scaled_fits c [] = true
scaled_fits c (t ∷ ts) = rational_fits (times c t.coef) && scaled_fits c ts

pub after_scaled : (c : Rational) (b : Key) (ts : List Term) → AllAfter b ts → AllAfter b (scaled c ts)
after_scaled c b [] h = tt
after_scaled c b (t ∷ ts) h = after_kept b (multiple c t) (scaled c ts) h.0 (after_scaled c b ts h.1)

pub terms_scaled : (c : Rational) (ts : List Term) → AreTerms ts → AreTerms (scaled c ts)
terms_scaled c [] h = tt
terms_scaled c (t ∷ ts) h = terms_kept (multiple c t) (scaled c ts) (after_scaled c t.key ts h.1.0) (terms_scaled c ts h.1.1)

pub coef_scaled : (c : Rational) (ts : List Term) → AreTerms ts → IsFormMultiple c ts (scaled c ts)
coef_scaled c [] h k = sym (times_zero c)
coef_scaled c (t ∷ ts) h k = coef_kept (multiple c t) (scaled c ts) k (after_scaled c t.key ts h.1.0) ∙ by (is_same t.key k) (coef_scaled c ts h.1.1 k)
  where
    by : (b : Bool) → coef_of (scaled c ts) k ≡ times c (coef_of ts k) → (if b then times c t.coef else coef_of (scaled c ts) k) ≡ times c (if b then t.coef else coef_of ts k)
    by true r = refl
    by false r = r

pub zero_fits : rational_fits (whole (pos 0)) ≡ true
unfolding ratio gcd_of gcd_steps
zero_fits = refl

and_left : (a b : Bool) → a && b ≡ true → a ≡ true
and_left a b e = grind arith

and_right : (a b : Bool) → a && b ≡ true → b ≡ true
and_right a b e = grind arith

and_both : (a b : Bool) → a ≡ true → b ≡ true → a && b ≡ true
and_both a b e f = grind arith

pub products_in : (c : Rational) (ts : List Term) → scaled_fits c ts ≡ true → ProductsFit c ts
products_in c [] e k = ap rational_fits (times_zero c) ∙ zero_fits
products_in c (t ∷ ts) e k = by (is_same t.key k) (products_in c ts (and_right (rational_fits (times c t.coef)) (scaled_fits c ts) e) k)
  where
    by : (b : Bool) → rational_fits (times c (coef_of ts k)) ≡ true → rational_fits (times c (if b then t.coef else coef_of ts k)) ≡ true
    by true r = and_left (rational_fits (times c t.coef)) (scaled_fits c ts) e
    by false r = r

pub products_out : (c : Rational) (ts : List Term) → AreTerms ts → ProductsFit c ts → scaled_fits c ts ≡ true
products_out c [] h f = refl
products_out c (t ∷ ts) h f =
    and_both (rational_fits (times c t.coef)) (scaled_fits c ts)
    (sym (ap (λ (b : Bool). rational_fits (times c (if b then t.coef else coef_of ts t.key))) (same_self t.key)) ∙ f t.key)
    (products_out c ts h.1.1 (λ k. by k (is_same t.key k) refl))
  where
    by : (k : Key) (b : Bool) → is_same t.key k ≡ b → rational_fits (times c (coef_of ts k)) ≡ true
    by k true e = ap (λ (q : Rational). rational_fits (times c q)) (coef_after t.key ts k h.1.0 e) ∙ ap rational_fits (times_zero c) ∙ zero_fits
    by k false e = sym (ap (λ (b : Bool). rational_fits (times c (if b then t.coef else coef_of ts k))) e) ∙ f k

-- ---- put at its place
abbrev pub placed : Term → List Term → List Term
placed t [] = t ∷ []
placed t (u ∷ us) = if is_before u.key t.key then u ∷ placed t us else t ∷ u ∷ us

abbrev Absent : Key → List Term → Type 0
Absent k [] = ⊤
Absent k (t ∷ ts) = (is_same t.key k ≡ false) × Absent k ts

absent : (k : Key) (ts : List Term) → AreTerms ts → coef_of ts k ≡ whole (pos 0) → Absent k ts
absent k [] h e = tt
absent k (t ∷ ts) h e = by (is_same t.key k) refl e (absent k ts h.1.1)
  where
    by : (b : Bool) → is_same t.key k ≡ b → (if b then t.coef else coef_of ts k) ≡ whole (pos 0) → (coef_of ts k ≡ whole (pos 0) → Absent k ts) → (is_same t.key k ≡ false) × Absent k ts
    by true f g r = let z : is_zero t.coef ≡ true = ap is_zero g ∙ zero_zero in let n = h.0 in let w : ⊥ = cc in absurd w
    by false f g r = (f, r g)

after_placed : (b : Key) (t : Term) (ts : List Term) → is_before b t.key ≡ true → AllAfter b ts → AllAfter b (placed t ts)
after_placed b t [] h a = (h, tt)
after_placed b t (u ∷ us) h a = by (is_before u.key t.key) (after_placed b t us h a.1)
  where
    by : (p : Bool) → AllAfter b (placed t us) → AllAfter b (if p then u ∷ placed t us else t ∷ u ∷ us)
    by true r = (a.0, r)
    by false r = (h, a)

before_if : (u t : Key) → is_before u t ≡ false → is_same u t ≡ false → is_before t u ≡ true
before_if u t e f = grind (arith, nat_tests)

terms_put : (t : Term) (ts : List Term) → is_zero t.coef ≡ false → Absent t.key ts → AreTerms ts → AreTerms (placed t ts)
terms_put t [] z a h = (z, (tt, tt))
terms_put t (u ∷ us) z a h = by (is_before u.key t.key) refl (terms_put t us z a.1 h.1.1)
  where
    by : (p : Bool) → is_before u.key t.key ≡ p → AreTerms (placed t us) → AreTerms (if p then u ∷ placed t us else t ∷ u ∷ us)
    by true e r = (h.0, (after_placed u.key t us e h.1.0, r))
    by false e r =
        let f = before_if u.key t.key e a.0 in
        (z, ((f, after_trans t.key u.key us f h.1.0), h))

pub terms_placed : (t : Term) (ts : List Term) → is_zero t.coef ≡ false → coef_of ts t.key ≡ whole (pos 0) → AreTerms ts → AreTerms (placed t ts)
terms_placed t ts z e h = terms_put t ts z (absent t.key ts h e) h

coef_put : (t : Term) (ts : List Term) → Absent t.key ts → (k : Key) → coef_of (placed t ts) k ≡ (if is_same t.key k then t.coef else coef_of ts k)
coef_put t [] a k = refl
coef_put t (u ∷ us) a k = by (is_before u.key t.key) (coef_put t us a.1 k)
  where
    both : (p q : Bool) → is_same u.key k ≡ p → is_same t.key k ≡ q
        → (if p then u.coef else (if q then t.coef else coef_of us k)) ≡ (if q then t.coef else (if p then u.coef else coef_of us k))
    both true true e f = let x : is_same u.key t.key ≡ true = grind (arith, nat_tests) in let y = a.0 in cc
    both true false e f = refl
    both false q e f = refl

    by : (b : Bool) → coef_of (placed t us) k ≡ (if is_same t.key k then t.coef else coef_of us k)
        → coef_of (if b then u ∷ placed t us else t ∷ u ∷ us) k ≡ (if is_same t.key k then t.coef else (if is_same u.key k then u.coef else coef_of us k))
    by true r = ap (λ (c : Rational). if is_same u.key k then u.coef else c) r ∙ both (is_same u.key k) (is_same t.key k) refl refl
    by false r = refl

pub coef_placed : (t : Term) (ts : List Term) → coef_of ts t.key ≡ whole (pos 0) → AreTerms ts → (k : Key) → coef_of (placed t ts) k ≡ (if is_same t.key k then t.coef else coef_of ts k)
coef_placed t ts e h = coef_put t ts (absent t.key ts h e)

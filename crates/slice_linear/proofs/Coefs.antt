-- Coefficients of lists of terms, one term at a time.
use Rattle.std.proofs.Common.{◌≡◌, ◌∙◌, ◌==◌, ◌&&◌, ◌||◌, lit<, arith, refl, sym, ap, Bool, true, false, List, [], ◌∷◌, pos}
use Rattle.std.specs.Prelude.{if◌then◌else◌}
use Rattle.std.proofs.lemmas.Bool.Decides.{Decides-int_eq, nat_tests}
use Rattle.std.proofs.lemmas.Int.{ints}
use Rattle.slice_num.specs.Rational.{Rational, whole, ratio}
use Rattle.slice_num.specs.Gcd.{gcd_of, gcd_steps}
use Rattle.slice_num.proofs.Ratio.{ratio_self, same_ratio, den_pos}
use Rattle.slice_num.specs.declared.key.Key.{Key}
use Rattle.slice_linear.specs.declared.forms.Term.{Term}
use Rattle.slice_linear.specs.TermOrder.{is_before, AllAfter, AreTerms}
use Rattle.slice_linear.specs.Terms.{is_same, coef_of, is_zero, raw_sum_fits, sum_fits}
use Rattle.slice_linear.specs.TermSteps.{kept}

pub before_not_same : (a b k : Key) → is_before a b ≡ true → is_same a k ≡ true → is_same b k ≡ false
before_not_same a b k h e = grind (arith, nat_tests)

pub before_trans : (a b c : Key) → is_before a b ≡ true → is_before b c ≡ true → is_before a c ≡ true
before_trans a b c h e = grind (arith, nat_tests)

pub neither_before : (a b k : Key) → is_before a b ≡ false → is_before b a ≡ false → is_same a k ≡ is_same b k
neither_before a b k h e =
    let p : a.agent ≡ b.agent = grind (arith, nat_tests) in
    let q : a.atom ≡ b.atom = grind (arith, nat_tests) in
    λ i. (p i == k.agent) && (q i == k.atom)

pub before_of_same : (a b c : Key) → is_before a b ≡ false → is_before b a ≡ false → is_before b c ≡ true → is_before a c ≡ true
before_of_same a b c h k e = grind (arith, nat_tests)

pub same_self : (k : Key) → is_same k k ≡ true
same_self k = grind (arith, nat_tests)

-- what comes after a key has no term for it
pub coef_after : (b : Key) (ts : List Term) (k : Key) → AllAfter b ts → is_same b k ≡ true → coef_of ts k ≡ whole (pos 0)
coef_after b [] k h e = refl
coef_after b (t ∷ ts) k h e = ap (λ (x : Bool). if x then t.coef else coef_of ts k) (before_not_same b t.key k h.0 e) ∙ coef_after b ts k h.1 e

pub after_trans : (a b : Key) (ts : List Term) → is_before a b ≡ true → AllAfter b ts → AllAfter a ts
after_trans a b [] h e = tt
after_trans a b (t ∷ ts) h e = (before_trans a b t.key h e.0, after_trans a b ts h e.1)

pub zero_num : (q : Rational) → q.num ≡ pos 0 → q ≡ whole (pos 0)
zero_num q e = ratio_self q ∙ same_ratio q.num (pos 0) q.den 1 (den_pos q) (lit< tt) (omega (arith, ints, e))

pub zero_is : (q : Rational) → is_zero q ≡ true → q ≡ whole (pos 0)
zero_is q e = zero_num q ((Decides-int_eq q.num (pos 0)).0 e)

-- a kept term before terms that come after it
pub coef_kept : (t : Term) (ts : List Term) (k : Key) → AllAfter t.key ts → coef_of (kept t ts) k ≡ (if is_same t.key k then t.coef else coef_of ts k)
coef_kept t ts k h = by (is_zero t.coef) refl
  where
    by : (z : Bool) → is_zero t.coef ≡ z → coef_of (if z then ts else t ∷ ts) k ≡ (if is_same t.key k then t.coef else coef_of ts k)
    by false e = refl
    by true e = by_key (is_same t.key k) refl
      where
        by_key : (b : Bool) → is_same t.key k ≡ b → coef_of ts k ≡ (if b then t.coef else coef_of ts k)
        by_key true f = coef_after t.key ts k h f ∙ sym (zero_is t.coef e)
        by_key false f = refl

pub terms_kept : (t : Term) (ts : List Term) → AllAfter t.key ts → AreTerms ts → AreTerms (kept t ts)
terms_kept t ts h k = by (is_zero t.coef) refl
  where
    by : (z : Bool) → is_zero t.coef ≡ z → AreTerms (if z then ts else t ∷ ts)
    by true e = k
    by false e = (e, (h, k))

pub after_kept : (b : Key) (t : Term) (ts : List Term) → is_before b t.key ≡ true → AllAfter b ts → AllAfter b (kept t ts)
after_kept b t ts h k = by (is_zero t.coef)
  where
    by : (z : Bool) → AllAfter b (if z then ts else t ∷ ts)
    by true = k
    by false = (h, k)

pub zero_zero : is_zero (whole (pos 0)) ≡ true
unfolding ratio gcd_of gcd_steps
zero_zero = refl

pub one_some : is_zero (whole (pos 1)) ≡ false
unfolding ratio gcd_of gcd_steps
one_some = refl

pub fits_left : (q : Rational) → sum_fits (whole (pos 0)) q ≡ true
fits_left q = ap (λ (z : Bool). z || (is_zero q || raw_sum_fits (whole (pos 0)) q)) zero_zero

pub fits_right : (q : Rational) → sum_fits q (whole (pos 0)) ≡ true
fits_right q = ap (λ (z : Bool). is_zero q || (z || raw_sum_fits q (whole (pos 0)))) zero_zero ∙ by (is_zero q)
  where
    by : (z : Bool) → z || (true || raw_sum_fits q (whole (pos 0))) ≡ true
    by true = refl
    by false = refl

-- where neither is 0 there is something to add
pub fits_some : (a b : Rational) → is_zero a ≡ false → is_zero b ≡ false → sum_fits a b ≡ raw_sum_fits a b
fits_some a b e f = λ i. e i || (f i || raw_sum_fits a b)

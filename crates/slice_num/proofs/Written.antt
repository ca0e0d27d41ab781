-- A text writes a fraction exactly where it is read as it.
use Rattle.std.proofs.Common.{◌≡◌, ◌≢◌, ◌∙◌, ℕ, zero, suc, ◌<◌, ◌≤◌, ◌^◌, ◌==◌, Bool, true, false, IsTrue, if◌then◌else◌, List, [], ◌∷◌, ◌++◌, length, Option, Some, None, Ok, Err, arith, refl, sym, ap, subst, append-nil}
use Rattle.std.proofs.lemmas.Bool.Decides.{nat_tests}
use Rattle.std.proofs.lemmas.Str.Parse.{IsNumeralModel, numerals_by_value, tells_all_ascii_digits, parse_plain, not_in_digits}
use Rattle.std.proofs.lemmas.Fmt.{decimal_is_IsNumeral_wide, length-decimal-le_wide}
use Rattle.std.proofs.lemmas.Int.{ints}
use Rattle.std.proofs.Math.Nat.{div-le_self}
use Rattle.std.specs.Prelude.{OkIff, Result, get_or, decimal, ℤ, pos, negsuc, unsigned_abs, ◌↔◌}
use Rattle.std.specs.Bool.{Decides}
use Rattle.std.specs.Result.{result_ok}
use Rattle.std.specs.Fmt.{signed_decimal}
use Rattle.std.specs.Str.{all_ascii_digits}
use Rattle.std.specs.Str.Parse.{ParsesUnsigned, digits_value}
use Rattle.slice_num.specs.Rational.{Rational, ratio, Fits}
use Rattle.slice_num.specs.Gcd.{gcd_of, divided}
use Rattle.slice_num.specs.Lowest.{unsigned_abs-divided}
use Rattle.slice_num.specs.Arithmetic.{signed, quotient, FitsRational}
use Rattle.slice_num.specs.FractionText.{fraction_text}
use Rattle.slice_num.proofs.Ratio.{ratio_self, den_pos}
use Rattle.slice_num.specs.FractionReading.{IsWritten, IsDenominator, sign_text, Writes, number_read, before_slash, behind_slash, denominator_read, fraction_over, unsigned_read, fraction_read}

-- a number
number_by : (b : Bool) (n m : ℕ) → (if b then Some n else None) ≡ Some m → IsTrue b × (n ≡ m)
number_by true n m e = (refl, cc)
number_by false n m e = absurd cc

pub number_out : (text : List ℕ) (n : ℕ) → number_read text ≡ Some n → IsWritten text n
number_out text n e =
    let h = number_by _ _ n e in
    let t = h.0 in
    let v = h.1 in
    record { digits = grind (arith, nat_tests); some = grind (arith, nat_tests); few = grind (arith, nat_tests); value = v; fits = grind (arith, nat_tests) }

number_if : (b : Bool) (n m : ℕ) → IsTrue b → n ≡ m → (if b then Some n else None) ≡ Some m
number_if true n m t e = ap Some e
number_if false n m t e = cc

pub number_in : (text : List ℕ) (n : ℕ) → IsWritten text n → number_read text ≡ Some n
number_in text n w =
    let a = w.digits in
    let b = w.some in
    let c = w.few in
    let d : digits_value 10 text < 2 ^ 127 = subst (λ x. x < 2 ^ 127) (sym w.value) w.fits in
    number_if _ _ n (grind (arith, nat_tests)) w.value

none_if : {A : Type 0} (r : Option A) → ((x : A) → r ≡ Some x → ⊥) → r ≡ None
none_if None h = refl
none_if (Some x) h = absurd (h x refl)

pub number_none : (text : List ℕ) → ((n : ℕ) → IsWritten text n → ⊥) → number_read text ≡ None
number_none text h = none_if (number_read text) (λ n e. h n (number_out text n e))

own : IsNumeralModel (λ ds. all_ascii_digits ds ≡ true) (digits_value 10)
own = numerals_by_value _ tells_all_ascii_digits

-- what `parse` gives
pub parsed : (E : Type 0) (text : List ℕ) (r : Result ℕ E) → ParsesUnsigned 128 10 text r → get_or text 0 0 ≢ 43
    → OkIff r ((all_ascii_digits text ≡ true) × (0 < length text) × (digits_value 10 text < 2 ^ 128)) (digits_value 10 text)
parsed E text r h first = parse_plain own 128 text r h first

pub number_given : (E : Type 0) (text : List ℕ) (n : ℕ) (r : Result ℕ E) → r ≡ Ok n → ParsesUnsigned 128 10 text r → get_or text 0 0 ≢ 43 → length text ≤ 39 → n < 2 ^ 127 → number_read text ≡ Some n
number_given E text n (Ok m) e h first few fits =
    let p = parsed E text (Ok m) h first in
    let same : m ≡ n = cc in
    number_in text n (record { digits = p.0.0; some = p.0.1; few = few; value = sym p.1 ∙ same; fits = fits })
number_given E text n (Err m) e h first few fits = cc

pub number_large : (E : Type 0) (text : List ℕ) (n : ℕ) (r : Result ℕ E) → r ≡ Ok n → ParsesUnsigned 128 10 text r → get_or text 0 0 ≢ 43 → 2 ^ 127 ≤ n → number_read text ≡ None
number_large E text n (Ok m) e h first large =
    let p = parsed E text (Ok m) h first in
    let same : m ≡ n = cc in
    let is : m ≡ digits_value 10 text = p.1 in
    number_none text (λ k w. let f = w.fits in let v : digits_value 10 text ≡ k = w.value in omega (arith, f, v, is, same, large))
number_large E text n (Err m) e h first large = cc

pub number_refused : (E : Type 0) (text : List ℕ) (x : E) (r : Result ℕ E) → r ≡ Err x → ParsesUnsigned 128 10 text r → get_or text 0 0 ≢ 43 → number_read text ≡ None
number_refused E text x (Ok m) e h first = cc
number_refused E text x (Err m) e h first =
    number_none text (λ k w. let f = w.fits in let v : digits_value 10 text ≡ k = w.value in parsed E text (Err m) h first (w.digits, w.some, omega (arith, f, v)))

pub no_plus : (text : List ℕ) → Decides false (get_or text 0 0 ≡ 43) → get_or text 0 0 ≢ 43
no_plus text d e = let f : false ≡ true = d.1 e in cc

if_other : {A : Type 0} (b : Bool) (x y : A) → (IsTrue b → ⊥) → (if b then x else y) ≡ y
if_other true x y h = absurd (h refl)
if_other false x y h = refl

-- no slash stands in the text
abbrev pub NoSlash : List ℕ → Type 0
NoSlash text = (i : ℕ) → i < length text → get_or text i 0 ≢ 47

first_other : (c : ℕ) (cs : List ℕ) → NoSlash (c ∷ cs) → IsTrue (c == 47) → ⊥
first_other c cs h t = h 0 (omega arith) (grind (arith, nat_tests))

digits_no_slash : (text : List ℕ) → IsTrue (all_ascii_digits text) → NoSlash text
digits_no_slash text h = not_in_digits own text 47 h (λ r. omega (arith, r))

digit_first : (c : ℕ) (cs : List ℕ) → IsTrue (all_ascii_digits (c ∷ cs)) → 48 ≤ c
digit_first c cs h = grind (arith, nat_tests)

pub slash_behind : (text rest : List ℕ) → NoSlash text → (before_slash (text ++ 47 ∷ rest) ≡ text) × (behind_slash (text ++ 47 ∷ rest) ≡ Some rest)
slash_behind [] rest h = (refl, refl)
slash_behind (c ∷ cs) rest h =
    let more = slash_behind cs rest (λ i l. h (suc i) (omega (arith, l))) in
    let other = first_other c cs h in
    (if_other (c == 47) _ _ other ∙ ap (λ x. c ∷ x) more.0, if_other (c == 47) _ _ other ∙ more.1)

pub slash_none : (text : List ℕ) → NoSlash text → (before_slash text ≡ text) × (behind_slash text ≡ None)
slash_none [] h = (refl, refl)
slash_none (c ∷ cs) h =
    let more = slash_none cs (λ i l. h (suc i) (omega (arith, l))) in
    let other = first_other c cs h in
    (if_other (c == 47) _ _ other ∙ ap (λ x. c ∷ x) more.0, if_other (c == 47) _ _ other ∙ more.1)

-- as the code splits the text
pub read_split : (negative : Bool) (text upper lower : List ℕ) → text ≡ upper ++ 47 ∷ lower → NoSlash upper
    → fraction_over negative (number_read upper) (number_read lower) ≡ unsigned_read negative text
read_split negative text upper lower e h =
    let s = slash_behind upper lower h in
    sym (ap (λ x. unsigned_read negative x) e ∙ (λ i. fraction_over negative (number_read (s.0 i)) (denominator_read (s.1 i))))

pub read_whole : (negative : Bool) (text : List ℕ) → NoSlash text → fraction_over negative (number_read text) (Some 1) ≡ unsigned_read negative text
read_whole negative text h =
    let s = slash_none text h in
    sym (λ i. fraction_over negative (number_read (s.0 i)) (denominator_read (s.1 i)))

signed_fits : (negative : Bool) (n : ℕ) → n < 2 ^ 127 → Fits (signed negative n)
signed_fits true zero h = h
signed_fits true (suc n) h = h
signed_fits false n h = h

-- both parts of the fraction are no larger than what is written
pub ratio_fits : (z : ℤ) (d : ℕ) → 0 < d → Fits z → d < 2 ^ 127 → FitsRational (ratio z d)
unfolding ratio
ratio_fits z zero p f g = absurd (omega (arith, p))
ratio_fits z (suc d) p f g =
    let k = gcd_of (unsigned_abs z) (suc d) in
    let num : unsigned_abs (divided z k) < 2 ^ 127 = omega (arith, unsigned_abs-divided z k, div-le_self (unsigned_abs z) k, f) in
    (num, omega (arith, div-le_self (suc d) k, g))

pub over_given : {E : Type 0} (negative : Bool) (n d : ℕ) (z : ℤ) (r : Result Rational E) → OkIff r ((pos d ≢ pos 0) × FitsRational (quotient z (pos d))) (quotient z (pos d))
    → z ≡ signed negative n → n < 2 ^ 127 → d < 2 ^ 127 → result_ok r ≡ fraction_over negative (Some n) (Some d)
over_given negative n zero z (Ok q) h e f g = absurd (h.0.0 refl)
over_given negative n (suc d) z (Ok q) h e f g = ap Some (h.1 ∙ ap (λ x. ratio x (suc d)) e)
over_given negative n zero z (Err x) h e f g = refl
over_given negative n (suc d) z (Err x) h e f g =
    absurd (h (λ i. absurd (omega (arith, ints, i)), ratio_fits z (suc d) (omega arith) (subst (λ y. Fits y) (sym e) (signed_fits negative n f)) g))

-- the text is what stands before the first slash, and the rest
abbrev tail_of : Option (List ℕ) → List ℕ
tail_of None = []
tail_of (Some text) = 47 ∷ text

split_by : (b : Bool) (c : ℕ) (cs : List ℕ) → (IsTrue b → c ≡ 47) → cs ≡ before_slash cs ++ tail_of (behind_slash cs)
    → c ∷ cs ≡ (if b then [] else c ∷ before_slash cs) ++ tail_of (if b then Some cs else behind_slash cs)
split_by true c cs is e = ap (λ x. x ∷ cs) (is refl)
split_by false c cs is e = ap (λ x. c ∷ x) e

split_text : (text : List ℕ) → text ≡ before_slash text ++ tail_of (behind_slash text)
split_text [] = refl
split_text (c ∷ cs) = split_by (c == 47) c cs (λ t. grind (arith, nat_tests)) (split_text cs)

-- a fraction of both parts
record Over (negative : Bool) (a b : Option ℕ) (q : Rational) : Type 0 where
  num : ℕ
  den : ℕ
  upper : a ≡ Some num
  lower : b ≡ Some den
  above : 0 < den
  value : q ≡ ratio (signed negative num) den

over_out : (negative : Bool) (a b : Option ℕ) (q : Rational) → fraction_over negative a b ≡ Some q → Over negative a b q
over_out negative None b q e = cc
over_out negative (Some n) None q e = cc
over_out negative (Some n) (Some zero) q e = cc
over_out negative (Some n) (Some (suc d)) q e = record { num = n; den = suc d; upper = refl; lower = refl; above = omega arith; value = cc }

over_in : (negative : Bool) (n d : ℕ) → 0 < d → fraction_over negative (Some n) (Some d) ≡ Some (ratio (signed negative n) d)
over_in negative n zero h = absurd (omega (arith, h))
over_in negative n (suc d) h = refl

den_out : (behind : Option (List ℕ)) (d : ℕ) → denominator_read behind ≡ Some d → 0 < d → IsDenominator (tail_of behind) d
den_out None d e h = cc
den_out (Some text) d e h = (refl, number_out text d e, h)

signed_out : (sign negative : Bool) (text : List ℕ) (q : Rational) → sign ≡ negative → unsigned_read negative text ≡ Some q → Writes (sign_text sign ++ text) q
signed_out sign negative text q same e =
    let o = over_out negative _ _ q e in
    record {
      negative = sign;
      upper = before_slash text;
      lower = tail_of (behind_slash text);
      num = o.num;
      den = o.den;
      whole = ap (λ x. sign_text sign ++ x) (split_text text);
      numerator = number_out _ _ o.upper;
      denominator = den_out _ _ o.lower o.above;
      value = subst (λ s. q ≡ ratio (signed s o.num) o.den) (sym same) o.value;
    }

unsigned_in : (negative : Bool) (upper lower : List ℕ) (n d : ℕ) → IsWritten upper n → IsDenominator lower d → unsigned_read negative (upper ++ lower) ≡ Some (ratio (signed negative n) d)
unsigned_in negative upper [] n d w h =
    let s = slash_none upper (digits_no_slash upper w.digits) in
    ap (λ x. unsigned_read negative x) (append-nil upper)
    ∙ (λ i. fraction_over negative (number_read (s.0 i)) (denominator_read (s.1 i)))
    ∙ (λ i. fraction_over negative (number_in upper n w i) (Some 1))
    ∙ ap (λ x. Some (ratio (signed negative n) x)) (sym h)
unsigned_in negative upper (c ∷ cs) n d w h =
    let s = slash_behind upper cs (digits_no_slash upper w.digits) in
    ap (λ x. unsigned_read negative (upper ++ x ∷ cs)) h.0
    ∙ (λ i. fraction_over negative (number_read (s.0 i)) (denominator_read (s.1 i)))
    ∙ (λ i. fraction_over negative (number_in upper n w i) (number_in cs d h.1 i))
    ∙ over_in negative n d h.2

first_by : (b : Bool) (c : ℕ) (cs : List ℕ) (q : Rational) → (IsTrue b → c ≡ 45) → (if b then unsigned_read true cs else unsigned_read false (c ∷ cs)) ≡ Some q → Writes (c ∷ cs) q
first_by true c cs q is e = subst (λ x. Writes (x ∷ cs) q) (sym (is refl)) (signed_out true true cs q refl e)
first_by false c cs q is e = signed_out false false (c ∷ cs) q refl e

-- what is read is written
pub fraction_out : (text : List ℕ) (q : Rational) → fraction_read text ≡ Some q → Writes text q
fraction_out [] q e = cc
fraction_out (c ∷ cs) q e = first_by (c == 45) c cs q (λ t. grind (arith, nat_tests)) e

other_first : (b : Bool) (c : ℕ) (cs : List ℕ) → (IsTrue b → c ≡ 45) → 48 ≤ c → (if b then unsigned_read true cs else unsigned_read false (c ∷ cs)) ≡ unsigned_read false (c ∷ cs)
other_first true c cs is h = absurd (let e = is refl in omega (arith, e, h))
other_first false c cs is h = refl

plain_in : (upper lower : List ℕ) (n d : ℕ) → IsWritten upper n → IsDenominator lower d → fraction_read (upper ++ lower) ≡ Some (ratio (signed false n) d)
plain_in [] lower n d w h = absurd (let s = w.some in omega (arith, s))
plain_in (c ∷ cs) lower n d w h = other_first (c == 45) c (cs ++ lower) (λ t. grind (arith, nat_tests)) (digit_first c cs w.digits) ∙ unsigned_in false (c ∷ cs) lower n d w h

sign_in : (negative : Bool) (upper lower : List ℕ) (n d : ℕ) → IsWritten upper n → IsDenominator lower d → fraction_read (sign_text negative ++ (upper ++ lower)) ≡ Some (ratio (signed negative n) d)
sign_in true upper lower n d w h = unsigned_in true upper lower n d w h
sign_in false upper lower n d w h = plain_in upper lower n d w h

-- what is written is read
pub fraction_in : (text : List ℕ) (q : Rational) → Writes text q → fraction_read text ≡ Some q
fraction_in text q w =
    ap fraction_read w.whole ∙ sign_in w.negative w.upper w.lower w.num w.den w.numerator w.denominator ∙ ap Some (sym w.value)

-- a text writes one fraction
pub writes_one : (text : List ℕ) (p q : Rational) → Writes text p → Writes text q → p ≡ q
writes_one text p q v w = let e = sym (fraction_in text p v) ∙ fraction_in text q w in cc

-- the digits of a number that fits
written_decimal : (n : ℕ) → n < 2 ^ 127 → IsWritten (decimal n) n
written_decimal n h =
    let wide : n < 10 ^ 64 = omega (arith, h) in
    let is = decimal_is_IsNumeral_wide n wide in
    record { digits = own.from _ is.0.1; some = is.0.0; few = length-decimal-le_wide 39 n (omega arith) (omega (arith, h)) wide; value = is.1; fits = h }

text_by_sign : (z : ℤ) (d : ℕ) (lower : List ℕ) (q : Rational) → q.num ≡ z → q.den ≡ d → Fits z → IsDenominator lower d → Writes (signed_decimal z ++ lower) q
text_by_sign (pos n) d lower q e f fits h = record {
  negative = false;
  upper = decimal n;
  lower = lower;
  num = n;
  den = d;
  whole = refl;
  numerator = written_decimal n fits;
  denominator = h;
  value = ratio_self q ∙ (λ i. ratio (e i) (f i));
}
text_by_sign (negsuc n) d lower q e f fits h = record {
  negative = true;
  upper = decimal (suc n);
  lower = lower;
  num = suc n;
  den = d;
  whole = refl;
  numerator = written_decimal (suc n) fits;
  denominator = h;
  value = ratio_self q ∙ (λ i. ratio (e i) (f i));
}

text_by : (b : Bool) (q : Rational) → (IsTrue b → q.den ≡ 1) → FitsRational q → Writes (if b then signed_decimal q.num else signed_decimal q.num ++ 47 ∷ decimal q.den) q
text_by true q is h = subst (λ x. Writes x q) (append-nil (signed_decimal q.num)) (text_by_sign q.num 1 [] q refl (is refl) h.0 refl)
text_by false q is h = text_by_sign q.num q.den (47 ∷ decimal q.den) q refl refl h.0 (refl, written_decimal q.den h.1, den_pos q)

-- the text of a fraction whose parts fit
pub text_writes : (q : Rational) → FitsRational q → Writes (fraction_text q) q
text_writes q h = text_by (q.den == 1) q (λ t. grind (arith, nat_tests)) h

-- as the code takes the sign away
pub read_signed : (text rest : List ℕ) → text ≡ 45 ∷ rest → fraction_read text ≡ unsigned_read true rest
read_signed text rest e = ap fraction_read e

pub read_plain : (text : List ℕ) → ((rest : List ℕ) → text ≢ 45 ∷ rest) → fraction_read text ≡ unsigned_read false text
read_plain [] h = refl
read_plain (c ∷ cs) h = if_other (c == 45) _ _ (λ t. h cs (ap (λ x. x ∷ cs) (grind (arith, nat_tests))))

pub read_exact : (text : List ℕ) (r : Option Rational) → r ≡ fraction_read text → (q : Rational) → (r ≡ Some q) ↔ Writes text q
read_exact text r e q = (λ s. fraction_out text q (sym e ∙ s), λ w. e ∙ fraction_in text q w)

-- Digits, and the number that they spell.
use Rattle.std.proofs.Common.{◌≡◌, ℕ, ◌+◌, ◌-◌, ◌*◌, ◌^◌, ◌<◌, ◌≤◌, Bool, true, false, ◌&&◌, not, nat_le, List, [], ◌∷◌, take, length, get_or, decimal, refl, sym, ap, subst, ◌∙◌, arith, rules, lit≤}
use Rattle.std.proofs.lemmas.Str.Parse.{IsNumeralModel, numerals_by_value, digits_value_short, digits_value-take-le, digit_at}
use Rattle.std.proofs.lemmas.Int.Digits.{digits_value_more}
use Rattle.std.proofs.lemmas.Fmt.{decimal-digits_value}
use Rattle.std.proofs.lemmas.Bool.{leb-true, eq-eqb}
use Rattle.std.proofs.lemmas.Bool.Decides.{nat_tests}
use Rattle.std.proofs.Math.Dec.{eqb}
use Rattle.std.proofs.Math.Seq.{take-length}
use Rattle.std.specs.Char.{digit_value}
use Rattle.std.specs.List.{list_all}
use Rattle.std.specs.Str.Parse.{digits_value}
use Rattle.slice_num.specs.Name.{is_digit}
use Rattle.slice_lex.specs.Text.{is_number, leads_with_zero}

abbrev AreDigits : List ℕ → Type 0
AreDigits ds = list_all is_digit ds ≡ true

own : IsNumeralModel AreDigits (digits_value 10)
own = numerals_by_value AreDigits (search rules)

first_holds : (a b : Bool) → (a && b) ≡ true → a ≡ true
first_holds true b e = refl
first_holds false b e = cc

second_holds : (a b : Bool) → (a && b) ≡ true → b ≡ true
second_holds true b e = e
second_holds false b e = cc

number_digits : (ds : List ℕ) → is_number ds ≡ true → AreDigits ds
unfolding is_number
number_digits ds e = first_holds _ _ e

number_some : (ds : List ℕ) → is_number ds ≡ true → nat_le 1 (length ds) ≡ true
unfolding is_number
number_some ds e = first_holds _ _ (second_holds (list_all is_digit ds) _ e)

number_short : (ds : List ℕ) → is_number ds ≡ true → nat_le (length ds) 18 ≡ true
unfolding is_number
number_short ds e = first_holds _ _ (second_holds (nat_le 1 (length ds)) _ (second_holds (list_all is_digit ds) _ e))

number_lead : (ds : List ℕ) → is_number ds ≡ true → not (leads_with_zero ds) ≡ true
unfolding is_number
number_lead ds e = second_holds (nat_le (length ds) 18) _ (second_holds (nat_le 1 (length ds)) _ (second_holds (list_all is_digit ds) _ e))

number_below : (ds : List ℕ) → is_number ds ≡ true → digits_value 10 ds < 10 ^ 18
number_below ds e = digits_value_short own ds 18 (number_digits ds e) (leb-true _ _ (number_short ds e))

zero_alone : (ds : List ℕ) → not (leads_with_zero ds) ≡ true → get_or ds 0 0 ≡ 48 → length ds ≡ 1
zero_alone [] e z = absurd (omega (arith, z))
zero_alone (d ∷ []) e z = refl
zero_alone (d ∷ c ∷ ds) e z = let same : eqb d 48 ≡ true = eq-eqb d 48 z in absurd (let f : not true ≡ true = ap not (sym same) ∙ e in cc)

-- the number that a text spells is written as this text
pub number_text : (ds : List ℕ) (n : ℕ) → is_number ds ≡ true → n ≡ digits_value 10 (take (length ds) ds) → (decimal n ≡ ds) × (n < 10 ^ 18)
number_text ds n e v =
    let w : n ≡ digits_value 10 ds = v ∙ ap (digits_value 10) (take-length ds) in
    let below : n < 10 ^ 18 = subst (λ (k : ℕ). k < 10 ^ 18) (sym w) (number_below ds e) in
    let fits : digits_value 10 ds < 2 ^ 64 = omega (arith, number_below ds e) in
    (ap decimal w ∙ decimal-digits_value own ds (number_digits ds e) (leb-true _ _ (number_some ds e)) (zero_alone ds (number_lead ds e)) fits, below)

digit_in_range : (c : ℕ) → 48 ≤ c → c ≤ 57 → digit_value c ≡ c - 48
digit_in_range c low high = grind (arith, nat_tests)

-- a digit more of a number
pub record More (ds : List ℕ) (i v : ℕ) : Type 0 where
  pub low : 48 ≤ get_or ds i 0
  pub high : get_or ds i 0 ≤ 57
  pub value : 10 * v + (get_or ds i 0 - 48) ≡ digits_value 10 (take (i + 1) ds)
  pub below : 10 * v + (get_or ds i 0 - 48) < 10 ^ 18

pub number_more : (ds : List ℕ) (i v : ℕ) → is_number ds ≡ true → i < length ds → v ≡ digits_value 10 (take i ds) → More ds i v
number_more ds i v e h w =
    let r = digit_at ds i (own.to ds (number_digits ds e)) h in
    let d : digit_value (get_or ds i 0) ≡ get_or ds i 0 - 48 = digit_in_range _ r.0 r.1 in
    let value : 10 * v + (get_or ds i 0 - 48) ≡ digits_value 10 (take (i + 1) ds) = omega (arith, d, w, digits_value_more 10 ds i h) in
    let least = digits_value-take-le 10 ds (i + 1) (lit≤ tt) in
    let most = number_below ds e in
    record { low = r.0; high = r.1; value = value; below = omega (arith, value, least, most) }

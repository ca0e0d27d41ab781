-- What fraction a text writes.
use Rattle.std.specs.Prelude.{◌≡◌, ℕ, zero, suc, ◌<◌, ◌≤◌, ◌^◌, ◌&&◌, ◌==◌, nat_lt, nat_le, Bool, true, false, IsTrue, if◌then◌else◌, List, [], ◌∷◌, ◌++◌, length, Option, Some, None}
use Rattle.std.specs.Str.{all_ascii_digits}
use Rattle.std.specs.Str.Parse.{digits_value}
use Rattle.slice_num.specs.Rational.{Rational, ratio}
use Rattle.slice_num.specs.Arithmetic.{signed}

-- 1 to 39 digits write the number in decimal, which fits. Zeros may stand in front
pub record IsWritten (text : List ℕ) (n : ℕ) : Type 0 where
  pub digits : IsTrue (all_ascii_digits text)
  pub some : 0 < length text
  pub few : length text ≤ 39
  pub value : digits_value 10 text ≡ n
  pub fits : n < 2 ^ 127

-- what stands behind the numerator: nothing, where the denominator is 1, or `/` and the denominator, which isn't 0
abbrev pub IsDenominator : List ℕ → ℕ → Type 0
IsDenominator [] d = d ≡ 1
IsDenominator (c ∷ text) d = (c ≡ 47) × IsWritten text d × (0 < d)

-- a minus, where the number is below 0
abbrev pub sign_text : Bool → List ℕ
sign_text true = 45 ∷ []
sign_text false = []

-- the text writes the fraction: a minus or none, a numerator, and a denominator or none. It needn't be in lowest terms
pub record Writes (text : List ℕ) (q : Rational) : Type 0 where
  pub negative : Bool
  pub upper : List ℕ
  pub lower : List ℕ
  pub num : ℕ
  pub den : ℕ
  pub whole : text ≡ sign_text negative ++ (upper ++ lower)
  pub numerator : IsWritten upper num
  pub denominator : IsDenominator lower den
  pub value : q ≡ ratio (signed negative num) den

-- the number that the text writes, if any
abbrev pub number_read : List ℕ → Option ℕ
number_read text =
    if all_ascii_digits text && (nat_lt 0 (length text) && (nat_le (length text) 39 && nat_lt (digits_value 10 text) (2 ^ 127)))
    then Some (digits_value 10 text) else None

-- what stands before the first slash, and what behind it, if there is one
abbrev pub before_slash : List ℕ → List ℕ
before_slash [] = []
before_slash (c ∷ cs) = if c == 47 then [] else c ∷ before_slash cs

abbrev pub behind_slash : List ℕ → Option (List ℕ)
behind_slash [] = None
behind_slash (c ∷ cs) = if c == 47 then Some cs else behind_slash cs

-- the denominator that is written, or 1
abbrev pub denominator_read : Option (List ℕ) → Option ℕ
denominator_read None = Some 1
denominator_read (Some text) = number_read text

-- a fraction, where there are both parts and the denominator isn't 0
abbrev pub fraction_over : Bool → Option ℕ → Option ℕ → Option Rational
fraction_over negative None d = None
fraction_over negative (Some n) None = None
fraction_over negative (Some n) (Some zero) = None
fraction_over negative (Some n) (Some (suc d)) = Some (ratio (signed negative n) (suc d))

abbrev pub unsigned_read : Bool → List ℕ → Option Rational
unsigned_read negative text = fraction_over negative (number_read (before_slash text)) (denominator_read (behind_slash text))

-- the fraction that the text writes, if any: there is at most one, so this is `Writes` as a function
abbrev pub fraction_read : List ℕ → Option Rational
fraction_read [] = None
fraction_read (c ∷ cs) = if c == 45 then unsigned_read true cs else unsigned_read false (c ∷ cs)

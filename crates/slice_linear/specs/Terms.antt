-- Forms, told by the coefficients that their terms give to keys, and which numbers their sums and multiples make.
use Rattle.std.specs.Prelude.{◌≡◌, ◌==◌, ◌&&◌, ◌||◌, Bool, true, false, if◌then◌else◌, List, [], ◌∷◌, map, pos, ⊤}
use Rattle.std.specs.Ordering.{int_eq}
use Rattle.slice_num.specs.Gcd.{gcd_of}
use Rattle.slice_num.specs.Rational.{Rational, whole, plus, minus, times, negated}
use Rattle.slice_num.specs.Fitting.{sum_fits_at, rational_fits}
use Rattle.slice_num.specs.declared.key.Key.{Key}
use Rattle.slice_linear.specs.declared.forms.Term.{Term}

-- whether two keys are one
abbrev pub is_same : Key → Key → Bool
is_same a b = a.agent == b.agent && a.atom == b.atom

-- the coefficient of a key: that of its term, or 0 where it has none
abbrev pub coef_of : List Term → Key → Rational
coef_of [] k = whole (pos 0)
coef_of (t ∷ ts) k = if is_same t.key k then t.coef else coef_of ts k

-- the coefficients of these keys
abbrev pub coefs_of : List Term → List Key → List Rational
coefs_of ts ks = map (coef_of ts) ks

-- ---- forms that are made of others, told by their coefficients

-- zs is the sum of xs and ys
abbrev pub IsFormSum : List Term → List Term → List Term → Type 0
IsFormSum xs ys zs = (k : Key) → coef_of zs k ≡ plus (coef_of xs k) (coef_of ys k)

-- zs is xs less ys
abbrev pub IsFormDifference : List Term → List Term → List Term → Type 0
IsFormDifference xs ys zs = (k : Key) → coef_of zs k ≡ minus (coef_of xs k) (coef_of ys k)

-- zs is c times xs
abbrev pub IsFormMultiple : Rational → List Term → List Term → Type 0
IsFormMultiple c xs zs = (k : Key) → coef_of zs k ≡ times c (coef_of xs k)

-- the unknown that stands for the whole cake
abbrev pub whole_key : Key
whole_key = record { agent = 0; atom = 0 }

-- zs is c times the whole
abbrev pub IsWholeForm : Rational → List Term → Type 0
IsWholeForm c zs = (k : Key) → coef_of zs k ≡ (if is_same whole_key k then c else whole (pos 0))

-- whether the key is one of these
abbrev pub is_among : List Key → Key → Bool
is_among [] k = false
is_among (j ∷ js) k = is_same j k || is_among js k

-- no key stands twice
abbrev pub AreDifferent : List Key → Type 0
AreDifferent [] = ⊤
AreDifferent (k ∷ ks) = (is_among ks k ≡ false) × AreDifferent ks

-- zs is the sum of these unknowns
abbrev pub IsKeySum : List Key → List Term → Type 0
IsKeySum ks zs = (k : Key) → coef_of zs k ≡ (if is_among ks k then whole (pos 1) else whole (pos 0))

-- zs is xs with two unknowns in the place of one, whose coefficient both have
abbrev pub IsReplaced : Key → Key → Key → List Term → List Term → Type 0
IsReplaced old left right xs zs =
    (k : Key) → coef_of zs k ≡ (if is_same left k || is_same right k then coef_of xs old else (if is_same old k then whole (pos 0) else coef_of xs k))

-- ---- which numbers fit

-- whether a fraction is 0
abbrev pub is_zero : Rational → Bool
is_zero q = int_eq q.num (pos 0)

-- whether the numbers that a sum makes fit
abbrev pub raw_sum_fits : Rational → Rational → Bool
raw_sum_fits a b = sum_fits_at (gcd_of a.den b.den) a b

-- the same of two coefficients: where one of them is 0 no sum is made
abbrev pub sum_fits : Rational → Rational → Bool
sum_fits a b = is_zero a || (is_zero b || raw_sum_fits a b)

-- the sums of the coefficients of each key fit
abbrev pub SumsFit : List Term → List Term → Type 0
SumsFit xs ys = (k : Key) → sum_fits (coef_of xs k) (coef_of ys k) ≡ true

-- so do their differences
abbrev pub DifferencesFit : List Term → List Term → Type 0
DifferencesFit xs ys = (k : Key) → sum_fits (coef_of xs k) (negated (coef_of ys k)) ≡ true

-- c times each coefficient fits
abbrev pub ProductsFit : Rational → List Term → Type 0
ProductsFit c xs = (k : Key) → rational_fits (times c (coef_of xs k)) ≡ true

-- Whether the numbers that a form is made by fit, coefficient by coefficient over the atoms of the moment.
use Rattle.std.specs.Prelude.{ℕ, ◌&&◌, Bool, true, List, [], ◌∷◌, map}
use Rattle.slice_num.specs.Rational.{Rational, negated, times}
use Rattle.slice_num.specs.Fitting.{rational_fits}
use Rattle.slice_linear.specs.Terms.{sum_fits}
use Rattle.slice_atoms.specs.Addresses.{Cake}
use Rattle.slice_atoms.specs.Forms.{Form, all_coefs}

-- the sums of coefficients in the same place fit
abbrev pub sums_fit : List Rational → List Rational → Bool
sums_fit [] qs = true
sums_fit (p ∷ ps) [] = true
sums_fit (p ∷ ps) (q ∷ qs) = sum_fits p q && sums_fit ps qs

-- so many times each coefficient fits
abbrev pub products_fit : Rational → List Rational → Bool
products_fit c [] = true
products_fit c (q ∷ qs) = rational_fits (times c q) && products_fit c qs

-- the numbers of the sum of two forms fit
abbrev pub add_fits : ℕ → Cake → Form → Form → Bool
add_fits agents cake f g = sums_fit (all_coefs agents cake f) (all_coefs agents cake g)

-- those of the difference: it is the sum with the negated form
abbrev pub sub_fits : ℕ → Cake → Form → Form → Bool
sub_fits agents cake f g = sums_fit (all_coefs agents cake f) (map negated (all_coefs agents cake g))

-- those of the form times a number
abbrev pub scale_fits : ℕ → Cake → Rational → Form → Bool
scale_fits agents cake c f = products_fit c (all_coefs agents cake f)

-- Sums over registers, in the order in which their numbers are made.
use Rattle.std.specs.Prelude.{Bool, true, false, pos, List, [], ◌∷◌, Option, Some, None}
use Rattle.slice_num.specs.Rational.{Rational, whole}
use Rattle.slice_num.specs.Fitting.{Fitting, Fitted, next, sum_in, product_in, difference_in}
use Rattle.slice_core.specs.Run.{source_value}
use Rattle.slice_core.specs.declared.node.LinTerm.{LinTerm}

-- a value, maybe times a factor
abbrev pub scaled_in : Option Rational → Rational → Fitting Rational
scaled_in None v = Fitted v
scaled_in (Some c) v = product_in c v

-- a term is added to a sum, or subtracted
abbrev pub added_in : Bool → Rational → Rational → Fitting Rational
added_in true sum v = difference_in sum v
added_in false sum v = sum_in sum v

abbrev pub term_in : List Rational → LinTerm → Fitting Rational
term_in regs t = scaled_in t.factor (source_value regs t.source)

-- the terms are added to a sum, one after another: each is made, and then the sum with it
abbrev pub terms_in : List Rational → Rational → List LinTerm → Fitting Rational
terms_in regs sum [] = Fitted sum
terms_in regs sum (t ∷ ts) = next (term_in regs t) (λ v. next (added_in t.minus sum v) (λ both. terms_in regs both ts))

-- a sum; its first term has no sign
abbrev pub lin_in : List Rational → List LinTerm → Fitting Rational
lin_in regs [] = Fitted (whole (pos 0))
lin_in regs (t ∷ ts) = next (term_in regs t) (λ v. terms_in regs v ts)

-- The terms that private functions append. No public clause speaks of these.
use Rattle.std.specs.Prelude.{if◌then◌else◌, List, ◌∷◌}
use Rattle.slice_num.specs.Rational.{Rational, plus, times}
use Rattle.slice_linear.specs.declared.forms.Term.{Term}
use Rattle.slice_linear.specs.Terms.{is_zero}

-- the sum of two terms of one key
abbrev pub both : Term → Term → Term
both x y = record { key = x.key; coef = plus x.coef y.coef }

-- the term times a number
abbrev pub multiple : Rational → Term → Term
multiple c t = record { key = t.key; coef = times c t.coef }

-- the term before others, unless its coefficient is 0
abbrev pub kept : Term → List Term → List Term
kept t ts = if is_zero t.coef then ts else t ∷ ts

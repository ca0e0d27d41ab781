-- What a row's kind says of a sum of fractions.
use Rattle.std.proofs.Common.{◌∙◌, ℤ, pos, ap, sym, subst}
use Rattle.slice_num.specs.Rational.{Rational, times, whole, IsBelow, IsAtMost}
use Rattle.slice_num.proofs.FieldLaws.{times_zero, times_least, times_above, weak, whole_same, whole_at_most, whole_at_most_out, whole_below, whole_below_out, times_at_most_out, times_below_out, same_rational, at_most_of_same}
use Rattle.slice_linear.specs.declared.row.RowKind.{RowKind}
use Rattle.slice_linear.specs.declared.row.RowKind.TheVariants.{Zero, AtLeast, Above}
use Rattle.slice_linear.specs.Rows.{KindHolds}
use Rattle.slice_linear.specs.Proportion.{Meets}

abbrev none : Rational
none = whole (pos 0)

-- a factor above 0 changes nothing
pub meets_times : (k : RowKind) (p q : Rational) → IsBelow none p → Meets k q → Meets k (times p q)
meets_times Zero p q h e = ap (times p) e ∙ times_zero p
meets_times AtLeast p q h e = times_least p q (weak none p h) e
meets_times Above p q h e = times_above p q h e

pub meets_back : (k : RowKind) (p q : Rational) → IsBelow none p → Meets k (times p q) → Meets k q
meets_back Zero p q h e =
    same_rational q none
    (times_at_most_out p q none h (at_most_of_same (times p q) (times p none) (e ∙ sym (times_zero p))))
    (times_at_most_out p none q h (at_most_of_same (times p none) (times p q) (times_zero p ∙ sym e)))
meets_back AtLeast p q h e = times_at_most_out p none q h (subst (λ (x : Rational). IsAtMost x (times p q)) (sym (times_zero p)) e)
meets_back Above p q h e = times_below_out p none q h (subst (λ (x : Rational). IsBelow x (times p q)) (sym (times_zero p)) e)

-- whole numbers
pub whole_out : (k : RowKind) (z : ℤ) → Meets k (whole z) → KindHolds k z
whole_out Zero z h = whole_same z (pos 0) h
whole_out AtLeast z h = whole_at_most_out (pos 0) z h
whole_out Above z h = whole_below_out (pos 0) z h

pub whole_in : (k : RowKind) (z : ℤ) → KindHolds k z → Meets k (whole z)
whole_in Zero z h = ap whole h
whole_in AtLeast z h = whole_at_most (pos 0) z h
whole_in Above z h = whole_below (pos 0) z h

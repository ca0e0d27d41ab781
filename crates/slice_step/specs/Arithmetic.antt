-- The numbers that the queries of a run make, in the order in which they are made. A query is refused exactly where one of them doesn't fit.
use Rattle.std.specs.Prelude.{ℕ, ◌+◌, ◌&&◌, Bool, false, pos, List, [], ◌∷◌, length, take, slice_index_or, find, option_map, Option, Some, None, if◌then◌else◌}
use Rattle.std.specs.List.{position_or_len, range_with_len}
use Rattle.slice_num.specs.Rational.{Rational, whole}
use Rattle.slice_num.specs.Fitting.{Fitting, Fitted, next, sum_in, product_in, difference_in, quotient_in, below, at_most, same_as}
use Rattle.slice_num.specs.Valuation.{Valuation, cake_length, total_value}
use Rattle.slice_num.specs.declared.interval.Interval.{Interval}
use Rattle.slice_num.specs.Pieces.{with_part}
use Rattle.slice_core.specs.Run.{left_piece}
use Rattle.slice_num.specs.declared.cut_answer.CutAnswer.{CutAnswer}
use Rattle.slice_step.specs.declared.place.Place.{Place}

-- ---- the steps of a valuation, counted from 0
-- the first k steps
abbrev pub front : ℕ → Valuation → Valuation
front k v = record { ends = take k v.ends; heights = take k v.heights }

-- the base of step k: what the steps before it are worth
abbrev pub base_of : Valuation → ℕ → ℕ
base_of v k = total_value (front k v)

-- step k: its base, where it starts (at the end of the step before, or at 0), and its height
abbrev pub step_of : Valuation → ℕ → Place
step_of v k = record { base = base_of v k; start = cake_length (front k v); height = slice_index_or v.heights k 0 }

-- the step in which the point p lies: the first whose end is at least p. What comes after the last step has height 0
unfoldable pub place_in : Valuation → Rational → Place
place_in v p = step_of v (position_or_len (λ e. at_most p (whole (pos e))) v.ends)

-- the target lies above the first of the two values, and not above the second
abbrev pub reaches : ℕ → ℕ → Rational → Bool
reaches base top target = below (whole (pos base)) target && at_most target (whole (pos top))

-- the value from 0 comes up to the target in step k: its base is below the target, and its base plus its own value, which is the base of the next step, is not
abbrev pub comes_up : Valuation → Rational → ℕ → Bool
comes_up v target k = reaches (base_of v k) (base_of v (k + 1)) target

-- the first step in which the value from 0 comes up to the target
unfoldable pub reached_in : Valuation → Rational → Option Place
reached_in v target = option_map (step_of v) (find (comes_up v target) (range_with_len 0 (length v.ends)))

-- ---- what lies before a point
-- what [0, p) is worth, for a point of that step: the difference, the product, the sum, in this order
abbrev pub height_value : Place → Rational → Fitting Rational
height_value place p =
    next (difference_in p (whole (pos place.start))) (λ wide.
    next (product_in (whole (pos place.height)) wide) (λ more.
    sum_in (whole (pos place.base)) more))

-- what [0, p) is worth
abbrev pub value_up_to : Valuation → Rational → Fitting Rational
value_up_to v p = height_value (place_in v p) p

-- what the stretch is worth: up to its end, up to its beginning, the difference, in this order
abbrev pub value_in : Valuation → Interval → Fitting Rational
value_in v i =
    next (value_up_to v i.to) (λ upper.
    next (value_up_to v i.from) (λ lower.
    difference_in upper lower))

-- the values of the stretches added to a sum, one after another: the order of the sums decides whether they fit
abbrev pub values_from : Valuation → Rational → List Interval → Fitting Rational
values_from v sum [] = Fitted sum
values_from v sum (i ∷ is) =
    next (value_in v i) (λ more.
    next (sum_in sum more) (λ both.
    values_from v both is))

-- what a piece is worth: the sum from 0 over its stretches, in their order
abbrev pub piece_value_in : Valuation → List Interval → Fitting Rational
piece_value_in v piece = values_from v (whole (pos 0)) piece

-- what the whole cake is worth
abbrev pub whole_value : Valuation → Rational
whole_value v = whole (pos (total_value v))

-- the share-value of a piece: its value by that of the cake
abbrev pub share_in : Valuation → List Interval → Fitting Rational
share_in v piece = next (piece_value_in v piece) (λ sum. quotient_in sum (whole_value v))

-- ---- the least point that cuts off a value
-- the point of a step at which the value from 0 is the target: the difference, the quotient, the sum, in this order
abbrev pub point_in : Place → Rational → Fitting Rational
point_in place target =
    next (difference_in target (whole (pos place.base))) (λ more.
    next (quotient_in more (whole (pos place.height))) (λ wide.
    sum_in (whole (pos place.start)) wide))

-- the point of the step that was found; where there is none, the end of the cake
abbrev pub point_of : Valuation → Option Place → Rational → Fitting Rational
point_of v (Some place) target = point_in place target
point_of v None target = Fitted (whole (pos (cake_length v)))

-- the least point from x on at which the value from 0 is the target, where that of x is `lower`
abbrev pub point_at : Valuation → Rational → Rational → Rational → Fitting Rational
point_at v x lower target = if same_as target lower then Fitted x else point_of v (reached_in v target) target

-- the least point that cuts off so much value from x on
abbrev pub least_point_in : Valuation → Rational → Rational → Fitting Rational
least_point_in v x amount =
    next (value_up_to v x) (λ lower.
    next (sum_in lower amount) (λ target.
    point_at v x lower target))

-- ---- the least right answer to a cut
-- the least right answer in the parts from number k on, where those before are worth c and so much value is to be cut off: the part's value, the sum; where that comes up to the value the difference, and the part's point
abbrev pub answer_from : Valuation → Rational → Rational → ℕ → List Interval → Fitting CutAnswer
answer_from v target c k [] = Fitted (record { part = k; point = whole (pos 0) })
answer_from v target c k (i ∷ is) =
    next (value_in v i) (λ here.
    next (sum_in c here) (λ both.
    if at_most target both
    then next (difference_in target c) (λ more. next (least_point_in v i.from more) (λ y. Fitted (record { part = k; point = y })))
    else answer_from v target both (k + 1) is))

-- the least right answer that cuts off such a share of the cake's value: the product, then the parts in their order
abbrev pub least_answer_in : Valuation → List Interval → Rational → Fitting CutAnswer
least_answer_in v piece share = next (product_in share (whole_value v)) (λ target. answer_from v target (whole (pos 0)) 0 piece)

-- ---- answers that are given
-- the point lies in the part, and what lies before it in the piece is worth the amount. Only the last takes numbers
abbrev pub is_right_at : Valuation → Rational → Rational → List Interval → Interval → List Interval → Fitting Bool
is_right_at v amount y before i after =
    if at_most i.from y && at_most y i.to then next (share_in v (left_piece before i y)) (λ worth. Fitted (same_as worth amount))
    else Fitted false

-- the answer is right: its part is there, the point lies in it, and what lies before it is worth the amount
abbrev pub is_right_in : Valuation → List Interval → Rational → CutAnswer → Fitting Bool
is_right_in v piece amount y = with_part [] piece y.part (Fitted false) (is_right_at v amount y.point)

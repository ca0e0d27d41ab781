-- A cut whose amount is from 0 to the piece's share-value has a least right answer, and the walk finds it where its numbers fit.
use Rattle.std.proofs.Common.{◌≡◌, ◌≢◌, ◌∙◌, ℕ, ◌+◌, ◌<◌, ◌≤◌, ◌++◌, ◌∷◌, [], length, pos, Bool, true, false, ◌⊎◌, inl, inr, refl, ap, sym, subst, arith, append_assoc, length-append}
use Rattle.std.specs.Prelude.{◌&&◌, if◌then◌else◌}
use Rattle.std.proofs.lemmas.Int.{ints}
use Rattle.std.proofs.lemmas.Bool.{cases_lt}
use Rattle.slice_num.specs.Rational.{Rational, plus, times, minus, negated, whole, IsAtMost, IsBelow}
use Rattle.slice_num.specs.Arithmetic.{inverse}
use Rattle.slice_num.specs.Fitting.{Fitted, next, below, next-out, sum_in, difference_in, sum_in-exact, product_in-exact, at_most, same_as}
use Rattle.slice_num.specs.Valuation.{Valuation, IsValuation, value, piece_value, share_value, total_value}
use Rattle.slice_num.specs.ValueLaws.{stretch}
use Rattle.slice_num.specs.declared.interval.Interval.{Interval}
use Rattle.slice_num.proofs.Laws.{plus_comm}
use Rattle.slice_num.proofs.FieldLaws.{below-false, below-true, below-not, order_total, trichotomy, weak, not_both, plus_at_most, plus-minus, minus-plus, minus_least, times_least, times_at_most, times_comm, times-divided, divided-times, whole_at_most}
use Rattle.slice_num.proofs.Values.{value_of_cake, value_grows, piece_value_one, piece_value-append, total_positive}
use Rattle.slice_core.specs.Run.{Piece, is_right, left_piece, before_point}
use Rattle.slice_num.specs.declared.cut_answer.CutAnswer.{CutAnswer}
use Rattle.slice_num.proofs.Parts.{same_split}
use Rattle.slice_step.specs.Arithmetic.{value_in, least_point_in, answer_from, least_answer_in, whole_value}
use Rattle.slice_step.specs.Exact.{InOrder, HasAmount, IsLeastPoint, Precedes, IsWrong, IsLeastAnswer, CanCut, LeastAnswerIsExact}
use Rattle.slice_step.proofs.Exact.{value_in-exact}
use Rattle.slice_step.proofs.Least.{same_as-true, same_as-is, least_point_in-least, least_point_exists}
use Rattle.slice_step.proofs.InOrder.{PieceInOrder, piece_each}
use Rattle.slice_step.proofs.Walk.{whole_some}

-- ---- the tests on an answer
pub at_most-is : (a b : Rational) → IsAtMost a b → at_most a b ≡ true
at_most-is a b h = rw (below-not b a h)

pub at_most-out : (a b : Rational) → at_most a b ≡ true → IsAtMost a b
at_most-out a b h = by (below b a) refl h
  where
    by : (t : Bool) → below b a ≡ t → (if t then false else true) ≡ true → IsAtMost a b
    by true e h = cc
    by false e h = below-false b a e

pub at_most-above : (a b : Rational) → at_most a b ≡ false → IsBelow b a
at_most-above a b h = by (below b a) refl h
  where
    by : (t : Bool) → below b a ≡ t → (if t then false else true) ≡ false → IsBelow b a
    by true e h = below-true b a e
    by false e h = cc

all_true : (a b c : Bool) → a ≡ true → b ≡ true → c ≡ true → (a && (b && c)) ≡ true
all_true a b c e f g = rw (e, f, g)

last_false : (a b c : Bool) → (a ≡ true → b ≡ true → c ≡ false) → (a && (b && c)) ≡ false
last_false false b c h = refl
last_false true false c h = refl
last_false true true c h = h refl refl

pub right_is : (w : Piece → Rational) (before : Piece) (i : Interval) (amount y : Rational) → IsAtMost i.from y → IsAtMost y i.to → w (left_piece before i y) ≡ amount → is_right w before i y amount ≡ true
right_is w before i amount y low high e = all_true (at_most i.from y) (at_most y i.to) (same_as (w (left_piece before i y)) amount) (at_most-is i.from y low) (at_most-is y i.to high) (same_as-is (w (left_piece before i y)) amount e)

pub wrong_is : (w : Piece → Rational) (before : Piece) (i : Interval) (amount z : Rational) → (IsAtMost i.from z → IsAtMost z i.to → w (left_piece before i z) ≢ amount) → is_right w before i z amount ≡ false
wrong_is w before i amount z h =
    last_false (at_most i.from z) (at_most z i.to) (same_as (w (left_piece before i z)) amount)
    (λ low high. by (same_as (w (left_piece before i z)) amount) refl (h (at_most-out i.from z low) (at_most-out z i.to high)))
  where
    by : (t : Bool) → same_as (w (left_piece before i z)) amount ≡ t → w (left_piece before i z) ≢ amount → t ≡ false
    by true e apart = absurd (apart (same_as-true (w (left_piece before i z)) amount e))
    by false e apart = refl

pub both_true : (x y : Bool) → (x && y) ≡ true → (x ≡ true) × (y ≡ true)
both_true true true e = (e, e)
both_true true false e = (refl, e)
both_true false y e = (e, cc)

-- a right answer lies in its part
pub right_within : (w : Piece → Rational) (before : Piece) (i : Interval) (y amount : Rational) → is_right w before i y amount ≡ true → IsAtMost i.from y × IsAtMost y i.to
right_within w before i y amount h =
    let one = both_true (at_most i.from y) (at_most y i.to && same_as (w (left_piece before i y)) amount) h in
    let two = both_true (at_most y i.to) (same_as (w (left_piece before i y)) amount) one.1 in
    (at_most-out i.from y one.0, at_most-out y i.to two.0)

-- ---- least right answers
-- ---- shares and values
some_whole : (v : Valuation) → IsValuation v → (whole_value v).num ≢ pos 0
some_whole v valuation = whole_some (total_value v) (total_positive v valuation)

share_is : (v : Valuation) (piece : Piece) → IsValuation v → share_value v piece ≡ times (piece_value v piece) (inverse (whole_value v))
share_is v piece valuation = λ j. times (piece_value v piece) (inverse (value_of_cake v valuation j))

share_right : (v : Valuation) (piece : Piece) (share : Rational) → IsValuation v → piece_value v piece ≡ times share (whole_value v) → share_value v piece ≡ share
share_right v piece share valuation e = share_is v piece valuation ∙ ap (λ (q : Rational). times q (inverse (whole_value v))) e ∙ times-divided share (whole_value v) (some_whole v valuation)

share_back : (v : Valuation) (piece : Piece) → IsValuation v → times (share_value v piece) (whole_value v) ≡ piece_value v piece
share_back v piece valuation = ap (λ (q : Rational). times q (whole_value v)) (share_is v piece valuation) ∙ divided-times (piece_value v piece) (whole_value v) (some_whole v valuation)

-- what a piece is worth up to a point of a part
left_value : (v : Valuation) (before : Piece) (i : Interval) (y : Rational) → piece_value v (left_piece before i y) ≡ plus (piece_value v before) (value v (stretch i.from y))
left_value v before i y = piece_value-append v before (before_point i y ∷ []) ∙ ap (plus (piece_value v before)) (piece_value_one v (before_point i y))

-- ---- the search among the parts
record Search (v : Valuation) (share : Rational) (piece done rest : Piece) : Type 0 where
  parts : piece ≡ done ++ rest
  low : IsAtMost (piece_value v done) (times share (whole_value v))
  earlier : (z : CutAnswer) → z.part < length done → IsWrong (share_value v) piece share z

-- an answer in that part is wrong unless its stretch has what is missing
wrong_here : (v : Valuation) (share : Rational) (piece done : Piece) (i : Interval) (rest : Piece) (z : CutAnswer) → IsValuation v → piece ≡ done ++ i ∷ rest → z.part ≡ length done
    → (IsAtMost i.from z.point → IsAtMost z.point i.to → plus (piece_value v done) (value v (stretch i.from z.point)) ≢ times share (whole_value v)) → IsWrong (share_value v) piece share z
wrong_here v share piece done i rest z valuation parts number apart before j after e n =
    let s = same_split before j after done i rest (sym e ∙ parts) (sym n ∙ number) in
    (λ k. is_right (share_value v) (s.front k) (s.item k) z.point share)
    ∙ wrong_is (share_value v) done i share z.point
    (λ low high is. apart low high (sym (left_value v done i z.point) ∙ sym (share_back v (left_piece done i z.point) valuation) ∙ ap (λ (q : Rational). times q (whole_value v)) is))

-- the least point of a part that comes up to the value is the least right answer
answer_here : (v : Valuation) (share : Rational) (piece done : Piece) (i : Interval) (rest : Piece) (y : Rational) → IsValuation v → Search v share piece done (i ∷ rest)
    → IsLeastPoint v i.from i.to (minus (times share (whole_value v)) (piece_value v done)) y → IsLeastAnswer (share_value v) piece share (record { part = length done; point = y })
answer_here v share piece done i rest y valuation s point =
    let target = times share (whole_value v) in
    let c = piece_value v done in
    record {
      before = done;
      here = i;
      after = rest;
      parts = s.parts;
      number = refl;
      low = point.after;
      high = point.within;
      right = share_right v (left_piece done i y) share valuation (left_value v done i y ∙ ap (plus c) point.right ∙ plus_comm c (minus target c) ∙ minus-plus target c);
      least = earlier;
    }
  where
    earlier : (z : CutAnswer) → Precedes z (record { part = length done; point = y }) → IsWrong (share_value v) piece share z
    earlier z (inl lt) = s.earlier z lt
    earlier z (inr same) =
        wrong_here v share piece done i rest z valuation s.parts same.0
        (λ low high e.
        point.least z.point low same.1
        (sym (plus-minus (value v (stretch i.from z.point)) (piece_value v done)) ∙ ap (λ (q : Rational). minus q (piece_value v done)) (plus_comm (value v (stretch i.from z.point)) (piece_value v done) ∙ e)))

-- a part that doesn't come up to the value is passed
search_on : (v : Valuation) (share : Rational) (piece done : Piece) (i : Interval) (rest : Piece) → IsValuation v → Search v share piece done (i ∷ rest)
    → IsBelow (plus (piece_value v done) (value v i)) (times share (whole_value v)) → Search v share piece (done ++ i ∷ []) rest
search_on v share piece done i rest valuation s less =
    let sum : piece_value v (done ++ i ∷ []) ≡ plus (piece_value v done) (value v i) = piece_value-append v done (i ∷ []) ∙ ap (plus (piece_value v done)) (piece_value_one v i) in
    record {
      parts = s.parts ∙ sym (append_assoc done (i ∷ []) rest);
      low = subst (λ (q : Rational). IsAtMost q (times share (whole_value v))) (sym sum) (weak (plus (piece_value v done) (value v i)) (times share (whole_value v)) less);
      earlier = λ z lt. by z lt (cases_lt z.part (length done));
    }
  where
    by : (z : CutAnswer) → z.part < length (done ++ i ∷ []) → (z.part < length done) ⊎ (length done ≤ z.part) → IsWrong (share_value v) piece share z
    by z lt (inl before) = s.earlier z before
    by z lt (inr at) =
        let same : z.part ≡ length done = omega (arith, lt, at, length-append done (i ∷ [])) in
        wrong_here v share piece done i rest z valuation s.parts same
        (λ low high e.
        let grows = value_grows v i.from z.point i.to valuation.rises low high in
        let most : IsAtMost (plus (piece_value v done) (value v (stretch i.from z.point))) (plus (piece_value v done) (value v i)) =
        subst (λ (q : Rational). IsAtMost q (plus (piece_value v done) (value v i))) (plus_comm (value v (stretch i.from z.point)) (piece_value v done))
        (subst (λ (q : Rational). IsAtMost (plus (value v (stretch i.from z.point)) (piece_value v done)) q) (plus_comm (value v i) (piece_value v done))
        (plus_at_most (value v (stretch i.from z.point)) (value v i) (piece_value v done) grows)) in
        not_both (plus (piece_value v done) (value v i)) (times share (whole_value v)) less
        (subst (λ (q : Rational). IsAtMost q (plus (piece_value v done) (value v i))) e most))

-- where the parts so far and this one come up to the value, what is missing can be cut off from this one
has_missing : (v : Valuation) (share : Rational) (piece done : Piece) (i : Interval) (rest : Piece) → Search v share piece done (i ∷ rest) → InOrder i
    → IsAtMost (times share (whole_value v)) (plus (piece_value v done) (value v i)) → HasAmount v i.from i.to (minus (times share (whole_value v)) (piece_value v done))
has_missing v share piece done i rest s order comes =
    let target = times share (whole_value v) in
    let c = piece_value v done in
    record {
      in_order = order;
      low = minus_least target c s.low;
      high = subst (λ (q : Rational). IsAtMost (minus target c) q) (plus-minus (value v i) c)
          (plus_at_most target (plus (value v i) c) (negated c) (subst (λ (q : Rational). IsAtMost target q) (plus_comm c (value v i)) comes));
    }

target_low : (v : Valuation) (share : Rational) → IsAtMost (whole (pos 0)) share → IsAtMost (whole (pos 0)) (times share (whole_value v))
target_low v share h = times_least share (whole_value v) h (whole_at_most (pos 0) (pos (total_value v)) (omega (arith, ints)))

target_high : (v : Valuation) (piece : Piece) (share : Rational) → IsValuation v → IsAtMost share (share_value v piece) → IsAtMost (times share (whole_value v)) (piece_value v piece)
target_high v piece share valuation h =
    let t = whole_value v in
    let low : IsAtMost (whole (pos 0)) t = whole_at_most (pos 0) (pos (total_value v)) (omega (arith, ints)) in
    subst (λ (q : Rational). IsAtMost q (piece_value v piece)) (times_comm t share)
    (subst (λ (q : Rational). IsAtMost (times t share) q) (times_comm t (share_value v piece) ∙ share_back v piece valuation) (times_at_most t share (share_value v piece) low h))

begun : (v : Valuation) (share : Rational) (piece : Piece) → IsAtMost (whole (pos 0)) share → Search v share piece [] piece
begun v share piece low = record { parts = refl; low = target_low v share low; earlier = λ z lt. absurd (omega (arith, lt)) }

-- the last part comes up to the value
last_comes : (v : Valuation) (share : Rational) (piece done : Piece) (i : Interval) → Search v share piece done (i ∷ []) → IsAtMost (times share (whole_value v)) (piece_value v piece) → IsAtMost (times share (whole_value v)) (plus (piece_value v done) (value v i))
last_comes v share piece done i s most =
    subst (λ (q : Rational). IsAtMost (times share (whole_value v)) q) (ap (piece_value v) s.parts ∙ piece_value-append v done (i ∷ []) ∙ ap (plus (piece_value v done)) (piece_value_one v i)) most

-- ---- there is a least right answer, whether its numbers fit or not
pub record HasLeastAnswer (w : Piece → Rational) (piece : Piece) (share : Rational) : Type 0 where
  pub answer : CutAnswer
  pub least : IsLeastAnswer w piece share answer

exists_here : (v : Valuation) (share : Rational) (piece done : Piece) (i : Interval) (rest : Piece) → IsValuation v → Search v share piece done (i ∷ rest) → InOrder i
    → IsAtMost (times share (whole_value v)) (plus (piece_value v done) (value v i)) → HasLeastAnswer (share_value v) piece share
exists_here v share piece done i rest valuation s order comes =
    let p = least_point_exists v i.from i.to (minus (times share (whole_value v)) (piece_value v done)) valuation (has_missing v share piece done i rest s order comes) in
    record { answer = record { part = length done; point = p.point }; least = answer_here v share piece done i rest p.point valuation s p.least }

exists_from : (v : Valuation) (share : Rational) (piece done : Piece) (i : Interval) (rest : Piece) → IsValuation v → Search v share piece done (i ∷ rest) → InOrder i → PieceInOrder rest
    → IsAtMost (times share (whole_value v)) (piece_value v piece) → HasLeastAnswer (share_value v) piece share
exists_from v share piece done i [] valuation s order others most = exists_here v share piece done i [] valuation s order (last_comes v share piece done i s most)
exists_from v share piece done i (j ∷ rest) valuation s order others most =
    by (order_total (plus (piece_value v done) (value v i)) (times share (whole_value v))) (λ next. exists_from v share piece (done ++ i ∷ []) j rest valuation next others.0 others.1 most)
  where
    by : IsBelow (plus (piece_value v done) (value v i)) (times share (whole_value v)) ⊎ IsAtMost (times share (whole_value v)) (plus (piece_value v done) (value v i))
        → (Search v share piece (done ++ i ∷ []) (j ∷ rest) → HasLeastAnswer (share_value v) piece share) → HasLeastAnswer (share_value v) piece share
    by (inl less) go = go (search_on v share piece done i (j ∷ rest) valuation s less)
    by (inr comes) go = exists_here v share piece done i (j ∷ rest) valuation s order comes

pub answer_exists : (v : Valuation) (share : Rational) (i : Interval) (rest : Piece) → IsValuation v → PieceInOrder (i ∷ rest) → CanCut v (i ∷ rest) share → HasLeastAnswer (share_value v) (i ∷ rest) share
answer_exists v share i rest valuation order can =
    exists_from v share (i ∷ rest) [] i rest valuation (begun v share (i ∷ rest) can.low) order.0 order.1 (target_high v (i ∷ rest) share valuation can.high)

-- ---- the walk among the parts finds it, where its numbers fit
record Stage (v : Valuation) (share : Rational) (piece done rest : Piece) (i : Interval) : Type 0 where
  search : Search v share piece done (i ∷ rest)
  valuation : IsValuation v
  order : InOrder i
  most : IsAtMost (times share (whole_value v)) (piece_value v piece)

found_here : (v : Valuation) (share : Rational) (piece done rest : Piece) (i : Interval) (k : ℕ) (c : Rational) (y : CutAnswer) → Stage v share piece done rest i → k ≡ length done → c ≡ piece_value v done
    → IsAtMost (times share (whole_value v)) (plus (piece_value v done) (value v i))
    → next (difference_in (times share (whole_value v)) c) (λ more. next (least_point_in v i.from more) (λ p. Fitted (record { part = k; point = p }))) ≡ Fitted y → IsLeastAnswer (share_value v) piece share y
found_here v share piece done rest i k c y g number worth comes fits =
    let more = next-out _ _ y fits in
    let point = next-out _ _ y more.then_is in
    let is : more.first ≡ minus (times share (whole_value v)) (piece_value v done) = sum_in-exact _ _ more.first more.is ∙ ap (minus (times share (whole_value v))) worth in
    let has = has_missing v share piece done i rest g.search g.order comes in
    let least : IsLeastPoint v i.from i.to (minus (times share (whole_value v)) (piece_value v done)) point.first =
    least_point_in-least v i.from i.to _ point.first g.valuation has (ap (least_point_in v i.from) (sym is) ∙ point.is) in
    let same : record { part = k; point = point.first } ≡ y = (let e = point.then_is in cc) in
    subst (IsLeastAnswer (share_value v) piece share) ((λ j. record { part = sym number j; point = point.first }) ∙ same)
    (answer_here v share piece done i rest point.first g.valuation g.search least)

both_is : (v : Valuation) (share : Rational) (piece done rest : Piece) (i : Interval) (c one both : Rational) → Stage v share piece done rest i → c ≡ piece_value v done → value_in v i ≡ Fitted one → sum_in c one ≡ Fitted both → both ≡ plus (piece_value v done) (value v i)
both_is v share piece done rest i c one both g worth e f = sum_in-exact c one both f ∙ (λ j. plus (worth j) (value_in-exact v i one g.valuation g.order e j))

-- where the part is passed, what the walk goes on with
abbrev Onward : Valuation → Rational → Piece → Piece → ℕ → CutAnswer → Interval → Piece → Type 0
Onward v share piece done k y i rest =
    (both : Rational) → both ≡ plus (piece_value v done) (value v i) → IsBelow (plus (piece_value v done) (value v i)) (times share (whole_value v))
    → answer_from v (times share (whole_value v)) both (k + 1) rest ≡ Fitted y → IsLeastAnswer (share_value v) piece share y

found_step : (v : Valuation) (share : Rational) (piece done : Piece) (i : Interval) (rest : Piece) (k : ℕ) (c : Rational) (y : CutAnswer) → Stage v share piece done rest i → k ≡ length done → c ≡ piece_value v done
    → Onward v share piece done k y i rest → answer_from v (times share (whole_value v)) c k (i ∷ rest) ≡ Fitted y → IsLeastAnswer (share_value v) piece share y
found_step v share piece done i rest k c y g number worth onward fits =
    let one = next-out _ _ y fits in
    let both = next-out _ _ y one.then_is in
    let is = both_is v share piece done rest i c one.first both.first g worth one.is both.is in
    by both.first is (at_most (times share (whole_value v)) both.first) refl both.then_is
  where
    by : (both : Rational) → both ≡ plus (piece_value v done) (value v i) → (t : Bool) → at_most (times share (whole_value v)) both ≡ t
        → (if t then next (difference_in (times share (whole_value v)) c) (λ more. next (least_point_in v i.from more) (λ p. Fitted (record { part = k; point = p }))) else answer_from v (times share (whole_value v)) both (k + 1) rest) ≡ Fitted y
        → IsLeastAnswer (share_value v) piece share y
    by both is true e h =
        found_here v share piece done rest i k c y g number worth (subst (λ (q : Rational). IsAtMost (times share (whole_value v)) q) is (at_most-out (times share (whole_value v)) both e)) h
    by both is false e h = onward both is (subst (λ (q : Rational). IsBelow q (times share (whole_value v))) is (at_most-above (times share (whole_value v)) both e)) h

found_from : (v : Valuation) (share : Rational) (piece done : Piece) (i : Interval) (rest : Piece) (k : ℕ) (c : Rational) (y : CutAnswer) → Stage v share piece done rest i → PieceInOrder rest → k ≡ length done → c ≡ piece_value v done
    → answer_from v (times share (whole_value v)) c k (i ∷ rest) ≡ Fitted y → IsLeastAnswer (share_value v) piece share y
found_from v share piece done i [] k c y g others number worth fits =
    found_step v share piece done i [] k c y g number worth (λ both is less h. absurd (not_both (plus (piece_value v done) (value v i)) (times share (whole_value v)) less (last_comes v share piece done i g.search g.most))) fits
found_from v share piece done i (j ∷ rest) k c y g others number worth fits =
    found_step v share piece done i (j ∷ rest) k c y g number worth
    (λ both is less h.
    found_from v share piece (done ++ i ∷ []) j rest (k + 1) both y
    (record { search = search_on v share piece done i (j ∷ rest) g.valuation g.search less; valuation = g.valuation; order = others.0; most = g.most })
    others.1 (omega (arith, number, length-append done (i ∷ []))) (is ∙ sym (piece_value-append v done (i ∷ []) ∙ ap (plus (piece_value v done)) (piece_value_one v i))) h)
    fits

pub answer_found : (v : Valuation) (share : Rational) (i : Interval) (rest : Piece) (y : CutAnswer) → IsValuation v → PieceInOrder (i ∷ rest) → CanCut v (i ∷ rest) share → least_answer_in v (i ∷ rest) share ≡ Fitted y → IsLeastAnswer (share_value v) (i ∷ rest) share y
answer_found v share i rest y valuation order can fits =
    let target = next-out _ _ y fits in
    let is : target.first ≡ times share (whole_value v) = product_in-exact _ _ target.first target.is in
    found_from v share (i ∷ rest) [] i rest 0 (whole (pos 0)) y
    (record { search = begun v share (i ∷ rest) can.low; valuation = valuation; order = order.0; most = target_high v (i ∷ rest) share valuation can.high })
    order.1 refl refl (ap (λ (q : Rational). answer_from v q (whole (pos 0)) 0 (i ∷ rest)) (sym is) ∙ target.then_is)

-- ---- of two answers one precedes the other, or they are one
pub answer_order : (z y : CutAnswer) → Precedes z y ⊎ ((z ≡ y) ⊎ Precedes y z)
answer_order z y = by (cases_lt z.part y.part)
  where
    same_part : z.part ≡ y.part → IsBelow z.point y.point ⊎ ((z.point ≡ y.point) ⊎ IsBelow y.point z.point) → Precedes z y ⊎ ((z ≡ y) ⊎ Precedes y z)
    same_part e (inl lt) = inl (inr (e, lt))
    same_part e (inr (inl same)) = inr (inl (λ i. record { part = e i; point = same i }))
    same_part e (inr (inr gt)) = inr (inr (inr (sym e, gt)))

    by' : (y.part < z.part) ⊎ (z.part ≤ y.part) → y.part ≤ z.part → Precedes z y ⊎ ((z ≡ y) ⊎ Precedes y z)
    by' (inl gt) h = inr (inr (inl gt))
    by' (inr le) h = same_part (omega (arith, h, le)) (trichotomy z.point y.point)

    by : (z.part < y.part) ⊎ (y.part ≤ z.part) → Precedes z y ⊎ ((z ≡ y) ⊎ Precedes y z)
    by (inl lt) = inl (inl lt)
    by (inr le) = by' (cases_lt y.part z.part) le

pub least_right : (w : Piece → Rational) (piece : Piece) (amount : Rational) (y : CutAnswer) (l : IsLeastAnswer w piece amount y) → is_right w l.before l.here y.point amount ≡ true
least_right w piece amount y l = right_is w l.before l.here amount y.point l.low l.high l.right

-- a least right answer isn't preceded by another
not_before : (w : Piece → Rational) (piece : Piece) (amount : Rational) (y z : CutAnswer) → IsLeastAnswer w piece amount y → IsLeastAnswer w piece amount z → Precedes z y → ⊥
not_before w piece amount y z l m h = let e : true ≡ false = sym (least_right w piece amount z m) ∙ l.least z h m.before m.here m.after m.parts m.number in cc

pub one_least : (w : Piece → Rational) (piece : Piece) (amount : Rational) (y z : CutAnswer) → IsLeastAnswer w piece amount y → IsLeastAnswer w piece amount z → z ≡ y
one_least w piece amount y z l m = by (answer_order z y)
  where
    by : Precedes z y ⊎ ((z ≡ y) ⊎ Precedes y z) → z ≡ y
    by (inl h) = absurd (not_before w piece amount y z l m h)
    by (inr (inl e)) = e
    by (inr (inr h)) = absurd (not_before w piece amount z y m l h)

pub answers_exact : LeastAnswerIsExact
answers_exact v [] share y valid order some can fits = absurd (omega (arith, some))
answers_exact v (i ∷ is) share y valid order some can fits = answer_found v share i is y valid (piece_each (i ∷ is) order) can fits

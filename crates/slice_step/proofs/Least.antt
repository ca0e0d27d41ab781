-- The point of a cut is the least one that cuts off its amount.
use Rattle.std.proofs.Common.{◌≡◌, ◌∙◌, ℕ, ◌+◌, ◌*◌, ◌<◌, ◌≤◌, ℤ, pos, ◌*ℤ◌, Option, Bool, true, false, ◌⊎◌, inl, inr, arith, refl, sym, ap, subst, lit<}
use Rattle.std.specs.Prelude.{◌≤ℤ◌, ◌<ℤ◌, if◌then◌else◌, ◌&&◌}
use Rattle.std.specs.Ordering.{int_eq}
use Rattle.std.proofs.Math.Nat.{mul-pos}
use Rattle.std.proofs.lemmas.Int.{ints}
use Rattle.std.proofs.lemmas.Bool.{cases_lt}
use Rattle.std.proofs.lemmas.Bool.Decides.{Decides-int_eq}
use Rattle.slice_num.specs.Rational.{Rational, ratio, plus, minus, whole, IsAtMost, IsBelow, same_parts}
use Rattle.slice_num.specs.Fitting.{Fitted, next-out, sum_in-exact, same_as}
use Rattle.slice_num.specs.Valuation.{Valuation, IsValuation, Rises, clipped, total_value}
use Rattle.slice_num.specs.Prefix.{prefix, before}
use Rattle.slice_num.proofs.Ring.{nat, mul, ring_same, ring_le_out}
use Rattle.slice_num.proofs.Ratio.{den_pos, ratio_self, same_ratio}
use Rattle.slice_num.proofs.Laws.{plus_comm}
use Rattle.slice_num.proofs.Whole.{whole_num, whole_den}
use Rattle.slice_num.proofs.FieldLaws.{at_most_ratios, below_ratios, not_both, above_num, order_total, same_rational, at_most_self, at_most_of_same, at_most_trans, at_most_below, weak, plus_least, plus_at_most, plus-minus, minus-plus, minus_same}
use Rattle.slice_num.proofs.Values.{before_grows, value_is_difference, value_of_nothing}
use Rattle.slice_step.specs.Arithmetic.{reached_in, point_of, point_at}
use Rattle.slice_num.specs.ValueLaws.{stretch}
use Rattle.slice_step.specs.Exact.{HasAmount, IsLeastPoint, LeastPointIsExact}
use Rattle.slice_step.proofs.Exact.{not_clipped, value_up_to-exact}
use Rattle.slice_step.proofs.Steps.{reached_in-is}
use Rattle.slice_step.proofs.Reach.{before_ratio, prefix_most, Found, found, point_exact}
use Rattle.slice_step.specs.declared.place.Place.{Place}

-- ---- the test of equality
both_true : (x y : Bool) → (x && y) ≡ true → (x ≡ true) × (y ≡ true)
both_true true true e = (e, e)
both_true true false e = (cc, e)
both_true false y e = (e, cc)

and_true : (x y : Bool) → x ≡ true → y ≡ true → (x && y) ≡ true
and_true x y e f = cc

pos_same : (m n : ℕ) → pos m ≡ pos n → m ≡ n
pos_same m n e = omega (arith, ints, e)

pub same_as-true : (a b : Rational) → same_as a b ≡ true → a ≡ b
same_as-true a b e =
    let t = both_true (int_eq a.num b.num) (int_eq (pos a.den) (pos b.den)) e in
    same_parts a b ((Decides-int_eq a.num b.num).0 t.0) (pos_same a.den b.den ((Decides-int_eq (pos a.den) (pos b.den)).0 t.1))

pub same_as-is : (a b : Rational) → a ≡ b → same_as a b ≡ true
same_as-is a b e = and_true _ _ ((Decides-int_eq a.num b.num).1 (ap (λ (q : Rational). q.num) e)) ((Decides-int_eq (pos a.den) (pos b.den)).1 (ap (λ (q : Rational). pos q.den) e))

-- ---- what lies before a point
before_least : (v : Valuation) (x : Rational) → IsAtMost (whole (pos 0)) (before v x)
unfolding before
before_least v x = at_most_ratios (pos 0) _ 1 x.den (lit< tt) (den_pos x) (omega (arith, ints))

before_most : (v : Valuation) (x : Rational) → Rises 0 v.ends → IsAtMost (before v x) (whole (pos (total_value v)))
unfolding before
before_most v x r =
    at_most_ratios (pos (prefix x.den 0 v.ends v.heights (clipped x.num))) (pos (total_value v)) x.den 1 (den_pos x) (lit< tt)
    (let m = prefix_most x.den 0 v.ends v.heights (clipped x.num) r in omega (arith, ints, m))

-- a point that isn't above a whole number
at_most_whole : (p : Rational) (n t : ℕ) → p.num ≡ pos n → IsAtMost p (whole (pos t)) → n ≤ t * p.den
at_most_whole p n t e h =
    let h1 : (pos n *ℤ pos 1) ≤ℤ (pos t *ℤ pos p.den) = subst (λ (z : ℤ). z ≤ℤ (pos t *ℤ pos p.den)) (λ i. e i *ℤ pos (whole_den (pos t) i)) (subst (λ (z : ℤ). (p.num *ℤ pos (whole (pos t)).den) ≤ℤ (z *ℤ pos p.den)) (whole_num (pos t)) h) in
    omega (arith, ring_le_out (mul (nat n) (nat 1)) (mul (nat t) (nat p.den)) h1)

-- a point below another, over their denominators
below_ratios_out : (m n d e : ℕ) → 0 < d → 0 < e → IsBelow (ratio (pos m) d) (ratio (pos n) e) → m * e < n * d
below_ratios_out m n d e p q h = by (cases_lt (m * e) (n * d))
  where
    by : (m * e < n * d) ⊎ (n * d ≤ m * e) → m * e < n * d
    by (inl lt) = lt
    by (inr le) = absurd (not_both (ratio (pos m) d) (ratio (pos n) e) h (at_most_ratios (pos n) (pos m) e d q p (omega (arith, ints, le))))

-- ---- a point up to which the value from 0 is the target, with less before every earlier point
record Reaches (v : Valuation) (target y : Rational) : Type 0 where
  right : before v y ≡ target
  least : (t : Rational) → IsAtMost (whole (pos 0)) t → IsBelow t y → IsBelow (before v t) target

before_below : (v : Valuation) (t : Rational) (n d : ℕ) → 0 < d → prefix t.den 0 v.ends v.heights (clipped t.num) * d < n * t.den → IsBelow (before v t) (ratio (pos n) d)
unfolding before
before_below v t n d p h = below_ratios (pos (prefix t.den 0 v.ends v.heights (clipped t.num))) (pos n) t.den d (den_pos t) p (omega (arith, ints, h))

-- the point of the step that is found
abbrev point_found : (v : Valuation) (target : Rational) (n : ℕ) → Found 0 0 v.ends v.heights target n → Rational
point_found v target n f = ratio (pos (f.place.start * (f.place.height * target.den) + f.more)) (f.place.height * target.den)

reaches_at : (v : Valuation) (target : Rational) (n : ℕ) → target.num ≡ pos n → (f : Found 0 0 v.ends v.heights target n) → Reaches v target (point_found v target n f)
reaches_at v target n e f =
    let d = target.den in
    let dp : 0 < d = den_pos target in
    let unit = f.place.height * d in
    let up : 0 < unit = mul-pos f.reached.height_some dp in
    let parts = f.place.start * unit + f.more in
    let self : target ≡ ratio (pos n) d = ratio_self target ∙ ap (λ (z : ℤ). ratio z d) e in
    record {
      right = before_ratio v parts unit up
          ∙ same_ratio (pos (prefix unit 0 v.ends v.heights parts)) (pos n) unit d up dp
          (ring_same (mul (nat (prefix unit 0 v.ends v.heights parts)) (nat d)) (mul (nat n) (nat unit)) (omega (arith, ap (λ (x : ℕ). x * d) f.reached.right)))
          ∙ sym self;
      least = λ t low lt.
          let u = t.den in
          let m = clipped t.num in
          let here : t ≡ ratio (pos m) u = ratio_self t ∙ ap (λ (z : ℤ). ratio z u) (not_clipped t low) in
          let lt' : IsBelow (ratio (pos m) u) (ratio (pos parts) unit) = subst (λ (q : Rational). IsBelow q (ratio (pos parts) unit)) here lt in
          let less = f.reached.least u m (den_pos t) (below_ratios_out m parts u unit (den_pos t) up lt') in
          subst (λ (q : Rational). IsBelow (before v t) q) (sym self) (before_below v t n d dp (omega (arith, less)));
    }

-- the target lies above 0, and not above what all steps are worth
record Findable (v : Valuation) (target : Rational) : Type 0 where
  number : ℕ
  is : target.num ≡ pos number
  found : Found 0 0 v.ends v.heights target number

findable : (v : Valuation) (target : Rational) → IsValuation v → IsBelow (whole (pos 0)) target → IsAtMost target (whole (pos (total_value v))) → Findable v target
findable v target valuation low high =
    let n = clipped target.num in
    let e : target.num ≡ pos n = not_clipped target (weak (whole (pos 0)) target low) in
    let some : 0 < n = (let k = above_num target low in omega (arith, ints, subst (λ (z : ℤ). pos 0 <ℤ z) e k)) in
    let most : n ≤ total_value v * target.den = at_most_whole target n (total_value v) e high in
    record { number = n; is = e; found = found 0 0 v.ends v.heights target n e valuation.rises (omega (arith, some)) (omega (arith, most)) }

reaches_target : (v : Valuation) (target y : Rational) → IsValuation v → IsBelow (whole (pos 0)) target → IsAtMost target (whole (pos (total_value v))) → point_of v (reached_in v target) target ≡ Fitted y → Reaches v target y
reaches_target v target y valuation low high fits =
    let one = findable v target valuation low high in
    let f = one.found in
    let point : y ≡ point_found v target one.number f = point_exact f.place target y f.more f.reached.height_some (one.is ∙ ap pos f.reached.target_is) (ap (λ (o : Option Place). point_of v o target) (sym f.is ∙ reached_in-is v target valuation.same_length) ∙ fits) in
    subst (Reaches v target) (sym point) (reaches_at v target one.number one.is f)

-- ---- the least point
-- the target lies between what is before x and what is before z
record Between (v : Valuation) (x z amount target : Rational) : Type 0 where
  is : target ≡ plus (before v x) amount
  low : IsAtMost (before v x) target
  high : IsAtMost target (before v z)

between : (v : Valuation) (x z amount target : Rational) → IsValuation v → HasAmount v x z amount → target ≡ plus (before v x) amount → Between v x z amount target
between v x z amount target valuation has is =
    let w = before v x in
    let most : IsAtMost amount (minus (before v z) w) = subst (λ (q : Rational). IsAtMost amount q) (value_is_difference v (stretch x z) valuation.rises has.in_order.1) has.high in
    let sums : IsAtMost (plus amount w) (before v z) = subst (λ (q : Rational). IsAtMost (plus amount w) q) (minus-plus (before v z) w) (plus_at_most amount (minus (before v z) w) w most) in
    record {
      is = is;
      low = subst (λ (q : Rational). IsAtMost w q) (sym is) (plus_least w amount has.low);
      high = subst (λ (q : Rational). IsAtMost q (before v z)) (plus_comm amount w ∙ sym is) sums;
    }

-- no amount: the point is x
least_at_once : (v : Valuation) (x z amount : Rational) → IsValuation v → HasAmount v x z amount → before v x ≡ plus (before v x) amount → IsLeastPoint v x z amount x
least_at_once v x z amount valuation has is =
    let w = before v x in
    let none : amount ≡ whole (pos 0) = sym (plus-minus amount w) ∙ ap (λ (q : Rational). minus q w) (plus_comm amount w ∙ sym is) ∙ minus_same w w refl in
    record {
      after = at_most_self x;
      within = has.in_order.1;
      right = value_of_nothing v x valuation.rises ∙ sym none;
      least = λ t after before_x. absurd (not_both t x before_x after);
    }

least_in_step : (v : Valuation) (x z amount target y : Rational) → IsValuation v → HasAmount v x z amount → Between v x z amount target → IsBelow (before v x) target → Reaches v target y → IsLeastPoint v x z amount y
least_in_step v x z amount target y valuation has b above reaches =
    let w = before v x in
    let r = valuation.rises in
    let zero_z : IsAtMost (whole (pos 0)) z = at_most_trans (whole (pos 0)) x z has.in_order.0 has.in_order.1 in
    let amount_is : minus target w ≡ amount = ap (λ (q : Rational). minus q w) (b.is ∙ plus_comm w amount) ∙ plus-minus amount w in
    let after : IsAtMost x y = elim (order_total y x) [
      | inl lt ↦ absurd (not_both w target above (subst (λ (q : Rational). IsAtMost q w) reaches.right (before_grows v y x r (weak y x lt))))
      | inr le ↦ le
    ] in
    record {
      after = after;
      within = elim (order_total z y) [
        | inl lt ↦ absurd (not_both (before v z) target (reaches.least z zero_z lt) b.high)
        | inr le ↦ le
      ];
      right = value_is_difference v (stretch x y) r after ∙ ap (λ (q : Rational). minus q w) reaches.right ∙ amount_is;
      least = λ t le lt e.
          let less = reaches.least t (at_most_trans (whole (pos 0)) x t has.in_order.0 le) lt in
          let there : minus (before v t) w ≡ minus target w = sym (value_is_difference v (stretch x t) r le) ∙ e ∙ sym amount_is in
          let same : before v t ≡ target = sym (minus-plus (before v t) w) ∙ ap (λ (q : Rational). plus q w) there ∙ minus-plus target w in
          not_both (before v t) target less (at_most_of_same target (before v t) (sym same));
    }

-- what the test of equality leaves
at_once : (v : Valuation) (x lower target y : Rational) → same_as target lower ≡ true → point_at v x lower target ≡ Fitted y → x ≡ y
at_once v x lower target y e h =
    let k : Fitted x ≡ Fitted y = ap (λ (t : Bool). if t then Fitted x else point_of v (reached_in v target) target) (sym e) ∙ h in
    cc

in_step : (v : Valuation) (x lower target y : Rational) → same_as target lower ≡ false → point_at v x lower target ≡ Fitted y → point_of v (reached_in v target) target ≡ Fitted y
in_step v x lower target y e h = ap (λ (t : Bool). if t then Fitted x else point_of v (reached_in v target) target) (sym e) ∙ h

above_unless_same : (lower target : Rational) → IsAtMost lower target → same_as target lower ≡ false → IsBelow lower target
above_unless_same lower target le e = elim (order_total lower target) [
  | inl lt ↦ lt
  | inr ge ↦ let t = same_as-is target lower (same_rational target lower ge le) in absurd (true_false (sym t ∙ e))
]
  where
    true_false : true ≡ false → ⊥
    true_false q = cc

-- what is known of a target above what lies before x
target_above : (v : Valuation) (x z amount target : Rational) → IsValuation v → Between v x z amount target → IsBelow (before v x) target → IsBelow (whole (pos 0)) target × IsAtMost target (whole (pos (total_value v)))
target_above v x z amount target valuation b above = (
  at_most_below (whole (pos 0)) (before v x) target (before_least v x) above,
  at_most_trans target (before v z) (whole (pos (total_value v))) b.high (before_most v z valuation.rises),
)

least_point_at : (v : Valuation) (x z amount target y : Rational) → IsValuation v → HasAmount v x z amount → target ≡ plus (before v x) amount → point_at v x (before v x) target ≡ Fitted y → IsLeastPoint v x z amount y
least_point_at v x z amount target y valuation has is fits = by (same_as target (before v x)) refl
  where
    b : Between v x z amount target
    b = between v x z amount target valuation has is

    by : (t : Bool) → same_as target (before v x) ≡ t → IsLeastPoint v x z amount y
    by true e =
        subst (IsLeastPoint v x z amount) (at_once v x (before v x) target y e fits)
        (least_at_once v x z amount valuation has (sym (same_as-true target (before v x) e) ∙ is))
    by false e =
        let above = above_unless_same (before v x) target b.low e in
        let bounds = target_above v x z amount target valuation b above in
        least_in_step v x z amount target y valuation has b above (reaches_target v target y valuation bounds.0 bounds.1 (in_step v x (before v x) target y e fits))

-- there is a least point, whether its numbers fit or not
pub record HasLeastPoint (v : Valuation) (x z amount : Rational) : Type 0 where
  pub point : Rational
  pub least : IsLeastPoint v x z amount point

pub least_point_exists : (v : Valuation) (x z amount : Rational) → IsValuation v → HasAmount v x z amount → HasLeastPoint v x z amount
least_point_exists v x z amount valuation has = by (same_as target (before v x)) refl
  where
    target : Rational
    target = plus (before v x) amount

    b : Between v x z amount target
    b = between v x z amount target valuation has refl

    by : (t : Bool) → same_as target (before v x) ≡ t → HasLeastPoint v x z amount
    by true e = record { point = x; least = least_at_once v x z amount valuation has (sym (same_as-true target (before v x) e)) }
    by false e =
        let above = above_unless_same (before v x) target b.low e in
        let bounds = target_above v x z amount target valuation b above in
        let one = findable v target valuation bounds.0 bounds.1 in
        record { point = point_found v target one.number one.found; least = least_in_step v x z amount target _ valuation has b above (reaches_at v target one.number one.is one.found) }

pub least_point_in-least : LeastPointIsExact
least_point_in-least v x z amount y valuation has fits =
    let lower = next-out _ _ y fits in
    let target = next-out _ _ y lower.then_is in
    let w : lower.first ≡ before v x = value_up_to-exact v x lower.first valuation has.in_order.0 lower.is in
    least_point_at v x z amount target.first y valuation has (sum_in-exact _ _ target.first target.is ∙ ap (λ (q : Rational). plus q amount) w)
    (ap (λ (q : Rational). point_at v x q target.first) (sym w) ∙ target.then_is)

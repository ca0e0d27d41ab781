-- The step in which the value from 0 comes up to a target, and the point in it.
use Rattle.std.proofs.Common.{◌≡◌, ◌∙◌, ℕ, zero, suc, ◌+◌, ◌*◌, ◌-◌, ◌<◌, ◌≤◌, min, ℤ, pos, neg_ℤ, ◌*ℤ◌, ◌+ℤ◌, List, [], ◌∷◌, Some, true, false, ◌⊎◌, inl, inr, arith, refl, sym, ap, lit<}
use Rattle.std.proofs.Math.Nat.{mul-pos, mul-le-mul_right, mul-le-mul_left, lt_of_mul-lt-mul_right}
use Rattle.std.proofs.lemmas.Int.{ints}
use Rattle.std.proofs.lemmas.Bool.{cases_lt}
use Rattle.slice_num.specs.Rational.{Rational, ratio, plus, times, minus, whole, IsAtMost}
use Rattle.slice_num.specs.Arithmetic.{inverse}
use Rattle.slice_num.specs.Fitting.{Fitted, below, next-out, sum_in-exact, product_in-exact}
use Rattle.slice_num.specs.Valuation.{Valuation, Rises, clipped, total_from}
use Rattle.slice_num.specs.Prefix.{prefix, before}
use Rattle.slice_num.proofs.Ring.{nat, add, mul, opp, ring_same, ring_out}
use Rattle.slice_num.proofs.Ratio.{den_pos, ratio_cross, ratio_self, same_ratio, plus-ratios}
use Rattle.slice_num.proofs.Laws.{times-ratios}
use Rattle.slice_num.proofs.FieldLaws.{negated-ratio, at_most_ratios, inverse_is}
use Rattle.slice_num.proofs.Values.{prefix-scaled}
use Rattle.slice_step.specs.Arithmetic.{point_in}
use Rattle.slice_step.proofs.Steps.{reached_from}
use Rattle.slice_step.proofs.Exact.{whole_below_point, whole_above_point, not_clipped}
use Rattle.slice_step.proofs.Walk.{whole_some}
use Rattle.slice_step.specs.declared.place.Place.{Place}

-- ---- what lies before a point that isn't in lowest terms
pub before_ratio : (v : Valuation) (n d : ℕ) → 0 < d → before v (ratio (pos n) d) ≡ ratio (pos (prefix d 0 v.ends v.heights n)) d
unfolding before
before_ratio v n d p =
    let y = ratio (pos n) d in
    let e = y.den in
    let m = clipped y.num in
    let low : IsAtMost (whole (pos 0)) y = at_most_ratios (pos 0) (pos n) 1 d (lit< tt) p (omega (arith, ints)) in
    let cross : pos m *ℤ pos d ≡ pos n *ℤ pos e = ap (λ (z : ℤ). z *ℤ pos d) (sym (not_clipped y low)) ∙ ratio_cross (pos n) d p in
    let same : m * d + 0 ≡ n * e + 0 = omega (arith, ring_out (mul (nat m) (nat d)) (mul (nat n) (nat e)) cross) in
    let a = prefix e 0 v.ends v.heights m in
    let b = prefix d 0 v.ends v.heights n in
    let turn : d * e ≡ e * d = omega arith in
    let point : d * m ≡ e * n = omega (arith, same) in
    let both : d * a ≡ e * b = sym (prefix-scaled d e 0 v.ends v.heights m) ∙ (λ i. prefix (turn i) 0 v.ends v.heights (point i)) ∙ prefix-scaled e d 0 v.ends v.heights n in
    same_ratio (pos a) (pos b) e d (den_pos y) p (ring_same (mul (nat a) (nat d)) (mul (nat b) (nat e)) (omega (arith, both)))

-- steps that begin at y or later add nothing
prefix_beyond : (unit start : ℕ) (es hs : List ℕ) (y : ℕ) → Rises start es → y ≤ start * unit → prefix unit start es hs y ≡ 0
prefix_beyond unit start [] hs y r k = refl
prefix_beyond unit start (e ∷ es) [] y r k = refl
prefix_beyond unit start (e ∷ es) (h ∷ hs) y r k =
    let low : start ≤ e = omega (arith, r.0) in
    let up = mul-le-mul_right unit low in
    let none : min (e * unit) y - start * unit ≡ 0 = omega (arith, up) in
    omega (arith, ap (λ n. h * n) none, prefix_beyond unit e es hs y r.1 (omega (arith, up)))

-- what lies before a point is at most what all steps are worth
pub prefix_most : (unit start : ℕ) (es hs : List ℕ) (y : ℕ) → Rises start es → prefix unit start es hs y ≤ total_from start es hs * unit
prefix_most unit start [] hs y r = omega arith
prefix_most unit start (e ∷ es) [] y r = omega arith
prefix_most unit start (e ∷ es) (h ∷ hs) y r = by (prefix_most unit e es hs y r.1) (e - start) (omega (arith, r.0))
  where
    by : prefix unit e es hs y ≤ total_from e es hs * unit → (k : ℕ) → e ≡ start + k → h * (min (e * unit) y - start * unit) + prefix unit e es hs y ≤ (h * k + total_from e es hs) * unit
    by rest k same =
        let wide : e * unit ≡ start * unit + k * unit = omega (arith, ap (λ n. n * unit) same) in
        let one : min (e * unit) y - start * unit ≤ k * unit = omega (arith, wide) in
        omega (arith, mul-le-mul_left h one, rest)

-- ---- the step that is reached, and the point n / (height * d) after what lies before it
pub record Reached (base start : ℕ) (es hs : List ℕ) (n d : ℕ) (place : Place) (more : ℕ) : Type 0 where
  pub height_some : 0 < place.height
  pub target_is : n ≡ place.base * d + more
  pub begins : start * (place.height * d) ≤ place.start * (place.height * d) + more
  pub right : base * (place.height * d) + prefix (place.height * d) start es hs (place.start * (place.height * d) + more) ≡ place.height * n
  pub least : (u m : ℕ) → 0 < u → m * (place.height * d) < (place.start * (place.height * d) + more) * u → (base * u + prefix u start es hs m) * d < n * u

reached_here : (base start e h : ℕ) (es hs : List ℕ) (n d more k : ℕ) → Rises e es → 0 < d → 0 < more → n ≡ base * d + more → e ≡ start + k → n ≤ (base + h * k) * d → Reached base start (e ∷ es) (h ∷ hs) n d (record { base = base; start = start; height = h }) more
reached_here base start e h es hs n d more k r dp some is wide most = record {
  height_some = some_height h refl;
  target_is = is;
  begins = omega arith;
  right = omega (arith, ap (λ (x : ℕ). h * x) inside, ap (λ (x : ℕ). h * x) is, prefix_beyond (h * d) e es hs (start * (h * d) + more) r before_end);
  least = earlier;
}
  where
    long : more ≤ k * (h * d)
    long = omega (arith, is, most)

    some_height : (x : ℕ) → h ≡ x → 0 < h
    some_height zero z = absurd (omega (arith, some, long, ap (λ (x : ℕ). k * (x * d)) z))
    some_height (suc x) z = omega (arith, z)

    before_end : start * (h * d) + more ≤ e * (h * d)
    before_end = omega (arith, long, ap (λ (x : ℕ). x * (h * d)) wide)

    inside : min (e * (h * d)) (start * (h * d) + more) - start * (h * d) ≡ more
    inside = omega (arith, before_end)

    earlier : (u m : ℕ) → 0 < u → m * (h * d) < (start * (h * d) + more) * u → (base * u + (h * (min (e * u) m - start * u) + prefix u e es hs m)) * d < n * u
    earlier u m up lt = by (cases_lt (start * u) m)
      where
        in_step : m < e * u
        in_step = lt_of_mul-lt-mul_right (h * d) (omega (arith, lt, mul-le-mul_right u before_end))

        none : prefix u e es hs m ≡ 0
        none = prefix_beyond u e es hs m r (omega (arith, in_step))

        all : n * u ≡ base * d * u + more * u
        all = omega (arith, ap (λ (x : ℕ). x * u) is)

        by : (start * u < m) ⊎ (m ≤ start * u) → (base * u + (h * (min (e * u) m - start * u) + prefix u e es hs m)) * d < n * u
        by (inl over) = past (m - start * u) (omega (arith, over))
          where
            past : (w : ℕ) → m ≡ start * u + w → (base * u + (h * (min (e * u) m - start * u) + prefix u e es hs m)) * d < n * u
            past w same =
                let part : min (e * u) m - start * u ≡ w = omega (arith, in_step, same) in
                let sum : (base * u + (h * (min (e * u) m - start * u) + prefix u e es hs m)) * d ≡ (base * u + (h * w + 0)) * d = λ i. (base * u + (h * part i + none i)) * d in
                omega (arith, sum, all, lt, ap (λ (x : ℕ). x * (h * d)) same)
        by (inr low) =
            let part : min (e * u) m - start * u ≡ 0 = omega (arith, low) in
            let sum : (base * u + (h * (min (e * u) m - start * u) + prefix u e es hs m)) * d ≡ (base * u + (h * 0 + 0)) * d = λ i. (base * u + (h * part i + none i)) * d in
            omega (arith, sum, all, mul-pos some up)

reached_later : (base start e h : ℕ) (es hs : List ℕ) (n d more k : ℕ) (place : Place) → 0 < d → e ≡ start + k → Reached (base + h * k) e es hs n d place more → Reached base start (e ∷ es) (h ∷ hs) n d place more
reached_later base start e h es hs n d more k place dp wide later = record {
  height_some = later.height_some;
  target_is = later.target_is;
  begins = omega (arith, later.begins, long);
  right = omega (arith, later.right, ap (λ (x : ℕ). h * x) inside);
  least = earlier;
}
  where
    long : e * (place.height * d) ≡ start * (place.height * d) + k * (place.height * d)
    long = omega (arith, ap (λ (x : ℕ). x * (place.height * d)) wide)

    inside : min (e * (place.height * d)) (place.start * (place.height * d) + more) - start * (place.height * d) ≡ k * (place.height * d)
    inside = omega (arith, later.begins, long)

    earlier : (u m : ℕ) → 0 < u → m * (place.height * d) < (place.start * (place.height * d) + more) * u → (base * u + (h * (min (e * u) m - start * u) + prefix u e es hs m)) * d < n * u
    earlier u m up lt =
        let whole_step : e * u ≡ start * u + k * u = omega (arith, ap (λ (x : ℕ). x * u) wide) in
        let part : min (e * u) m - start * u ≤ k * u = omega (arith, whole_step) in
        let more_left : base * u + (h * (min (e * u) m - start * u) + prefix u e es hs m) ≤ (base + h * k) * u + prefix u e es hs m = omega (arith, mul-le-mul_left h part) in
        omega (arith, mul-le-mul_right d more_left, later.least u m up lt)

pub record Found (base start : ℕ) (es hs : List ℕ) (target : Rational) (n : ℕ) : Type 0 where
  pub place : Place
  pub more : ℕ
  pub is : reached_from base start es hs target ≡ Some place
  pub reached : Reached base start es hs n target.den place more

pub found : (base start : ℕ) (es hs : List ℕ) (target : Rational) (n : ℕ) → target.num ≡ pos n → Rises start es → base * target.den < n → n ≤ (base + total_from start es hs) * target.den → Found base start es hs target n
found base start [] hs target n e r low high = absurd (omega (arith, low, high))
found base start (f ∷ es) [] target n e r low high = absurd (omega (arith, low, high))
found base start (f ∷ es) (h ∷ hs) target n e r low high =
    by (cases_lt ((base + h * (f - start)) * target.den) n) (λ over. found (base + h * (f - start)) f es hs target n e r.1 over (omega (arith, high)))
  where
    d : ℕ
    d = target.den

    begun : below (whole (pos base)) target ≡ true
    begun = whole_below_point base n target e low

    by : ((base + h * (f - start)) * d < n) ⊎ (n ≤ (base + h * (f - start)) * d) → ((base + h * (f - start)) * d < n → Found (base + h * (f - start)) f es hs target n) → Found base start (f ∷ es) (h ∷ hs) target n
    by (inl over) go =
        let passed : below (whole (pos (base + h * (f - start)))) target ≡ true = whole_below_point (base + h * (f - start)) n target e over in
        let later = go over in
        record {
          place = later.place;
          more = later.more;
          is = rw (begun, passed) later.is;
          reached = reached_later base start f h es hs n d later.more (f - start) later.place (den_pos target) (omega (arith, r.0)) later.reached;
        }
    by (inr here) go =
        let stops : below (whole (pos (base + h * (f - start)))) target ≡ false = whole_above_point (base + h * (f - start)) n target e here in
        record {
          place = record { base = base; start = start; height = h };
          more = n - base * d;
          is = rw (begun, stops) refl;
          reached = reached_here base start f h es hs n d (n - base * d) (f - start) r.1 (den_pos target) (omega (arith, low)) (omega (arith, low)) (omega (arith, r.0)) here;
        }

-- ---- the exact point
remainder : (s m : ℕ) (p : Rational) → p.num ≡ pos (s * p.den + m) → minus p (whole (pos s)) ≡ ratio (pos m) p.den
remainder s m p e =
    let d = p.den in
    let q : 0 < d = den_pos p in
    let n = pos (s * d + m) in
    let self : p ≡ ratio n d = ratio_self p ∙ ap (λ (z : ℤ). ratio z d) e in
    (λ i. plus (self i) (negated-ratio (pos s) 1 (lit< tt) i)) ∙ plus-ratios n (neg_ℤ (pos s)) d 1 q (lit< tt)
    ∙ same_ratio (n *ℤ pos 1 +ℤ neg_ℤ (pos s) *ℤ pos d) (pos m) (d * 1) d (omega (arith, q)) q
    (ring_same (mul (add (mul (nat (s * d + m)) (nat 1)) (mul (opp (nat s)) (nat d))) (nat d)) (mul (nat m) (nat (d * 1))) (omega arith))

inverse_whole : (h : ℕ) → 0 < h → inverse (whole (pos h)) ≡ ratio (pos 1) h
inverse_whole h p =
    sym
    (inverse_is (whole (pos h)) (ratio (pos 1) h) (whole_some h p)
    (times-ratios (pos h) (pos 1) 1 h (lit< tt) p ∙ same_ratio (pos h *ℤ pos 1) (pos 1) (1 * h) 1 (omega (arith, p)) (lit< tt) (ring_same (mul (mul (nat h) (nat 1)) (nat 1)) (mul (nat 1) (nat (1 * h))) (omega arith))))

-- a point of a step, by the quotient of what is missing and the height
pub point_exact : (place : Place) (target y : Rational) (more : ℕ) → 0 < place.height → target.num ≡ pos (place.base * target.den + more) → point_in place target ≡ Fitted y → y ≡ ratio (pos (place.start * (place.height * target.den) + more)) (place.height * target.den)
point_exact place target y more p e fits =
    let s = place.start in
    let h = place.height in
    let d = target.den in
    let q : 0 < d = den_pos target in
    let first = next-out _ _ y fits in
    let second = next-out _ _ y first.then_is in
    let missing : first.first ≡ ratio (pos more) d = sum_in-exact _ _ first.first first.is ∙ remainder place.base more target e in
    let wide : second.first ≡ ratio (pos more *ℤ pos 1) (d * h) = product_in-exact _ _ second.first second.is ∙ (λ i. times (missing i) (inverse_whole h p i)) ∙ times-ratios (pos more) (pos 1) d h q p in
    sum_in-exact _ _ y second.then_is ∙ ap (plus (whole (pos s))) wide ∙ plus-ratios (pos s) (pos more *ℤ pos 1) 1 (d * h) (lit< tt) (mul-pos q p)
    ∙ same_ratio (pos s *ℤ pos (d * h) +ℤ pos more *ℤ pos 1 *ℤ pos 1) (pos (s * (h * d) + more)) (1 * (d * h)) (h * d) (mul-pos (lit< tt) (mul-pos q p)) (mul-pos p q)
    (ring_same (mul (add (mul (nat s) (nat (d * h))) (mul (mul (nat more) (nat 1)) (nat 1))) (nat (h * d))) (mul (nat (s * (h * d) + more)) (nat (1 * (d * h)))) (omega arith))

-- The steps of a valuation as the loops walk them, with the base and the start so far.
use Rattle.std.proofs.Common.{◌≡◌, ◌∙◌, ℕ, ◌+◌, ◌*◌, ◌-◌, List, [], ◌∷◌, length, take, pos, Bool, true, false, cond, Option, Some, None, option_map, find, slice_index_or, arith, refl, sym, ap, zero-add, zero, suc}
use Rattle.std.proofs.Math.Numerals.{add-one}
use Rattle.std.specs.Prelude.{if◌then◌else◌}
use Rattle.std.specs.List.{position_or_len, range_with_len}
use Rattle.slice_num.specs.Rational.{Rational, whole}
use Rattle.slice_num.specs.Fitting.{below, at_most}
use Rattle.slice_num.specs.Valuation.{Valuation, last_end, total_from}
use Rattle.slice_step.specs.Arithmetic.{reaches, place_in, reached_in}
use Rattle.slice_step.specs.declared.place.Place.{Place}

-- the walk to the first step whose end is at least p
abbrev pub place_from : ℕ → ℕ → List ℕ → List ℕ → Rational → Place
place_from base start [] hs p = record { base = base; start = start; height = 0 }
place_from base start (e ∷ es) [] p = record { base = base; start = start; height = 0 }
place_from base start (e ∷ es) (h ∷ hs) p =
    if below (whole (pos e)) p then place_from (base + h * (e - start)) e es hs p
    else record { base = base; start = start; height = h }

-- the walk to the first step in which the value from 0 comes up to the target
abbrev pub reached_from : ℕ → ℕ → List ℕ → List ℕ → Rational → Option Place
reached_from base start [] hs target = None
reached_from base start (e ∷ es) [] target = None
reached_from base start (e ∷ es) (h ∷ hs) target =
    if reaches base (base + h * (e - start)) target then Some (record { base = base; start = start; height = h })
    else reached_from (base + h * (e - start)) e es hs target

-- ---- step k of those that follow
base_at : ℕ → ℕ → List ℕ → List ℕ → ℕ → ℕ
base_at base start es hs k = base + total_from start (take k es) (take k hs)

step_at : ℕ → ℕ → List ℕ → List ℕ → ℕ → Place
step_at base start es hs k = record { base = base_at base start es hs k; start = last_end start (take k es); height = slice_index_or hs k 0 }

base_at-later : (base start e h : ℕ) (es hs : List ℕ) (k : ℕ) → base_at base start (e ∷ es) (h ∷ hs) (k + 1) ≡ base_at (base + h * (e - start)) e es hs k
unfolding base_at
base_at-later base start e h es hs k = rw add-one (omega arith)

step_at-later : (base start e h : ℕ) (es hs : List ℕ) (k : ℕ) → step_at base start (e ∷ es) (h ∷ hs) (k + 1) ≡ step_at (base + h * (e - start)) e es hs k
unfolding step_at
step_at-later base start e h es hs k =
    let one : k + 1 ≡ suc k = omega arith in
    λ i. record {
      base = base_at-later base start e h es hs k i;
      start = last_end start (take (one i) (e ∷ es));
      height = slice_index_or (h ∷ hs) (one i) 0;
    }

-- ---- the step of a point
ends_at : Rational → ℕ → Bool
ends_at p e = at_most p (whole (pos e))

place_from-is : (base start : ℕ) (es hs : List ℕ) (p : Rational) → length es ≡ length hs → place_from base start es hs p ≡ step_at base start es hs (position_or_len (ends_at p) es)
unfolding step_at base_at ends_at
place_from-is base start [] [] p same = λ i. record { base = none i; start = start; height = 0 }
  where
    none : base ≡ base + 0
    none = omega arith
place_from-is base start [] (h ∷ hs) p same = absurd (omega (arith, same))
place_from-is base start (e ∷ es) [] p same = absurd (omega (arith, same))
place_from-is base start (e ∷ es) (h ∷ hs) p same = by (below (whole (pos e)) p) refl (place_from-is (base + h * (e - start)) e es hs p (omega (arith, same)))
  where
    by : (t : Bool) → below (whole (pos e)) p ≡ t → place_from (base + h * (e - start)) e es hs p ≡ step_at (base + h * (e - start)) e es hs (position_or_len (ends_at p) es)
        → place_from base start (e ∷ es) (h ∷ hs) p ≡ step_at base start (e ∷ es) (h ∷ hs) (position_or_len (ends_at p) (e ∷ es))
    by true q rest =
        let turn : position_or_len (ends_at p) es + 1 ≡ 1 + position_or_len (ends_at p) es = omega arith in
        rw q (rest ∙ sym (step_at-later base start e h es hs (position_or_len (ends_at p) es)) ∙ ap (step_at base start (e ∷ es) (h ∷ hs)) turn)
    by false q rest =
        let none : base ≡ base + 0 = omega arith in
        rw q (λ i. record { base = none i; start = start; height = h })

pub place_in-is : (v : Valuation) (p : Rational) → length v.ends ≡ length v.heights → place_from 0 0 v.ends v.heights p ≡ place_in v p
unfolding step_at base_at ends_at place_in
place_in-is v p same = place_from-is 0 0 v.ends v.heights p same ∙ (λ i. record {
  base = zero-add (total_from 0 (take k v.ends) (take k v.heights)) i;
  start = last_end 0 (take k v.ends);
  height = slice_index_or v.heights k 0;
})
  where
    k : ℕ
    k = position_or_len (λ e. at_most p (whole (pos e))) v.ends

-- ---- the step that comes up to a target
comes_at : ℕ → ℕ → List ℕ → List ℕ → Rational → ℕ → Bool
comes_at base start es hs target k = reaches (base_at base start es hs k) (base_at base start es hs (k + 1)) target

-- a search among numbers that all are one more
find_later : (test : ℕ → Bool) (a n : ℕ) → find test (range_with_len (a + 1) n) ≡ option_map (λ k. k + 1) (find (λ k. test (k + 1)) (range_with_len a n))
find_later test a zero = refl
find_later test a (suc n) = by (test (a + 1)) (find test (range_with_len (a + 1 + 1) n)) (find (λ k. test (k + 1)) (range_with_len (a + 1) n)) (find_later test (a + 1) n)
  where
    by : (t : Bool) (m o : Option ℕ) → m ≡ option_map (λ k. k + 1) o → cond t (Some (a + 1)) m ≡ option_map (λ k. k + 1) (cond t (Some a) o)
    by true m o e = refl
    by false m o e = e

map_later : {A : Type 0} (f g : ℕ → A) (o : Option ℕ) → ((k : ℕ) → f (k + 1) ≡ g k) → option_map f (option_map (λ k. k + 1) o) ≡ option_map g o
map_later f g None h = refl
map_later f g (Some k) h = ap Some (h k)

comes_at-first : (base start e h : ℕ) (es hs : List ℕ) (target : Rational) → comes_at base start (e ∷ es) (h ∷ hs) target 0 ≡ reaches base (base + h * (e - start)) target
unfolding comes_at base_at
comes_at-first base start e h es hs target =
    let low : base + 0 ≡ base = omega arith in
    let high : base + (h * (e - start) + 0) ≡ base + h * (e - start) = omega arith in
    λ i. reaches (low i) (high i) target

comes_at-later : (base start e h : ℕ) (es hs : List ℕ) (target : Rational) (k : ℕ) → comes_at base start (e ∷ es) (h ∷ hs) target (k + 1) ≡ comes_at (base + h * (e - start)) e es hs target k
unfolding comes_at
comes_at-later base start e h es hs target k = λ i. reaches (base_at-later base start e h es hs k i) (base_at-later base start e h es hs (k + 1) i) target

step_at-first : (base start e h : ℕ) (es hs : List ℕ) → step_at base start (e ∷ es) (h ∷ hs) 0 ≡ record { base = base; start = start; height = h }
unfolding step_at base_at
step_at-first base start e h es hs =
    let low : base + 0 ≡ base = omega arith in
    λ i. record { base = low i; start = start; height = h }

-- the search among the steps after the first one
search_later : (base start e h : ℕ) (es hs : List ℕ) (target : Rational) → option_map (step_at base start (e ∷ es) (h ∷ hs)) (find (comes_at base start (e ∷ es) (h ∷ hs) target) (range_with_len 1 (length es)))
    ≡ option_map (step_at (base + h * (e - start)) e es hs) (find (comes_at (base + h * (e - start)) e es hs target) (range_with_len 0 (length es)))
search_later base start e h es hs target =
    ap (option_map (step_at base start (e ∷ es) (h ∷ hs))) (find_later (comes_at base start (e ∷ es) (h ∷ hs) target) 0 (length es))
    ∙ (λ i. option_map (step_at base start (e ∷ es) (h ∷ hs)) (option_map (λ k. k + 1) (find (λ k. comes_at-later base start e h es hs target k i) (range_with_len 0 (length es)))))
    ∙ map_later (step_at base start (e ∷ es) (h ∷ hs)) (step_at (base + h * (e - start)) e es hs) (find (comes_at (base + h * (e - start)) e es hs target) (range_with_len 0 (length es))) (step_at-later base start e h es hs)

reached_from-is : (base start : ℕ) (es hs : List ℕ) (target : Rational) → length es ≡ length hs → reached_from base start es hs target ≡ option_map (step_at base start es hs) (find (comes_at base start es hs target) (range_with_len 0 (length es)))
reached_from-is base start [] [] target same = refl
reached_from-is base start [] (h ∷ hs) target same = absurd (omega (arith, same))
reached_from-is base start (e ∷ es) [] target same = absurd (omega (arith, same))
reached_from-is base start (e ∷ es) (h ∷ hs) target same =
    by (reaches base (base + h * (e - start)) target) refl (reached_from-is (base + h * (e - start)) e es hs target (omega (arith, same)) ∙ sym (search_later base start e h es hs target))
  where
    by : (t : Bool) → reaches base (base + h * (e - start)) target ≡ t
        → reached_from (base + h * (e - start)) e es hs target ≡ option_map (step_at base start (e ∷ es) (h ∷ hs)) (find (comes_at base start (e ∷ es) (h ∷ hs) target) (range_with_len 1 (length es)))
        → reached_from base start (e ∷ es) (h ∷ hs) target ≡ option_map (step_at base start (e ∷ es) (h ∷ hs)) (find (comes_at base start (e ∷ es) (h ∷ hs) target) (range_with_len 0 (length (e ∷ es))))
    by true q rest = rw (q, comes_at-first base start e h es hs target, q) (ap Some (sym (step_at-first base start e h es hs)))
    by false q rest = rw (q, comes_at-first base start e h es hs target, q) rest

pub reached_in-is : (v : Valuation) (target : Rational) → length v.ends ≡ length v.heights → reached_from 0 0 v.ends v.heights target ≡ reached_in v target
unfolding step_at base_at comes_at reached_in
reached_in-is v target same =
    reached_from-is 0 0 v.ends v.heights target same
    ∙ (λ i. option_map (λ k. record { base = zero-add (total_from 0 (take k v.ends) (take k v.heights)) i; start = last_end 0 (take k v.ends); height = slice_index_or v.heights k 0 })
    (find (λ k. reaches (zero-add (total_from 0 (take k v.ends) (take k v.heights)) i) (zero-add (total_from 0 (take (k + 1) v.ends) (take (k + 1) v.heights)) i) target) (range_with_len 0 (length v.ends))))

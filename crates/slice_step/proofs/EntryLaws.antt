-- What the tests of an agent's entry come to.
use Rattle.std.proofs.Common.{◌≡◌, ◌∙◌, ℕ, zero, suc, ◌<◌, ◌≤◌, ◌^◌, ◌==◌, ◌&&◌, nat_le, Bool, true, false, not, if◌then◌else◌, IsTrue, List, [], ◌∷◌, ◌++◌, length, map, Option, Some, None, option_map, option_and_then, is_some, ℤ, pos, int_le, int_lt, ◌<ℤ◌, ◌≤ℤ◌, codes, arith, refl, sym, ap, subst}
use Rattle.std.specs.Prelude.{IfOk, IfErr, Result, Ok, Err}
use Rattle.std.specs.List.{All, sum}
use Rattle.std.specs.Ordering.{int_eq}
use Rattle.std.proofs.lemmas.Bool.Decides.{nat_tests}
use Rattle.std.proofs.lemmas.Int.{ints}
use Rattle.std.proofs.lemmas.List.Elements.{All-nil, All-cons, All-head, All-tail}
use Rattle.std.proofs.lemmas.List.Sums.{sum_by-cons}
use Rattle.serde_json.specs.Data.{Data, Items, no_items, item}
use Rattle.serde_json.specs.Events.{items_len}
use Rattle.serde_json.specs.View.{items_view}
use Rattle.serde_json.specs.declared.value.Value.{Value}
use Rattle.serde_json.proofs.Views.{items_len-items_view}
use Rattle.slice_json.specs.Reading.{wholes_of, whole_of, items_at}
use Rattle.slice_num.specs.Valuation.{Valuation, Rises, last_end, cake_length}
use Rattle.slice_step.specs.ValuationShape.{steps, IsSmallValuation}
use Rattle.slice_step.specs.ValuationFile.{has_steps, numbers_at, or_nothing, numbers, do_rise, last_number, are_ends, are_heights, are_zero, first_failed, entry_fault, or_else}
use Rattle.slice_step.specs.FileSteps.{form_fault, numbers_fault, AreSteps}
use Rattle.slice_step.specs.declared.fault.ValuationFault.{ValuationFault}
use Rattle.slice_step.specs.declared.fault.ValuationFault.TheVariants as fault

-- how many items there are
pub counts : (vs : List Value) → items_len (items_view vs) ≡ length vs
counts vs = items_len-items_view vs

-- as many numbers as items
one_more : (o : Option ℤ) (rest : Option (List ℤ)) (n : ℕ) (zs : List ℤ) → ((ys : List ℤ) → rest ≡ Some ys → length ys ≡ n)
    → option_and_then (λ x. option_map (λ xs. x ∷ xs) rest) o ≡ Some zs → length zs ≡ suc n
one_more None rest n zs h e = cc
one_more (Some z) None n zs h e = cc
one_more (Some z) (Some ys) n zs h e = let same : z ∷ ys ≡ zs = cc in sym (ap length same) ∙ ap suc (h ys refl)

pub wholes_length : (ds : Items) (zs : List ℤ) → wholes_of ds ≡ Some zs → length zs ≡ items_len ds
wholes_length no_items zs e = let same : [] ≡ zs = cc in sym (ap length same)
wholes_length (item d ds) zs e = one_more (whole_of d) (wholes_of ds) (items_len ds) zs (λ ys f. wholes_length ds ys f) e

three_true : (a b c : Bool) → (a && (b && c)) ≡ true → (a ≡ true) × (b ≡ true) × (c ≡ true)
three_true true true true e = (refl, refl, refl)
three_true true true false e = cc
three_true true false c e = cc
three_true false b c e = cc

pub steps_from : (es hs : Items) (xs ys : List ℤ) → Some xs ≡ wholes_of es → Some ys ≡ wholes_of hs → has_steps (Some es) (Some hs) ≡ true → AreSteps xs ys
steps_from es hs xs ys e f h =
    let t = three_true (items_len es == items_len hs) (nat_le 1 (items_len es)) (nat_le (items_len es) 1000) h in
    let a = t.0 in
    let b = t.1 in
    let c = t.2 in
    let m = wholes_length es xs (sym e) in
    let n = wholes_length hs ys (sym f) in
    let same : items_len es ≡ items_len hs = grind (arith, nat_tests) in
    let some : 1 ≤ items_len es = grind (arith, nat_tests) in
    let few : items_len es ≤ 1000 = grind (arith, nat_tests) in
    record { same = omega (arith, m, n, same); some = omega (arith, m, some); few = omega (arith, m, few) }

-- ---- whole numbers that aren't below 0
abbrev pub whole_numbers : List ℕ → List ℤ
whole_numbers ns = map (λ n. pos n) ns

both_true : (a b : Bool) → (a && b) ≡ true → (a ≡ true) × (b ≡ true)
both_true true true e = (refl, refl)
both_true true false e = cc
both_true false b e = cc

pub both_are : (a b : Bool) → a ≡ true → b ≡ true → (a && b) ≡ true
both_are true b e f = f
both_are false b e f = cc

pub rises_out : (low : ℕ) (ns : List ℕ) → do_rise (pos low) (whole_numbers ns) ≡ true → Rises low ns
rises_out low [] h = tt
rises_out low (n ∷ ns) h = let t = both_true _ _ h in let less = t.0 in (grind (arith, nat_tests, ints), rises_out n ns t.1)

pub rises_in : (low : ℕ) (ns : List ℕ) → Rises low ns → do_rise (pos low) (whole_numbers ns) ≡ true
rises_in low [] h = refl
rises_in low (n ∷ ns) h = let less = h.0 in both_are _ _ (grind (arith, nat_tests, ints)) (rises_in n ns h.1)

pub last_is : (low : ℕ) (ns : List ℕ) → last_number (pos low) (whole_numbers ns) ≡ pos (last_end low ns)
last_is low [] = refl
last_is low (n ∷ ns) = last_is n ns

low_last : (low : ℕ) (ns : List ℕ) → Rises low ns → low ≤ last_end low ns
low_last low [] h = omega arith
low_last low (n ∷ ns) h = let less = h.0 in omega (arith, low_last n ns h.1, less)

near_out : (low most : ℕ) (ns : List ℕ) → Rises low ns → last_end low ns ≤ most → All (λ e. e ≤ most) ns
near_out low most [] h k = All-nil (λ e. e ≤ most)
near_out low most (n ∷ ns) h k = All-cons (λ e. e ≤ most) n ns (omega (arith, low_last n ns h.1, k)) (near_out n most ns h.1 k)

pub near_in : (low most : ℕ) (ns : List ℕ) → low ≤ most → All (λ e. e ≤ most) ns → last_end low ns ≤ most
near_in low most [] h k = h
near_in low most (n ∷ ns) h k = near_in n most ns (All-head (λ e. e ≤ most) n ns k) (All-tail (λ e. e ≤ most) n ns k)

low_out : (ms : List ℕ) → are_heights (whole_numbers ms) ≡ true → All (λ h. h ≤ 10 ^ 18) ms
low_out [] h = All-nil (λ h. h ≤ 10 ^ 18)
low_out (m ∷ ms) h =
    let t = both_true (int_le (pos 0) (pos m) && int_le (pos m) (pos (10 ^ 18))) (are_heights (whole_numbers ms)) h in
    let here = (both_true (int_le (pos 0) (pos m)) (int_le (pos m) (pos (10 ^ 18))) t.0).1 in
    All-cons (λ h. h ≤ 10 ^ 18) m ms (grind (arith, nat_tests, ints)) (low_out ms t.1)

pub low_in : (ms : List ℕ) → All (λ h. h ≤ 10 ^ 18) ms → are_heights (whole_numbers ms) ≡ true
low_in [] h = refl
low_in (m ∷ ms) h =
    let here = All-head (λ h. h ≤ 10 ^ 18) m ms h in
    both_are _ _ (both_are _ _ refl (grind (arith, nat_tests, ints))) (low_in ms (All-tail (λ h. h ≤ 10 ^ 18) m ms h))

not_zero : (m : ℕ) → int_eq (pos (suc m)) (pos 0) ≡ false
not_zero m = grind (arith, nat_tests, ints)

and_false : (a b : Bool) → a ≡ false → (a && b) ≡ false
and_false true b e = cc
and_false false b e = refl

some_out : (ms : List ℕ) → are_zero (whole_numbers ms) ≡ false → 0 < sum ms
some_out [] h = cc
some_out (zero ∷ ms) h = omega (arith, some_out ms h)
some_out (suc m ∷ ms) h = omega (arith, sum_by-cons (λ (x : ℕ). x) (suc m) ms)

pub some_in : (ms : List ℕ) → 0 < sum ms → are_zero (whole_numbers ms) ≡ false
some_in [] h = absurd (omega (arith, h))
some_in (zero ∷ ms) h = some_in ms (omega (arith, h))
some_in (suc m ∷ ms) h = and_false (int_eq (pos (suc m)) (pos 0)) (are_zero (whole_numbers ms)) (not_zero m)

pub length_whole : (ns : List ℕ) → length (whole_numbers ns) ≡ length ns
length_whole [] = refl
length_whole (n ∷ ns) = ap suc (length_whole ns)

-- what the tests say
pub small_from : (es hs : List ℤ) (ns ms : List ℕ) → es ≡ whole_numbers ns → hs ≡ whole_numbers ms → AreSteps es hs → are_ends es ≡ true → are_heights hs ≡ true → are_zero hs ≡ false → IsSmallValuation (steps ns ms)
small_from es hs ns ms e f long rise low some =
    let here = both_true _ _ (subst (λ zs. are_ends zs ≡ true) e rise) in
    let rises = rises_out 0 ns here.0 in
    let last = last_is 0 ns in
    let least = here.1 in
    let most : last_end 0 ns ≤ 10 ^ 6 = last_out (last_end 0 ns) (subst (λ z. int_le z (pos (10 ^ 6)) ≡ true) last least) in
    let n = ap length e ∙ length_whole ns in
    let m = ap length f ∙ length_whole ms in
    let same = long.same in
    let few = long.few in (
      record { same_length = omega (arith, n, m, same); rises = rises; some_height = some_out ms (subst (λ zs. are_zero zs ≡ false) f some) },
      record { few = omega (arith, n, few); near = near_out 0 (10 ^ 6) ns rises most; low = low_out ms (subst (λ zs. are_heights zs ≡ true) f low) },
    )
  where
    last_out : (n : ℕ) → int_le (pos n) (pos (10 ^ 6)) ≡ true → n ≤ 10 ^ 6
    last_out n h = grind (arith, nat_tests, ints)

-- ends lie from 0 to 10^18
low_most : (low : ℤ) (zs : List ℤ) → do_rise low zs ≡ true → low ≤ℤ last_number low zs
low_most low [] h = omega (arith, ints)
low_most low (z ∷ zs) h =
    let t = both_true (int_lt low z) (do_rise z zs) h in
    let less : low <ℤ z = less_out low z t.0 in
    omega (arith, ints, low_most z zs t.1, less)
  where
    less_out : (a b : ℤ) → int_lt a b ≡ true → a <ℤ b
    less_out a b h = grind (arith, nat_tests, ints)

abbrev pub IsHeld : ℤ → Type 0
IsHeld z = IsTrue (int_le (pos 0) z && int_le z (pos (10 ^ 18)))

held_in : (z : ℤ) → pos 0 ≤ℤ z → z ≤ℤ pos (10 ^ 6) → IsHeld z
held_in z h k = both_are (int_le (pos 0) z) (int_le z (pos (10 ^ 18))) (grind (arith, nat_tests, ints)) (grind (arith, nat_tests, ints))

held_from : (low : ℤ) (zs : List ℤ) → pos 0 ≤ℤ low → do_rise low zs ≡ true → last_number low zs ≤ℤ pos (10 ^ 6) → All IsHeld zs
held_from low [] p h k = All-nil IsHeld
held_from low (z ∷ zs) p h k =
    let t = both_true (int_lt low z) (do_rise z zs) h in
    let less : low <ℤ z = less_out low z t.0 in
    let here : pos 0 ≤ℤ z = omega (arith, ints, p, less) in
    All-cons IsHeld z zs (held_in z here (omega (arith, ints, low_most z zs t.1, k))) (held_from z zs here t.1 k)
  where
    less_out : (a b : ℤ) → int_lt a b ≡ true → a <ℤ b
    less_out a b h = grind (arith, nat_tests, ints)

pub ends_held : (es : List ℤ) → are_ends es ≡ true → All IsHeld es
ends_held es h =
    let t = both_true (do_rise (pos 0) es) (int_le (last_number (pos 0) es) (pos (10 ^ 6))) h in
    held_from (pos 0) es (omega (arith, ints)) t.0 (most_out (last_number (pos 0) es) t.1)
  where
    most_out : (z : ℤ) → int_le z (pos (10 ^ 6)) ≡ true → z ≤ℤ pos (10 ^ 6)
    most_out z h = grind (arith, nat_tests, ints)

-- ---- tables of tests
failed_first : (b : Bool) (f : ValuationFault) (ts ys : List (Bool × ValuationFault)) → first_failed (ts ++ ys) ≡ or_else (first_failed ts) (first_failed ys)
    → (if b then first_failed (ts ++ ys) else Some f) ≡ or_else (if b then first_failed ts else Some f) (first_failed ys)
failed_first true f ts ys e = e
failed_first false f ts ys e = refl

pub failed_append : (xs ys : List (Bool × ValuationFault)) → first_failed (xs ++ ys) ≡ or_else (first_failed xs) (first_failed ys)
failed_append [] ys = refl
failed_append (t ∷ ts) ys = failed_first t.0 t.1 ts ys (failed_append ts ys)

-- the last test
abbrev pub end_fault : ℕ → ℤ → ℤ → Option ValuationFault
end_fault agent last cake_end = first_failed ((int_eq last cake_end, fault.LengthsDiffer agent) ∷ [])

-- the tests of an entry, by stages
pub entry_stages : (agent : ℕ) (cake_end : ℤ) (d : Data)
    → entry_fault agent cake_end d
    ≡ or_else (form_fault agent d) (or_else (numbers_fault agent (numbers (codes "ends") d) (numbers (codes "heights") d)) (end_fault agent (last_number (pos 0) (numbers (codes "ends") d)) cake_end))
unfolding entry_fault
entry_stages agent cake_end d =
    failed_append ((has_steps (items_at (codes "ends") d) (items_at (codes "heights") d), fault.Shape agent) ∷ (is_some (numbers_at (codes "ends") d) && is_some (numbers_at (codes "heights") d), fault.NotWhole agent) ∷ [])
    ((are_ends (numbers (codes "ends") d), fault.EndsOrder agent) ∷ (are_heights (numbers (codes "heights") d), fault.HeightRange agent) ∷ (not (are_zero (numbers (codes "heights") d)), fault.NoTotal agent) ∷ (int_eq (last_number (pos 0) (numbers (codes "ends") d)) cake_end, fault.LengthsDiffer agent) ∷ [])
    ∙ ap (λ o. or_else (form_fault agent d) o) (failed_append ((are_ends (numbers (codes "ends") d), fault.EndsOrder agent) ∷ (are_heights (numbers (codes "heights") d), fault.HeightRange agent) ∷ (not (are_zero (numbers (codes "heights") d)), fault.NoTotal agent) ∷ []) ((int_eq (last_number (pos 0) (numbers (codes "ends") d)) cake_end, fault.LengthsDiffer agent) ∷ []))

pub entry_form : (agent : ℕ) (cake_end : ℤ) (d : Data) (f : ValuationFault) → form_fault agent d ≡ Some f → entry_fault agent cake_end d ≡ Some f
entry_form agent cake_end d f e =
    entry_stages agent cake_end d
    ∙ ap (λ o. or_else o (or_else (numbers_fault agent (numbers (codes "ends") d) (numbers (codes "heights") d)) (end_fault agent (last_number (pos 0) (numbers (codes "ends") d)) cake_end))) e

pub entry_numbers : (agent : ℕ) (cake_end : ℤ) (d : Data) (es hs : List ℤ) → form_fault agent d ≡ None → numbers_at (codes "ends") d ≡ Some es → numbers_at (codes "heights") d ≡ Some hs
    → entry_fault agent cake_end d ≡ or_else (numbers_fault agent es hs) (end_fault agent (last_number (pos 0) es) cake_end)
entry_numbers agent cake_end d es hs none e h =
    entry_stages agent cake_end d
    ∙ ap (λ o. or_else o (or_else (numbers_fault agent (numbers (codes "ends") d) (numbers (codes "heights") d)) (end_fault agent (last_number (pos 0) (numbers (codes "ends") d)) cake_end))) none
    ∙ (λ i. or_else (numbers_fault agent (or_nothing (e i)) (or_nothing (h i))) (end_fault agent (last_number (pos 0) (or_nothing (e i))) cake_end))

-- an entry whose numbers are right has at most the last fault
pub entry_passes : (agent : ℕ) (d : Data) (es hs : List ℤ) (v : Valuation) → form_fault agent d ≡ None → numbers_at (codes "ends") d ≡ Some es → numbers_at (codes "heights") d ≡ Some hs
    → numbers_fault agent es hs ≡ None → es ≡ whole_numbers v.ends → (cake_end : ℤ) → entry_fault agent cake_end d ≡ end_fault agent (pos (cake_length v)) cake_end
entry_passes agent d es hs v form e h none is cake_end =
    entry_numbers agent cake_end d es hs form e h
    ∙ ap (λ o. or_else o (end_fault agent (last_number (pos 0) es) cake_end)) none
    ∙ ap (λ z. end_fault agent z cake_end) (ap (λ zs. last_number (pos 0) zs) is ∙ last_is 0 v.ends)

pub entry_refused : (agent : ℕ) (d : Data) (es hs : List ℤ) (f : ValuationFault) → form_fault agent d ≡ None → numbers_at (codes "ends") d ≡ Some es → numbers_at (codes "heights") d ≡ Some hs
    → numbers_fault agent es hs ≡ Some f → (cake_end : ℤ) → entry_fault agent cake_end d ≡ Some f
entry_refused agent d es hs f form e h some cake_end =
    entry_numbers agent cake_end d es hs form e h ∙ ap (λ o. or_else o (end_fault agent (last_number (pos 0) es) cake_end)) some

-- ---- clauses on results
pub ok_both : {T E : Type 0} {P Q R : T → Type 0} (r : Result T E) → IfOk r P → IfOk r Q → ((x : T) → P x → Q x → R x) → IfOk r R
ok_both (Ok x) p q f = f x p q
ok_both (Err e) p q f = tt

pub err_map : {T E : Type 0} {P Q : E → Type 0} (r : Result T E) → IfErr r P → ((e : E) → P e → Q e) → IfErr r Q
err_map (Ok x) p f = tt
err_map (Err e) p f = f e p

-- the first agent's entry meets its own last end
pub same_end : (agent n : ℕ) → end_fault agent (pos n) (pos n) ≡ None
same_end agent n = by (int_eq (pos n) (pos n)) (grind (arith, nat_tests, ints))
  where
    by : (b : Bool) → b ≡ true → (if b then None else Some (fault.LengthsDiffer agent)) ≡ None
    by true e = refl
    by false e = cc

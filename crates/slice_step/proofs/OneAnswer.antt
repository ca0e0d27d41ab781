-- Each file has one answer: it holds valuations exactly where it has no fault.
use Rattle.std.proofs.Common.{◌≡◌, ◌∙◌, ℕ, suc, ◌<◌, ◌≤◌, ◌^◌, ◌==◌, ◌&&◌, nat_le, Bool, true, false, not, if◌then◌else◌, List, [], ◌∷◌, length, map, Option, Some, None, option_and_then, is_some, ℤ, pos, int_le, codes, arith, refl, sym, ap, subst}
use Rattle.std.specs.List.{All}
use Rattle.std.specs.Ordering.{int_eq}
use Rattle.std.specs.Prelude.{unsigned_abs, slice_index_or, negsuc, MatchOption}
use Rattle.std.proofs.lemmas.Bool.Decides.{nat_tests}
use Rattle.std.proofs.lemmas.Int.{ints}
use Rattle.std.proofs.lemmas.List.Elements.{All-head, All-tail, All-nil, All-cons, All-weaker, All-get_or}
use Rattle.serde_json.specs.Data.{Data, Items, no_items, item}
use Rattle.serde_json.specs.Events.{items_len}
use Rattle.serde_json.specs.Find.{as_array}
use Rattle.slice_json.specs.Reading.{json_of, items_at, wholes_of}
use Rattle.slice_num.specs.Valuation.{Valuation, IsValuation, IsSmall, last_end, cake_length}
use Rattle.slice_step.specs.ValuationShape.{steps, IsSmallValuation}
use Rattle.slice_step.specs.ValuationFile.{Says, AllSay, Hold, IsValuationFile, numbers_at, numbers, has_steps, do_rise, last_number, are_ends, are_heights, are_zero, first_failed, entry_fault, or_else, each_fault, first_end, entries_fault, array_fault, in_json, valuations_fault, or_nothing, AllAnswer, cut_of, cuts_fault, object_fault, IsReplayFile, replay_fault}
use Rattle.slice_num.specs.declared.cut_answer.CutAnswer.{CutAnswer}
use Rattle.slice_step.specs.FileSteps.{form_fault, numbers_fault, AreSteps}
use Rattle.slice_step.proofs.EntryLaws.{whole_numbers, wholes_length, length_whole, rises_in, near_in, low_in, some_in, last_is, both_are, entry_numbers, end_fault, same_end, steps_from, IsHeld, ends_held, small_from}
use Rattle.slice_step.proofs.Ends.{has_step}
use Rattle.slice_step.proofs.FileLaws.{end_said}
use Rattle.slice_step.specs.declared.fault.ValuationFault.{ValuationFault}
use Rattle.slice_step.specs.declared.fault.ValuationFault.TheVariants as fault

-- ---- one list of valuations

some_same : {A : Type 0} (x y : A) → Some x ≡ Some y → x ≡ y
some_same x y e = cc

same_naturals : (ns ms : List ℕ) → whole_numbers ns ≡ whole_numbers ms → ns ≡ ms
same_naturals [] [] e = refl
same_naturals [] (m ∷ ms) e = cc
same_naturals (n ∷ ns) [] e = cc
same_naturals (n ∷ ns) (m ∷ ms) e =
    let head : pos n ≡ pos m = cc in
    let same : n ≡ m = cc in
    let tail : whole_numbers ns ≡ whole_numbers ms = cc in
    (λ i. same i ∷ same_naturals ns ms tail i)

same_valuation : (d : Data) (v w : Valuation) → Says d v → Says d w → v ≡ w
same_valuation d v w s t =
    let ends = same_naturals v.ends w.ends (some_same _ _ (sym s.ends ∙ t.ends)) in
    let heights = same_naturals v.heights w.heights (some_same _ _ (sym s.heights ∙ t.heights)) in
    λ i. steps (ends i) (heights i)

same_valuations : (ds : Items) (vs ws : List Valuation) → AllSay ds vs → AllSay ds ws → vs ≡ ws
same_valuations no_items [] [] s t = refl
same_valuations no_items [] (w ∷ ws) s t = absurd t
same_valuations no_items (v ∷ vs) ws s t = absurd s
same_valuations (item d ds) [] ws s t = absurd s
same_valuations (item d ds) (v ∷ vs) [] s t = absurd t
same_valuations (item d ds) (v ∷ vs) (w ∷ ws) s t = λ i. same_valuation d v w s.0 t.0 i ∷ same_valuations ds vs ws s.1 t.1 i

pub one_list : (bytes : List ℕ) (agents : ℕ) (vs ws : List Valuation) → IsValuationFile bytes agents vs → IsValuationFile bytes agents ws → vs ≡ ws
one_list bytes agents vs ws f g =
    let same : f.entries ≡ g.entries = some_same _ _ (sym f.is ∙ g.is) in
    same_valuations f.entries vs ws f.hold.said (subst (λ ds. AllSay ds ws) (sym same) g.hold.said)

-- ---- a file that holds valuations has no fault

-- the array of the numbers
record Array (o : Option Items) (zs : List ℤ) : Type 0 where
  items : Items
  is : o ≡ Some items
  long : length zs ≡ items_len items

array_of : (o : Option Items) (zs : List ℤ) → option_and_then wholes_of o ≡ Some zs → Array o zs
array_of None zs e = cc
array_of (Some ds) zs e = record { items = ds; is = refl; long = wholes_length ds zs e }

steps_there : (m n : ℕ) → m ≡ n → 1 ≤ m → m ≤ 1000 → ((m == n) && (nat_le 1 m && nat_le m 1000)) ≡ true
steps_there m n e h k = both_are (m == n) _ (grind (arith, nat_tests)) (both_are (nat_le 1 m) (nat_le m 1000) (grind (arith, nat_tests)) (grind (arith, nat_tests)))

form_none : (agent : ℕ) (d : Data) (v : Valuation) → Says d v → length v.ends ≡ length v.heights → 1 ≤ length v.ends → length v.ends ≤ 1000 → form_fault agent d ≡ None
form_none agent d v s same some few =
    let es = array_of (items_at (codes "ends") d) _ s.ends in
    let hs = array_of (items_at (codes "heights") d) _ s.heights in
    let n = es.long in
    let m = hs.long in
    let p = length_whole v.ends in
    let q = length_whole v.heights in
    let t = steps_there (items_len es.items) (items_len hs.items) (omega (arith, n, m, p, q, same)) (omega (arith, n, p, some)) (omega (arith, n, p, few)) in
    (λ i. first_failed ((has_steps (es.is i) (hs.is i), fault.Shape agent) ∷ (is_some (s.ends i) && is_some (s.heights i), fault.NotWhole agent) ∷ []))
    ∙ ap (λ b. first_failed ((b, fault.Shape agent) ∷ (true, fault.NotWhole agent) ∷ [])) t

numbers_none : (agent : ℕ) (v : Valuation) → IsSmallValuation v → numbers_fault agent (whole_numbers v.ends) (whole_numbers v.heights) ≡ None
numbers_none agent v h =
    let last : int_le (last_number (pos 0) (whole_numbers v.ends)) (pos (10 ^ 6)) ≡ true =
    subst (λ z. int_le z (pos (10 ^ 6)) ≡ true) (sym (last_is 0 v.ends)) (most_in (last_end 0 v.ends) (near_in 0 (10 ^ 6) v.ends (omega arith) h.1.near)) in
    (λ i. first_failed (
    (both_are (do_rise (pos 0) (whole_numbers v.ends)) (int_le (last_number (pos 0) (whole_numbers v.ends)) (pos (10 ^ 6))) (rises_in 0 v.ends h.0.rises) last i, fault.EndsOrder agent)
    ∷ (low_in v.heights h.1.low i, fault.HeightRange agent)
    ∷ (not (some_in v.heights h.0.some_height i), fault.NoTotal agent)
    ∷ []
    ))
  where
    most_in : (n : ℕ) → n ≤ 10 ^ 6 → int_le (pos n) (pos (10 ^ 6)) ≡ true
    most_in n h = grind (arith, nat_tests, ints)

entry_none : (agent : ℕ) (d : Data) (v : Valuation) (cake_end : ℕ) → Says d v → IsSmallValuation v → cake_length v ≡ cake_end → entry_fault agent (pos cake_end) d ≡ None
entry_none agent d v cake_end s h e =
    entry_numbers agent (pos cake_end) d (whole_numbers v.ends) (whole_numbers v.heights)
    (form_none agent d v s h.0.same_length (has_step v h.0) h.1.few) s.ends s.heights
    ∙ (λ i. or_else (numbers_none agent v h i) (end_fault agent (last_is 0 v.ends i) (pos cake_end)))
    ∙ ap (λ n. end_fault agent (pos n) (pos cake_end)) e
    ∙ same_end agent cake_end

each_none : (agent cake_end : ℕ) (ds : Items) (vs : List Valuation) → AllSay ds vs → All IsSmallValuation vs → All (λ v. cake_length v ≡ cake_end) vs → each_fault agent (pos cake_end) ds ≡ None
each_none agent cake_end no_items vs s h e = refl
each_none agent cake_end (item d ds) [] s h e = absurd s
each_none agent cake_end (item d ds) (v ∷ vs) s h e =
    (λ i. or_else (entry_none agent d v cake_end s.0 (All-head IsSmallValuation v vs h) (All-head (λ w. cake_length w ≡ cake_end) v vs e) i) (each_fault (suc agent) (pos cake_end) ds))
    ∙ each_none (suc agent) cake_end ds vs s.1 (All-tail IsSmallValuation v vs h) (All-tail (λ w. cake_length w ≡ cake_end) v vs e)

as_many : (ds : Items) (vs : List Valuation) → AllSay ds vs → items_len ds ≡ length vs
as_many no_items [] s = refl
as_many no_items (v ∷ vs) s = absurd s
as_many (item d ds) [] s = absurd s
as_many (item d ds) (v ∷ vs) s = ap suc (as_many ds vs s.1)

if_many : (m n : ℕ) (x y : Option ValuationFault) → m ≡ n → (if m == n then x else y) ≡ x
if_many m n x y e = by (m == n) (grind (arith, nat_tests))
  where
    by : (b : Bool) → b ≡ true → (if b then x else y) ≡ x
    by true e = refl
    by false e = cc

first_at : (ds : Items) (v : Valuation) (vs : List Valuation) → AllSay ds (v ∷ vs) → first_end ds ≡ pos (cake_length v)
first_at no_items v vs s = absurd s
first_at (item d ds) v vs s = end_said d v s.0

pub hold_none : (entries : Items) (agents : ℕ) (vs : List Valuation) → 0 < agents → Hold entries agents vs → entries_fault agents entries ≡ None
hold_none entries agents [] some h = absurd (let n = h.list.one_each in omega (arith, n, some))
hold_none entries agents (v ∷ vs) some h =
    let small = All-both IsValuation IsSmall (v ∷ vs) h.list.valuations h.small in
    let long = All-weaker (λ w. cake_length v ≡ cake_length w) (λ w. cake_length w ≡ cake_length v) (λ w e. sym e) (v ∷ vs) (h.list.one_cake 0 v (omega arith)) in
    if_many (items_len entries) agents _ _ (as_many entries (v ∷ vs) h.said ∙ h.list.one_each)
    ∙ ap (λ z. each_fault 1 z entries) (first_at entries v vs h.said)
    ∙ each_none 1 (cake_length v) entries (v ∷ vs) h.said small long
  where
    All-both : {A : Type 0} (P Q : A → Type 0) (xs : List A) → All P xs → All Q xs → All (λ x. P x × Q x) xs
    All-both P Q xs h k i d l = (h i d l, k i d l)

-- ---- a file without a fault holds valuations

record AllSix (a b c d e f : Bool) : Type 0 where
  form : a ≡ true
  whole : b ≡ true
  order : c ≡ true
  range : d ≡ true
  total : e ≡ true
  last : f ≡ true

all_six : (a b c d e f : Bool) (u v w x y z : ValuationFault) → first_failed ((a, u) ∷ (b, v) ∷ (c, w) ∷ (d, x) ∷ (e, y) ∷ (f, z) ∷ []) ≡ None → AllSix a b c d e f
all_six true true true true true true u v w x y z h = record { form = refl; whole = refl; order = refl; range = refl; total = refl; last = refl }
all_six false b c d e f u v w x y z h = cc
all_six true false c d e f u v w x y z h = cc
all_six true true false d e f u v w x y z h = cc
all_six true true true false e f u v w x y z h = cc
all_six true true true true false f u v w x y z h = cc
all_six true true true true true false u v w x y z h = cc

record Entry (cake_end : ℤ) (d : Data) : Type 0 where
  v : Valuation
  says : Says d v
  small : IsSmallValuation v
  end : pos (cake_length v) ≡ cake_end

natural_is : (zs : List ℤ) → All IsHeld zs → zs ≡ whole_numbers (map (λ z. unsigned_abs z) zs)
natural_is [] h = refl
natural_is (z ∷ zs) h = λ i. at z (All-head IsHeld z zs h) i ∷ natural_is zs (All-tail IsHeld z zs h) i
  where
    at : (z : ℤ) → IsHeld z → z ≡ pos (unsigned_abs z)
    at (pos n) h = refl
    at (negsuc n) h = cc

heights_held : (zs : List ℤ) → are_heights zs ≡ true → All IsHeld zs
heights_held [] h = All-nil IsHeld
heights_held (z ∷ zs) h = by (int_le (pos 0) z && int_le z (pos (10 ^ 18))) (are_heights zs) refl h (λ e. heights_held zs e)
  where
    by : (b c : Bool) → (int_le (pos 0) z && int_le z (pos (10 ^ 18))) ≡ b → (b && c) ≡ true → (c ≡ true → All IsHeld zs) → All IsHeld (z ∷ zs)
    by true c e f go = All-cons IsHeld z zs e (go f)
    by false c e f go = cc

some_of : (o : Option (List ℤ)) → is_some o ≡ true → (zs : List ℤ) × (o ≡ Some zs)
some_of None e = cc
some_of (Some zs) e = (zs, refl)

steps_of : (a b : Option Items) (es hs : List ℤ) → has_steps a b ≡ true → option_and_then wholes_of a ≡ Some es → option_and_then wholes_of b ≡ Some hs → AreSteps es hs
steps_of None b es hs t e f = cc
steps_of (Some a) None es hs t e f = cc
steps_of (Some a) (Some b) es hs t e f = steps_from a b es hs (sym e) (sym f) t

not_out : (b : Bool) → not b ≡ true → b ≡ false
not_out true e = cc
not_out false e = refl

same_out : (y z : ℤ) → int_eq y z ≡ true → y ≡ z
same_out y z e = grind (arith, nat_tests, ints)

both_of : (a b : Bool) → (a && b) ≡ true → (a ≡ true) × (b ≡ true)
both_of true true e = (refl, refl)
both_of true false e = cc
both_of false b e = cc

entry_some : (agent : ℕ) (cake_end : ℤ) (d : Data) → entry_fault agent cake_end d ≡ None → Entry cake_end d
unfolding entry_fault
entry_some agent cake_end d none =
    let six = all_six (has_steps (items_at (codes "ends") d) (items_at (codes "heights") d)) (is_some (numbers_at (codes "ends") d) && is_some (numbers_at (codes "heights") d))
    (are_ends (numbers (codes "ends") d)) (are_heights (numbers (codes "heights") d)) (not (are_zero (numbers (codes "heights") d))) (int_eq (last_number (pos 0) (numbers (codes "ends") d)) cake_end)
    (fault.Shape agent) (fault.NotWhole agent) (fault.EndsOrder agent) (fault.HeightRange agent) (fault.NoTotal agent) (fault.LengthsDiffer agent) none in
    let both = both_of (is_some (numbers_at (codes "ends") d)) (is_some (numbers_at (codes "heights") d)) six.whole in
    let e = some_of (numbers_at (codes "ends") d) both.0 in
    let h = some_of (numbers_at (codes "heights") d) both.1 in
    entry_of cake_end d e.0 h.0 e.1 h.1
    (steps_of (items_at (codes "ends") d) (items_at (codes "heights") d) e.0 h.0 six.form e.1 h.1)
    (subst (λ o. are_ends (or_nothing o) ≡ true) e.1 six.order)
    (subst (λ o. are_heights (or_nothing o) ≡ true) h.1 six.range)
    (not_out (are_zero h.0) (subst (λ o. not (are_zero (or_nothing o)) ≡ true) h.1 six.total))
    (same_out (last_number (pos 0) e.0) cake_end (subst (λ o. int_eq (last_number (pos 0) (or_nothing o)) cake_end ≡ true) e.1 six.last))
  where
    entry_of : (cake_end : ℤ) (d : Data) (es hs : List ℤ) → numbers_at (codes "ends") d ≡ Some es → numbers_at (codes "heights") d ≡ Some hs → AreSteps es hs
        → are_ends es ≡ true → are_heights hs ≡ true → are_zero hs ≡ false → last_number (pos 0) es ≡ cake_end → Entry cake_end d
    entry_of cake_end d es hs e h long rise low some last =
        (let ns = map (λ z. unsigned_abs z) es in
        let ms = map (λ z. unsigned_abs z) hs in
        let n = natural_is es (ends_held es rise) in
        let m = natural_is hs (heights_held hs low) in
        record {
          v = steps ns ms;
          says = record { ends = e ∙ ap Some n; heights = h ∙ ap Some m };
          small = small_from es hs ns ms n m long rise low some;
          end = sym (last_is 0 ns) ∙ sym (ap (λ zs. last_number (pos 0) zs) n) ∙ last;
        })

record Each (cake_end : ℤ) (ds : Items) : Type 0 where
  vs : List Valuation
  said : AllSay ds vs
  small : All IsSmallValuation vs
  long : All (λ v. pos (cake_length v) ≡ cake_end) vs

or_none : (a b : Option ValuationFault) → or_else a b ≡ None → (a ≡ None) × (b ≡ None)
or_none None b e = (refl, e)
or_none (Some f) b e = cc

each_some : (agent : ℕ) (cake_end : ℤ) (ds : Items) → each_fault agent cake_end ds ≡ None → Each cake_end ds
each_some agent cake_end no_items e = record { vs = []; said = tt; small = All-nil IsSmallValuation; long = All-nil (λ v. pos (cake_length v) ≡ cake_end) }
each_some agent cake_end (item d ds) e =
    let both = or_none (entry_fault agent cake_end d) (each_fault (suc agent) cake_end ds) e in
    let one = entry_some agent cake_end d both.0 in
    let more = each_some (suc agent) cake_end ds both.1 in
    record {
      vs = one.v ∷ more.vs;
      said = (one.says, more.said);
      small = All-cons IsSmallValuation one.v more.vs one.small more.small;
      long = All-cons (λ v. pos (cake_length v) ≡ cake_end) one.v more.vs one.end more.long;
    }

count_out : (m n : ℕ) (o : Option ValuationFault) → (if m == n then o else Some fault.AgentCount) ≡ None → (m ≡ n) × (o ≡ None)
count_out m n o e = by (m == n) refl e
  where
    by : (b : Bool) → (m == n) ≡ b → (if b then o else Some fault.AgentCount) ≡ None → (m ≡ n) × (o ≡ None)
    by true t e = (grind (arith, nat_tests), e)
    by false t e = cc

pub hold_some : (entries : Items) (agents : ℕ) → entries_fault agents entries ≡ None → (vs : List Valuation) × Hold entries agents vs
hold_some entries agents e =
    let many = count_out (items_len entries) agents (each_fault 1 (first_end entries) entries) e in
    let all = each_some 1 (first_end entries) entries many.1 in (
      all.vs,
      record {
        said = all.said;
        list = record {
          one_each = sym (as_many entries all.vs all.said) ∙ many.0;
          valuations = All-weaker IsSmallValuation IsValuation (λ v h. h.0) all.vs all.small;
          one_cake = λ k d l. (let one = All-get_or (λ v. pos (cake_length v) ≡ first_end entries) all.vs k d l all.long in
              All-weaker (λ v. pos (cake_length v) ≡ first_end entries) (λ w. cake_length (slice_index_or all.vs k d) ≡ cake_length w) (λ w is. pos_same _ _ (one ∙ sym is)) all.vs all.long);
        };
        small = All-weaker IsSmallValuation IsSmall (λ v h. h.1) all.vs all.small;
      },
    )
  where
    pos_same : (m n : ℕ) → pos m ≡ pos n → m ≡ n
    pos_same m n e = cc

-- ---- the whole file
none_of : (agents : ℕ) (o : Option Items) (vs : List Valuation) (entries : Items) → 0 < agents → o ≡ Some entries → Hold entries agents vs → array_fault agents o ≡ None
none_of agents o vs entries some e h = ap (array_fault agents) e ∙ hold_none entries agents vs some h

pub file_none : (bytes : List ℕ) (agents : ℕ) (vs : List Valuation) → 0 < agents → IsValuationFile bytes agents vs → valuations_fault bytes agents ≡ None
file_none bytes agents vs some f = by (json_of bytes) f.is
  where
    by : (j : Option Data) → option_and_then as_array j ≡ Some f.entries → in_json (λ d. array_fault agents (as_array d)) j ≡ None
    by None e = cc
    by (Some d) e = none_of agents (as_array d) vs f.entries some e f.hold

pub file_some : (bytes : List ℕ) (agents : ℕ) → valuations_fault bytes agents ≡ None → (vs : List Valuation) × IsValuationFile bytes agents vs
file_some bytes agents none = by (json_of bytes) refl none
  where
    at : (o : Option Items) → option_and_then as_array (json_of bytes) ≡ o → array_fault agents o ≡ None → (vs : List Valuation) × IsValuationFile bytes agents vs
    at None e f = cc
    at (Some entries) e f = (let h = hold_some entries agents f in (h.0, record { entries = entries; is = e; hold = h.1 }))

    by : (j : Option Data) → json_of bytes ≡ j → in_json (λ d. array_fault agents (as_array d)) j ≡ None → (vs : List Valuation) × IsValuationFile bytes agents vs
    by None e f = cc
    by (Some d) e f = at (as_array d) (ap (option_and_then as_array) e) f

pub file_exact : (bytes : List ℕ) (agents : ℕ) → 0 < agents → MatchOption (valuations_fault bytes agents) ((vs : List Valuation) × IsValuationFile bytes agents vs) (λ e. (vs : List Valuation) → IsValuationFile bytes agents vs → ⊥)
file_exact bytes agents some = by (valuations_fault bytes agents) refl
  where
    by : (o : Option ValuationFault) → valuations_fault bytes agents ≡ o → MatchOption o ((vs : List Valuation) × IsValuationFile bytes agents vs) (λ e. (vs : List Valuation) → IsValuationFile bytes agents vs → ⊥)
    by None e = file_some bytes agents e
    by (Some f) e = λ vs is. (let none : Some f ≡ None = sym e ∙ file_none bytes agents vs some is in cc)

-- ---- files of valuations and answers

same_answers : (ds : Items) (ys zs : List CutAnswer) → AllAnswer ds ys → AllAnswer ds zs → ys ≡ zs
same_answers no_items [] [] s t = refl
same_answers no_items [] (z ∷ zs) s t = absurd t
same_answers no_items (y ∷ ys) zs s t = absurd s
same_answers (item d ds) [] zs s t = absurd s
same_answers (item d ds) (y ∷ ys) [] s t = absurd t
same_answers (item d ds) (y ∷ ys) (z ∷ zs) s t = λ i. some_same y z (sym s.0 ∙ t.0) i ∷ same_answers ds ys zs s.1 t.1 i

answers_none : (index : ℕ) (ds : Items) (ys : List CutAnswer) → AllAnswer ds ys → cuts_fault index ds ≡ None
answers_none index no_items ys s = refl
answers_none index (item d ds) [] s = absurd s
answers_none index (item d ds) (y ∷ ys) s = ap (λ o. if is_some o then cuts_fault (suc index) ds else Some (fault.CutForm index)) s.0 ∙ answers_none (suc index) ds ys s.1

answers_some : (index : ℕ) (ds : Items) → cuts_fault index ds ≡ None → (ys : List CutAnswer) × AllAnswer ds ys
answers_some index no_items e = ([], tt)
answers_some index (item d ds) e = by (cut_of d) refl e (λ f. answers_some (suc index) ds f)
  where
    by : (o : Option CutAnswer) → cut_of d ≡ o → (if is_some o then cuts_fault (suc index) ds else Some (fault.CutForm index)) ≡ None
        → (cuts_fault (suc index) ds ≡ None → (ys : List CutAnswer) × AllAnswer ds ys) → (ys : List CutAnswer) × AllAnswer (item d ds) ys
    by None i e go = cc
    by (Some y) i e go = (let more = go e in (y ∷ more.0, (i, more.1)))

pub one_replay : (bytes : List ℕ) (agents : ℕ) (vs ws : List Valuation) (ys zs : List CutAnswer) → IsReplayFile bytes agents vs ys → IsReplayFile bytes agents ws zs → (vs ≡ ws) × (ys ≡ zs)
one_replay bytes agents vs ws ys zs f g =
    let top : f.top ≡ g.top = some_same _ _ (sym f.json ∙ g.json) in
    let entries : f.entries ≡ g.entries = some_same _ _ (sym f.valuations ∙ ap (items_at (codes "valuations")) top ∙ g.valuations) in
    let cuts : f.cuts ≡ g.cuts = some_same _ _ (sym f.answers ∙ ap (items_at (codes "cuts")) top ∙ g.answers) in (
      same_valuations f.entries vs ws f.hold.said (subst (λ ds. AllSay ds ws) (sym entries) g.hold.said),
      same_answers f.cuts ys zs f.said (subst (λ ds. AllAnswer ds zs) (sym cuts) g.said),
    )

replay_none : (bytes : List ℕ) (agents : ℕ) (vs : List Valuation) (ys : List CutAnswer) → 0 < agents → IsReplayFile bytes agents vs ys → replay_fault bytes agents ≡ None
replay_none bytes agents vs ys some f =
    ap (in_json (λ d. object_fault agents (items_at (codes "valuations") d) (items_at (codes "cuts") d))) f.json
    ∙ (λ i. object_fault agents (f.valuations i) (f.answers i))
    ∙ ap (λ o. or_else o (cuts_fault 0 f.cuts)) (hold_none f.entries agents vs some f.hold)
    ∙ answers_none 0 f.cuts ys f.said

-- what a file of valuations and answers says
abbrev pub Replay : List ℕ → ℕ → Type 0
Replay bytes agents = (vs : List Valuation) × ((ys : List CutAnswer) × IsReplayFile bytes agents vs ys)

replay_some : (bytes : List ℕ) (agents : ℕ) → replay_fault bytes agents ≡ None → Replay bytes agents
replay_some bytes agents none = by (json_of bytes) refl none
  where
    at : (top : Data) (a b : Option Items) → json_of bytes ≡ Some top → items_at (codes "valuations") top ≡ a → items_at (codes "cuts") top ≡ b → object_fault agents a b ≡ None → Replay bytes agents
    at top None b j e f n = cc
    at top (Some entries) None j e f n = cc
    at top (Some entries) (Some cuts) j e f n =
        (let both = or_none (entries_fault agents entries) (cuts_fault 0 cuts) n in
        let h = hold_some entries agents both.0 in
        let y = answers_some 0 cuts both.1 in
        (h.0, (y.0, record { top = top; entries = entries; cuts = cuts; json = j; valuations = e; answers = f; hold = h.1; said = y.1 })))

    by : (j : Option Data) → json_of bytes ≡ j → in_json (λ d. object_fault agents (items_at (codes "valuations") d) (items_at (codes "cuts") d)) j ≡ None → Replay bytes agents
    by None e f = cc
    by (Some d) e f = at d (items_at (codes "valuations") d) (items_at (codes "cuts") d) e refl refl f

pub replay_exact : (bytes : List ℕ) (agents : ℕ) → 0 < agents → MatchOption (replay_fault bytes agents) (Replay bytes agents) (λ e. (vs : List Valuation) (ys : List CutAnswer) → IsReplayFile bytes agents vs ys → ⊥)
replay_exact bytes agents some = by (replay_fault bytes agents) refl
  where
    by : (o : Option ValuationFault) → replay_fault bytes agents ≡ o → MatchOption o (Replay bytes agents) (λ e. (vs : List Valuation) (ys : List CutAnswer) → IsReplayFile bytes agents vs ys → ⊥)
    by None e = replay_some bytes agents e
    by (Some f) e = λ vs ys is. (let none : Some f ≡ None = sym e ∙ replay_none bytes agents vs ys some is in cc)

-- Behind a goal come those that share its first passed choices, and then the others: by induction on the tree.
use Rattle.std.proofs.Common.{◌≡◌, ◌∙◌, ℕ, zero, suc, ◌+◌, ◌-◌, arith, refl, sym, ap, subst, Bool, List, [], ◌∷◌, ◌++◌, length, map, take, drop, append_assoc, append-nil, length-append}
use Rattle.std.specs.Prelude.{⊤, Option, Some, None}
use Rattle.std.specs.List.{All}
use Rattle.std.proofs.lemmas.List.{length-map}
use Rattle.std.proofs.lemmas.List.Elements.{All-nil, All-cons}
use Rattle.slice_num.specs.declared.choice.Choice.{Choice}
use Rattle.slice_num.specs.declared.choice.Choice.TheVariants.{Low, High, Go, Yes, No}
use Rattle.slice_num.specs.Pieces.{piece_at, each_part, passed}
use Rattle.slice_core.specs.Tree.{Tree, Core, Ask, Set, Cut, Join, Test, Give, End}
use Rattle.slice_core.specs.declared.node.Lin.{Lin}
use Rattle.slice_atoms.specs.Addresses.{Address}
use Rattle.slice_atoms.specs.FormFits.{sub_fits}
use Rattle.slice_atoms.specs.Forms.{Form, piece_form, sub_form}
use Rattle.slice_paths.specs.Counting.{part_count, cut_counts, over_parts, goals_on, goals_in_parts, by_part, goals_left, goals_under, PassesOver, SkipsPassOver}
use Rattle.slice_paths.specs.Events.{Event, events, where_fit, cut_fits, Tell}
use Rattle.slice_paths.specs.Fronts.{answered_in, with_first, front_at_cut, front_of, way_behind, events_behind, events_after, Shares}
use Rattle.slice_paths.specs.Goals.{Aim, aims, aims_of, pairs, envy_form, Goal, goal_of, numbered}
use Rattle.slice_paths.specs.Places.{Way, Place, places, sum_form, yes_kind, no_kind, first_way, ask_way, cut_way, test_way, join_way, give_way}
use Rattle.slice_paths.specs.declared.goal.GoalKind.{GoalKind}
use Rattle.slice_paths.specs.declared.goal.GoalKind.TheVariants as goal_kind
use Rattle.slice_paths.proofs.CountLaws.{counts_of, counts_used, counts_joined, counts_behind, count_at, parts_number, aims_number, left_in_part, none_off, part_low, part_high, EachPair, each_pair}
use Rattle.slice_paths.proofs.Tells.{TellAims, tell_numbered, tell_both, tell_where, aims_both, tell_parts, tells}

-- ---- what holds of each aim, and of each with those behind it
abbrev Each : (Aim → Type 0) → List Aim → Type 0
Each P [] = ⊤
Each P (a ∷ as_) = P a × Each P as_

each_as : (P Q : Aim → Type 0) (xs : List Aim) → ((a : Aim) → P a → Q a) → Each P xs → Each Q xs
each_as P Q [] f h = tt
each_as P Q (a ∷ xs) f h = (f a h.0, each_as P Q xs f h.1)

each_both : (P : Aim → Type 0) (xs ys : List Aim) → Each P xs → Each P ys → Each P (xs ++ ys)
each_both P [] ys h k = k
each_both P (a ∷ xs) ys h k = (h.0, each_both P xs ys h.1 k)

abbrev EachWith : (Aim → List Aim → Type 0) → List Aim → Type 0
EachWith P [] = ⊤
EachWith P (a ∷ as_) = P a as_ × EachWith P as_

with_as : (P Q : Aim → List Aim → Type 0) (xs : List Aim) → ((a : Aim) (later : List Aim) → P a later → Q a later) → EachWith P xs → EachWith Q xs
with_as P Q [] f h = tt
with_as P Q (a ∷ xs) f h = (f a xs h.0, with_as P Q xs f h.1)

-- the first list's aims have the second behind them too
with_both : (P Q : Aim → List Aim → Type 0) (xs ys : List Aim) → ((a : Aim) (later : List Aim) → P a later → Q a (later ++ ys)) → EachWith P xs → EachWith Q ys → EachWith Q (xs ++ ys)
with_both P Q [] ys f h k = k
with_both P Q (a ∷ xs) ys f h k = (f a xs h.0, with_both P Q xs ys f h.1 k)

with_each : (P : Aim → List Aim → Type 0) (R : Aim → Type 0) (xs : List Aim) → EachWith P xs → Each R xs → EachWith (λ a later. P a later × Each R later) xs
with_each P R [] h k = tt
with_each P R (a ∷ xs) h k = ((h.0, k.1), with_each P R xs h.1 k.1)

-- ---- how many aims come behind one, with the choices from the way on
abbrev Placed : ℕ → Tree → List ℕ → List Choice → Aim → List Aim → Type 0
Placed n t counts trace a later = (cs : List Choice) × (a.way.trace ≡ trace ++ cs) × (length later ≡ goals_left n 0 t counts cs a.kind)

parts_placed : (n a p l r : ℕ) (amount : Lin) (next : Tree) (regs : List Form) (k : Way)
    → ((before : List Address) (A : Address) (after : List Address)
    → EachWith (Placed n next (counts_of (cut_way a p (sum_form regs amount.terms) before A after k).pieces) (k.trace ++ passed before)) (aims n (places next regs (cut_way a p (sum_form regs amount.terms) before A after k))))
    → (before after : List Address) → before ++ after ≡ piece_at k.pieces p
    → EachWith (Placed n (Cut a p amount l r next) (counts_of k.pieces) k.trace) (aims n (each_part before after (λ b A c. places next regs (cut_way a p (sum_form regs amount.terms) b A c k))))
parts_placed n a p l r amount next regs k ih before [] e = tt
parts_placed n a p l r amount next regs k ih before (A ∷ after) e =
    let f = sum_form regs amount.terms in
    let counts = counts_of k.pieces in
    let number : ℕ → ℕ → ℕ = λ left right. goals_on n next (cut_counts counts p left right) in
    let ps : List Address → Address → List Address → List Place = λ b B c. places next regs (cut_way a p f b B c k) in
    let each : (b : List Address) (B : Address) (c : List Address) → length (aims n (ps b B c)) ≡ number (length b + 1) (suc (length c)) =
    λ b B c. aims_number n next regs (cut_way a p f b B c k) ∙ ap (goals_on n next) (counts_behind a p f b B c k) in
    let ys = aims n (each_part (before ++ A ∷ []) after ps) in
    let many : length ys ≡ over_parts number (length before + 1) (length after) =
    parts_number n number ps each (before ++ A ∷ []) after ∙ ap (λ (m : ℕ). over_parts number m (length after)) (length-append before (A ∷ [])) in
    let here : part_count counts p ≡ length (before ++ A ∷ after) = count_at k.pieces p ∙ ap (λ (xs : List Address). length xs) (sym e) in
    let P = Placed n next (counts_of (cut_way a p f before A after k).pieces) (k.trace ++ passed before) in
    let Q = Placed n (Cut a p amount l r next) counts k.trace in
    let on : (x : Aim) (later : List Aim) → P x later → Q x (later ++ ys) = λ x later h. (
      passed before ++ h.0,
      h.1 ∙ append_assoc k.trace (passed before) h.0,
      length-append later ys
          ∙ (λ i. (h.2 ∙ ap (λ (cs : List ℕ). goals_left n 0 next cs h.0 x.kind) (counts_behind a p f before A after k)) i + many i)
          ∙ sym (left_in_part n 0 a p l r amount next counts before A after h.0 x.kind here),
    ) in
    subst (EachWith Q) (sym (aims_both n (ps before A after) (each_part (before ++ A ∷ []) after ps)))
    (with_both P Q (aims n (ps before A after)) ys on (ih before A after) (parts_placed n a p l r amount next regs k ih (before ++ A ∷ []) after (append_assoc before (A ∷ []) after ∙ e)))

one_and : (m : ℕ) → suc m ≡ 1 + m
one_and m = omega arith

envies_placed : (n : ℕ) (counts : List ℕ) (k : Way) (ps : List (ℕ × ℕ)) → EachPair n ps
    → EachWith (Placed n End counts k.trace) (map (λ p. record { way = k; kind = goal_kind.Envy p.0 p.1; own = envy_form p.0 p.1 k }) ps ++ [])
envies_placed n counts k [] h = tt
envies_placed n counts k (p ∷ ps) h =
    let aim : ℕ × ℕ → Aim = λ q. record { way = k; kind = goal_kind.Envy q.0 q.1; own = envy_form q.0 q.1 k } in (
      (
        [],
        sym (append-nil k.trace),
        ap (λ (xs : List Aim). length xs) (append-nil (map aim ps)) ∙ length-map ps aim ∙ ap (λ (qs : List (ℕ × ℕ)). length qs) h.0,
      ),
      envies_placed n counts k ps h.1,
    )

placed : (n : ℕ) (t : Tree) (regs : List Form) (k : Way) → EachWith (Placed n t (counts_of k.pieces) k.trace) (aims n (places t regs k))
placed n (Ask a p r next) regs k = placed n next (regs ++ piece_form a (piece_at k.pieces p) ∷ []) (ask_way k)
placed n (Set r sum next) regs k = placed n next (regs ++ sum_form regs sum.terms ∷ []) k
placed n (Cut a p amount l r next) regs k =
    let f = sum_form regs amount.terms in
    let counts = counts_of k.pieces in
    let number : ℕ → ℕ → ℕ = λ left right. goals_on n next (cut_counts counts p left right) in
    let all = goals_in_parts n next counts p 0 in
    let ps : List Address → Address → List Address → List Place = λ b B c. places next regs (cut_way a p f b B c k) in
    let each : (b : List Address) (B : Address) (c : List Address) → length (aims n (ps b B c)) ≡ number (length b + 1) (suc (length c)) =
    λ b B c. aims_number n next regs (cut_way a p f b B c k) ∙ ap (goals_on n next) (counts_behind a p f b B c k) in
    let follow : length (aims n (each_part [] (piece_at k.pieces p) ps)) ≡ all = parts_number n number ps each [] (piece_at k.pieces p) ∙ ap (over_parts number 0) (sym (count_at k.pieces p) ∙ sym (none_off (part_count counts p))) in
    let go : ℕ → ℕ = λ part. goals_left n 0 next (cut_counts counts p (part + 1) (part_count counts p - part)) (drop (part + 1) (Low ∷ [])) goal_kind.Low + over_parts number (part + 1) (part_count counts p - (part + 1)) in
    let at_high : ℕ → ℕ = λ part. goals_left n 0 next (cut_counts counts p (part + 1) (part_count counts p - part)) (drop (part + 1) (High ∷ [])) goal_kind.High + over_parts number (part + 1) (part_count counts p - (part + 1)) in
    let behind_low : suc (length (aims n (each_part [] (piece_at k.pieces p) ps))) ≡ goals_left n 0 (Cut a p amount l r next) counts (Low ∷ []) goal_kind.Low =
    ap suc follow ∙ one_and all ∙ ap (λ (o : Option ℕ). by_part o go (1 + all)) (sym (part_low (part_count counts p) [])) in
    let behind_high : length (aims n (each_part [] (piece_at k.pieces p) ps)) ≡ goals_left n 0 (Cut a p amount l r next) counts (High ∷ []) goal_kind.High =
    follow ∙ ap (λ (o : Option ℕ). by_part o at_high all) (sym (part_high (part_count counts p) [])) in
    ((Low ∷ [], refl, behind_low), ((High ∷ [], refl, behind_high), parts_placed n a p l r amount next regs k (λ b B c. placed n next regs (cut_way a p f b B c k)) [] (piece_at k.pieces p) refl))
placed n (Join p q r next) regs k =
    subst (λ (cs : List ℕ). EachWith (Placed n next cs k.trace) (aims n (places next regs (join_way p q k)))) (counts_joined k.pieces p q) (placed n next regs (join_way p q k))
placed n (Test left right strict y z) regs k =
    let f = sum_form regs left.terms in
    let g = sum_form regs right.terms in
    let counts = counts_of k.pieces in
    let yes_way = test_way (yes_kind strict) (sub_form f g) Yes k in
    let no_way = test_way (no_kind strict) (sub_form g f) No k in
    let xs = aims n (places y regs yes_way) in
    let ys = aims n (places z regs no_way) in
    let P = Placed n y counts (k.trace ++ Yes ∷ []) in
    let R = Placed n z counts (k.trace ++ No ∷ []) in
    let Q = Placed n (Test left right strict y z) counts k.trace in
    let on_yes : (x : Aim) (later : List Aim) → P x later → Q x (later ++ ys) = λ x later h.
    (Yes ∷ h.0, h.1 ∙ append_assoc k.trace (Yes ∷ []) h.0, length-append later ys ∙ (λ i. h.2 i + aims_number n z regs no_way i)) in
    let on_no : (x : Aim) (later : List Aim) → R x later → Q x later = λ x later h. (No ∷ h.0, h.1 ∙ append_assoc k.trace (No ∷ []) h.0, h.2) in
    subst (EachWith Q) (sym (aims_both n (places y regs yes_way) (places z regs no_way)))
    (with_both P Q xs ys on_yes (placed n y regs yes_way) (with_as R Q ys on_no (placed n z regs no_way)))
placed n (Give p a next) regs k =
    subst (λ (cs : List ℕ). EachWith (Placed n next cs k.trace) (aims n (places next regs (give_way p a k)))) (counts_used k.pieces p) (placed n next regs (give_way p a k))
placed n End regs k = envies_placed n (counts_of k.pieces) k (pairs n n) (each_pair n)

-- each aim's choices go on from the way
abbrev Begins : List Choice → Aim → Type 0
Begins trace a = (cs : List Choice) × (a.way.trace ≡ trace ++ cs)

begun : (n : ℕ) (t : Tree) (counts : List ℕ) (trace : List Choice) (xs : List Aim) → EachWith (Placed n t counts trace) xs → Each (Begins trace) xs
begun n t counts trace [] h = tt
begun n t counts trace (a ∷ xs) h = ((h.0.0, h.0.1), begun n t counts trace xs h.1)

begins : (n : ℕ) (t : Tree) (regs : List Form) (k : Way) → Each (Begins k.trace) (aims n (places t regs k))
begins n t regs k = begun n t (counts_of k.pieces) k.trace (aims n (places t regs k)) (placed n t regs k)

-- ---- the first passed choices
abbrev with_all : List Choice → Option (List Choice) → Option (List Choice)
with_all [] o = o
with_all (c ∷ cs) o = with_first c (with_all cs o)

front_passed : (on : List Choice → Option (List Choice)) (before : List Address) (cs : List Choice) → front_at_cut on (passed before ++ cs) ≡ with_all (passed before) (on cs)
front_passed on [] cs = refl
front_passed on (x ∷ before) cs = ap (with_first No) (front_passed on before cs)

none_with : (cs : List Choice) → with_all cs None ≡ None
none_with [] = refl
none_with (c ∷ cs) = ap (with_first c) (none_with cs)

first_same : (c : Choice) (o p : Option (List Choice)) → with_first c o ≡ with_first c p → o ≡ p
first_same c None None e = refl
first_same c None (Some p) e = absurd cc
first_same c (Some o) None e = absurd cc
first_same c (Some o) (Some p) e = let f : o ≡ p = cc in ap Some f

all_same : (cs : List Choice) (o p : Option (List Choice)) → with_all cs o ≡ with_all cs p → o ≡ p
all_same [] o p e = e
all_same (c ∷ cs) o p e = all_same cs o p (first_same c (with_all cs o) (with_all cs p) e)

-- other choices first
first_differs : (c d : Choice) (o p : Option (List Choice)) → (c ≡ d → ⊥) → (p ≡ None → ⊥) → with_first c o ≡ with_first d p → ⊥
first_differs c d o None f h e = h refl
first_differs c d None (Some p) f h e = absurd cc
first_differs c d (Some o) (Some p) f h e = f cc

-- an answer in a later part
later_differs : (before : List Address) (A : Address) (more : List Address) (o p : Option (List Choice)) → (p ≡ None → ⊥) → with_all (passed ((before ++ A ∷ []) ++ more)) o ≡ with_all (passed before) p → ⊥
later_differs [] A more o p h e = first_differs No Go (with_all (passed more) o) p (λ d. no_go d) h e
  where
    no_go : No ≡ Go → ⊥
    no_go d = cc
later_differs (x ∷ before) A more o p h e = later_differs before A more o p h (first_same No (with_all (passed ((before ++ A ∷ []) ++ more)) o) (with_all (passed before) p) e)

-- ---- those that share them, and the others
abbrev Alike : (List Choice → Option (List Choice)) → List Choice → List Choice → Aim → Type 0
Alike front trace cs x = (ds : List Choice) × (x.way.trace ≡ trace ++ ds) × (front ds ≡ front cs)

abbrev Unlike : (List Choice → Option (List Choice)) → List Choice → List Choice → Aim → Type 0
Unlike front trace cs x = (ds : List Choice) × (x.way.trace ≡ trace ++ ds) × (front ds ≡ front cs → ⊥)

-- what is behind an aim with these choices from the way on
record Parted (n : ℕ) (front : List Choice → Option (List Choice)) (trace cs : List Choice) (count : ℕ) (es : List Event) (way : Option Way) (later : List Aim) : Type 0 where
  under : List Aim
  behind : List Aim
  are : later ≡ under ++ behind
  number : length under ≡ count
  alike : Each (Alike front trace cs) under
  unlike : Each (Unlike front trace cs) behind
  tell : TellAims n es behind
  there : way ≡ None → ⊥

abbrev Stands : ℕ → ℕ → Tree → List ℕ → List Form → Way → Aim → List Aim → Type 0
Stands n m t counts regs k a later =
    (cs : List Choice) × (a.way.trace ≡ k.trace ++ cs)
    × ((front_of m t cs ≡ None → ⊥) → Parted n (front_of m t) k.trace cs (goals_left n m t counts cs a.kind) (events_behind n m t regs k cs) (way_behind m t regs k cs) later)

no_none : {A : Type 0} (x : A) → Some x ≡ None → ⊥
no_none x e = cc

-- where no choice is to be passed
all_under : (n : ℕ) (t : Tree) (counts : List ℕ) (regs : List Form) (k : Way) (a : Aim) (later : List Aim) → Placed n t counts k.trace a later × Each (Begins k.trace) later → Stands n 0 t counts regs k a later
all_under n t counts regs k a later h = (
  h.0.0,
  h.0.1,
  λ f.
      record {
        under = later;
        behind = [];
        are = sym (append-nil later);
        number = h.0.2;
        alike = each_as (Begins k.trace) (Alike (front_of 0 t) k.trace h.0.0) later (λ x b. (b.0, b.1, refl)) h.1;
        unlike = tt;
        tell = refl;
        there = no_none k;
      },
)

-- ---- a cut
answered_passed : {R : Type 0} (go : List Address → Address → List Address → List Choice → R) (other : R) (pre before : List Address) (A : Address) (after : List Address) (cs : List Choice)
    → answered_in go other pre (before ++ A ∷ after) (passed before ++ cs) ≡ go (pre ++ before) A after cs
answered_passed go other pre [] A after cs = ap (λ (b : List Address). go b A after cs) (sym (append-nil pre))
answered_passed go other pre (x ∷ before) A after cs = answered_passed go other (pre ++ x ∷ []) before A after cs ∙ ap (λ (b : List Address). go b A after cs) (append_assoc pre (x ∷ []) before)

-- what holds of the aims in each part behind those before
each_in_parts : (n : ℕ) (P : Aim → Type 0) (ps : List Address → Address → List Address → List Place) (pre : List Address)
    → ((more : List Address) (A : Address) (after : List Address) → Each P (aims n (ps (pre ++ more) A after)))
    → (more after : List Address) → Each P (aims n (each_part (pre ++ more) after ps))
each_in_parts n P ps pre h more [] = tt
each_in_parts n P ps pre h more (A ∷ after) =
    let xs = aims n (ps (pre ++ more) A after) in
    let ys = aims n (each_part ((pre ++ more) ++ A ∷ []) after ps) in
    let next = subst (λ (b : List Address). Each P (aims n (each_part b after ps))) (sym (append_assoc pre more (A ∷ []))) (each_in_parts n P ps pre h (more ++ A ∷ []) after) in
    subst (Each P) (sym (aims_both n (ps (pre ++ more) A after) (each_part ((pre ++ more) ++ A ∷ []) after ps))) (each_both P xs ys (h more A after) next)

module _ (n m a p l r : ℕ) (amount : Lin) (next : Tree) (regs : List Form) (k : Way) where
  abbrev cut : Tree
  cut = Cut a p amount l r next

  abbrev way_at : List Address → Address → List Address → Way
  way_at b B c = cut_way a p (sum_form regs amount.terms) b B c k

  abbrev places_at : List Address → Address → List Address → List Place
  places_at b B c = places next regs (way_at b B c)

  abbrev fits_at : List Address → Address → List Address → List Event
  fits_at b B c = where_fit (cut_fits n a (sum_form regs amount.terms) b B k) (events n next regs (way_at b B c))

  fronts : (before : List Address) (cs : List Choice) → front_of (suc m) cut (passed before ++ cs) ≡ with_all (passed before) (front_of m next cs)
  fronts before cs = front_passed (front_of m next) before cs

  -- the aims in the parts behind one don't share an answer in that one
  later_unlike : (before : List Address) (A : Address) (after : List Address) (cs : List Choice) → (front_of m next cs ≡ None → ⊥)
      → Each (Unlike (front_of (suc m) cut) k.trace (passed before ++ cs)) (aims n (each_part (before ++ A ∷ []) after places_at))
  later_unlike before A after cs f =
      let pre = before ++ A ∷ [] in
      let P = Unlike (front_of (suc m) cut) k.trace (passed before ++ cs) in
      let here : (more : List Address) (B : Address) (c : List Address) → Each P (aims n (places_at (pre ++ more) B c)) = λ more B c.
      each_as (Begins (k.trace ++ passed (pre ++ more))) P (aims n (places_at (pre ++ more) B c))
      (λ x b. (
        passed (pre ++ more) ++ b.0,
        b.1 ∙ append_assoc k.trace (passed (pre ++ more)) b.0,
        λ e.
            later_differs before A more (front_of m next b.0) (front_of m next cs) f (sym (fronts (pre ++ more) b.0) ∙ e ∙ fronts before cs),
      ))
      (begins n next regs (way_at (pre ++ more) B c)) in
      subst (λ (b : List Address). Each P (aims n (each_part b after places_at))) (append-nil pre) (each_in_parts n P places_at pre here [] after)

  nothing_more : (x : ℕ) → x ≡ x + 0
  nothing_more x = omega arith

  part_parted : (before : List Address) (A : Address) (after : List Address) → before ++ A ∷ after ≡ piece_at k.pieces p → (x : Aim) (later : List Aim)
      → Stands n m next (counts_of (way_at before A after).pieces) regs (way_at before A after) x later
      → Stands n (suc m) cut (counts_of k.pieces) regs k x (later ++ aims n (each_part (before ++ A ∷ []) after places_at))
  part_parted before A after e x later h =
      let ys = aims n (each_part (before ++ A ∷ []) after places_at) in
      let cs = h.0 in
      let counts = counts_of k.pieces in
      let here : part_count counts p ≡ length (before ++ A ∷ after) = count_at k.pieces p ∙ ap (λ (xs : List Address). length xs) (sym e) in
      let go : List Address → Address → List Address → List Choice → List Event = λ b B c ds. events_behind n m next regs (way_at b B c) ds ++ each_part (b ++ B ∷ []) c fits_at in
      let es : events_behind n (suc m) cut regs k (passed before ++ cs) ≡ go before A after cs =
      ap (λ (ps : List Address). answered_in go [] [] ps (passed before ++ cs)) (sym e) ∙ answered_passed go [] [] before A after cs in
      let on : List Address → Address → List Address → List Choice → Option Way = λ b B c ds. way_behind m next regs (way_at b B c) ds in
      let ways : way_behind (suc m) cut regs k (passed before ++ cs) ≡ way_behind m next regs (way_at before A after) cs =
      ap (λ (ps : List Address). answered_in on None [] ps (passed before ++ cs)) (sym e) ∙ answered_passed on None [] before A after cs in
      let later_tell : TellAims n (each_part (before ++ A ∷ []) after fits_at) ys =
      tell_parts n fits_at places_at (λ b B c. tell_where n (cut_fits n a (sum_form regs amount.terms) b B k) (events n next regs (way_at b B c)) (aims n (places_at b B c)) (tells n next regs (way_at b B c))) (before ++ A ∷ []) after in (
        passed before ++ cs,
        h.1 ∙ append_assoc k.trace (passed before) cs,
        λ f.
            (let some : front_of m next cs ≡ None → ⊥ = λ z. f (fronts before cs ∙ ap (with_all (passed before)) z ∙ none_with (passed before)) in
            let q = h.2 some in
            record {
              under = q.under;
              behind = q.behind ++ ys;
              are = ap (λ (xs : List Aim). xs ++ ys) q.are ∙ append_assoc q.under q.behind ys;
              number =
                  q.number
                  ∙ ap (λ (c : List ℕ). goals_left n m next c cs x.kind) (counts_behind a p (sum_form regs amount.terms) before A after k)
                  ∙ nothing_more (goals_left n m next (cut_counts counts p (length before + 1) (suc (length after))) cs x.kind)
                  ∙ sym (left_in_part n (suc m) a p l r amount next counts before A after cs x.kind here);
              alike =
                  each_as (Alike (front_of m next) (k.trace ++ passed before) cs) (Alike (front_of (suc m) cut) k.trace (passed before ++ cs)) q.under
                  (λ y s. (passed before ++ s.0, s.1 ∙ append_assoc k.trace (passed before) s.0, fronts before s.0 ∙ ap (with_all (passed before)) s.2 ∙ sym (fronts before cs))) q.alike;
              unlike =
                  each_both (Unlike (front_of (suc m) cut) k.trace (passed before ++ cs)) q.behind ys
                  (each_as (Unlike (front_of m next) (k.trace ++ passed before) cs) (Unlike (front_of (suc m) cut) k.trace (passed before ++ cs)) q.behind
                  (λ y s. (
                    passed before ++ s.0,
                    s.1 ∙ append_assoc k.trace (passed before) s.0,
                    λ z.
                        s.2 (all_same (passed before) (front_of m next s.0) (front_of m next cs) (sym (fronts before s.0) ∙ z ∙ fronts before cs)),
                  )) q.unlike)
                  (later_unlike before A after cs some);
              tell =
                  subst (λ (xs : List Event). TellAims n xs (q.behind ++ ys)) (sym es)
                  (tell_both n (events_behind n m next regs (way_at before A after) cs) q.behind (each_part (before ++ A ∷ []) after fits_at) ys q.tell later_tell);
              there = λ z. q.there (sym ways ∙ z);
            }),
      )

  parts_parted :
      ((before : List Address) (A : Address) (after : List Address)
      → EachWith (Stands n m next (counts_of (way_at before A after).pieces) regs (way_at before A after)) (aims n (places_at before A after)))
      → (before after : List Address) → before ++ after ≡ piece_at k.pieces p → EachWith (Stands n (suc m) cut (counts_of k.pieces) regs k) (aims n (each_part before after places_at))
  parts_parted ih before [] e = tt
  parts_parted ih before (A ∷ after) e =
      let P = Stands n m next (counts_of (way_at before A after).pieces) regs (way_at before A after) in
      let Q = Stands n (suc m) cut (counts_of k.pieces) regs k in
      let xs = aims n (places_at before A after) in
      let ys = aims n (each_part (before ++ A ∷ []) after places_at) in
      subst (EachWith Q) (sym (aims_both n (places_at before A after) (each_part (before ++ A ∷ []) after places_at)))
      (with_both P Q xs ys (part_parted before A after e) (ih before A after) (parts_parted ih (before ++ A ∷ []) after (append_assoc before (A ∷ []) after ∙ e)))

-- ---- a test
module _ (n m : ℕ) (left right : Lin) (strict : Bool) (y z : Tree) (regs : List Form) (k : Way) where
  abbrev test : Tree
  test = Test left right strict y z

  abbrev f : Form
  f = sum_form regs left.terms

  abbrev g : Form
  g = sum_form regs right.terms

  abbrev yes_way : Way
  yes_way = test_way (yes_kind strict) (sub_form f g) Yes k

  abbrev no_way : Way
  no_way = test_way (no_kind strict) (sub_form g f) No k

  yes_parted : (x : Aim) (later : List Aim) → Stands n m y (counts_of k.pieces) regs yes_way x later → Stands n (suc m) test (counts_of k.pieces) regs k x (later ++ aims n (places z regs no_way))
  yes_parted x later h =
      let ys = aims n (places z regs no_way) in
      let cs = h.0 in
      let no_yes : No ≡ Yes → ⊥ = λ e. differ e in (
        Yes ∷ cs,
        h.1 ∙ append_assoc k.trace (Yes ∷ []) cs,
        λ some_.
            (let some : front_of m y cs ≡ None → ⊥ = λ e. some_ (ap (with_first Yes) e) in
            let q = h.2 some in
            record {
              under = q.under;
              behind = q.behind ++ ys;
              are = ap (λ (xs : List Aim). xs ++ ys) q.are ∙ append_assoc q.under q.behind ys;
              number = q.number ∙ nothing (goals_left n m y (counts_of k.pieces) cs x.kind);
              alike =
                  each_as (Alike (front_of m y) (k.trace ++ Yes ∷ []) cs) (Alike (front_of (suc m) test) k.trace (Yes ∷ cs)) q.under
                  (λ v s. (Yes ∷ s.0, s.1 ∙ append_assoc k.trace (Yes ∷ []) s.0, ap (with_first Yes) s.2)) q.alike;
              unlike =
                  each_both (Unlike (front_of (suc m) test) k.trace (Yes ∷ cs)) q.behind ys
                  (each_as (Unlike (front_of m y) (k.trace ++ Yes ∷ []) cs) (Unlike (front_of (suc m) test) k.trace (Yes ∷ cs)) q.behind
                  (λ v s. (Yes ∷ s.0, s.1 ∙ append_assoc k.trace (Yes ∷ []) s.0, λ e. s.2 (first_same Yes (front_of m y s.0) (front_of m y cs) e))) q.unlike)
                  (each_as (Begins (k.trace ++ No ∷ [])) (Unlike (front_of (suc m) test) k.trace (Yes ∷ cs)) ys
                  (λ v b. (No ∷ b.0, b.1 ∙ append_assoc k.trace (No ∷ []) b.0, λ e. first_differs No Yes (front_of m z b.0) (front_of m y cs) no_yes some e)) (begins n z regs no_way));
              tell =
                  tell_both n (events_behind n m y regs yes_way cs) q.behind (where_fit (sub_fits n k.cake g f) (events n z regs no_way)) ys q.tell
                  (tell_where n (sub_fits n k.cake g f) (events n z regs no_way) ys (tells n z regs no_way));
              there = q.there;
            }),
      )
    where
      differ : No ≡ Yes → ⊥
      differ e = cc

      nothing : (v : ℕ) → v ≡ v + 0
      nothing v = omega arith

  no_parted : (x : Aim) (later : List Aim) → Stands n m z (counts_of k.pieces) regs no_way x later → Stands n (suc m) test (counts_of k.pieces) regs k x later
  no_parted x later h =
      let cs = h.0 in (
        No ∷ cs,
        h.1 ∙ append_assoc k.trace (No ∷ []) cs,
        λ some_.
            (let q = h.2 (λ e. some_ (ap (with_first No) e)) in
            record {
              under = q.under;
              behind = q.behind;
              are = q.are;
              number = q.number;
              alike =
                  each_as (Alike (front_of m z) (k.trace ++ No ∷ []) cs) (Alike (front_of (suc m) test) k.trace (No ∷ cs)) q.under
                  (λ v s. (No ∷ s.0, s.1 ∙ append_assoc k.trace (No ∷ []) s.0, ap (with_first No) s.2)) q.alike;
              unlike =
                  each_as (Unlike (front_of m z) (k.trace ++ No ∷ []) cs) (Unlike (front_of (suc m) test) k.trace (No ∷ cs)) q.behind
                  (λ v s. (No ∷ s.0, s.1 ∙ append_assoc k.trace (No ∷ []) s.0, λ e. s.2 (first_same No (front_of m z s.0) (front_of m z cs) e))) q.unlike;
              tell = q.tell;
              there = q.there;
            }),
      )

  test_parted : EachWith (Stands n m y (counts_of k.pieces) regs yes_way) (aims n (places y regs yes_way)) → EachWith (Stands n m z (counts_of k.pieces) regs no_way) (aims n (places z regs no_way))
      → EachWith (Stands n (suc m) test (counts_of k.pieces) regs k) (aims n (places test regs k))
  test_parted at_yes at_no =
      let P = Stands n m y (counts_of k.pieces) regs yes_way in
      let R = Stands n m z (counts_of k.pieces) regs no_way in
      let Q = Stands n (suc m) test (counts_of k.pieces) regs k in
      let xs = aims n (places y regs yes_way) in
      let ys = aims n (places z regs no_way) in
      subst (EachWith Q) (sym (aims_both n (places y regs yes_way) (places z regs no_way)))
      (with_both P Q xs ys yes_parted at_yes (with_as R Q ys no_parted at_no))

-- ---- all of it
none_parted : (n m : ℕ) (counts : List ℕ) (regs : List Form) (k : Way) (ps : List (ℕ × ℕ))
    → EachWith (Stands n (suc m) End counts regs k) (map (λ p. record { way = k; kind = goal_kind.Envy p.0 p.1; own = envy_form p.0 p.1 k }) ps ++ [])
none_parted n m counts regs k [] = tt
none_parted n m counts regs k (p ∷ ps) = (([], sym (append-nil k.trace), λ f. absurd (f refl)), none_parted n m counts regs k ps)

parted : (n m : ℕ) (t : Tree) (regs : List Form) (k : Way) → EachWith (Stands n m t (counts_of k.pieces) regs k) (aims n (places t regs k))
parted n zero t regs k =
    let xs = aims n (places t regs k) in
    let counts = counts_of k.pieces in
    let P = Placed n t counts k.trace in
    with_as (λ a later. P a later × Each (Begins k.trace) later) (Stands n 0 t counts regs k) xs (all_under n t counts regs k) (with_each P (Begins k.trace) xs (placed n t regs k) (begins n t regs k))
parted n (suc m) (Ask a p r next) regs k = parted n (suc m) next (regs ++ piece_form a (piece_at k.pieces p) ∷ []) (ask_way k)
parted n (suc m) (Set r sum next) regs k = parted n (suc m) next (regs ++ sum_form regs sum.terms ∷ []) k
parted n (suc m) (Cut a p amount l r next) regs k = (
  (Low ∷ [], refl, λ f. absurd (f refl)),
  (
    (High ∷ [], refl, λ f. absurd (f refl)),
    parts_parted n m a p l r amount next regs k (λ b B c. parted n m next regs (cut_way a p (sum_form regs amount.terms) b B c k)) [] (piece_at k.pieces p) refl,
  ),
)
parted n (suc m) (Join p q r next) regs k =
    subst (λ (cs : List ℕ). EachWith (Stands n (suc m) next cs regs (join_way p q k)) (aims n (places next regs (join_way p q k)))) (counts_joined k.pieces p q) (parted n (suc m) next regs (join_way p q k))
parted n (suc m) (Test left right strict y z) regs k =
    let f = sum_form regs left.terms in
    let g = sum_form regs right.terms in
    test_parted n m left right strict y z regs k (parted n m y regs (test_way (yes_kind strict) (sub_form f g) Yes k)) (parted n m z regs (test_way (no_kind strict) (sub_form g f) No k))
parted n (suc m) (Give p a next) regs k =
    subst (λ (cs : List ℕ). EachWith (Stands n (suc m) next cs regs (give_way p a k)) (aims n (places next regs (give_way p a k)))) (counts_used k.pieces p) (parted n (suc m) next regs (give_way p a k))
parted n (suc m) End regs k = none_parted n m (counts_of k.pieces) regs k (pairs n n)

-- ---- goals
record AtGoal (n number : ℕ) (P : Aim → List Aim → Type 0) (g : Goal) (later : List Goal) : Type 0 where
  aim : Aim
  rest : List Aim
  holds : P aim rest
  is : g ≡ goal_of n number aim
  later_are : later ≡ numbered n (number + 1) rest

at_goal : (n q i number : ℕ) (P : Aim → List Aim → Type 0) (xs : List Aim) (g : Goal) (later : List Goal) → number ≡ q + i → EachWith P xs → drop i (numbered n q xs) ≡ g ∷ later → AtGoal n number P g later
at_goal n q zero number P [] g later e h d = absurd cc
at_goal n q (suc i) number P [] g later e h d = absurd cc
at_goal n q zero number P (a ∷ xs) g later e h d =
    let same : q ≡ number = omega (arith, e) in
    record {
      aim = a;
      rest = xs;
      holds = h.0;
      is = first ∙ ap (λ (j : ℕ). goal_of n j a) same;
      later_are = others ∙ ap (λ (j : ℕ). numbered n (j + 1) xs) same;
    }
  where
    first : g ≡ goal_of n q a
    first = cc

    others : later ≡ numbered n (q + 1) xs
    others = cc
at_goal n q (suc i) number P (a ∷ xs) g later e h d = at_goal n (q + 1) i number P xs g later (omega (arith, e)) h.1 d

length_numbered : (n q : ℕ) (xs : List Aim) → length (numbered n q xs) ≡ length xs
length_numbered n q [] = refl
length_numbered n q (a ∷ xs) = ap suc (length_numbered n (q + 1) xs)

take_numbered : (n q : ℕ) (xs ys : List Aim) → take (length xs) (numbered n q (xs ++ ys)) ≡ numbered n q xs
take_numbered n q [] ys = refl
take_numbered n q (a ∷ xs) ys = ap (λ (gs : List Goal). goal_of n q a ∷ gs) (take_numbered n (q + 1) xs ys)

drop_numbered : (n q : ℕ) (xs ys : List Aim) → drop (length xs) (numbered n q (xs ++ ys)) ≡ numbered n (q + length xs) ys
drop_numbered n q [] ys = ap (λ (j : ℕ). numbered n j ys) (let e : q ≡ q + 0 = omega arith in e)
drop_numbered n q (a ∷ xs) ys = drop_numbered n (q + 1) xs ys ∙ ap (λ (j : ℕ). numbered n j ys) (let e : q + 1 + length xs ≡ q + suc (length xs) = omega arith in e)

all_numbered : (n q : ℕ) (P : Aim → Type 0) (Q : Goal → Type 0) (xs : List Aim) → ((i : ℕ) (a : Aim) → P a → Q (goal_of n i a)) → Each P xs → All Q (numbered n q xs)
all_numbered n q P Q [] f h = All-nil Q
all_numbered n q P Q (a ∷ xs) f h = All-cons Q (goal_of n q a) (numbered n (q + 1) xs) (f q a h.0) (all_numbered n (q + 1) P Q xs f h.1)

pub skips_pass_over : SkipsPassOver
skips_pass_over core passed_ g later at has =
    let n = core.agents in
    let first = first_way n in
    let counts : List ℕ = 1 ∷ [] in
    let front = front_of passed_ core.tree in
    let o = at_goal n 0 g.number g.number (Stands n passed_ core.tree counts [] first) (aims_of core) g later (omega arith) (parted n passed_ core.tree [] first) at in
    let h = o.holds in
    let trace : h.0 ≡ g.trace = sym h.1 ∙ ap (λ (x : Goal). x.trace) (sym o.is) in
    let kind : o.aim.kind ≡ g.kind = ap (λ (x : Goal). x.kind) (sym o.is) in
    let whole : (front g.trace ≡ None → ⊥) → Parted n front [] g.trace (goals_under core passed_ g.trace g.kind) (events_after core passed_ g.trace) (way_behind passed_ core.tree [] first g.trace) o.rest =
    subst (λ (kd : GoalKind). (front g.trace ≡ None → ⊥) → Parted n front [] g.trace (goals_left n passed_ core.tree counts g.trace kd) (events_after core passed_ g.trace) (way_behind passed_ core.tree [] first g.trace) o.rest) kind
    (subst (λ (cs : List Choice). (front cs ≡ None → ⊥) → Parted n front [] cs (goals_left n passed_ core.tree counts cs o.aim.kind) (events_behind n passed_ core.tree [] first cs) (way_behind passed_ core.tree [] first cs) o.rest) trace h.2) in
    passes core passed_ g later o.rest o.later_are (whole has)
  where
    passes : (core : Core) (passed_ : ℕ) (g : Goal) (later : List Goal) (rest : List Aim) → later ≡ numbered core.agents (g.number + 1) rest
        → Parted core.agents (front_of passed_ core.tree) [] g.trace (goals_under core passed_ g.trace g.kind) (events_after core passed_ g.trace) (way_behind passed_ core.tree [] (first_way core.agents) g.trace) rest
        → PassesOver core passed_ g later
    passes core passed_ g later rest e q =
        let n = core.agents in
        let i = g.number + 1 in
        let front = front_of passed_ core.tree in
        let count = goals_under core passed_ g.trace g.kind in
        let all : later ≡ numbered n i (q.under ++ q.behind) = e ∙ ap (numbered n i) q.are in
        let taken : take count later ≡ numbered n i q.under = (λ j. take (sym q.number j) (all j)) ∙ take_numbered n i q.under q.behind in
        let left : drop count later ≡ numbered n (i + count) q.behind = (λ j. drop (sym q.number j) (all j)) ∙ drop_numbered n i q.under q.behind ∙ ap (λ (j : ℕ). numbered n (i + j) q.behind) q.number in
        let long : length later ≡ length q.under + length q.behind = ap (λ (gs : List Goal). length gs) all ∙ length_numbered n i (q.under ++ q.behind) ∙ length-append q.under q.behind in
        let sharing : All (Shares core passed_ g.trace) (numbered n i q.under) =
        all_numbered n i (Alike front [] g.trace) (Shares core passed_ g.trace) q.under (λ j a s. ap front s.1 ∙ s.2) q.alike in
        let others : All (λ (x : Goal). Shares core passed_ g.trace x → ⊥) (numbered n (i + count) q.behind) =
        all_numbered n (i + count) (Unlike front [] g.trace) (λ (x : Goal). Shares core passed_ g.trace x → ⊥) q.behind (λ j a s z. s.2 (ap front (sym s.1) ∙ z)) q.unlike in
        record {
          way = q.there;
          share = (omega (arith, long, q.number), subst (All (Shares core passed_ g.trace)) (sym taken) sharing, subst (All (λ (x : Goal). Shares core passed_ g.trace x → ⊥)) (sym left) others);
          tell = subst (λ (gs : List Goal). Tell (events_after core passed_ g.trace) gs (i + count)) (sym left) (tell_numbered n (events_after core passed_ g.trace) q.behind (i + count) q.tell);
        }

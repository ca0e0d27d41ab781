-- The rows of the goals that come are over the same unknowns, and their numbers fit.
use Rattle.std.proofs.Common.{◌≡◌, ◌∙◌, ℕ, zero, suc, ◌+◌, ◌-◌, ◌*◌, ◌<◌, ◌^◌, ◌++◌, List, [], ◌∷◌, length, map, Bool, true, false, ◌&&◌, ℤ, pos, arith, refl, sym, subst}
use Rattle.std.specs.Prelude.{⊤, nat_lt, if◌then◌else◌}
use Rattle.std.proofs.lemmas.Bool.Decides.{nat_tests}
use Rattle.std.proofs.lemmas.Int.{ints}
use Rattle.std.proofs.lemmas.List.{length-map, length-append}
use Rattle.slice_num.specs.Rational.{Rational, whole, Fits}
use Rattle.slice_num.specs.Fitting.{fits}
use Rattle.slice_num.specs.declared.choice.Choice.{Choice}
use Rattle.slice_num.specs.declared.choice.Choice.TheVariants as choice
use Rattle.slice_core.specs.Tree.{Tree, Ask, Set, Cut, Join, Test, Give, End}
use Rattle.slice_num.specs.Pieces.{piece_at, each_part}
use Rattle.slice_linear.specs.LowestRow.{common_den, cleared, all_fit}
use Rattle.slice_linear.specs.Rows.{LinearRow, AreRowsOver, coefs_at, width}
use Rattle.slice_linear.specs.Sums.{at}
use Rattle.slice_linear.specs.declared.row.RowKind.TheVariants.{Above}
use Rattle.slice_linear.proofs.Reduced.{reduced_fits}
use Rattle.slice_linear.proofs.Multiples.{fits_says}
use Rattle.slice_atoms.specs.Addresses.{Address, Cake, atom_count}
use Rattle.slice_atoms.specs.FormFits.{sub_fits}
use Rattle.slice_atoms.specs.Forms.{Form, all_coefs, sub_form, fixed_form, piece_form}
use Rattle.slice_paths.specs.Places.{Condition, Way, sum_form, first_way, ask_way, choose_way, cut_way, test_way, join_way, give_way, yes_kind, no_kind}
use Rattle.slice_paths.specs.Goals.{row_of, pairs}
use Rattle.slice_paths.specs.Coming.{goals_ahead, AreGoals, ComingGoalsFit, GoalsBehindFit}
use Rattle.slice_paths.specs.Events.{Event, Meets, Breaks, goal_at, goal_limit, row_fits, rows_fit, found, where_fit, low_goal, high_goal, envy_goal, cut_fits, sum_fits, events, events_of}
use Rattle.slice_paths.specs.Fronts.{answered_in, taken_arm, events_behind, events_after}
use Rattle.slice_paths.specs.declared.goal.GoalKind.{GoalKind}
use Rattle.slice_paths.specs.declared.goal.GoalKind.TheVariants as goal_kind
use Rattle.slice_paths.proofs.GoalLaws.{length_row}

and_left : (a b : Bool) → (a && b) ≡ true → a ≡ true
and_left true b h = refl
and_left false b h = h

and_right : (a b : Bool) → (a && b) ≡ true → b ≡ true
and_right true b h = h
and_right false b h = let e : false ≡ true = h in absurd cc

zero_fits : Fits (pos 0)
zero_fits = omega (arith, ints)

-- ---- rows
fit_everywhere : (zs : List ℤ) (j : ℕ) → all_fit zs ≡ true → Fits (at zs j)
fit_everywhere [] j h = zero_fits
fit_everywhere (z ∷ zs) zero h = fits_says z (and_left (fits z) (all_fit zs) h)
fit_everywhere (z ∷ zs) (suc j) h = fit_everywhere zs j (and_right (fits z) (all_fit zs) h)

row_good : (n : ℕ) (k : Cake) (d : Condition) → row_fits n k d ≡ true → (j : ℕ) → Fits (at (row_of n k d).coefs j)
row_good n k d h j =
    let qs : List Rational = all_coefs n k d.form in
    reduced_fits (cleared (common_den qs) qs) (λ i. fit_everywhere (cleared (common_den qs) qs) i (and_right (nat_lt (common_den qs) (2 ^ 127)) (all_fit (cleared (common_den qs) qs)) h)) j

rows_wide : (n : ℕ) (k : Cake) (ds : List Condition) (i : ℕ) → i < length (map (row_of n k) ds) → length (coefs_at (map (row_of n k) ds) i) ≡ 1 + n * atom_count k
rows_wide n k [] i h = absurd (omega (arith, h))
rows_wide n k (d ∷ ds) zero h = length_row n k d
rows_wide n k (d ∷ ds) (suc i) h = rows_wide n k ds i (omega (arith, h))

rows_small : (n : ℕ) (k : Cake) (ds : List Condition) (i j : ℕ) → rows_fit n k ds ≡ true → Fits (at (coefs_at (map (row_of n k) ds) i) j)
rows_small n k [] i j h = zero_fits
rows_small n k (d ∷ ds) zero j h = row_good n k d (and_left (row_fits n k d) (rows_fit n k ds) h) j
rows_small n k (d ∷ ds) (suc i) j h = rows_small n k ds i j (and_right (row_fits n k d) (rows_fit n k ds) h)

good_rows : (n : ℕ) (k : Cake) (ds : List Condition) (d : Condition) → rows_fit n k (ds ++ d ∷ []) ≡ true → AreRowsOver (width (map (row_of n k) (ds ++ d ∷ []))) (map (row_of n k) (ds ++ d ∷ []))
good_rows n k ds d h =
    let rows : List LinearRow = map (row_of n k) (ds ++ d ∷ []) in
    let long : length rows ≡ length ds + 1 = length-map (ds ++ d ∷ []) (row_of n k) ∙ length-append ds (d ∷ []) in
    let some : 0 < length rows = omega (arith, long) in
    let wide : width rows ≡ 1 + n * atom_count k = rows_wide n k (ds ++ d ∷ []) 0 some in
    subst (λ w. AreRowsOver w rows) (sym wide) (record {
      some_row = some;
      some_unknown = omega arith;
      widths = rows_wide n k (ds ++ d ∷ []);
      fit = λ i j lt. rows_small n k (ds ++ d ∷ []) i j h;
    })

-- ---- events
-- the rows of each goal whose numbers fit
abbrev AllGood : List Event → Type 0
AllGood [] = ⊤
AllGood (Breaks ∷ es) = AllGood es
AllGood (Meets t ∷ es) = (t.fit ≡ true → AreRowsOver (width t.rows) t.rows) × AllGood es

found_good : (n : ℕ) (k : Way) (g : GoalKind) (f h : Form) → (found n k g f h).fit ≡ true → AreRowsOver (width (found n k g f h).rows) (found n k g f h).rows
found_good n k g f h e =
    let own : Condition = record { kind = Above; form = sub_form f h } in
    good_rows n k.cake k.conditions own (and_right (sub_fits n k.cake f h) (rows_fit n k.cake (k.conditions ++ own ∷ [])) e)

good_append : (es fs : List Event) → AllGood es → AllGood fs → AllGood (es ++ fs)
good_append [] fs h g = g
good_append (Breaks ∷ es) fs h g = good_append es fs h g
good_append (Meets t ∷ es) fs h g = (h.0, good_append es fs h.1 g)

good_where : (b : Bool) (es : List Event) → AllGood es → AllGood (where_fit b es)
good_where true es h = h
good_where false es h = tt

good_parts : (go : List Address → Address → List Address → List Event) (before ps : List Address) → ((b : List Address) (x : Address) (a : List Address) → AllGood (go b x a)) → AllGood (each_part before ps go)
good_parts go before [] h = tt
good_parts go before (x ∷ ps) h = good_append (go before x ps) (each_part (before ++ x ∷ []) ps go) (h before x ps) (good_parts go (before ++ x ∷ []) ps h)

good_envies : (n : ℕ) (k : Way) (ps : List (ℕ × ℕ)) → AllGood (map (envy_goal n k) ps)
good_envies n k [] = tt
good_envies n k (p ∷ ps) = (found_good n k (goal_kind.Envy p.0 p.1) (piece_form p.0 (piece_at k.shares (p.1 - 1))) (piece_form p.0 (piece_at k.shares (p.0 - 1))), good_envies n k ps)

events_good : (n : ℕ) (t : Tree) (regs : List Form) (k : Way) → AllGood (events n t regs k)
events_good n (Ask a p r next) regs k = events_good n next (regs ++ piece_form a (piece_at k.pieces p) ∷ []) (ask_way k)
events_good n (Set r sum next) regs k =
    good_where (sum_fits n k.cake regs sum.terms) (events n next (regs ++ sum_form regs sum.terms ∷ []) k) (events_good n next (regs ++ sum_form regs sum.terms ∷ []) k)
events_good n (Cut a p amount l r next) regs k =
    let f : Form = sum_form regs amount.terms in
    let go : List Address → Address → List Address → List Event = λ before A after. where_fit (cut_fits n a f before A k) (events n next regs (cut_way a p f before A after k)) in
    good_where (sum_fits n k.cake regs amount.terms) (low_goal n f k ∷ high_goal n a p f k ∷ each_part [] (piece_at k.pieces p) go)
    (found_good n (choose_way (choice.Low ∷ []) k) goal_kind.Low (fixed_form (whole (pos 0))) f, (found_good n (choose_way (choice.High ∷ []) k) goal_kind.High f (piece_form a (piece_at k.pieces p)), good_parts go [] (piece_at k.pieces p) (λ b x c. good_where (cut_fits n a f b x k) (events n next regs (cut_way a p f b x c k)) (events_good n next regs (cut_way a p f b x c k)))))
events_good n (Join p q r next) regs k = events_good n next regs (join_way p q k)
events_good n (Test left right strict y z) regs k =
    let f : Form = sum_form regs left.terms in
    let g : Form = sum_form regs right.terms in
    let one : Way = test_way (yes_kind strict) (sub_form f g) choice.Yes k in
    let two : Way = test_way (no_kind strict) (sub_form g f) choice.No k in
    let es : List Event = where_fit (sub_fits n k.cake f g) (events n y regs one) in
    let fs : List Event = where_fit (sub_fits n k.cake g f) (events n z regs two) in
    good_where (sum_fits n k.cake regs left.terms && sum_fits n k.cake regs right.terms) (es ++ fs)
    (good_append es fs (good_where (sub_fits n k.cake f g) (events n y regs one) (events_good n y regs one)) (good_where (sub_fits n k.cake g f) (events n z regs two) (events_good n z regs two)))
events_good n (Give p a next) regs k = events_good n next regs (give_way p a k)
events_good n End regs k = good_envies n k (pairs n n)

-- ---- goals that come
coming_good : (es : List Event) (given : ℕ) → AllGood es → AreGoals given (goals_ahead es given)
coming_good [] given h = tt
coming_good (Breaks ∷ es) given h = tt
coming_good (Meets t ∷ es) given h = by (nat_lt given goal_limit) t.fit refl refl (coming_good es (given + 1) h.1)
  where
    by : (x y : Bool) → nat_lt given goal_limit ≡ x → t.fit ≡ y → AreGoals (given + 1) (goals_ahead es (given + 1))
        → AreGoals given (if x then (if y then goal_at given t ∷ goals_ahead es (given + 1) else []) else [])
    by true true e f g = (refl, grind (arith, nat_tests), h.0 f, g)
    by true false e f g = tt
    by false y e f g = tt

pub coming_goals_fit : ComingGoalsFit
coming_goals_fit core = coming_good (events_of core) 0 (events_good core.agents core.tree [] (first_way core.agents))

-- ---- behind choices that were passed
good_answered : (go : List Address → Address → List Address → List Choice → List Event) → ((b : List Address) (x : Address) (a : List Address) (cs : List Choice) → AllGood (go b x a cs))
    → (before parts : List Address) (cs : List Choice) → AllGood (answered_in go [] before parts cs)
good_answered go h before [] cs = tt
good_answered go h before (x ∷ ps) [] = tt
good_answered go h before (x ∷ ps) (choice.No ∷ cs) = good_answered go h (before ++ x ∷ []) ps cs
good_answered go h before (x ∷ ps) (choice.Go ∷ cs) = h before x ps cs
good_answered go h before (x ∷ ps) (choice.Low ∷ cs) = tt
good_answered go h before (x ∷ ps) (choice.High ∷ cs) = tt
good_answered go h before (x ∷ ps) (choice.Yes ∷ cs) = tt

good_arm : (one two : List Choice → List Event) → ((cs : List Choice) → AllGood (one cs)) → ((cs : List Choice) → AllGood (two cs)) → (cs : List Choice) → AllGood (taken_arm one two [] cs)
good_arm one two h g [] = tt
good_arm one two h g (choice.Yes ∷ cs) = h cs
good_arm one two h g (choice.No ∷ cs) = g cs
good_arm one two h g (choice.Low ∷ cs) = tt
good_arm one two h g (choice.High ∷ cs) = tt
good_arm one two h g (choice.Go ∷ cs) = tt

behind_good : (n passed : ℕ) (t : Tree) (regs : List Form) (k : Way) (cs : List Choice) → AllGood (events_behind n passed t regs k cs)
behind_good n zero t regs k cs = tt
behind_good n (suc more) (Ask a p r next) regs k cs = behind_good n (suc more) next (regs ++ piece_form a (piece_at k.pieces p) ∷ []) (ask_way k) cs
behind_good n (suc more) (Set r sum next) regs k cs = behind_good n (suc more) next (regs ++ sum_form regs sum.terms ∷ []) k cs
behind_good n (suc more) (Cut a p amount l r next) regs k cs =
    let f : Form = sum_form regs amount.terms in
    let on : List Address → Address → List Address → List Event = λ b x c. where_fit (cut_fits n a f b x k) (events n next regs (cut_way a p f b x c k)) in
    good_answered (λ before x after cs. events_behind n more next regs (cut_way a p f before x after k) cs ++ each_part (before ++ x ∷ []) after on)
    (λ before x after cs.
    good_append (events_behind n more next regs (cut_way a p f before x after k) cs) (each_part (before ++ x ∷ []) after on) (behind_good n more next regs (cut_way a p f before x after k) cs)
    (good_parts on (before ++ x ∷ []) after (λ b y c. good_where (cut_fits n a f b y k) (events n next regs (cut_way a p f b y c k)) (events_good n next regs (cut_way a p f b y c k)))))
    [] (piece_at k.pieces p) cs
behind_good n (suc more) (Join p q r next) regs k cs = behind_good n (suc more) next regs (join_way p q k) cs
behind_good n (suc more) (Test left right strict y z) regs k cs =
    let f : Form = sum_form regs left.terms in
    let g : Form = sum_form regs right.terms in
    let one : Way = test_way (yes_kind strict) (sub_form f g) choice.Yes k in
    let two : Way = test_way (no_kind strict) (sub_form g f) choice.No k in
    let es : List Event = where_fit (sub_fits n k.cake g f) (events n z regs two) in
    good_arm (λ cs. events_behind n more y regs one cs ++ es) (λ cs. events_behind n more z regs two cs)
    (λ cs. good_append (events_behind n more y regs one cs) es (behind_good n more y regs one cs) (good_where (sub_fits n k.cake g f) (events n z regs two) (events_good n z regs two)))
    (λ cs. behind_good n more z regs two cs) cs
behind_good n (suc more) (Give p a next) regs k cs = behind_good n (suc more) next regs (give_way p a k) cs
behind_good n (suc more) End regs k cs = tt

pub goals_behind_fit : GoalsBehindFit
goals_behind_fit core passed given trace = coming_good (events_after core passed trace) given (behind_good core.agents passed core.tree [] (first_way core.agents) trace)

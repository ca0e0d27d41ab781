-- A solution of a goal's rows gives a counterexample to the goal.
use Rattle.std.proofs.Common.{◌≡◌, ◌∙◌, ℕ, zero, suc, ◌+◌, ◌-◌, ◌*◌, ◌≤◌, ◌<◌, arith, refl, sym, ap, subst, List, [], ◌∷◌, ◌++◌, map, length, get_or, ℤ, pos, ◌<ℤ◌, sum, inl, inr, ◌≤ℤ◌, ◌^◌}
use Rattle.std.specs.List.{All}
use Rattle.std.proofs.lemmas.Int.{ints}
use Rattle.std.proofs.lemmas.List.{length-map, get_or-map}
use Rattle.std.proofs.Math.ListN as raw
use Rattle.std.proofs.lemmas.Bool.{cases_lt}
use Rattle.slice_num.specs.Rational.{Rational, whole, IsBelow}
use Rattle.slice_num.specs.Valuation.{Valuation, IsSmall, IsValuation, IsValuationList, cake, cake_length, share_value}
use Rattle.slice_num.specs.declared.choice.Choice.{Choice}
use Rattle.slice_num.specs.declared.interval.Interval.{Interval}
use Rattle.slice_num.proofs.FieldLaws.{whole_below, times_one, minus_above_out}
use Rattle.slice_core.specs.Tree.{Core}
use Rattle.slice_num.specs.Pieces.{piece_at}
use Rattle.slice_core.specs.Agents.{IsAgent, HasAgents}
use Rattle.slice_core.specs.Division.{IsEnvious}
use Rattle.slice_core.specs.Measures.{AreMeasures, worth_of, length_of}
use Rattle.slice_core.specs.Run.{Piece, Worth, State, run_core, start}
use Rattle.slice_num.specs.declared.cut_answer.CutAnswer.{CutAnswer}
use Rattle.slice_core.proofs.MeasureLaws.{share_values_are_measures}
use Rattle.slice_linear.specs.declared.row.RowKind.TheVariants.{Above}
use Rattle.slice_linear.specs.Rows.{Holds, IsSolution}
use Rattle.slice_linear.specs.LowestRow.{lowest}
use Rattle.slice_linear.specs.Proportion.{AllTimes, Meets, dot_of}
use Rattle.slice_linear.proofs.SolutionLaws.{solution_not_below, solution_holds}
use Rattle.slice_linear.proofs.LowestLaws.{lowest_factor}
use Rattle.slice_linear.proofs.Dots.{kind_in}
use Rattle.slice_atoms.specs.Addresses.{atom_count, Cake, atoms}
use Rattle.slice_atoms.specs.Forms.{Form, fixed_form, piece_form, all_coefs}
use Rattle.slice_paths.specs.Places.{Condition, PassedCut, Way, Stop, AtEnd, AtCut, Place, places, first_way, first_conditions, whole_condition, whole_conditions}
use Rattle.slice_paths.specs.Goals.{row_of, rows_of, pairs, envy_form, Aim, aims_at, stuck_kind, Goal, goal_of}
use Rattle.slice_paths.specs.Points.{Points, IsInside, atom_values, agent_values, unknown_values, stretch_of}
use Rattle.slice_paths.specs.RunLaws.{EndsAs, PassesRows}
use Rattle.slice_paths.specs.Ways.{rows_after}
use Rattle.slice_paths.specs.declared.goal.GoalKind.{GoalKind}
use Rattle.slice_paths.specs.declared.goal.GoalKind.TheVariants.{Envy}
use Rattle.slice_paths.proofs.Fits.{none, one, IsIn, form_value, OwnHolds}
use Rattle.slice_paths.proofs.Parts.{in_left, in_right}
use Rattle.slice_paths.proofs.Unknowns.{form_dot}
use Rattle.slice_paths.proofs.Solutions.{map_out, first_of_pair}
use Rattle.slice_paths.proofs.Found.{place_atoms}
use Rattle.slice_paths.proofs.GoalLaws.{aims_out, of_aim, count_atoms}
use Rattle.slice_paths.proofs.Later.{Refines, later, refines_self}
use Rattle.slice_paths.proofs.Held.{first_held}
use Rattle.slice_paths.proofs.OnTheWay.{runs_obey_on_the_way}
use Rattle.slice_paths.proofs.Follows.{end_at, AllCut, answer_to, Followed, follows, value_minus, value_share}
use Rattle.slice_counter.specs.Counter.{GoesTo, EndGoesTo, IsCounterexample, IsLow, unit_steps, lists_of, valuations_of, boundary, answers_of, SolutionsGiveCounterexamples}
use Rattle.slice_counter.proofs.UnitSteps.{units_cake, units_small, units_valuation, spread, cake_of_spread, all_inside, boundary_point, heights_times}
use Rattle.slice_counter.proofs.RowsBack.{NotBelow, numbers_of, list_at, length_lists, numbers_are, list_long, lists_long, lists_up_to, total_above, heights_full}
use Rattle.slice_core.specs.Sizes.{most_cuts}

-- ---- lists
times-append : (d : Rational) (xs ys : List ℤ) (us vs : List Rational) → AllTimes d xs us → AllTimes d ys vs → AllTimes d (xs ++ ys) (us ++ vs)
times-append d [] ys [] vs h g = g
times-append d [] ys (u ∷ us) vs h g = absurd h
times-append d (x ∷ xs) ys [] vs h g = absurd h
times-append d (x ∷ xs) ys (u ∷ us) vs h g = (h.0, times-append d xs ys us vs h.1 g)

all_in_map : {A B : Type 0} (f : A → B) (P : B → Type 0) (xs : List A) (x : A) → All P (map f xs) → IsIn x xs → P (f x)
all_in_map f P [] x h i = absurd i
all_in_map f P (y ∷ xs) x h (inl e) = subst (λ z. P (f z)) (sym e) (h 0 (f y) (omega arith))
all_in_map f P (y ∷ xs) x h (inr i) = all_in_map f P xs x (λ j d l. h (suc j) d (omega (arith, l))) i

in_whole_conditions : (n a : ℕ) → IsAgent n a → IsIn (whole_condition a) (whole_conditions n)
in_whole_conditions zero a is = absurd (omega (arith, is.0, is.1))
in_whole_conditions (suc n) a is = elim (cases_lt a (suc n)) [
  | inl l ↦ in_left (whole_condition a) (whole_conditions n) _ (in_whole_conditions n a (is.0, omega (arith, l)))
  | inr l ↦ in_right (whole_condition a) (whole_conditions n) _ (inl (ap whole_condition (omega (arith, l, is.1))))
]

-- ---- the valuations
module _ (n : ℕ) (some_agent : 0 < n) (k : Cake) (total : ℤ) (zs : List ℤ) (not_below : All NotBelow zs) (long : length zs ≡ n * atom_count k)
    (first : Holds (total ∷ zs) (row_of n k (record { kind = Above; form = fixed_form one }))) (each : (a : ℕ) → IsAgent n a → Holds (total ∷ zs) (row_of n k (whole_condition a))) where
  abbrev hss : List (List ℕ)
  hss = lists_of n (atom_count k) zs

  abbrev vs : List Valuation
  vs = map unit_steps hss

  heights : ℕ → List ℕ
  heights = list_at hss

  numbers : zs ≡ numbers_of heights n
  unfolding heights
  numbers = numbers_are n (atom_count k) zs not_below long

  heights_long : (a : ℕ) → IsAgent n a → length (heights a) ≡ length (atoms k)
  unfolding heights
  heights_long a is = list_long n (atom_count k) zs a is long ∙ sym (count_atoms k)

  above : pos 0 <ℤ total
  above = total_above n k total heights heights_long (subst (λ (ys : List ℤ). Holds (total ∷ ys) (row_of n k (record { kind = Above; form = fixed_form one }))) numbers first)

  full : (a : ℕ) → IsAgent n a → pos (sum (heights a)) ≡ total
  full a is = heights_full n k total heights heights_long a is (subst (λ (ys : List ℤ). Holds (total ∷ ys) (row_of n k (whole_condition a))) numbers (each a is))

  some_sum : (a : ℕ) → IsAgent n a → 0 < sum (heights a)
  some_sum a is = let p = above in let e = full a is in omega (arith, ints, p, e)

  one_before : (i : ℕ) → suc i - 1 ≡ i
  one_before i = omega arith

  unit_at : (i : ℕ) (d : Valuation) → i < length vs → (hs : List ℕ) × (get_or vs i d ≡ unit_steps hs) × (0 < sum hs) × (length hs ≡ atom_count k)
  unfolding heights
  unit_at i d l =
      let less : i < n = omega (arith, l, length-map hss unit_steps, length_lists n (atom_count k) zs) in (
        get_or hss i [],
        get_or-map unit_steps hss i [] d (omega (arith, l, length-map hss unit_steps)),
        subst (λ (j : ℕ). 0 < sum (get_or hss j [])) (one_before i) (some_sum (suc i) (omega arith, omega (arith, less))),
        lists_long n (atom_count k) zs i less long,
      )

  pub is_list : IsValuationList n vs
  is_list = record {
    one_each = length-map hss unit_steps ∙ length_lists n (atom_count k) zs;
    valuations = λ i d l. let u = unit_at i d l in subst IsValuation (sym u.1) (units_valuation u.0 u.2);
    one_cake = λ i d l j e m. let u = unit_at i d l in let v = unit_at j e m in cake_is (get_or vs i d) u.0 u.1 u.3 ∙ sym (cake_is (get_or vs j e) v.0 v.1 v.3);
  }
    where
      cake_is : (v : Valuation) (hs : List ℕ) → v ≡ unit_steps hs → length hs ≡ atom_count k → cake_length v ≡ atom_count k
      cake_is v hs e l = ap cake_length e ∙ units_cake hs ∙ l

  -- where no number is too great
  pub is_small : atom_count k ≤ 1000 → All (λ z. z ≤ℤ pos (10 ^ 18)) zs → All IsSmall vs
  is_small few low = λ i d l.
      let less : i < n = omega (arith, l, length-map hss unit_steps, length_lists n (atom_count k) zs) in
      subst IsSmall (sym (get_or-map unit_steps hss i [] d (omega (arith, l, length-map hss unit_steps))))
      (units_small (get_or hss i []) (omega (arith, few, lists_long n (atom_count k) zs i less long)) (lists_up_to n (atom_count k) (10 ^ 18) zs i less low not_below))

  pub length_is : length_of vs ≡ atom_count k
  length_is = by vs refl
    where
      by : (us : List Valuation) → us ≡ vs → length_of us ≡ atom_count k
      by [] e = let l = ap length e in absurd (omega (arith, l, length-map hss unit_steps, length_lists n (atom_count k) zs, some_agent))
      by (v ∷ us) e =
          let u = unit_at 0 v (omega (arith, length-map hss unit_steps, length_lists n (atom_count k) zs, some_agent)) in
          ap (λ (ws : List Valuation). cake_length (get_or ws 0 v)) e ∙ ap cake_length u.1 ∙ units_cake u.0 ∙ u.3

  abbrev w : Worth
  w = worth_of vs

  pub measures : AreMeasures n (length_of vs) w
  measures = share_values_are_measures n vs is_list

  worth_is : (a : ℕ) → share_value (unit_steps (heights a)) ≡ w a
  unfolding heights
  worth_is a = λ i piece. share_value (sym (raw.get_or-map unit_steps hss (a - 1) []) i) piece

  abbrev t : Points
  t = spread 0 k

  abbrev c : Interval
  c = cake (length_of vs)

  pub inside : IsInside t c
  inside = subst (λ (l : ℕ). IsInside t (cake l)) (sym length_is) (all_inside k)

  total_is : (a : ℕ) → IsAgent n a → whole (pos (sum (heights a))) ≡ whole total
  total_is a is = ap whole (full a is)

  agent_times : (m : ℕ) → m ≤ n → AllTimes (whole total) (numbers_of heights m) (agent_values w m t c)
  agent_times zero h = tt
  agent_times (suc m) h =
      let is : IsAgent n (suc m) = (omega arith, h) in
      let hs = heights (suc m) in
      times-append (whole total) (numbers_of heights m) (map pos hs) (agent_values w m t c) (atom_values (w (suc m)) t c) (agent_times m (omega arith))
      (subst (λ (l : ℕ). AllTimes (whole total) (map pos hs) (atom_values (w (suc m)) t (cake l))) (sym length_is)
      (subst (λ (f : Piece → Rational). AllTimes (whole total) (map pos hs) (atom_values f t (cake (atom_count k)))) (worth_is (suc m))
      (subst (λ (q : Rational). AllTimes q (map pos hs) (atom_values (share_value (unit_steps hs)) t (cake (atom_count k)))) (total_is (suc m) is)
      (heights_times hs k (some_sum (suc m) is) (heights_long (suc m) is ∙ count_atoms k)))))

  all_times : AllTimes (whole total) (total ∷ zs) (unknown_values w n t c)
  all_times = (sym (times_one (whole total)), subst (λ (ys : List ℤ). AllTimes (whole total) ys (agent_values w n t c)) (sym numbers) (agent_times n (omega arith)))

  -- a row that holds says the same of its form on these valuations
  pub row_meets : (d : Condition) → Holds (total ∷ zs) (row_of n k d) → Meets d.kind (form_value w n t c d.form)
  row_meets d h =
      let f = lowest_factor (all_coefs n k d.form) in
      let m : Meets d.kind (dot_at k) = kind_in d.kind f.factor (whole total) (lowest (all_coefs n k d.form)) (total ∷ zs) (all_coefs n k d.form) (unknown_values w n t c) f.above (whole_below (pos 0) total above) f.each all_times h in
      subst (Meets d.kind) (ap dot_at (sym (cake_of_spread 0 k)) ∙ sym (form_dot w n t c d.form)) m
    where
      dot_at : Cake → Rational
      dot_at x = dot_of (all_coefs n x d.form) (unknown_values w n t c)

-- the same answers, told by boundaries
answers_are : (w : Worth) (n length_ : ℕ) (measures : AreMeasures n length_ w) (c : Interval) (k : Cake) (inside : IsInside (spread 0 k) c) (ds : List PassedCut) → AllCut w n length_ measures c (spread 0 k) inside ds
    → map (answer_to w n length_ measures c (spread 0 k) inside) ds ≡ map (λ (d : PassedCut). record { part = d.part; point = whole (pos (boundary k d.address)) }) ds
answers_are w n length_ measures c k inside [] h = refl
answers_are w n length_ measures c k inside (d ∷ ds) h = λ i.
    record { part = d.part; point = (boundary_point 0 k c d.address h.0 ∙ ap (λ (x : ℕ). whole (pos x)) (zero_left (boundary k d.address))) i } ∷ answers_are w n length_ measures c k inside ds h.1 i
  where
    zero_left : (x : ℕ) → 0 + x ≡ x
    zero_left x = omega arith

goes_at : (g : Goal) (stop : Stop) (s : State) → GoesTo g s → EndGoesTo g (end_at stop s)
goes_at g AtEnd s h = h
goes_at g (AtCut at own) s h = h

-- ---- a place whose rows hold
module _ (core : Core) (is : HasAgents core.agents core.tree) (some_agent : 0 < core.agents) (p : Place) (one_ : IsIn p (places core.tree [] (first_way core.agents))) (total : ℤ) (zs : List ℤ) (not_below : All NotBelow zs)
    (long : length zs ≡ core.agents * atom_count p.way.cake) (rows : (d : Condition) → IsIn d p.way.conditions → Holds (total ∷ zs) (row_of core.agents p.way.cake d)) where
  abbrev n : ℕ
  n = core.agents

  abbrev k : Way
  k = p.way

  from_first : (d : Condition) → IsIn d (first_conditions n) → Holds (total ∷ zs) (row_of n k.cake d)
  from_first d i = rows d ((later core.tree [] (first_way n) p one_).conditions d i)

  first : Holds (total ∷ zs) (row_of n k.cake (record { kind = Above; form = fixed_form one }))
  first = from_first (record { kind = Above; form = fixed_form one }) (inl refl)

  each : (a : ℕ) → IsAgent n a → Holds (total ∷ zs) (row_of n k.cake (whole_condition a))
  each a agent = from_first (whole_condition a) (inr (in_whole_conditions n a agent))

  abbrev values : List Valuation
  values = map unit_steps (lists_of n (atom_count k.cake) zs)

  good_list : IsValuationList n values
  good_list = is_list n some_agent k.cake total zs not_below long first each

  abbrev worth : Worth
  worth = worth_of values

  abbrev whole_cake : Interval
  whole_cake = cake (length_of values)

  are_measures : AreMeasures n (length_of values) worth
  are_measures = measures n some_agent k.cake total zs not_below long first each

  is_inside : IsInside (spread 0 k.cake) whole_cake
  is_inside = inside n some_agent k.cake total zs not_below long first each

  pub meets : (d : Condition) → Holds (total ∷ zs) (row_of n k.cake d) → Meets d.kind (form_value worth n (spread 0 k.cake) whole_cake d.form)
  meets = row_meets n some_agent k.cake total zs not_below long first each

  module _ (own : OwnHolds worth n (spread 0 k.cake) whole_cake p.stop) where
    followed : Followed worth n (length_of values) are_measures whole_cake (spread 0 k.cake) is_inside core.tree [] (start n (length_of values) []) (first_way n) p
    followed =
        follows worth n (length_of values) are_measures whole_cake (spread 0 k.cake) is_inside core.tree is [] [] (start n (length_of values) []) (first_way n) p one_ tt
        (record { cut_there = tt; held = first_held n (stretch_of (spread 0 k.cake) whole_cake) (start n (length_of values) []) refl refl refl refl })
        (record { same_cake = cake_of_spread 0 k.cake; each = λ d i. meets d (rows d i); own = own })

    abbrev state : State
    state = followed.state

    run_is : run_core worth core (length_of values) (answers_of k) ≡ end_at p.stop state
    run_is =
        ap (λ (ys : List CutAnswer). run_core worth core (length_of values) ys) (sym (followed.answers_are ∙ answers_are worth n (length_of values) are_measures whole_cake k.cake is_inside k.cuts followed.tracks.cut_there))
        ∙ followed.ends

    passed_at : (stop : Stop) (s : State) → PassesRows core (end_at stop s) → (front rest : List Choice) → front ++ rest ≡ s.trace → (ys : List ℤ) × IsSolution (rows_after core front) ys
    passed_at AtEnd s h = h
    passed_at (AtCut at own) s h = h

    -- after each front of the choices to the place the rows so far have a solution
    pub solved_on_the_way : (front rest : List Choice) → front ++ rest ≡ k.trace → (ys : List ℤ) × IsSolution (rows_after core front) ys
    solved_on_the_way front rest e =
        passed_at p.stop state (subst (PassesRows core) run_is (runs_obey_on_the_way core worth (length_of values) (answers_of k) is are_measures)) front rest (e ∙ sym followed.tracks.held.trace)

    -- where no number is too great
    counter : most_cuts core.tree ≤ 64 → All (λ z. z ≤ℤ pos (10 ^ 18)) zs → (q : ℕ) (kind : GoalKind) (f : Form) → EndsAs worth kind (end_at p.stop state) → IsCounterexample core values (answers_of k) (goal_of n q (record { way = k; kind = kind; own = f }))
    counter few low q kind f ends = record {
      valuations = good_list;
      small = is_small n some_agent k.cake total zs not_below long first each (let a = place_atoms core p one_ in omega (arith, a, few)) low;
      goes = subst (EndGoesTo (goal_of n q (record { way = k; kind = kind; own = f }))) (sym run_is) (goes_at (goal_of n q (record { way = k; kind = kind; own = f })) p.stop state (followed.tracks.held.trace, followed.tracks.held.queries));
      ends = subst (EndsAs worth kind) (sym run_is) ends;
    }

    envies : (a b : ℕ) → IsAgent n a → IsBelow none (form_value worth n (spread 0 k.cake) whole_cake (envy_form a b k)) → IsEnvious worth state.board.shares a b
    envies a b agent h =
        minus_above_out (worth a (piece_at state.board.shares (b - 1))) (worth a (piece_at state.board.shares (a - 1)))
        (subst (λ (x : Rational). IsBelow none x) (value_minus worth n (length_of values) are_measures whole_cake (spread 0 k.cake) is_inside (piece_form a (piece_at k.shares (b - 1))) (piece_form a (piece_at k.shares (a - 1))) _ _ (share (b - 1)) (share (a - 1))) h)
      where
        share : (i : ℕ) → form_value worth n (spread 0 k.cake) whole_cake (piece_form a (piece_at k.shares i)) ≡ worth a (piece_at state.board.shares i)
        share i = value_share worth n (length_of values) are_measures whole_cake (spread 0 k.cake) is_inside state k a i followed.tracks (subst (Refines k.cake) (sym (cake_of_spread 0 k.cake)) (refines_self k.cake)) agent

-- ---- a goal's rows
-- what the parts of a solution say
pub solution_parts : (core : Core) (k : Way) (f : Form) (C : List ℤ → Type 0)
    → ((total : ℤ) (zs : List ℤ) → All NotBelow zs → length zs ≡ core.agents * atom_count k.cake → ((d : Condition) → IsIn d k.conditions → Holds (total ∷ zs) (row_of core.agents k.cake d))
    → Holds (total ∷ zs) (row_of core.agents k.cake (record { kind = Above; form = f })) → C (total ∷ zs))
    → (xs : List ℤ) → length xs ≡ 1 + core.agents * atom_count k.cake → IsSolution (rows_of core.agents k f) xs → C xs
solution_parts core k f C go [] l s = absurd (omega (arith, l))
solution_parts core k f C go (total ∷ zs) l s =
    let own : Condition = record { kind = Above; form = f } in
    let below = solution_not_below (rows_of core.agents k f) (total ∷ zs) s in
    let holds = solution_holds (rows_of core.agents k f) (total ∷ zs) s in
    go total zs (λ j d m. below (suc j) d (omega (arith, m))) (omega (arith, l))
    (λ d i. all_in_map (row_of core.agents k.cake) (Holds (total ∷ zs)) (k.conditions ++ own ∷ []) d holds (in_left d k.conditions (own ∷ []) i))
    (all_in_map (row_of core.agents k.cake) (Holds (total ∷ zs)) (k.conditions ++ own ∷ []) own holds (in_right own k.conditions (own ∷ []) (inl refl)))

module _ (core : Core) (number : ℕ) (is : HasAgents core.agents core.tree) (some_agent : 0 < core.agents) (few : most_cuts core.tree ≤ 64) where
  abbrev Counters : Aim → List ℤ → Type 0
  Counters aim xs = IsLow xs → IsCounterexample core (valuations_of core.agents aim.way.cake xs) (answers_of aim.way) (goal_of core.agents number aim)

  abbrev Solves : Aim → Type 0
  Solves aim = (xs : List ℤ) → length xs ≡ 1 + core.agents * atom_count aim.way.cake → IsSolution (rows_of core.agents aim.way aim.own) xs → Counters aim xs

  solves : (stop : Stop) (k : Way) → IsIn {A = Place} (record { stop = stop; way = k }) (places core.tree [] (first_way core.agents)) → (aim : Aim) → IsIn aim (aims_at core.agents stop k) → Solves aim
  solves (AtCut at own) k one_ aim (inl e) =
      let own_aim : Aim = record { way = k; kind = stuck_kind at; own = own } in
      subst Solves (sym e)
      (solution_parts core k own (Counters own_aim) (λ total zs b l rows h low.
      counter core is some_agent (record { stop = AtCut at own; way = k }) one_ total zs b l rows
      (meets core is some_agent (record { stop = AtCut at own; way = k }) one_ total zs b l rows (record { kind = Above; form = own }) h) few low number (stuck_kind at) own refl))
  solves (AtCut at own) k one_ aim (inr h) = absurd h
  solves AtEnd k one_ aim i =
      let f : ℕ × ℕ → Aim = λ q. record { way = k; kind = Envy q.0 q.1; own = envy_form q.0 q.1 k } in
      let r = map_out f aim (pairs core.agents core.agents) i in
      subst Solves (sym r.2)
      (solution_parts core k (envy_form r.0.0 r.0.1 k) (Counters (f r.0)) (λ total zs b l rows h low.
      counter core is some_agent (record { stop = AtEnd; way = k }) one_ total zs b l rows tt few low number (Envy r.0.0 r.0.1) (envy_form r.0.0 r.0.1 k)
      (envies core is some_agent (record { stop = AtEnd; way = k }) one_ total zs b l rows tt r.0.0 r.0.1 (first_of_pair r.0 core.agents core.agents r.1)
      (meets core is some_agent (record { stop = AtEnd; way = k }) one_ total zs b l rows (record { kind = Above; form = envy_form r.0.0 r.0.1 k }) h))))

-- a goal and its way
abbrev GivesCounterexample : Core → List ℤ → Goal → Way → Type 0
GivesCounterexample core xs g k = length xs ≡ 1 + core.agents * atom_count k.cake → IsLow xs → IsSolution g.rows xs → IsCounterexample core (valuations_of core.agents k.cake xs) (answers_of k) g

pub solutions_give_counterexamples : SolutionsGiveCounterexamples
solutions_give_counterexamples core g xs is some_agent few one_ =
    let o = of_aim core g one_ in
    let p = aims_out core.agents (places core.tree [] (first_way core.agents)) o.aim o.is_one in
    subst (GivesCounterexample core xs g) (sym o.way_is)
    (subst (λ (x : Goal). GivesCounterexample core xs x o.aim.way) (sym o.is) (λ l low s. solves core o.number is some_agent few p.0.stop p.0.way p.1 o.aim p.2 xs l s low))

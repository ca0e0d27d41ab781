-- A run's values, brought to whole numbers, solve the rows of its place.
use Rattle.std.proofs.Common.{◌≡◌, ℕ, zero, suc, ◌+◌, ◌-◌, ◌≤◌, ◌<◌, arith, refl, sym, ap, subst, Bool, true, false, List, [], ◌∷◌, ◌++◌, map, get_or, ◌==◌, ℤ, pos, ◌⊎◌, inl, inr}
use Rattle.std.specs.Prelude.{if◌then◌else◌}
use Rattle.std.specs.List.{All}
use Rattle.std.proofs.lemmas.Int.{ints}
use Rattle.std.proofs.lemmas.Bool.{cases_lt}
use Rattle.std.proofs.lemmas.Bool.Decides.{nat_tests}
use Rattle.std.proofs.lemmas.List.Elements.{All-nil, All-cons, All-append}
use Rattle.slice_num.specs.Rational.{Rational, whole, IsBelow, IsAtMost}
use Rattle.slice_num.specs.Valuation.{cake}
use Rattle.slice_num.specs.declared.interval.Interval.{Interval}
use Rattle.slice_num.specs.declared.choice.Side.{Side}
use Rattle.slice_num.proofs.FieldLaws.{whole_at_most_out, whole_below, minus_above, one_above, weak, times_least, not_both, at_most_of_same}
use Rattle.slice_num.specs.Pieces.{piece_at}
use Rattle.slice_core.specs.Agents.{IsAgent}
use Rattle.slice_core.specs.Division.{IsEnvious, IsFair}
use Rattle.slice_core.specs.Measures.{AreMeasures, worth_of, length_of}
use Rattle.slice_core.proofs.MeasureLaws.{share_values_are_measures}
use Rattle.slice_core.specs.Run.{Piece, Worth, State, Ending, Done, Stuck, Few, Bad, Many, before_point, after_point, run_core}
use Rattle.slice_linear.specs.declared.row.RowKind.TheVariants.{Above}
use Rattle.slice_linear.specs.Rows.{Holds, IsSolution, HaveNoSolution, Refutes, NotBelow as WholeNotBelow}
use Rattle.slice_linear.specs.LowestRow.{lowest}
use Rattle.slice_linear.specs.Proportion.{AllTimes, Meets}
use Rattle.slice_linear.proofs.SolutionLaws.{solution_in}
use Rattle.slice_linear.proofs.Motzkin.{refuted_has_no_solution}
use Rattle.slice_linear.proofs.LowestLaws.{lowest_factor}
use Rattle.slice_linear.proofs.Dots.{kind_out, multiple}
use Rattle.slice_atoms.specs.Addresses.{Cake}
use Rattle.slice_atoms.specs.Forms.{Form, piece_form, all_coefs}
use Rattle.slice_paths.specs.Places.{Condition, Way, Stop, AtEnd, AtCut, Place, places, first_way}
use Rattle.slice_paths.specs.Goals.{goals, row_of, rows_of, pairs_with, pairs, envy_form, Aim, aims_at, aims, stuck_kind, Goal, goal_of, numbered}
use Rattle.slice_paths.specs.Points.{Points, Uncut, At, cake_of, atom_values, agent_values, unknown_values}
use Rattle.slice_paths.specs.RunLaws.{EndsAt, EndsAs, ComesTo, Obeys, RunsObeyRows, RefutedMeansFair, RefutedCoresAreFair}
use Rattle.slice_paths.specs.declared.goal.GoalKind.TheVariants.{Envy}
use Rattle.slice_paths.proofs.Fits.{none, one, IsIn, form_value, AllTrue, Fit, OwnHolds, Reached, Reaches}
use Rattle.slice_paths.proofs.Amounts.{means_sub}
use Rattle.slice_paths.proofs.Parts.{in_left, in_right, in_either, in_map, contains_in, contains_out}
use Rattle.slice_paths.proofs.Obeys.{means_share, runs_reach}
use Rattle.slice_paths.proofs.Unknowns.{form_dot}

abbrev NotBelow : Rational → Type 0
NotBelow v = IsAtMost none v

values_not_below : (w : Piece → Rational) → ((p : Piece) → IsAtMost none (w p)) → (t : Points) (c : Interval) → All NotBelow (atom_values w t c)
values_not_below w h Uncut c = All-cons NotBelow (w (c ∷ [])) [] (h (c ∷ [])) (All-nil NotBelow)
values_not_below w h (At y l r) c = All-append NotBelow (atom_values w l (before_point c y)) (atom_values w r (after_point c y)) (values_not_below w h l (before_point c y)) (values_not_below w h r (after_point c y))

agents_not_below : (w : Worth) (n : ℕ) → ((a : ℕ) → 1 ≤ a → a ≤ n → (p : Piece) → IsAtMost none (w a p)) → (t : Points) (c : Interval) → All NotBelow (agent_values w n t c)
agents_not_below w zero h t c = All-nil NotBelow
agents_not_below w (suc n) h t c =
    All-append NotBelow (agent_values w n t c) (atom_values (w (suc n)) t c) (agents_not_below w n (λ a p q. h a p (omega arith)) t c) (values_not_below (w (suc n)) (h (suc n) (omega arith) (omega arith)) t c)

numbers_not_below : (d : Rational) (xs : List ℤ) (vs : List Rational) → IsAtMost none d → AllTimes d xs vs → All NotBelow vs → All WholeNotBelow xs
numbers_not_below d [] vs p h k = All-nil WholeNotBelow
numbers_not_below d (x ∷ xs) [] p h k = absurd h
numbers_not_below d (x ∷ xs) (v ∷ vs) p h k =
    All-cons WholeNotBelow x xs
    (whole_at_most_out (pos 0) x (subst (λ (q : Rational). IsAtMost none q) (sym h.0) (times_least d v p (k 0 v (omega arith)))))
    (numbers_not_below d xs vs p h.1 (λ i e l. k (suc i) e (omega (arith, l))))

module _ (w : Worth) (n : ℕ) (c : Interval) (t : Points) (d : Rational) (xs : List ℤ) (p : IsBelow none d) (scaled : AllTimes d xs (unknown_values w n t c)) where
  row_holds : (x : Condition) → Meets x.kind (form_value w n t c x.form) → Holds xs (row_of n (cake_of t) x)
  row_holds x h =
      let f = lowest_factor (all_coefs n (cake_of t) x.form) in
      kind_out x.kind f.factor d (lowest (all_coefs n (cake_of t) x.form)) xs (all_coefs n (cake_of t) x.form) (unknown_values w n t c) f.above p f.each scaled (subst (Meets x.kind) (form_dot w n t c x.form) h)

  rows_hold : (ds : List Condition) → AllTrue w n t c ds → All (λ (x : Condition). Holds xs (row_of n (cake_of t) x)) ds
  rows_hold [] h = All-nil _
  rows_hold (x ∷ ds) h = All-cons (λ (y : Condition). Holds xs (row_of n (cake_of t) y)) x ds (row_holds x h.0.sign) (rows_hold ds h.1)

pub map_all : {A B : Type 0} (f : A → B) (P : B → Type 0) (xs : List A) → All (λ x. P (f x)) xs → All P (map f xs)
map_all f P [] h = All-nil P
map_all f P (x ∷ xs) h = All-cons P (f x) (map f xs) (h 0 x (omega arith)) (map_all f P xs (λ i e l. h (suc i) e (omega (arith, l))))

-- the rows of a way and one strict row more
rows_solve : (n : ℕ) (xs : List ℤ) (k : Way) (own : Form) → All WholeNotBelow xs → All (λ (d : Condition). Holds xs (row_of n k.cake d)) k.conditions → Holds xs (row_of n k.cake (record { kind = Above; form = own })) → IsSolution (rows_of n k own) xs
rows_solve n xs k own h rows last =
    solution_in (rows_of n k own) xs h
    (map_all (row_of n k.cake) (Holds xs) (k.conditions ++ record { kind = Above; form = own } ∷ [])
    (All-append P k.conditions (record { kind = Above; form = own } ∷ []) rows (All-cons P (record { kind = Above; form = own }) [] last (All-nil P))))
  where
    P : Condition → Type 0
    P d = Holds xs (row_of n k.cake d)

-- ---- goals of a place
pub map_out : {A B : Type 0} (f : A → B) (y : B) (xs : List A) → IsIn y (map f xs) → (x : A) × IsIn x xs × (y ≡ f x)
map_out f y [] h = absurd h
map_out f y (x ∷ xs) (inl e) = (x, inl refl, e)
map_out f y (x ∷ xs) (inr h) = let r = map_out f y xs h in (r.0, inr r.1, r.2)

in_pairs_with : (a b m : ℕ) → 1 ≤ b → b ≤ m → (a ≡ b → ⊥) → IsIn {A = ℕ × ℕ} (a, b) (pairs_with a m)
in_pairs_with a b zero p q ne = absurd (omega arith)
in_pairs_with a b (suc m) p q ne = by (cases_lt b (suc m)) (λ l. in_pairs_with a b m p l ne)
  where
    here : (e : Bool) → (a == b) ≡ e → IsIn {A = ℕ × ℕ} (a, b) (if e then [] else (a, b) ∷ [])
    here true e = absurd (ne (grind (arith, nat_tests)))
    here false e = inl refl

    by : (b < suc m) ⊎ (suc m ≤ b) → (b ≤ m → IsIn {A = ℕ × ℕ} (a, b) (pairs_with a m)) → IsIn {A = ℕ × ℕ} (a, b) (pairs_with a (suc m))
    by (inl l) h = in_left {A = ℕ × ℕ} (a, b) (pairs_with a m) _ (h (omega arith))
    by (inr l) h = in_right {A = ℕ × ℕ} (a, b) (pairs_with a m) _ (subst (λ (x : ℕ). IsIn {A = ℕ × ℕ} (a, b) (if a == x then [] else (a, x) ∷ [])) (omega arith) (here (a == b) refl))

in_pairs : (n a b m : ℕ) → 1 ≤ a → a ≤ m → IsAgent n b → (a ≡ b → ⊥) → IsIn {A = ℕ × ℕ} (a, b) (pairs n m)
in_pairs n a b zero p q is ne = absurd (omega arith)
in_pairs n a b (suc m) p q is ne = by (cases_lt a (suc m)) (λ l. in_pairs n a b m p l is ne)
  where
    by : (a < suc m) ⊎ (suc m ≤ a) → (a ≤ m → IsIn {A = ℕ × ℕ} (a, b) (pairs n m)) → IsIn {A = ℕ × ℕ} (a, b) (pairs n (suc m))
    by (inl l) h = in_left {A = ℕ × ℕ} (a, b) (pairs n m) _ (h (omega arith))
    by (inr l) h = in_right {A = ℕ × ℕ} (a, b) (pairs n m) _ (subst (λ (x : ℕ). IsIn {A = ℕ × ℕ} (a, b) (pairs_with x n)) (omega arith) (in_pairs_with a b n is.0 is.1 ne))

-- the first of a pair is an agent
first_with : (p : ℕ × ℕ) (a m : ℕ) → IsIn p (pairs_with a m) → p.0 ≡ a
first_with p a zero h = absurd h
first_with p a (suc m) h = elim (in_either p (pairs_with a m) _ h) [ inl l ↦ first_with p a m l | inr r ↦ last (a == suc m) r ]
  where
    last : (e : Bool) → IsIn p (if e then [] else (a, suc m) ∷ []) → p.0 ≡ a
    last true r = absurd r
    last false (inl e) = ap (λ (q : ℕ × ℕ). q.0) e
    last false (inr r) = absurd r

pub first_of_pair : (p : ℕ × ℕ) (n m : ℕ) → IsIn p (pairs n m) → (1 ≤ p.0) × (p.0 ≤ m)
first_of_pair p n zero h = absurd h
first_of_pair p n (suc m) h = elim (in_either p (pairs n m) _ h) [
  | inl l ↦ let r = first_of_pair p n m l in (r.0, omega (arith, r.1))
  | inr r ↦ let e = first_with p (suc m) n r in (omega (arith, e), omega (arith, e))
]

-- and so is the second
second_with : (p : ℕ × ℕ) (a m : ℕ) → IsIn p (pairs_with a m) → (1 ≤ p.1) × (p.1 ≤ m)
second_with p a zero h = absurd h
second_with p a (suc m) h = elim (in_either p (pairs_with a m) _ h) [ inl l ↦ let r = second_with p a m l in (r.0, omega (arith, r.1)) | inr r ↦ last (a == suc m) r ]
  where
    last : (e : Bool) → IsIn p (if e then [] else (a, suc m) ∷ []) → (1 ≤ p.1) × (p.1 ≤ suc m)
    last true r = absurd r
    last false (inl e) = let f = ap (λ (q : ℕ × ℕ). q.1) e in (omega (arith, f), omega (arith, f))
    last false (inr r) = absurd r

pub second_of_pair : (p : ℕ × ℕ) (n m : ℕ) → IsIn p (pairs n m) → (1 ≤ p.1) × (p.1 ≤ n)
second_of_pair p n zero h = absurd h
second_of_pair p n (suc m) h = elim (in_either p (pairs n m) _ h) [ inl l ↦ second_of_pair p n m l | inr r ↦ second_with p (suc m) n r ]

-- ---- runs
module _ (w : Worth) (n length_ : ℕ) (measures : AreMeasures n length_ w) where
  -- an agent's envy is its form
  pub envy_above : (c : Interval) (t : Points) (s : State) (k : Way) (a b : ℕ) → Fit w n c t s k → IsAgent n a → IsEnvious w s.board.shares a b → IsBelow none (form_value w n t c (envy_form a b k))
  envy_above c t s k a b fit is h =
      subst (λ (x : Rational). IsBelow none x)
      (sym (means_sub w n t c _ _ (piece_form a (piece_at k.shares (b - 1))) (piece_form a (piece_at k.shares (a - 1))) (means_share w n length_ c measures t s k a (b - 1) fit is) (means_share w n length_ c measures t s k a (a - 1) fit is)).value)
      (minus_above (w a (piece_at s.board.shares (b - 1))) (w a (piece_at s.board.shares (a - 1))) h)

  abbrev IsTrueAim : Interval → Points → Way → Aim → Type 0
  IsTrueAim c t k aim = (aim.way ≡ k) × IsBelow none (form_value w n t c aim.own)

  aim_done : (c : Interval) (t : Points) (s : State) (k : Way) (stop : Stop) (aim : Aim) → Fit w n c t s k → EndsAt stop (Done s) → IsIn aim (aims_at n stop k) → EndsAs w aim.kind (Done s) → IsTrueAim c t k aim
  aim_done c t s k (AtCut at own) aim fit ends one_ as_ = absurd ends
  aim_done c t s k AtEnd aim fit ends one_ as_ =
      let f : ℕ × ℕ → Aim = λ p. record { way = k; kind = Envy p.0 p.1; own = envy_form p.0 p.1 k } in
      let r = map_out f aim (pairs n n) one_ in
      let e : IsEnvious w s.board.shares r.0.0 r.0.1 = subst (λ (x : Aim). EndsAs w x.kind (Done s)) r.2 as_ in
      (ap (λ (x : Aim). x.way) r.2, subst (λ (x : Aim). IsBelow none (form_value w n t c x.own)) (sym r.2) (envy_above c t s k r.0.0 r.0.1 fit (first_of_pair r.0 n n r.1) e))

  aim_stuck : (c : Interval) (t : Points) (s : State) (at : Side) (k : Way) (stop : Stop) (aim : Aim) → EndsAt stop (Stuck at s) → OwnHolds w n t c stop → IsIn aim (aims_at n stop k) → IsTrueAim c t k aim
  aim_stuck c t s at k AtEnd aim ends own one_ = absurd ends
  aim_stuck c t s at k (AtCut at2 f) aim ends own (inl e) = (ap (λ (x : Aim). x.way) e, subst (λ (x : Aim). IsBelow none (form_value w n t c x.own)) (sym e) own)
  aim_stuck c t s at k (AtCut at2 f) aim ends own (inr h) = absurd h

  -- the values of a run that fits a way, brought to whole numbers
  pub record Numbers (c : Interval) (t : Points) (k : Way) : Type 0 where
    pub total : ℕ
    pub above : 0 < total
    pub numbers : List ℤ
    pub in_proportion : AllTimes (whole (pos total)) numbers (unknown_values w n t c)
    pub not_below : All WholeNotBelow numbers
    pub rows : All (λ (d : Condition). Holds numbers (row_of n k.cake d)) k.conditions

  pub numbers_of : (c : Interval) (t : Points) (s : State) (k : Way) → Fit w n c t s k → Numbers c t k
  numbers_of c t s k fit =
      let m = multiple (unknown_values w n t c) in
      let p : IsBelow none (whole (pos m.factor)) = whole_below (pos 0) (pos m.factor) (let q = m.above in omega (arith, ints, q)) in
      record {
        total = m.factor;
        above = m.above;
        numbers = m.numbers;
        in_proportion = m.each;
        not_below = numbers_not_below (whole (pos m.factor)) m.numbers (unknown_values w n t c) (weak none (whole (pos m.factor)) p) m.each
            (All-cons NotBelow one (agent_values w n t c) (weak none one one_above) (agents_not_below w n (λ a u v. (measures a (u, v)).not_below) t c));
        rows = subst (λ (x : Cake). All (λ (d : Condition). Holds m.numbers (row_of n x d)) k.conditions) fit.same_cake (rows_hold w n c t (whole (pos m.factor)) m.numbers p m.each k.conditions fit.holds);
      }

  -- a further row that holds
  own_row : (c : Interval) (t : Points) (k : Way) (f : Numbers c t k) (own : Form) → cake_of t ≡ k.cake → IsBelow none (form_value w n t c own) → Holds f.numbers (row_of n k.cake (record { kind = Above; form = own }))
  own_row c t k f own e h =
      let p : IsBelow none (whole (pos f.total)) = whole_below (pos 0) (pos f.total) (let q = f.above in omega (arith, ints, q)) in
      subst (λ (x : Cake). Holds f.numbers (row_of n x (record { kind = Above; form = own }))) e (row_holds w n c t (whole (pos f.total)) f.numbers p f.in_proportion (record { kind = Above; form = own }) h)

  comes_to : (ps : List Place) (e : Ending) (s : State) (r : Reached w n (cake length_) ps e s)
      → ((aim : Aim) → IsIn aim (aims_at n r.place.stop r.place.way) → EndsAs w aim.kind e → IsTrueAim (cake length_) r.cuts r.place.way aim) → ComesTo n length_ w ps e s
  comes_to ps e s r aims_hold =
      let k = r.place.way in
      let f = numbers_of (cake length_) r.cuts s k r.fit in
      record {
        place = r.place;
        is_one = contains_in r.place ps r.is_one;
        ends = r.ends;
        trace = r.fit.held.trace;
        queries = r.fit.held.queries;
        points = r.cuts;
        same_cake = r.fit.same_cake;
        inside = r.fit.inside;
        pieces = r.fit.held.pieces;
        shares = r.fit.held.shares;
        total = f.total;
        above = f.above;
        numbers = f.numbers;
        in_proportion = f.in_proportion;
        not_below = f.not_below;
        rows = f.rows;
        own_row = λ aim one_ as_.
            let h = aims_hold aim (contains_out aim (aims_at n r.place.stop k) one_) as_ in
            subst (λ (x : Way). IsSolution (rows_of n x aim.own) f.numbers) (sym h.0) (rows_solve n f.numbers k aim.own f.not_below f.rows (own_row (cake length_) r.cuts k f aim.own r.fit.same_cake h.1));
      }

  obeys : (ps : List Place) (e : Ending) → Reaches w n (cake length_) ps e → Obeys n length_ w ps e
  obeys ps (Done s) r = comes_to ps (Done s) s r (λ aim one_ as_. aim_done (cake length_) r.cuts s r.place.way r.place.stop aim r.fit r.ends one_ as_)
  obeys ps (Stuck at s) r = comes_to ps (Stuck at s) s r (λ aim one_ as_. aim_stuck (cake length_) r.cuts s at r.place.way r.place.stop aim r.ends r.own one_)
  obeys ps (Few q) r = tt
  obeys ps (Bad q) r = tt
  obeys ps Many r = tt

pub runs_obey_rows : RunsObeyRows
runs_obey_rows core w length_ ys is measures = obeys w core.agents length_ measures (places core.tree [] (first_way core.agents)) (run_core w core length_ ys) (runs_reach w core.agents length_ measures core.tree is ys)

-- ---- refuted goals
pub aims_in : (n : ℕ) (ps : List Place) (p : Place) (aim : Aim) → IsIn p ps → IsIn aim (aims_at n p.stop p.way) → IsIn aim (aims n ps)
aims_in n [] p aim h k = absurd h
aims_in n (q ∷ ps) p aim (inl e) k = in_left aim (aims_at n q.stop q.way) (aims n ps) (subst (λ (x : Place). IsIn aim (aims_at n x.stop x.way)) e k)
aims_in n (q ∷ ps) p aim (inr h) k = in_right aim (aims_at n q.stop q.way) (aims n ps) (aims_in n ps p aim h k)

pub refuted_aim : (n q : ℕ) (xs : List Aim) (aim : Aim) → All (λ (g : Goal). HaveNoSolution g.rows) (numbered n q xs) → IsIn aim xs → HaveNoSolution (rows_of n aim.way aim.own)
refuted_aim n q [] aim h k = absurd k
refuted_aim n q (x ∷ xs) aim h (inl e) = subst (λ (y : Aim). HaveNoSolution (rows_of n y.way y.own)) (sym e) (h 0 (goal_of n q x) (omega arith))
refuted_aim n q (x ∷ xs) aim h (inr k) = refuted_aim n (q + 1) xs aim (λ i e l. h (suc i) e (omega (arith, l))) k

-- a run ends as no aim of its place says
abbrev pub EndsAsNone : ℕ → ℕ → Worth → List Place → Ending → State → Type 0
EndsAsNone n length_ w ps e s = (r : ComesTo n length_ w ps e s) (aim : Aim) → IsIn aim (aims_at n r.place.stop r.place.way) → EndsAs w aim.kind e → ⊥

-- then it is fair
pub fair_where : (n length_ : ℕ) (w : Worth) (ps : List Place) (e : Ending) → Obeys n length_ w ps e → ((s : State) → e ≡ Done s → EndsAsNone n length_ w ps (Done s) s) → ((at : Side) (s : State) → e ≡ Stuck at s → EndsAsNone n length_ w ps (Stuck at s) s) → IsFair n w e
fair_where n length_ w ps e obeyed done stuck = by e obeyed refl
  where
    pair_in : (s : State) (stop : Stop) (k : Way) (a b : ℕ) → EndsAt stop (Done s) → IsAgent n a → IsAgent n b → (a ≡ b → ⊥) → IsIn {A = Aim} (record { way = k; kind = Envy a b; own = envy_form a b k }) (aims_at n stop k)
    pair_in s (AtCut at own) k a b ends ia ib ne = absurd ends
    pair_in s AtEnd k a b ends ia ib ne = in_map (λ (p : ℕ × ℕ). record { way = k; kind = Envy p.0 p.1; own = envy_form p.0 p.1 k }) (a, b) (pairs n n) (in_pairs n a b n ia.0 ia.1 ib ne)

    not_stuck : (s : State) (at : Side) (stop : Stop) (k : Way) → EndsAt stop (Stuck at s) → ((aim : Aim) → IsIn aim (aims_at n stop k) → EndsAs w aim.kind (Stuck at s) → ⊥) → ⊥
    not_stuck s at AtEnd k ends h = absurd ends
    not_stuck s at (AtCut at2 own) k ends h = h (record { way = k; kind = stuck_kind at2; own = own }) (inl refl) (ap stuck_kind ends)

    differ : (s : State) (a b : ℕ) → IsEnvious w s.board.shares a b → a ≡ b → ⊥
    differ s a b envy e = not_both (w a (piece_at s.board.shares (a - 1))) (w a (piece_at s.board.shares (b - 1))) envy (at_most_of_same _ _ (ap (λ (x : ℕ). w a (piece_at s.board.shares (x - 1))) (sym e)))

    by : (x : Ending) → Obeys n length_ w ps x → e ≡ x → IsFair n w x
    by (Done s) r is = λ a b ia ib envy. done s is r (record { way = r.place.way; kind = Envy a b; own = envy_form a b r.place.way }) (pair_in s r.place.stop r.place.way a b r.ends ia ib (differ s a b envy)) envy
    by (Stuck at s) r is = not_stuck s at r.place.stop r.place.way r.ends (stuck at s is r)
    by (Few q) r is = tt
    by (Bad q) r is = tt
    by Many r is = tt

pub refuted_means_fair : RefutedMeansFair
refuted_means_fair core is refuted w length_ ys measures =
    fair_where n length_ w ps (run_core w core length_ ys) (runs_obey_rows core w length_ ys is measures) (λ s e. never (Done s) s) (λ at s e. never (Stuck at s) s)
  where
    n : ℕ
    n = core.agents

    ps : List Place
    ps = places core.tree [] (first_way core.agents)

    never : (e : Ending) (s : State) → EndsAsNone n length_ w ps e s
    never e s r aim one_ as_ =
        refuted_aim n 0 (aims n ps) aim refuted (aims_in n ps r.place aim (contains_out r.place ps r.is_one) one_) r.numbers (r.own_row aim (contains_in aim (aims_at n r.place.stop r.place.way) one_) as_)

-- ---- refuted by multipliers
refuted_goal : (g : Goal) → (m : List ℤ) × Refutes g.rows m → HaveNoSolution g.rows
refuted_goal g h xs s = refuted_has_no_solution g.rows h.0 xs h.1 s

pub refuted_cores_are_fair : RefutedCoresAreFair
refuted_cores_are_fair core is refuted vs list ys =
    refuted_means_fair core is (λ i g l. refuted_goal (get_or (goals core) i g) (refuted i g l)) (worth_of vs) (length_of vs) ys (share_values_are_measures core.agents vs list)

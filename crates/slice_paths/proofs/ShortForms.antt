-- Multipliers of a goal that are 0 after the rows of its first passed choices refute these.
use Rattle.std.proofs.Common.{◌≡◌, ◌∙◌, ℕ, zero, suc, ◌+◌, ◌<◌, ◌≤◌, arith, refl, sym, ap, subst, List, [], ◌∷◌, ◌++◌, map, take, length, length-append, length-take-le, get_or-take, ℤ, pos, ◌*ℤ◌, ◌≤ℤ◌, ◌<ℤ◌, ◌⊎◌, inl, inr, append_assoc}
use Rattle.std.specs.Prelude.{Option, Some, None}
use Rattle.std.proofs.lemmas.Bool.{cases_lt}
use Rattle.std.proofs.lemmas.Int.{ints}
use Rattle.std.proofs.lemmas.List.{length-map}
use Rattle.slice_linear.specs.LowestRow.{lowest}
use Rattle.slice_linear.specs.Rows.{LinearRow, Refutes, KindTakes, IsAbove, kind_at, coefs_at, weighted}
use Rattle.slice_linear.specs.Sums.{at, sum_to}
use Rattle.slice_linear.specs.declared.row.RowKind.{RowKind}
use Rattle.slice_linear.specs.declared.row.RowKind.TheVariants.{Above}
use Rattle.slice_linear.proofs.Ring.{zero_mul}
use Rattle.slice_linear.proofs.SumLaws.{sum_ext, sum_zero, sum_split}
use Rattle.slice_atoms.specs.Addresses.{Cake}
use Rattle.slice_atoms.specs.Forms.{Form, all_coefs}
use Rattle.slice_paths.specs.FrontLaws.{ShortFormsRefute}
use Rattle.slice_paths.specs.Fronts.{way_behind, rows_on, rows_where}
use Rattle.slice_paths.specs.Goals.{row_of, Goal}
use Rattle.slice_paths.specs.Places.{Condition, Way, first_way}
use Rattle.slice_paths.proofs.FrontLaws.{some_same, none_some}
use Rattle.slice_paths.proofs.GoalLaws.{of_aim}
use Rattle.slice_paths.proofs.GoesOn.{goes_on_behind}
use Rattle.slice_paths.proofs.Later.{Refines}
use Rattle.slice_paths.proofs.Settled.{AllSettled, first_sound, behind_settled}
use Rattle.slice_paths.proofs.Slots.{IsSettled, column}

-- conditions as rows of a cake, and with more behind them as rows of one that was cut further
module _ (n : ℕ) (k m : Cake) (fine : Refines k m) where
  kinds_are : (ds es : List Condition) (i : ℕ) → i < length ds → kind_at (map (row_of n k) ds) i ≡ kind_at (map (row_of n m) (ds ++ es)) i
  kinds_are [] es i l = absurd (omega (arith, l))
  kinds_are (d ∷ ds) es zero l = refl
  kinds_are (d ∷ ds) es (suc i) l = kinds_are ds es i (omega (arith, l))

  coefs_are : (j q : ℕ) → ((f : Form) → IsSettled k f → at (lowest (all_coefs n k f)) j ≡ at (lowest (all_coefs n m f)) q) → (ds es : List Condition) (i : ℕ) → AllSettled k ds → i < length ds
      → at (coefs_at (map (row_of n k) ds) i) j ≡ at (coefs_at (map (row_of n m) (ds ++ es)) i) q
  coefs_are j q c [] es i s l = absurd (omega (arith, l))
  coefs_are j q c (d ∷ ds) es zero s l = c d.form s.0
  coefs_are j q c (d ∷ ds) es (suc i) s l = coefs_are j q c ds es i s.1 (omega (arith, l))

  module _ (ds es : List Condition) (ms : List ℤ) (settled : AllSettled k ds) (r : Refutes (map (row_of n m) (ds ++ es)) ms) (none : (i : ℕ) → length ds ≤ i → at ms i ≡ pos 0) where
    abbrev rows : List LinearRow
    rows = map (row_of n k) ds

    abbrev further : List LinearRow
    further = map (row_of n m) (ds ++ es)

    abbrev count : ℕ
    count = length rows

    abbrev front : List ℤ
    front = take count ms

    count_is : count ≡ length ds
    count_is = length-map ds (row_of n k)

    further_is : length further ≡ count + length es
    further_is = length-map (ds ++ es) (row_of n m) ∙ length-append ds es ∙ ap (λ (x : ℕ). x + length es) (sym count_is)

    within : (i : ℕ) → i < count → i < length ds
    within i l = omega (arith, l, count_is)

    same : (i : ℕ) → i < count → at front i ≡ at ms i
    same i l = get_or-take count ms i (pos 0) l

    -- each weighted sum is one of the further rows
    module _ (j q : ℕ) (c : (f : Form) → IsSettled k f → at (lowest (all_coefs n k f)) j ≡ at (lowest (all_coefs n m f)) q) where
      abbrev term : ℕ → ℤ
      term i = at ms i *ℤ at (coefs_at further i) q

      no_term : (i : ℕ) → term (count + i) ≡ pos 0
      no_term i = ap (λ (x : ℤ). x *ℤ at (coefs_at further (count + i)) q) (none (count + i) (omega (arith, count_is))) ∙ zero_mul (at (coefs_at further (count + i)) q)

      longer : sum_to count term ≡ sum_to (count + length es) term
      longer = let s = sum_split count (length es) term in let z = sum_zero (length es) (λ i. term (count + i)) (λ i l. no_term i) in omega (arith, ints, s, z)

      weighted_is : weighted rows front j ≡ weighted further ms q
      weighted_is =
          sum_ext count (λ i. at front i *ℤ at (coefs_at rows i) j) term (λ i l t. same i l t *ℤ coefs_are j q c ds es i settled (within i l) t)
          ∙ longer
          ∙ ap (λ (x : ℕ). sum_to x term) (sym further_is)

    strict_front : (r.strict.0 < count) ⊎ (count ≤ r.strict.0) → (i : ℕ) × (i < count) × IsAbove (kind_at rows i) × (pos 0 <ℤ at front i)
    strict_front (inl l) = (
      r.strict.0,
      l,
      subst IsAbove (sym (kinds_are ds es r.strict.0 (within r.strict.0 l))) r.strict.2,
      subst (λ (z : ℤ). pos 0 <ℤ z) (sym (same r.strict.0 l)) r.strict.3,
    )
    strict_front (inr l) = let z = none r.strict.0 (omega (arith, l, count_is)) in let p = r.strict.3 in absurd (omega (arith, ints, z, p))

    pub refutes_front : Refutes rows front
    refutes_front = record {
      same_length = length-take-le count ms (omega (arith, further_is, r.same_length));
      signs = λ i l.
          subst (λ (x : RowKind). KindTakes x (at front i)) (sym (kinds_are ds es i (within i l)))
          (subst (KindTakes (kind_at further i)) (sym (same i l)) (r.signs i (omega (arith, l, further_is))));
      at_most_zero = λ j. let c = column n k m fine j in subst (λ (z : ℤ). z ≤ℤ pos 0) (sym (weighted_is j c.0 c.1)) (r.at_most_zero c.0);
      strict = strict_front (cases_lt r.strict.0 count);
    }

-- ---- goals
abbrev RefutesFront : List LinearRow → List ℤ → Type 0
RefutesFront rows ms = ((i : ℕ) → length rows ≤ i → at ms i ≡ pos 0) → Refutes rows (take (length rows) ms)

pub short_forms_refute : ShortFormsRefute
short_forms_refute core g passed_ rows ms one_ e refutes = by (way_behind passed_ core.tree [] (first_way core.agents) g.trace) refl e
  where
    n : ℕ
    n = core.agents

    by : (o : Option Way) → way_behind passed_ core.tree [] (first_way core.agents) g.trace ≡ o → rows_where core.agents o ≡ Some rows → RefutesFront rows ms
    by None p f = none_some rows f
    by (Some w) p f =
        let o = of_aim core g one_ in
        let on = goes_on_behind passed_ core.tree [] (first_way n) g.trace w p in
        let own : Condition = record { kind = Above; form = o.aim.own } in
        let conditions : o.aim.way.conditions ++ own ∷ [] ≡ w.conditions ++ (on.more ++ own ∷ []) =
        ap (λ (ds : List Condition). ds ++ own ∷ []) (sym (on.conditions ∙ ap (λ (k : Way). k.conditions) o.way_is)) ∙ append_assoc w.conditions on.more (own ∷ []) in
        let rows_are : g.rows ≡ map (row_of n o.aim.way.cake) (w.conditions ++ (on.more ++ own ∷ [])) = ap (λ (x : Goal). x.rows) o.is ∙ ap (map (row_of n o.aim.way.cake)) conditions in
        let fine : Refines w.cake o.aim.way.cake = subst (λ (k : Way). Refines w.cake k.cake) o.way_is on.cake in
        let settled = behind_settled passed_ core.tree [] (first_way n) g.trace w p (first_sound n) in
        subst (λ (rs : List LinearRow). RefutesFront rs ms) (some_same (rows_on n w) rows f)
        (λ none. refutes_front n w.cake o.aim.way.cake fine w.conditions (on.more ++ own ∷ []) ms settled (subst (λ (rs : List LinearRow). Refutes rs ms) rows_are refutes)
        (λ i l. none i (omega (arith, l, length-map w.conditions (row_of n w.cake)))))

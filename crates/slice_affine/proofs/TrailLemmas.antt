-- Uses of a block: taken back, and noted again outside it.
use Rattle.std.proofs.Common.{◌≡◌, ℕ, zero, suc, ◌<◌, ◌≤◌, Bool, true, false, ◌||◌, ◌==◌, cond, List, [], ◌∷◌, ◌++◌, ◌⊎◌, inl, inr, ⊎_elim, Option, Some, None, length, take, refl, ap, sym, subst, ◌∙◌, arith, append_assoc, append-nil, eqb-true}
use Rattle.std.specs.Prelude.{nat_lt, if◌then◌else◌, slice_get}
use Rattle.std.specs.Option.{option_map}
use Rattle.std.proofs.lemmas.Bool.Decides.{nat_tests}
use Rattle.std.proofs.lemmas.Option.{slice_get_within}
use Rattle.slice_ast.specs.declared.tree.Kind.{Kind}
use Rattle.slice_affine.specs.Pass.{lesser}
use Rattle.slice_affine.specs.Pass.{State, Ledger, used_by, unused_by, changed_at, marked, remarked, remarked_one, cleared, stepped}
use Rattle.slice_affine.specs.declared.trail.Use.{Use}

abbrev pub Meaning : Type 0
Meaning = Kind × Option ℕ

-- the entry with its meaning changed
abbrev pub onto : (Meaning → Meaning) → List ℕ × Meaning → List ℕ × Meaning
onto f e = (e.0, f e.1)

pub changed_get : (f : Meaning → Meaning) (i : ℕ) (l : Ledger) (j : ℕ) → slice_get (changed_at f i l) j ≡ cond (i == j) (option_map (onto f) (slice_get l j)) (slice_get l j)
changed_get f i [] j = by (i == j)
  where
    by : (b : Bool) → None ≡ cond b (option_map (onto f) None) None
    by true = refl
    by false = refl
changed_get f zero (e ∷ l) zero = refl
changed_get f zero (e ∷ l) (suc j) = ap (λ b. cond b (option_map (onto f) (slice_get l j)) (slice_get l j)) (zero_suc j)
  where
    zero_suc : (j : ℕ) → false ≡ (0 == suc j)
    zero_suc j = grind (arith, nat_tests)
changed_get f (suc i) (e ∷ l) zero = ap (λ b. cond b (Some (onto f e)) (Some e)) (suc_zero i)
  where
    suc_zero : (i : ℕ) → false ≡ (suc i == 0)
    suc_zero i = grind (arith, nat_tests)
changed_get f (suc i) (e ∷ l) (suc j) = changed_get f i l j ∙ ap (λ b. cond b (option_map (onto f) (slice_get l j)) (slice_get l j)) (suc_suc i j)
  where
    suc_suc : (i j : ℕ) → (i == j) ≡ (suc i == suc j)
    suc_suc i j = grind (arith, nat_tests)

-- what uses make of the meaning at the index, and what is left of it when they are taken back
abbrev pub marks : List Use → ℕ → Meaning → Meaning
marks [] j m = m
marks (u ∷ us) j m = marks us j (cond (u.index == j) (used_by u.place m) m)

abbrev pub clears : List Use → ℕ → Meaning → Meaning
clears [] j m = m
clears (u ∷ us) j m = clears us j (cond (u.index == j) (unused_by m) m)

-- one of the uses is of the index
abbrev pub has : List Use → ℕ → Bool
has [] j = false
has (u ∷ us) j = (u.index == j) || has us j

one_change : (b : Bool) (f : Meaning → Meaning) (o : Option (List ℕ × Meaning)) → cond b (option_map (onto f) o) o ≡ option_map (onto (λ m. cond b (f m) m)) o
one_change true f None = refl
one_change true f (Some e) = refl
one_change false f None = refl
one_change false f (Some e) = refl

map_twice : (f g : Meaning → Meaning) (o : Option (List ℕ × Meaning)) → option_map (onto g) (option_map (onto f) o) ≡ option_map (onto (λ m. g (f m))) o
map_twice f g None = refl
map_twice f g (Some e) = refl

pub cleared_get : (us : List Use) (l : Ledger) (j : ℕ) → slice_get (cleared us l) j ≡ option_map (onto (clears us j)) (slice_get l j)
cleared_get [] l j = by (slice_get l j)
  where
    by : (o : Option (List ℕ × Meaning)) → o ≡ option_map (onto (λ m. m)) o
    by None = refl
    by (Some e) = refl
cleared_get (u ∷ us) l j =
    cleared_get us (changed_at unused_by u.index l) j
    ∙ ap (option_map (onto (clears us j))) (changed_get unused_by u.index l j ∙ one_change (u.index == j) unused_by (slice_get l j))
    ∙ map_twice (λ m. cond (u.index == j) (unused_by m) m) (clears us j) (slice_get l j)

clears_unused : (us : List Use) (j : ℕ) (m : Meaning) → clears us j (unused_by m) ≡ unused_by m
clears_unused [] j m = refl
clears_unused (u ∷ us) j m =
    elim (u.index == j) as (λ b. clears us j (cond b (unused_by (unused_by m)) (unused_by m)) ≡ unused_by m) [ true ↦ clears_unused us j m | false ↦ clears_unused us j m ]

clears_is : (us : List Use) (j : ℕ) (m : Meaning) → clears us j m ≡ cond (has us j) (unused_by m) m
clears_is [] j m = refl
clears_is (u ∷ us) j m =
    elim (u.index == j) as (λ b. clears us j (cond b (unused_by m) m) ≡ cond (b || has us j) (unused_by m) m) [ true ↦ clears_unused us j m | false ↦ clears_is us j m ]

marks_kind : (us : List Use) (j : ℕ) (m : Meaning) → (marks us j m).0 ≡ m.0
marks_kind [] j m = refl
marks_kind (u ∷ us) j m =
    elim (u.index == j) as (λ b. (marks us j (cond b (used_by u.place m) m)).0 ≡ m.0) [ true ↦ marks_kind us j (used_by u.place m) | false ↦ marks_kind us j m ]

marks_without : (us : List Use) (j : ℕ) (m : Meaning) → has us j ≡ false → marks us j m ≡ m
marks_without [] j m h = refl
marks_without (u ∷ us) j m h =
    (elim (u.index == j) as (λ b. (b || has us j) ≡ false → marks us j (cond b (used_by u.place m) m) ≡ m) [ true ↦ λ x. cc | false ↦ λ x. marks_without us j m x ]) h

pub clears_marks : (us : List Use) (j : ℕ) (m : Meaning) → clears us j (marks us j m) ≡ clears us j m
clears_marks us j m = by (has us j) refl
  where
    by : (b : Bool) → has us j ≡ b → clears us j (marks us j m) ≡ clears us j m
    by true h =
        clears_is us j (marks us j m) ∙ ap (λ b. cond b (unused_by (marks us j m)) (marks us j m)) h
        ∙ ap (λ (k : Kind). (k, None)) (marks_kind us j m)
        ∙ sym (clears_is us j m ∙ ap (λ b. cond b (unused_by m) m) h)
    by false h = ap (clears us j) (marks_without us j m h)

lesser_is_some : (o : Option ℕ) (p : ℕ) → lesser o (Some p) ≡ None → ⊥
lesser_is_some None p h = cc
lesser_is_some (Some q) p h = cc

marks_none : (us : List Use) (j : ℕ) (m : Meaning) → (marks us j m).1 ≡ None → m.1 ≡ None
marks_none [] j m h = h
marks_none (u ∷ us) j m h =
    (elim (u.index == j) as (λ b. (marks us j (cond b (used_by u.place m) m)).1 ≡ None → m.1 ≡ None)
    [ true ↦ λ x. absurd (lesser_is_some m.1 u.place (marks_none us j (used_by u.place m) x)) | false ↦ λ x. marks_none us j m x ]) h

marks_append : (us vs : List Use) (j : ℕ) (m : Meaning) → marks (us ++ vs) j m ≡ marks vs j (marks us j m)
marks_append [] vs j m = refl
marks_append (u ∷ us) vs j m = marks_append us vs j (cond (u.index == j) (used_by u.place m) m)

clears_append : (us vs : List Use) (j : ℕ) (m : Meaning) → clears (us ++ vs) j m ≡ clears vs j (clears us j m)
clears_append [] vs j m = refl
clears_append (u ∷ us) vs j m = clears_append us vs j (cond (u.index == j) (unused_by m) m)

-- from one state to a later one of the same block: the uses between them, each of a name that was unused before
pub record Trailed (s t : State) : Type 0 where
  pub uses : List Use
  pub trail : t.trail ≡ s.trail ++ uses
  pub marked : (j : ℕ) (e : List ℕ × Meaning) → slice_get s.names j ≡ Some e → slice_get t.names j ≡ Some (onto (marks uses j) e)
  pub unused : (j : ℕ) (e : List ℕ × Meaning) → slice_get s.names j ≡ Some e → clears uses j e.1 ≡ e.1

unused_is : (us : List Use) (j : ℕ) (m : Meaning) → clears us j m ≡ m → (has us j ≡ false) ⊎ (m.1 ≡ None)
unused_is us j m h = by (has us j) refl (sym (clears_is us j m) ∙ h)
  where
    by : (b : Bool) → has us j ≡ b → cond (has us j) (unused_by m) m ≡ m → (has us j ≡ false) ⊎ (m.1 ≡ None)
    by true x y = inr (sym (ap (λ (n : Meaning). n.1) (ap (λ b. cond b (unused_by m) m) (sym x) ∙ y)))
    by false x y = inl x

is_unused : (us : List Use) (j : ℕ) (m : Meaning) → (has us j ≡ false) ⊎ (m.1 ≡ None) → clears us j m ≡ m
is_unused us j m h = ⊎_elim
    (λ x. clears_is us j m ∙ ap (λ b. cond b (unused_by m) m) x)
    (λ x. clears_is us j m ∙ by (has us j) x) h
  where
    by : (b : Bool) → m.1 ≡ None → cond b (unused_by m) m ≡ m
    by true x = ap (λ (o : Option ℕ). (m.0, o)) (sym x)
    by false x = refl

pub trailed_then : (s t u : State) → Trailed s t → Trailed t u → Trailed s u
trailed_then s t u a b = record {
  uses = a.uses ++ b.uses;
  trail = b.trail ∙ ap (λ (l : List Use). l ++ b.uses) a.trail ∙ append_assoc s.trail a.uses b.uses;
  marked = λ j e h. b.marked j (onto (marks a.uses j) e) (a.marked j e h) ∙ ap (λ (m : Meaning). Some (e.0, m)) (sym (marks_append a.uses b.uses j e.1));
  unused = λ j e h.
      clears_append a.uses b.uses j e.1 ∙ ap (clears b.uses j) (a.unused j e h)
      ∙ is_unused b.uses j e.1 (⊎_elim (λ x. inl x) (λ x. inr (marks_none a.uses j e.1 x)) (unused_is b.uses j (marks a.uses j e.1) (b.unused j (onto (marks a.uses j) e) (a.marked j e h))));
}

-- nothing happens, or names are bound
pub trailed_bound : (s t : State) → t.trail ≡ s.trail → ((j : ℕ) (e : List ℕ × Meaning) → slice_get s.names j ≡ Some e → slice_get t.names j ≡ Some e) → Trailed s t
trailed_bound s t h k = record { uses = []; trail = h ∙ sym (append-nil s.trail); marked = k; unused = λ j e x. refl }

-- a name that is unused is used
pub trailed_marked : (u : Use) (s t : State) → t.names ≡ s.names → t.trail ≡ s.trail → ((e : List ℕ × Meaning) → slice_get s.names u.index ≡ Some e → e.1.1 ≡ None) → Trailed s (marked u t)
trailed_marked u s t n r h = record {
  uses = u ∷ [];
  trail = ap (λ (l : List Use). l ++ u ∷ []) r;
  marked = λ j e x. ap (λ (l : Ledger). slice_get (changed_at (used_by u.place) u.index l) j) n ∙ changed_get (used_by u.place) u.index s.names j ∙ one_change (u.index == j) (used_by u.place) (slice_get s.names j)
      ∙ ap (option_map (onto (λ m. cond (u.index == j) (used_by u.place m) m))) x;
  unused = λ j e x. by j e x (u.index == j) refl;
}
  where
    by : (j : ℕ) (e : List ℕ × Meaning) → slice_get s.names j ≡ Some e → (b : Bool) → (u.index == j) ≡ b → cond b (unused_by e.1) e.1 ≡ e.1
    by j e x true y =
        let z : e.1.1 ≡ None = h e (ap (slice_get s.names) (eqb-true u.index j y) ∙ x) in
        ap (λ (o : Option ℕ). (e.1.0, o)) (sym z)
    by j e x false y = refl

-- two lists with the same items
pub same_items : (l k : Ledger) → ((j : ℕ) → slice_get l j ≡ slice_get k j) → l ≡ k
same_items [] [] h = refl
same_items [] (e ∷ k) h = let x = h 0 in cc
same_items (d ∷ l) [] h = let x = h 0 in cc
same_items (d ∷ l) (e ∷ k) h =
    let x : Some d ≡ Some e = h 0 in
    let first : d ≡ e = cc in
    let rest = same_items l k (λ j. h (suc j)) in
    cc

get_take : (l : Ledger) (n j : ℕ) → j < n → slice_get (take n l) j ≡ slice_get l j
get_take [] n j h = by n
  where
    empty : Ledger
    empty = []

    by : (n : ℕ) → slice_get (take n empty) j ≡ slice_get empty j
    by zero = refl
    by (suc n) = refl
get_take (e ∷ l) zero j h = absurd (omega arith)
get_take (e ∷ l) (suc n) zero h = refl
get_take (e ∷ l) (suc n) (suc j) h = get_take l n j (omega arith)

get_past : (l : Ledger) (n j : ℕ) → n ≤ j → slice_get (take n l) j ≡ None
get_past [] zero j h = refl
get_past [] (suc n) j h = refl
get_past (e ∷ l) zero j h = refl
get_past (e ∷ l) (suc n) zero h = absurd (omega arith)
get_past (e ∷ l) (suc n) (suc j) h = get_past l n j (omega arith)

get_or_past : (l : Ledger) (j : ℕ) → (length l ≤ j × (slice_get l j ≡ None)) ⊎ ((j < length l) × ((e : List ℕ × Meaning) × (slice_get l j ≡ Some e)))
get_or_past [] j = inl (omega arith, refl)
get_or_past (e ∷ l) zero = inr (omega arith, (e, refl))
get_or_past (e ∷ l) (suc j) = ⊎_elim (λ x. let a = x.0 in inl (omega arith, x.1)) (λ x. let a = x.0 in inr (omega arith, x.1)) (get_or_past l j)

-- a block inside leaves the names as they were
pub back : (s t : State) → s.trail ≡ [] → Trailed s t → take (length s.names) (cleared t.trail t.names) ≡ s.names
back s t n a = same_items (take (length s.names) (cleared t.trail t.names)) s.names (λ j. ⊎_elim
    (λ x. get_past (cleared t.trail t.names) (length s.names) j x.0 ∙ sym x.1)
    (λ x. let e = x.1.0 in
    get_take (cleared t.trail t.names) (length s.names) j x.0
    ∙ cleared_get t.trail t.names j
    ∙ ap (λ (us : List Use). option_map (onto (clears us j)) (slice_get t.names j)) (a.trail ∙ ap (λ (l : List Use). l ++ a.uses) n)
    ∙ ap (option_map (onto (clears a.uses j))) (a.marked j e x.1.1)
    ∙ ap (λ (m : Meaning). Some (e.0, m)) (clears_marks a.uses j e.1 ∙ a.unused j e x.1.1)
    ∙ sym x.1.1)
    (get_or_past s.names j))

-- uses that are noted again, as far as they are of one of the first names
abbrev kept : ℕ → List Use → List Use
kept n [] = []
kept n (u ∷ us) = if nat_lt u.index n then u ∷ kept n us else kept n us

abbrev again : List Use → Ledger → Ledger
again [] l = l
again (u ∷ us) l = again us (changed_at (used_by u.place) u.index l)

again_get : (us : List Use) (l : Ledger) (j : ℕ) → slice_get (again us l) j ≡ option_map (onto (marks us j)) (slice_get l j)
again_get [] l j = by (slice_get l j)
  where
    by : (o : Option (List ℕ × Meaning)) → o ≡ option_map (onto (λ m. m)) o
    by None = refl
    by (Some e) = refl
again_get (u ∷ us) l j =
    again_get us (changed_at (used_by u.place) u.index l) j
    ∙ ap (option_map (onto (marks us j))) (changed_get (used_by u.place) u.index l j ∙ one_change (u.index == j) (used_by u.place) (slice_get l j))
    ∙ map_twice (λ m. cond (u.index == j) (used_by u.place m) m) (marks us j) (slice_get l j)

changed_length : (f : Meaning → Meaning) (i : ℕ) (l : Ledger) → length (changed_at f i l) ≡ length l
changed_length f i [] = refl
changed_length f zero (e ∷ l) = refl
changed_length f (suc i) (e ∷ l) = ap (λ n. suc n) (changed_length f i l)

changed_past : (f : Meaning → Meaning) (i : ℕ) (l : Ledger) → length l ≤ i → changed_at f i l ≡ l
changed_past f i [] h = refl
changed_past f zero (e ∷ l) h = absurd (omega arith)
changed_past f (suc i) (e ∷ l) h = ap (λ k. e ∷ k) (changed_past f i l (omega arith))

-- the state after uses were noted again
abbrev noted_again : List Use → State → State
noted_again us s = record s { names = again us s.names; trail = s.trail ++ kept (length s.names) us }

test_false : (i n : ℕ) → nat_lt i n ≡ false → n ≤ i
test_false i n h = grind (arith, nat_tests)

remarked_is : (us : List Use) (s : State) → remarked us s ≡ noted_again us s
remarked_is [] s = ap (λ (l : List Use). record s { trail = l }) (sym (append-nil s.trail))
remarked_is (u ∷ us) s =
    (elim (nat_lt u.index (length s.names)) as (λ b. nat_lt u.index (length s.names) ≡ b → stepped remarked_one us (if b then marked u s else s)
    ≡ record s { names = again us (changed_at (used_by u.place) u.index s.names); trail = s.trail ++ (if b then u ∷ kept (length s.names) us else kept (length s.names) us) }) [
      | true ↦ λ h. remarked_is us (marked u s)
          ∙ ap (λ (n : ℕ). record s { names = again us (changed_at (used_by u.place) u.index s.names); trail = (s.trail ++ u ∷ []) ++ kept n us }) (changed_length (used_by u.place) u.index s.names)
          ∙ ap (λ (l : List Use). record s { names = again us (changed_at (used_by u.place) u.index s.names); trail = l }) (append_assoc s.trail (u ∷ []) (kept (length s.names) us))
      | false ↦ λ h. remarked_is us s
          ∙ ap (λ (l : Ledger). record s { names = again us l; trail = s.trail ++ kept (length s.names) us }) (sym (changed_past (used_by u.place) u.index s.names (test_false u.index (length s.names) h)))
    ]) refl

other_index : (i n j : ℕ) → nat_lt i n ≡ false → j < n → (i == j) ≡ false
other_index i n j h k = grind (arith, nat_tests)

marks_kept : (n : ℕ) (us : List Use) (j : ℕ) (m : Meaning) → j < n → marks (kept n us) j m ≡ marks us j m
marks_kept n [] j m h = refl
marks_kept n (u ∷ us) j m h =
    (elim (nat_lt u.index n) as (λ b. nat_lt u.index n ≡ b → marks (if b then u ∷ kept n us else kept n us) j m ≡ marks us j (cond (u.index == j) (used_by u.place m) m)) [
      | true ↦ λ x. marks_kept n us j (cond (u.index == j) (used_by u.place m) m) h
      | false ↦ λ x. marks_kept n us j m h ∙ ap (λ b. marks us j (cond b (used_by u.place m) m)) (sym (other_index u.index n j x h))
    ]) refl

clears_kept : (n : ℕ) (us : List Use) (j : ℕ) (m : Meaning) → j < n → clears (kept n us) j m ≡ clears us j m
clears_kept n [] j m h = refl
clears_kept n (u ∷ us) j m h =
    (elim (nat_lt u.index n) as (λ b. nat_lt u.index n ≡ b → clears (if b then u ∷ kept n us else kept n us) j m ≡ clears us j (cond (u.index == j) (unused_by m) m)) [
      | true ↦ λ x. clears_kept n us j (cond (u.index == j) (unused_by m) m) h
      | false ↦ λ x. clears_kept n us j m h ∙ ap (λ b. clears us j (cond b (unused_by m) m)) (sym (other_index u.index n j x h))
    ]) refl

pub remarked_get : (us : List Use) (s : State) (j : ℕ) → slice_get (remarked us s).names j ≡ option_map (onto (marks us j)) (slice_get s.names j)
remarked_get us s j = ap (λ (t : State). slice_get t.names j) (remarked_is us s) ∙ again_get us s.names j

pub remarked_found : (us : List Use) (s : State) → (remarked us s).found ≡ s.found
remarked_found us s = ap (λ (t : State). t.found) (remarked_is us s)

pub remarked_count : (us : List Use) (s : State) → (remarked us s).count ≡ s.count
remarked_count us s = ap (λ (t : State). t.count) (remarked_is us s)

within_length : (l : Ledger) (j : ℕ) (e : List ℕ × Meaning) → slice_get l j ≡ Some e → j < length l
within_length l j e h = slice_get_within l j e h

pub trailed_remarked : (us : List Use) (s : State) → ((j : ℕ) (e : List ℕ × Meaning) → slice_get s.names j ≡ Some e → clears us j e.1 ≡ e.1) → Trailed s (remarked us s)
trailed_remarked us s h = subst (λ (t : State). Trailed s t) (sym (remarked_is us s)) (record {
  uses = kept (length s.names) us;
  trail = refl;
  marked = λ j e x. again_get us s.names j ∙ ap (option_map (onto (marks us j))) x
      ∙ ap (λ (m : Meaning). Some (e.0, m)) (sym (marks_kept (length s.names) us j e.1 (within_length s.names j e x)));
  unused = λ j e x. clears_kept (length s.names) us j e.1 (within_length s.names j e x) ∙ h j e x;
})

-- what a block inside used was unused before it, in both blocks of an `if`
pub both_unused : (us vs : List Use) (j : ℕ) (m : Meaning) → clears us j m ≡ m → clears vs j m ≡ m → clears (us ++ vs) j m ≡ m
both_unused us vs j m h k = clears_append us vs j m ∙ ap (clears vs j) h ∙ k

lesser_assoc : (a b c : Option ℕ) → lesser (lesser a b) c ≡ lesser a (lesser b c)
lesser_assoc None b c = refl
lesser_assoc (Some p) None c = refl
lesser_assoc (Some p) (Some q) None = refl
lesser_assoc (Some p) (Some q) (Some r) = ap (λ n. Some n) (omega arith)

lesser_same : (a b : Option ℕ) → lesser a b ≡ lesser a (lesser a b)
lesser_same None b = refl
lesser_same (Some p) None = ap (λ n. Some n) (omega arith)
lesser_same (Some p) (Some q) = ap (λ n. Some n) (omega arith)

lesser_comm : (a b : Option ℕ) → lesser a b ≡ lesser b a
lesser_comm None None = refl
lesser_comm None (Some q) = refl
lesser_comm (Some p) None = refl
lesser_comm (Some p) (Some q) = ap (λ n. Some n) (omega arith)

-- marks only lessen what was there
marks_lessen : (us : List Use) (j : ℕ) (k : Kind) (a b : Option ℕ) → marks us j (k, lesser a b) ≡ (k, lesser a (marks us j (k, b)).1)
marks_lessen [] j k a b = refl
marks_lessen (u ∷ us) j k a b =
    elim (u.index == j) as (λ c. marks us j (cond c (k, lesser (lesser a b) (Some u.place)) (k, lesser a b)) ≡ (k, lesser a (marks us j (cond c (k, lesser b (Some u.place)) (k, b))).1)) [
      | true ↦ ap (λ (o : Option ℕ). marks us j (k, o)) (lesser_assoc a b (Some u.place)) ∙ marks_lessen us j k a (lesser b (Some u.place))
      | false ↦ marks_lessen us j k a b
    ]

-- the uses of both blocks, one after the other, leave the lesser places
pub marks_both : (us vs : List Use) (j : ℕ) (m : Meaning) → marks (us ++ vs) j m ≡ (m.0, lesser (marks us j m).1 (marks vs j m).1)
marks_both us vs j m =
    let k = m.0 in
    let a = (marks us j m).1 in
    let keep : marks us j m ≡ (k, lesser a m.1) =
    marks_own us j k m.1 in
    marks_append us vs j m ∙ ap (marks vs j) keep ∙ marks_lessen vs j k a m.1
  where
    marks_own : (us : List Use) (j : ℕ) (k : Kind) (o : Option ℕ) → marks us j (k, o) ≡ (k, lesser (marks us j (k, o)).1 o)
    marks_own us j k o =
        let e : marks us j (k, o) ≡ (k, lesser o (marks us j (k, None)).1) = by o in
        e ∙ ap (λ (x : Option ℕ). (k, x)) (lesser_same o (marks us j (k, None)).1 ∙ lesser_comm o (lesser o (marks us j (k, None)).1) ∙ ap (λ (n : Meaning). lesser n.1 o) (sym e))
      where
        by : (o : Option ℕ) → marks us j (k, o) ≡ (k, lesser o (marks us j (k, None)).1)
        by None = ap (λ (n : Kind). (n, (marks us j (k, None)).1)) (marks_kind us j (k, None))
        by (Some p) = marks_lessen us j k (Some p) None

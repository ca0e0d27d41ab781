-- A statement of the checker is a stage of the flow.
use Rattle.std.proofs.Common.{◌≡◌, ℕ, zero, suc, ◌≤◌, Bool, true, false, ◌&&◌, ◌==◌, cond, List, [], ◌∷◌, ◌++◌, Option, Some, None, refl, ap, sym, subst, ◌∙◌, append_assoc, bytes_eq, eq-eqb, eqb-true}
use Rattle.std.specs.Prelude.{slice_get}
use Rattle.std.specs.Option.{option_map}
use Rattle.slice_ast.specs.declared.tree.Kind.{Kind}
use Rattle.slice_ast.specs.declared.tree.Kind.TheVariants as kind
use Rattle.slice_ast.specs.declared.tree.Name.{Name}
use Rattle.slice_affine.specs.Scope.{Scope, Binding, look}
use Rattle.slice_affine.specs.Ways.{Event}
use Rattle.slice_affine.specs.Rules.{event_of, events}
use Rattle.slice_affine.proofs.Scan.{Used, noted, noted_all, told, twice}
use Rattle.slice_affine.specs.Pass.{lesser}
use Rattle.slice_affine.specs.Pass as pass
use Rattle.slice_affine.specs.Pass.{State, looked, told_at, told_first, index_of, used_by, changed_at, marked, used, used_one, used_where}
use Rattle.slice_affine.proofs.FoundLemmas.{noted_append, noted_nothing}
use Rattle.slice_affine.proofs.TrailLemmas.{Trailed, trailed_then, trailed_bound, trailed_marked, changed_get, onto, same_items}
use Rattle.slice_affine.proofs.PartLemmas.{of_kind, mean, seen, sight, look_sight, asks_told}
use Rattle.slice_affine.specs.declared.trail.Use.{Use}

-- the events of asked names tell what the checker tells of them, and use nothing
ask_told : (us : Used) (n : Name) (o : Option (Kind × Binding)) (es : List Event)
    → (twice us (event_of false n o ++ es) ≡ told_at (option_map (mean us) o) n ++ twice us es) × (noted_all us (event_of false n o ++ es) ≡ noted_all us es)
ask_told us n None es = (refl, refl)
ask_told us n (Some (kind.Agent, b)) es = (refl, refl)
ask_told us n (Some (kind.Number, b)) es = (refl, refl)
ask_told us n (Some (kind.Piece, b)) es = (by (us b), refl)
  where
    e : Event
    e = record { is_use = false; piece = b; name = n }

    by : (o : Option ℕ) → told o (record { is_use = false; piece = b; name = n }) ++ twice us es ≡ told_first o n ++ twice us es
    by None = refl
    by (Some p) = refl

pub asks_line : (us : Used) (scope : Scope Binding) (ns : List Name) (es : List Event)
    → (twice us (events false scope ns ++ es) ≡ asks_told (sight us scope) ns ++ twice us es) × (noted_all us (events false scope ns ++ es) ≡ noted_all us es)
asks_line us scope [] es = (refl, refl)
asks_line us scope (n ∷ ns) es =
    let rest = asks_line us scope ns es in
    let one = ask_told us n (look scope n.word) (events false scope ns ++ es) in
    let parts : events false scope (n ∷ ns) ++ es ≡ event_of false n (look scope n.word) ++ (events false scope ns ++ es) = append_assoc (event_of false n (look scope n.word)) (events false scope ns) es in (
      ap (twice us) parts ∙ one.0 ∙ ap (λ o. told_at o n ++ twice us (events false scope ns ++ es)) (sym (look_sight us scope n.word))
          ∙ ap (λ fs. told_at (look (sight us scope) n.word) n ++ fs) rest.0
          ∙ sym (append_assoc (told_at (look (sight us scope) n.word) n) (asks_told (sight us scope) ns) (twice us es)),
      ap (noted_all us) parts ∙ one.1 ∙ rest.1,
    )

-- the bindings in scope are different, and none is past the place
pub record Scoped (lo : ℕ) (scope : Scope Binding) : Type 0 where
  pub apart : (i j : ℕ) (d e : List ℕ × (Kind × Binding)) → slice_get scope i ≡ Some d → slice_get scope j ≡ Some e → d.1.1 ≡ e.1.1 → i ≡ j
  pub below : (i : ℕ) (d : List ℕ × (Kind × Binding)) → slice_get scope i ≡ Some d → d.1.1 ≤ lo

pub get_sight : (us : Used) (scope : Scope Binding) (j : ℕ) → slice_get (sight us scope) j ≡ option_map (seen us) (slice_get scope j)
get_sight us [] j = refl
get_sight us (e ∷ scope) zero = refl
get_sight us (e ∷ scope) (suc j) = get_sight us scope j

-- where a word that stands for something is
pub record Stands (scope : Scope Binding) (us : Used) (w : List ℕ) (m : Kind × Binding) : Type 0 where
  pub index : ℕ
  pub at : index_of w (sight us scope) ≡ Some index
  pub word : List ℕ
  pub holds : slice_get scope index ≡ Some (word, m)

pub where_it_is : (scope : Scope Binding) (us : Used) (w : List ℕ) (m : Kind × Binding) → look scope w ≡ Some m → Stands scope us w m
where_it_is [] us w m h = cc
where_it_is (e ∷ scope) us w m h = by (bytes_eq w e.0) refl h (λ k. where_it_is scope us w m k)
  where
    by : (b : Bool) → bytes_eq w e.0 ≡ b → cond b (Some e.1) (look scope w) ≡ Some m → (look scope w ≡ Some m → Stands scope us w m) → Stands (e ∷ scope) us w m
    by true t k rest =
        let same : e.1 ≡ m = cc in
        record { index = 0; at = ap (λ b. cond b (Some 0) (option_map (λ i. suc i) (index_of w (sight us scope)))) t; word = e.0; holds = ap (λ x. Some (e.0, x)) same }
    by false t k rest =
        let r = rest k in
        record { index = suc r.index; at = ap (λ b. cond b (Some 0) (option_map (λ i. suc i) (index_of w (sight us scope)))) t ∙ ap (option_map (λ i. suc i)) r.at; word = r.word; holds = r.holds }

-- a use of a piece at the index is a use of its binding
marks_binding : (lo : ℕ) (scope : Scope Binding) (us : Used) (i : ℕ) (w : List ℕ) (b p : ℕ) (e : Event) → Scoped lo scope → slice_get scope i ≡ Some (w, (kind.Piece, b))
    → e.is_use ≡ true → e.piece ≡ b → e.name.at ≡ p → changed_at (used_by p) i (sight us scope) ≡ sight (noted us e) scope
marks_binding lo scope us i w b p e s h u x y = same_items (changed_at (used_by p) i (sight us scope)) (sight (noted us e) scope) (λ j.
    changed_get (used_by p) i (sight us scope) j ∙ ap (λ o. cond (i == j) (option_map (onto (used_by p)) o) o) (get_sight us scope j)
    ∙ by j (i == j) refl (slice_get scope j) refl ∙ sym (get_sight (noted us e) scope j))
  where
    here : (k : ℕ) (c : Bool) → (e.piece == k) ≡ c → noted us e k ≡ cond c (lesser (us k) (Some e.name.at)) (us k)
    here k c z = ap (λ d. cond (d && (e.piece == k)) (lesser (us k) (Some e.name.at)) (us k)) u ∙ ap (λ d. cond d (lesser (us k) (Some e.name.at)) (us k)) z

    other : (j : ℕ) (d : List ℕ × (Kind × Binding)) → (i == j) ≡ false → slice_get scope j ≡ Some d → (e.piece == d.1.1) ≡ false
    other j d z t = by_test (e.piece == d.1.1) refl
      where
        by_test : (c : Bool) → (e.piece == d.1.1) ≡ c → c ≡ false
        by_test true q =
            let same : i ≡ j = s.apart i j (w, (kind.Piece, b)) d h t (sym x ∙ eqb-true e.piece d.1.1 q) in
            let r : (i == j) ≡ true = eq-eqb i j same in cc
        by_test false q = refl

    kinds : (d : List ℕ × (Kind × Binding)) → (e.piece == d.1.1) ≡ false → seen us d ≡ seen (noted us e) d
    kinds d z = ap (λ o. (d.0, (d.1.0, o))) (by_kind d.1.0)
      where
        by_kind : (k : Kind) → of_kind us k d.1.1 ≡ of_kind (noted us e) k d.1.1
        by_kind kind.Agent = refl
        by_kind kind.Piece = sym (here d.1.1 false z)
        by_kind kind.Number = refl

    by : (j : ℕ) (c : Bool) → (i == j) ≡ c → (o : Option (List ℕ × (Kind × Binding))) → slice_get scope j ≡ o
        → cond c (option_map (onto (used_by p)) (option_map (seen us) o)) (option_map (seen us) o) ≡ option_map (seen (noted us e)) o
    by j true z None t = refl
    by j false z None t = refl
    by j true z (Some d) t =
        let same : Some (w, (kind.Piece, b)) ≡ Some d = sym h ∙ ap (slice_get scope) (eqb-true i j z) ∙ t in
        let it : (w, (kind.Piece, b)) ≡ d = cc in
        subst (λ (v : List ℕ × (Kind × Binding)). Some (onto (used_by p) (seen us v)) ≡ Some (seen (noted us e) v)) it
        (ap (λ o. Some (w, (kind.Piece, o))) (ap (λ q. lesser (us b) (Some q)) (sym y) ∙ sym (here b true (eq-eqb e.piece b x))))
    by j false z (Some d) t = ap (λ v. Some v) (kinds d (other j d z t))

-- what the use of names does
pub record UsedIs (scope : Scope Binding) (us : Used) (es : List Event) (s t : State) : Type 0 where
  pub found : t.found ≡ pass.noted s.found (twice us es)
  pub names : t.names ≡ sight (noted_all us es) scope
  pub count : t.count ≡ s.count
  pub trailed : twice us es ≡ [] → Trailed s t

pub same_state : (s : State) → Trailed s s
same_state s = trailed_bound s s refl (λ j e h. h)

use_one : (lo : ℕ) (scope : Scope Binding) (us : Used) (s : State) (n : Name) → Scoped lo scope → s.names ≡ sight us scope
    → (o : Option (Kind × Binding)) → look scope n.word ≡ o → UsedIs scope us (event_of true n o) s (used_one n s)
use_one lo scope us s n c h o k = by o k (ap (λ l. look l n.word) h ∙ look_sight us scope n.word ∙ ap (option_map (mean us)) k)
  where
    index : Option ℕ
    index = index_of n.word s.names

    idle : (t : State) → t ≡ s → UsedIs scope us [] s t
    idle t e = subst (λ (z : State). UsedIs scope us [] s z) (sym e) (record { found = sym (noted_nothing s.found); names = h; count = refl; trailed = λ z. same_state s })

    by : (o : Option (Kind × Binding)) → look scope n.word ≡ o → look s.names n.word ≡ option_map (mean us) o → UsedIs scope us (event_of true n o) s (used_one n s)
    by None x y = idle (used_one n s) (ap (λ m. used_where m index n s) y)
    by (Some (kind.Agent, b)) x y = idle (used_one n s) (ap (λ m. used_where m index n s) y)
    by (Some (kind.Number, b)) x y = idle (used_one n s) (ap (λ m. used_where m index n s) y)
    by (Some (kind.Piece, b)) x y =
        let r = where_it_is scope us n.word (kind.Piece, b) x in
        let u : Use = record { index = r.index; place = n.at } in
        let e : Event = record { is_use = true; piece = b; name = n } in
        let t : State = marked u (looked (told_first (us b) n) s) in
        let same : used_one n s ≡ t =
        ap (λ m. used_where m index n s) y ∙ ap (λ i. used_where (Some (kind.Piece, us b)) i n s) (ap (index_of n.word) h ∙ r.at) in
        subst (λ (z : State). UsedIs scope us (e ∷ []) s z) (sym same) (record {
          found = ap (pass.noted s.found) (told_same (us b));
          names = ap (changed_at (used_by n.at) r.index) h ∙ marks_binding lo scope us r.index r.word b n.at e c r.holds refl refl refl;
          count = refl;
          trailed = λ z. trailed_marked u s (looked (told_first (us b) n) s) refl refl (λ d q.
              let there : slice_get s.names r.index ≡ Some (seen us (r.word, (kind.Piece, b))) = ap (λ l. slice_get l r.index) h ∙ get_sight us scope r.index ∙ ap (option_map (seen us)) r.holds in
              let it : seen us (r.word, (kind.Piece, b)) ≡ d = cc in
              subst (λ (v : List ℕ × (Kind × Option ℕ)). v.1.1 ≡ None) it (unused_first (us b) z));
        })
      where
        told_same : (o : Option ℕ) → told_first o n ≡ told o (record { is_use = true; piece = b; name = n }) ++ []
        told_same None = refl
        told_same (Some p) = refl

        unused_first : (o : Option ℕ) → told o (record { is_use = true; piece = b; name = n }) ++ [] ≡ [] → o ≡ None
        unused_first None z = refl
        unused_first (Some p) z = cc

twice_append : (us : Used) (xs ys : List Event) → twice us (xs ++ ys) ≡ twice us xs ++ twice (noted_all us xs) ys
twice_append us [] ys = refl
twice_append us (e ∷ xs) ys = ap (λ fs. told (us e.piece) e ++ fs) (twice_append (noted us e) xs ys) ∙ sym (append_assoc (told (us e.piece) e) (twice (noted us e) xs) (twice (noted_all (noted us e) xs) ys))

noted_all_append : (us : Used) (xs ys : List Event) → noted_all us (xs ++ ys) ≡ noted_all (noted_all us xs) ys
noted_all_append us [] ys = refl
noted_all_append us (e ∷ xs) ys = noted_all_append (noted us e) xs ys

pub both_nothing : {A : Type 0} (xs ys : List A) → xs ++ ys ≡ [] → (xs ≡ []) × (ys ≡ [])
both_nothing [] ys h = (refl, h)
both_nothing (x ∷ xs) ys h = cc

pub uses_are : (lo : ℕ) (scope : Scope Binding) (ns : List Name) (us : Used) (s : State) → Scoped lo scope → s.names ≡ sight us scope → UsedIs scope us (events true scope ns) s (used ns s)
uses_are lo scope [] us s c h = record { found = sym (noted_nothing s.found); names = h; count = refl; trailed = λ z. same_state s }
uses_are lo scope (n ∷ ns) us s c h =
    let one = use_one lo scope us s n c h (look scope n.word) refl in
    let first : List Event = event_of true n (look scope n.word) in
    let rest = uses_are lo scope ns (noted_all us first) (used_one n s) c one.names in
    record {
      found = rest.found ∙ ap (λ o. pass.noted o (twice (noted_all us first) (events true scope ns))) one.found
          ∙ sym (noted_append (twice us first) (twice (noted_all us first) (events true scope ns)) s.found)
          ∙ ap (pass.noted s.found) (sym (twice_append us first (events true scope ns)));
      names = rest.names ∙ ap (λ v. sight v scope) (sym (noted_all_append us first (events true scope ns)));
      count = rest.count ∙ one.count;
      trailed = λ z.
          let both = both_nothing (twice us first) (twice (noted_all us first) (events true scope ns)) (sym (twice_append us first (events true scope ns)) ∙ z) in
          trailed_then s (used_one n s) (used ns (used_one n s)) (one.trailed both.0) (rest.trailed both.1);
    }

-- What the checker has at a statement, and what the pass over the flow has there.
use Rattle.std.proofs.Common.{◌≡◌, ℕ, zero, suc, ◌<◌, ◌≤◌, Bool, true, false, ◌||◌, ◌&&◌, ◌==◌, cond, List, [], ◌∷◌, ◌++◌, ◌⊎◌, inl, inr, ⊎_elim, Option, Some, None, map, length, refl, ap, sym, subst, ◌∙◌, arith, append-nil, append_assoc, bytes_eq, is_some}
use Rattle.std.specs.Prelude.{if◌then◌else◌, slice_get}
use Rattle.std.specs.Map.{keys_of}
use Rattle.std.proofs.lemmas.List.{map-append}
use Rattle.std.proofs.lemmas.Slice.Eq.{bytes_eq-Decides}
use Rattle.std.proofs.lemmas.Bool.Decides.{nat_tests}
use Rattle.slice_num.specs.Name.{is_among}
use Rattle.slice_ast.specs.declared.tree.Kind.{Kind}
use Rattle.slice_ast.specs.declared.tree.Kind.TheVariants as kind
use Rattle.slice_ast.specs.declared.tree.Name.{Name}
use Rattle.slice_affine.specs.Scope.{Scope, Binding, look, entry}
use Rattle.slice_affine.specs.Looks.{rebound}
use Rattle.slice_affine.proofs.Scan.{least}
use Rattle.slice_affine.specs.Ways.{Event, Stage, IsIn}
use Rattle.slice_affine.specs.Rules.{event_of, events, stage}
use Rattle.slice_affine.proofs.Scan.{Used, noted, noted_all, twice, stage_faults}
use Rattle.slice_affine.specs.Pass.{lesser}
use Rattle.slice_affine.proofs.Spans.{RiseTo}
use Rattle.slice_affine.specs.Pass as pass
use Rattle.slice_affine.specs.Pass.{State, Ledger, looked, used, bound}
use Rattle.slice_affine.proofs.WayLemmas.{in_parts}
use Rattle.slice_affine.proofs.FoundLemmas.{noted_append, none_least, noted_nothing, nothing_found}
use Rattle.slice_affine.proofs.TrailLemmas.{Trailed, trailed_then, trailed_bound}
use Rattle.slice_affine.proofs.PartLemmas.{of_kind, mean, seen, sight, asks_told}
use Rattle.slice_affine.proofs.StageLemmas.{asks_line, Scoped, where_it_is, UsedIs, uses_are, both_nothing}
use Rattle.slice_affine.specs.declared.fault.AffineFault.{AffineFault}
use Rattle.slice_affine.specs.declared.fault.AffineFault.TheVariants.{Rebound}

-- the words are those in scope
abbrev pub Words : List (List ℕ) → Ledger → Type 0
Words words l = (w : List ℕ) → is_among w words ≡ is_some (look l w)

pub among_sight : (us : Used) (scope : Scope Binding) → Words (keys_of scope) (sight us scope)
among_sight us [] w = refl
among_sight us (e ∷ scope) w =
    elim (bytes_eq w e.0) as (λ b. (b || is_among w (keys_of scope)) ≡ is_some (cond b (Some (mean us e.1)) (look (sight us scope) w)))
    [ true ↦ refl | false ↦ among_sight us scope w ]

look_push : (l : Ledger) (v w : List ℕ) (m : Kind × Option ℕ) → is_some (look (l ++ (v, m) ∷ []) w) ≡ (bytes_eq w v || is_some (look l w))
look_push [] v w m = elim (bytes_eq w v) as (λ b. is_some (cond b (Some m) None) ≡ (b || false)) [ true ↦ refl | false ↦ refl ]
look_push (e ∷ l) v w m =
    elim (bytes_eq w e.0) as (λ b. is_some (cond b (Some e.1) (look (l ++ (v, m) ∷ []) w)) ≡ (bytes_eq w v || is_some (cond b (Some e.1) (look l w))))
    [ true ↦ (elim (bytes_eq w v) as (λ b. true ≡ (b || true)) [ true ↦ refl | false ↦ refl ]) | false ↦ look_push l v w m ]

pub words_again : (words : List (List ℕ)) (l : Ledger) (v : List ℕ) → Words words l → is_some (look l v) ≡ true → Words (v ∷ words) l
words_again words l v h k w = by (bytes_eq w v) refl
  where
    by : (b : Bool) → bytes_eq w v ≡ b → (b || is_among w words) ≡ is_some (look l w)
    by true e = sym (ap (λ x. is_some (look l x)) ((bytes_eq-Decides w v).0 e) ∙ k)
    by false e = h w

pub words_more : (words : List (List ℕ)) (l : Ledger) (v : List ℕ) (m : Kind × Option ℕ) → Words words l → Words (v ∷ words) (l ++ (v, m) ∷ [])
words_more words l v m h w = ap (λ b. bytes_eq w v || b) (h w) ∙ sym (look_push l v w m)

-- a name as the checker binds it
abbrev pub new : Kind → Name → List ℕ × (Kind × Option ℕ)
new k n = (n.word, (k, None))

record BoundIs (k : Kind) (ns : List Name) (words : List (List ℕ)) (s t : State) : Type 0 where
  found : t.found ≡ pass.noted s.found (rebound words ns)
  names : rebound words ns ≡ [] → t.names ≡ s.names ++ map (new k) ns
  trail : t.trail ≡ s.trail
  count : t.count ≡ s.count

bound_are : (k : Kind) (ns : List Name) (words : List (List ℕ)) (s : State) → Words words s.names → BoundIs k ns words s (bound k ns s)
bound_are k [] words s h = record { found = sym (noted_nothing s.found); names = λ z. sym (append-nil s.names); trail = refl; count = refl }
bound_are k (n ∷ ns) words s h =
    let again : State = looked (Rebound n.word n.at ∷ []) s in
    let more : State = record s { names = s.names ++ new k n ∷ [] } in
    by (is_some (look s.names n.word)) refl (λ e. bound_are k ns (n.word ∷ words) again (words_again words s.names n.word h e))
    (bound_are k ns (n.word ∷ words) more (words_more words s.names n.word (k, None) h))
  where
    reb : List AffineFault
    reb = rebound (n.word ∷ words) ns

    by : (b : Bool) → is_some (look s.names n.word) ≡ b
        → (is_some (look s.names n.word) ≡ true → BoundIs k ns (n.word ∷ words) (looked (Rebound n.word n.at ∷ []) s) (bound k ns (looked (Rebound n.word n.at ∷ []) s)))
        → BoundIs k ns (n.word ∷ words) (record s { names = s.names ++ new k n ∷ [] }) (bound k ns (record s { names = s.names ++ new k n ∷ [] }))
        → BoundIs k (n ∷ ns) words s (bound k (n ∷ ns) s)
    by true e a m =
        let r = a e in
        let faults : rebound words (n ∷ ns) ≡ Rebound n.word n.at ∷ reb = ap (λ b. (if b then Rebound n.word n.at ∷ [] else []) ++ reb) (h n.word ∙ e) in
        let same : bound k (n ∷ ns) s ≡ bound k ns (looked (Rebound n.word n.at ∷ []) s) = ap (λ b. bound k ns (if b then looked (Rebound n.word n.at ∷ []) s else record s { names = s.names ++ new k n ∷ [] })) e in
        record {
          found = ap (λ (t : State). t.found) same ∙ r.found ∙ sym (noted_append (Rebound n.word n.at ∷ []) reb s.found) ∙ ap (pass.noted s.found) (sym faults);
          names = λ z. absurd (clash (sym faults ∙ z));
          trail = ap (λ (t : State). t.trail) same ∙ r.trail;
          count = ap (λ (t : State). t.count) same ∙ r.count;
        }
      where
        clash : Rebound n.word n.at ∷ reb ≡ [] → ⊥
        clash z = cc
    by false e a m =
        let faults : rebound words (n ∷ ns) ≡ reb = ap (λ b. (if b then Rebound n.word n.at ∷ [] else []) ++ reb) (h n.word ∙ e) in
        let same : bound k (n ∷ ns) s ≡ bound k ns (record s { names = s.names ++ new k n ∷ [] }) = ap (λ b. bound k ns (if b then looked (Rebound n.word n.at ∷ []) s else record s { names = s.names ++ new k n ∷ [] })) e in
        record {
          found = ap (λ (t : State). t.found) same ∙ m.found ∙ ap (pass.noted s.found) (sym faults);
          names = λ z. ap (λ (t : State). t.names) same ∙ m.names (sym faults ∙ z) ∙ append_assoc s.names (new k n ∷ []) (map (new k) ns);
          trail = ap (λ (t : State). t.trail) same ∙ m.trail;
          count = ap (λ (t : State). t.count) same ∙ m.count;
        }

pub get_more : {A : Type 0} (l m : List A) (j : ℕ) (e : A) → slice_get l j ≡ Some e → slice_get (l ++ m) j ≡ Some e
get_more [] m j e h = cc
get_more (d ∷ l) m zero e h = h
get_more (d ∷ l) m (suc j) e h = get_more l m j e h

pub get_push : {A : Type 0} (l : List A) (x : A) (j : ℕ) (e : A) → slice_get (l ++ x ∷ []) j ≡ Some e → (slice_get l j ≡ Some e) ⊎ ((j ≡ length l) × (x ≡ e))
get_push [] x zero e h = inr (refl, cc)
get_push [] x (suc j) e h = cc
get_push (d ∷ l) x zero e h = inl h
get_push (d ∷ l) x (suc j) e h = ⊎_elim (λ a. inl a) (λ a. inr (ap (λ n. suc n) a.0, a.1)) (get_push l x j e h)

pub scoped_one : (lo : ℕ) (scope : Scope Binding) (k : Kind) (n : Name) → Scoped lo scope → lo ≤ n.at → Scoped (suc n.at) (scope ++ entry k n ∷ [])
scoped_one lo scope k n s h = record {
  apart = λ i j d e x y z. ⊎_elim
      (λ a. ⊎_elim (λ b. s.apart i j d e a b z) (λ b. absurd (past i d a (z ∙ ap (λ (v : List ℕ × (Kind × Binding)). v.1.1) (sym b.1)))) (get_push scope (entry k n) j e y))
      (λ a. ⊎_elim (λ b. absurd (past j e b (sym z ∙ ap (λ (v : List ℕ × (Kind × Binding)). v.1.1) (sym a.1)))) (λ b. a.0 ∙ sym b.0) (get_push scope (entry k n) j e y))
      (get_push scope (entry k n) i d x);
  below = λ i d x. ⊎_elim (λ a. let q : d.1.1 ≤ lo = s.below i d a in omega arith) (λ a. let q : suc n.at ≡ d.1.1 = ap (λ (v : List ℕ × (Kind × Binding)). v.1.1) a.1 in omega arith) (get_push scope (entry k n) i d x);
}
  where
    past : (i : ℕ) (d : List ℕ × (Kind × Binding)) → slice_get scope i ≡ Some d → d.1.1 ≡ suc n.at → ⊥
    past i d a q = let r : d.1.1 ≤ lo = s.below i d a in let t : lo ≤ n.at = h in absurd (omega arith)

pub scoped_wider : (lo hi : ℕ) (scope : Scope Binding) → lo ≤ hi → Scoped lo scope → Scoped hi scope
scoped_wider lo hi scope h s = record { apart = s.apart; below = λ i d x. let q : d.1.1 ≤ lo = s.below i d x in omega arith }

abbrev pub places_of : List Name → List ℕ
places_of ns = map (λ n. n.at) ns

pub scoped_more : (ns : List Name) (k : Kind) (lo hi : ℕ) (scope : Scope Binding) → RiseTo lo (places_of ns) hi → Scoped lo scope → Scoped hi (scope ++ map (entry k) ns)
scoped_more [] k lo hi scope r s = subst (λ (z : Scope Binding). Scoped hi z) (sym (append-nil scope)) (scoped_wider lo hi scope r s)
scoped_more (n ∷ ns) k lo hi scope r s =
    subst (λ (z : Scope Binding). Scoped hi z) (append_assoc scope (entry k n ∷ []) (map (entry k) ns))
    (scoped_more ns k (suc n.at) hi (scope ++ entry k n ∷ []) r.1 (scoped_one lo scope k n s r.0))

pub rise_on : (xs : List ℕ) (lo hi : ℕ) → RiseTo lo xs hi → lo ≤ hi
rise_on [] lo hi h = h
rise_on (x ∷ xs) lo hi h = let a : lo ≤ x = h.0 in let b : suc x ≤ hi = rise_on xs (suc x) hi h.1 in omega arith

-- nothing is known of bindings that come later
abbrev pub Later : ℕ → Used → Type 0
Later lo us = (k : ℕ) → lo < k → us k ≡ None

later_one : (lo : ℕ) (us : Used) (e : Event) → e.piece ≤ lo → Later lo us → Later lo (noted us e)
later_one lo us e h l k x =
    let f : (e.piece == k) ≡ false = differ e.piece k h x in
    ap (λ b. if e.is_use && b then lesser (us k) (Some e.name.at) else us k) f
    ∙ (elim e.is_use as (λ u. (if u && false then lesser (us k) (Some e.name.at) else us k) ≡ us k) [ true ↦ refl | false ↦ refl ]) ∙ l k x
  where
    differ : (p k : ℕ) → p ≤ lo → lo < k → (p == k) ≡ false
    differ p k h x = grind (arith, nat_tests)

pub later_all : (es : List Event) (lo : ℕ) (us : Used) → ((e : Event) → IsIn e es → e.piece ≤ lo) → Later lo us → Later lo (noted_all us es)
later_all [] lo us h l = l
later_all (e ∷ es) lo us h l = later_all es lo (noted us e) (λ d i. h d (inr i)) (later_one lo us e (h e (inl refl)) l)

below_found : (lo : ℕ) (scope : Scope Binding) (w : List ℕ) (m : Kind × Binding) → Scoped lo scope → look scope w ≡ Some m → m.1 ≤ lo
below_found lo scope w m s h = let r = where_it_is scope (λ k. None) w m h in s.below r.index (r.word, m) r.holds

events_below : (lo : ℕ) (scope : Scope Binding) (b : Bool) (ns : List Name) → Scoped lo scope → (e : Event) → IsIn e (events b scope ns) → e.piece ≤ lo
events_below lo scope b [] s e i = absurd i
events_below lo scope b (n ∷ ns) s e i = ⊎_elim
    (λ a. by (look scope n.word) refl a)
    (λ a. events_below lo scope b ns s e a)
    (in_parts e (event_of b n (look scope n.word)) (events b scope ns) i)
  where
    by : (o : Option (Kind × Binding)) → look scope n.word ≡ o → IsIn e (event_of b n o) → e.piece ≤ lo
    by None x a = absurd a
    by (Some (kind.Agent, p)) x a = absurd a
    by (Some (kind.Number, p)) x a = absurd a
    by (Some (kind.Piece, p)) x a = ⊎_elim
        (λ q. let h : p ≤ lo = below_found lo scope n.word (kind.Piece, p) s x in let r : e.piece ≡ p = ap (λ (v : Event). v.piece) q in omega arith) (λ q. absurd q) a

-- the checker has what the pass over the flow has
pub record Sim (agents lo : ℕ) (scope : Scope Binding) (us : Used) (s : State) : Type 0 where
  pub names : s.names ≡ sight us scope
  pub found : s.found ≡ None
  pub count : s.count ≡ agents
  pub scoped : Scoped lo scope
  pub later : Later lo us

pub new_seen : (ns : List Name) (k : Kind) (lo hi : ℕ) (us : Used) → RiseTo lo (places_of ns) hi → Later lo us → map (seen us) (map (entry k) ns) ≡ map (new k) ns
new_seen [] k lo hi us r l = refl
new_seen (n ∷ ns) k lo hi us r l =
    let one : of_kind us k (suc n.at) ≡ None = by k in
    let rest : map (seen us) (map (entry k) ns) ≡ map (new k) ns = new_seen ns k (suc n.at) hi us r.1 (λ j h. let a : lo ≤ n.at = r.0 in l j (omega arith)) in
    ap (λ o. (n.word, (k, o)) ∷ map (seen us) (map (entry k) ns)) one ∙ ap (λ xs. new k n ∷ xs) rest
  where
    by : (k : Kind) → of_kind us k (suc n.at) ≡ None
    by kind.Agent = refl
    by kind.Piece = let a : lo ≤ n.at = r.0 in l (suc n.at) (omega arith)
    by kind.Number = refl

-- a stage at its end: the fault that is found, and where there is none, what the checker has after it
pub record StageIs (count mid : ℕ) (scope more : Scope Binding) (us : Used) (l : Stage) (s t : State) : Type 0 where
  pub found : t.found ≡ least (stage_faults us l)
  pub fine : least (stage_faults us l) ≡ None → Sim count mid (scope ++ more) (noted_all us l.events) t × Trailed s t

pub stage_is : (count lo mid : ℕ) (scope : Scope Binding) (us : Used) (s : State) (faults : List AffineFault) (asked ps ns : List Name) (k : Kind)
    → Sim count lo scope us s → RiseTo lo (places_of ns) mid
    → StageIs count mid scope (map (entry k) ns) us (stage scope faults asked ps ns) s (bound k ns (used ps (looked (faults ++ asks_told s.names asked) s)))
stage_is count lo mid scope us s faults asked ps ns k sim rise = record { found = found; fine = fine }
  where
    ea : List Event
    ea = events false scope asked

    eu : List Event
    eu = events true scope ps

    asks : List AffineFault
    asks = asks_told s.names asked

    reb : List AffineFault
    reb = rebound (keys_of scope) ns

    s2 : State
    s2 = looked (faults ++ asks) s

    s3 : State
    s3 = used ps s2

    t : State
    t = bound k ns s3

    u : UsedIs scope us eu s2 s3
    u = uses_are lo scope ps us s2 sim.scoped sim.names

    words : Words (keys_of scope) s3.names
    words = subst (λ (z : Ledger). Words (keys_of scope) z) (sym u.names) (among_sight (noted_all us eu) scope)

    b : BoundIs k ns (keys_of scope) s3 t
    b = bound_are k ns (keys_of scope) s3 words

    tells : twice us (ea ++ eu) ≡ asks ++ twice us eu
    tells = (asks_line us scope asked eu).0 ∙ ap (λ (l : Ledger). asks_told l asked ++ twice us eu) (sym sim.names)

    whole : ((faults ++ asks) ++ twice us eu) ++ reb ≡ faults ++ (twice us (ea ++ eu) ++ reb)
    whole =
        append_assoc (faults ++ asks) (twice us eu) reb ∙ append_assoc faults asks (twice us eu ++ reb)
        ∙ ap (λ (fs : List AffineFault). faults ++ fs) (sym (append_assoc asks (twice us eu) reb) ∙ ap (λ (fs : List AffineFault). fs ++ reb) (sym tells))

    found : t.found ≡ least (faults ++ (twice us (ea ++ eu) ++ reb))
    found =
        b.found ∙ ap (λ o. pass.noted o reb) (u.found ∙ ap (λ o. pass.noted (pass.noted o (faults ++ asks)) (twice us eu)) sim.found)
        ∙ ap (λ o. pass.noted o reb) (sym (noted_append (faults ++ asks) (twice us eu) None))
        ∙ sym (noted_append ((faults ++ asks) ++ twice us eu) reb None)
        ∙ ap (pass.noted None) whole ∙ none_least (faults ++ (twice us (ea ++ eu) ++ reb))

    all_same : noted_all us (ea ++ eu) ≡ noted_all us eu
    all_same = (asks_line us scope asked eu).1

    fine : least (faults ++ (twice us (ea ++ eu) ++ reb)) ≡ None → Sim count mid (scope ++ map (entry k) ns) (noted_all us (ea ++ eu)) t × Trailed s t
    fine z = (
      record {
        names = b.names no_reb ∙ ap (λ (l : Ledger). l ++ map (new k) ns) (u.names ∙ ap (λ v. sight v scope) (sym all_same))
            ∙ ap (λ (l : Ledger). sight (noted_all us (ea ++ eu)) scope ++ l) (sym (new_seen ns k lo mid (noted_all us (ea ++ eu)) rise later))
            ∙ sym (map-append (seen (noted_all us (ea ++ eu))) scope (map (entry k) ns));
        found = found ∙ z;
        count = b.count ∙ u.count ∙ sim.count;
        scoped = scoped_more ns k lo mid scope rise sim.scoped;
        later = λ j h. let a : lo ≤ mid = rise_on (places_of ns) lo mid rise in later j (omega arith);
      },
      trailed_then s s2 t (trailed_bound s s2 refl (λ j e h. h))
          (trailed_then s2 s3 t (u.trailed no_twice)
          (trailed_bound s3 t b.trail (λ j e h. ap (λ (l : Ledger). slice_get l j) (b.names no_reb) ∙ get_more s3.names (map (new k) ns) j e h))),
    )
      where
        none : faults ++ (twice us (ea ++ eu) ++ reb) ≡ []
        none = nothing_found (faults ++ (twice us (ea ++ eu) ++ reb)) z

        rest : twice us (ea ++ eu) ++ reb ≡ []
        rest = (both_nothing faults (twice us (ea ++ eu) ++ reb) none).1

        no_reb : reb ≡ []
        no_reb = (both_nothing (twice us (ea ++ eu)) reb rest).1

        no_twice : twice us eu ≡ []
        no_twice = (both_nothing asks (twice us eu) (sym tells ∙ (both_nothing (twice us (ea ++ eu)) reb rest).0)).1

        later : Later lo (noted_all us (ea ++ eu))
        later = subst (λ (v : Used). Later lo v) (sym all_same) (later_all eu lo us (λ e i. events_below lo scope true ps sim.scoped e i) sim.later)

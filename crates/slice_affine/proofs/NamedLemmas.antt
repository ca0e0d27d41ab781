-- The names that faults tell and that events have are tokens of the program, and a name at a place has one event.
use Rattle.std.proofs.Common.{◌≡◌, ℕ, suc, ◌<◌, ◌≤◌, Bool, true, false, ◌&&◌, ◌==◌, List, [], ◌∷◌, ◌++◌, ◌⊎◌, inl, inr, ⊎_elim, Option, Some, None, length, map, refl, ap, sym, subst, ◌∙◌, arith, codes}
use Rattle.std.specs.Prelude.{if◌then◌else◌, nat_le, is_some}
use Rattle.std.specs.List.{flat_map}
use Rattle.std.specs.Map.{keys_of}
use Rattle.slice_num.specs.Name.{is_among}
use Rattle.slice_ast.specs.Code.{Code, End, Cut, Let, Join, Give, If, Pick, Call, PlainProc, PlainProgram}
use Rattle.slice_ast.specs.Tokens.{Mark, Plain, Spelled, Final, more_listed, listed, name_marks, names_after, ref_marks, operand_marks, factor_marks, term_marks, more_marks, terms_marks, sum_marks, cmp_text, arg_marks, param_marks, yield_marks, test_marks, if_end, code_marks, open_marks, block_marks, proc_marks, procs_marks, protocol_marks}
use Rattle.slice_ast.specs.declared.tree.Kind.{Kind}
use Rattle.slice_ast.specs.declared.tree.Kind.TheVariants as kind
use Rattle.slice_ast.specs.declared.tree.Name.{Name}
use Rattle.slice_ast.specs.declared.tree.Number.{Number}
use Rattle.slice_ast.specs.declared.tree.AgentRef.{AgentRef}
use Rattle.slice_ast.specs.declared.tree.AgentRef.TheVariants as ref
use Rattle.slice_ast.specs.declared.tree.Fraction.{Fraction}
use Rattle.slice_ast.specs.declared.tree.Operand.{Operand}
use Rattle.slice_ast.specs.declared.tree.Operand.TheVariants as operand
use Rattle.slice_ast.specs.declared.tree.Term.{Term}
use Rattle.slice_ast.specs.declared.tree.Sum.{Sum}
use Rattle.slice_ast.specs.declared.tree.Param.{Param}
use Rattle.slice_ast.specs.declared.tree.Arg.{Arg}
use Rattle.slice_ast.specs.declared.tree.Arg.TheVariants as arg
use Rattle.slice_affine.specs.Scope.{Scope, Binding, look, bind, bind_number, params_scope, cake_scope}
use Rattle.slice_affine.specs.Looks.{unless, is_of, unbound, rebound, fit, procedure, den_faults, ref_faults, operand_faults, factor_faults, term_faults, sum_faults, arg_faults, pieces_faults, if_faults, pick_faults, faults_calling, call_faults, operand_asks, sum_asks, arg_asks, arg_uses}
use Rattle.slice_affine.specs.Ways.{Event, Stage, Flow, Stop, Then, Split, IsIn}
use Rattle.slice_affine.specs.Rules.{event_of, events, stage, block_flow, procs_flow}
use Rattle.slice_affine.proofs.Spans.{RiseTo}
use Rattle.slice_affine.proofs.Placed.{Placed, PlacedProcs, names_at, ref_at, sum_at, arg_at}
use Rattle.slice_affine.proofs.WayLemmas.{in_left, in_right, in_parts}
use Rattle.slice_affine.proofs.CodeLemmas.{rise_parts, rise_last, rise_tail}
use Rattle.slice_affine.proofs.PlaceLemmas.{rise_in, flat_in, sum_asked_in, arg_asked_in, arg_used_in}
use Rattle.slice_affine.specs.declared.fault.AffineFault.{AffineFault}
use Rattle.slice_affine.specs.declared.fault.AffineFault.TheVariants.{Unbound, Rebound, UsedTwice, AgentRange, Arity, YieldCount, ZeroDen, ProcLimit, Memory}

-- every stage of the flow is so
abbrev pub AllStages : (Stage → Type 0) → Flow → Type 0
AllStages P Stop = Unit {0}
AllStages P (Then s rest) = P s × AllStages P rest
AllStages P (Split a b rest) = AllStages P a × AllStages P b × AllStages P rest

abbrev pub named : List ℕ → ℕ → Name
named word at = record { word = word; at = at }

-- a fault that a statement has on its own: its name, where it tells one, is among these tokens
abbrev pub IsOf : List Mark → AffineFault → Type 0
IsOf ms (Unbound word at) = IsIn (Spelled (named word at)) ms
IsOf ms (Rebound word at) = IsIn (Spelled (named word at)) ms
IsOf ms (UsedTwice word at first) = ⊥
IsOf ms (AgentRange at) = Unit {0}
IsOf ms (Arity at) = Unit {0}
IsOf ms (YieldCount at) = Unit {0}
IsOf ms (ZeroDen at) = Unit {0}
IsOf ms (ProcLimit at) = Unit {0}
IsOf ms Memory = ⊥

each_in : {A : Type 0} (item : A → List Mark) (xs : List A) (x : A) (m : Mark) → IsIn x xs → IsIn m (item x) → IsIn m (more_listed item xs)
each_in item [] x m i j = absurd i
each_in item (y ∷ xs) x m i j = ⊎_elim
    (λ e. inr (in_left m (item y) (more_listed item xs) (subst (λ z. IsIn m (item z)) e j)))
    (λ k. inr (in_right m (item y) (more_listed item xs) (each_in item xs x m k j))) i

first_in : {A : Type 0} (item : A → List Mark) (xs : List A) (x : A) (m : Mark) → IsIn x xs → IsIn m (item x) → IsIn m (listed item xs)
first_in item [] x m i j = absurd i
first_in item (y ∷ xs) x m i j = ⊎_elim
    (λ e. in_left m (item y) (more_listed item xs) (subst (λ z. IsIn m (item z)) e j))
    (λ k. in_right m (item y) (more_listed item xs) (each_in item xs x m k j)) i

terms_in : (ts : List Term) (t : Term) (m : Mark) → IsIn t ts → IsIn m (term_marks t) → IsIn m (more_marks ts)
terms_in [] t m i j = absurd i
terms_in (s ∷ ts) t m i j = ⊎_elim
    (λ e. inr (in_left m (term_marks s) (more_marks ts) (subst (λ z. IsIn m (term_marks z)) e j)))
    (λ k. inr (in_right m (term_marks s) (more_marks ts) (terms_in ts t m k j))) i

term_in : (ts : List Term) (t : Term) (m : Mark) → IsIn t ts → IsIn m (term_marks t) → IsIn m (terms_marks ts)
term_in [] t m i j = absurd i
term_in (s ∷ ts) t m i j = ⊎_elim
    (λ e. in_left m (term_marks s) (more_marks ts) (subst (λ z. IsIn m (term_marks z)) e j))
    (λ k. in_right m (term_marks s) (more_marks ts) (terms_in ts t m k j)) i

names_in : (w : List ℕ) (ns : List Name) (n : Name) → IsIn n ns → IsIn (Spelled n) (names_after w ns)
names_in w [] n i = absurd i
names_in w (x ∷ ns) n i = inr (first_in name_marks (x ∷ ns) n (Spelled n) i (inl refl))

yields_in : (ns : List Name) (n : Name) → IsIn n ns → IsIn (Spelled n) (yield_marks ns)
yields_in [] n i = absurd i
yields_in (x ∷ ns) n i = in_left (Spelled n) (names_after (codes "yield") (x ∷ ns)) (Plain (codes ";") ∷ []) (names_in (codes "yield") (x ∷ ns) n i)

ends_in : (ns : List Name) (end : ℕ) (n : Name) → IsIn n ns → IsIn (Spelled n) (if_end ns end)
ends_in [] end n i = absurd i
ends_in (x ∷ ns) end n i = inr (in_left (Spelled n) (names_after (codes "as") (x ∷ ns)) (Final (codes ";") end ∷ []) (names_in (codes "as") (x ∷ ns) n i))

-- a name that is looked up with one answer alone makes events that differ in their use alone
event_is : (b : Bool) (scope : Scope Binding) (ns : List Name) (e : Event) → IsIn e (events b scope ns) → (e.is_use ≡ b) × (look scope e.name.word ≡ Some (kind.Piece, e.piece)) × IsIn e.name ns
event_is b scope [] e i = absurd i
event_is b scope (n ∷ ns) e i = ⊎_elim (λ a. by (look scope n.word) refl a) (λ a. let r = event_is b scope ns e a in (r.0, r.1, inr r.2))
    (in_parts e (event_of b n (look scope n.word)) (events b scope ns) i)
  where
    by : (o : Option (Kind × Binding)) → look scope n.word ≡ o → IsIn e (event_of b n o) → (e.is_use ≡ b) × (look scope e.name.word ≡ Some (kind.Piece, e.piece)) × IsIn e.name (n ∷ ns)
    by None h a = absurd a
    by (Some (kind.Agent, k)) h a = absurd a
    by (Some (kind.Number, k)) h a = absurd a
    by (Some (kind.Piece, k)) h a = ⊎_elim
        (λ q.
        let x : e.name ≡ n = ap (λ (v : Event). v.name) q in
        (ap (λ (v : Event). v.is_use) q, ap (λ (v : Name). look scope v.word) x ∙ h ∙ ap (λ (v : Binding). Some (kind.Piece, v)) (sym (ap (λ (v : Event). v.piece) q)), inl x))
        (λ z. absurd z) a

name_at_in : (n : Name) (ns : List Name) → IsIn n ns → IsIn n.at (names_at ns)
name_at_in n [] i = absurd i
name_at_in n (m ∷ ns) i = ⊎_elim (λ e. inl (ap (λ (v : Name). v.at) e)) (λ j. inr (name_at_in n ns j)) i

asks_in : (x : Arg) (n : Name) → IsIn n (arg_asks x) → IsIn n.at (arg_at x)
asks_in x n i = arg_asked_in x n.at (name_at_in n (arg_asks x) i)

uses_in : (x : Arg) (n : Name) → IsIn n (arg_uses x) → IsIn n.at (arg_at x)
uses_in x n i = arg_used_in x n.at (name_at_in n (arg_uses x) i)

-- one argument doesn't both ask and use
not_both : (x : Arg) (n m : Name) → IsIn n (arg_asks x) → IsIn m (arg_uses x) → ⊥
not_both (arg.Agent a) n m i j = i
not_both (arg.Piece p) n m i j = i
not_both (arg.Number s) n m i j = j

-- no argument uses a piece by a name that another one asks by
args_apart : (xs : List Arg) (lo hi : ℕ) → RiseTo lo (flat_map arg_at xs) hi → (n m : Name) → IsIn n (flat_map arg_asks xs) → IsIn m (flat_map arg_uses xs) → n.at ≡ m.at → ⊥
args_apart [] lo hi r n m i j e = i
args_apart (x ∷ xs) lo hi r n m i j e =
    let q = rise_parts (arg_at x) (flat_map arg_at xs) lo hi r in
    ⊎_elim
    (λ a. ⊎_elim
    (λ b. not_both x n m a b)
    (λ b.
    let y : n.at < q.0 = (rise_in (arg_at x) lo q.0 n.at q.1 (asks_in x n a)).1 in
    let z : q.0 ≤ m.at = (rise_in (flat_map arg_at xs) q.0 hi m.at q.2 (flat_in arg_uses arg_at arg_used_in xs m.at (name_at_in m (flat_map arg_uses xs) b))).0 in omega arith)
    (in_parts m (arg_uses x) (flat_map arg_uses xs) j))
    (λ a. ⊎_elim
    (λ b.
    let y : m.at < q.0 = (rise_in (arg_at x) lo q.0 m.at q.1 (uses_in x m b)).1 in
    let z : q.0 ≤ n.at = (rise_in (flat_map arg_at xs) q.0 hi n.at q.2 (flat_in arg_asks arg_at arg_asked_in xs n.at (name_at_in n (flat_map arg_asks xs) a))).0 in omega arith)
    (λ b. args_apart xs q.0 hi q.2 n m a b e)
    (in_parts m (arg_uses x) (flat_map arg_uses xs) j))
    (in_parts n (arg_asks x) (flat_map arg_asks xs) i)

abbrev piece_of : Option (Kind × Binding) → Binding
piece_of None = 0
piece_of (Some m) = m.1

same_event : (e d : Event) → e.is_use ≡ d.is_use → e.piece ≡ d.piece → e.name ≡ d.name → e ≡ d
same_event e d a b c = λ i. record { is_use = a i; piece = b i; name = c i }

module _ (ms : List Mark) where
  abbrev Has : Name → Type 0
  Has n = IsIn (Spelled n) ms

  abbrev All : List Name → Type 0
  All ns = (n : Name) → IsIn n ns → Has n

  abbrev Within : List Mark → Type 0
  Within xs = (m : Mark) → IsIn m xs → IsIn m ms

  abbrev In : List AffineFault → Type 0
  In fs = (f : AffineFault) → IsIn f fs → IsOf ms f

  none : In []
  none f i = absurd i

  one : (g : AffineFault) → IsOf ms g → In (g ∷ [])
  one g h f i = ⊎_elim (λ e. subst (λ (z : AffineFault). IsOf ms z) (sym e) h) (λ z. absurd z) i

  both : (fs gs : List AffineFault) → In fs → In gs → In (fs ++ gs)
  both fs gs h k f i = ⊎_elim (λ a. h f a) (λ a. k f a) (in_parts f fs gs i)

  unless_told : (b : Bool) (g : AffineFault) → IsOf ms g → In (unless b g)
  unless_told true g h = none
  unless_told false g h = one g h

  if_told : (b : Bool) (g : AffineFault) → IsOf ms g → In (if b then g ∷ [] else [])
  if_told true g h = one g h
  if_told false g h = none

  flat_told : {A : Type 0} (f : A → List AffineFault) (xs : List A) → ((x : A) → IsIn x xs → In (f x)) → In (flat_map f xs)
  flat_told f [] h = none
  flat_told f (x ∷ xs) h = both (f x) (flat_map f xs) (h x (inl refl)) (flat_told f xs (λ y i. h y (inr i)))

  no_names : All []
  no_names n i = absurd i

  one_name : (m : Name) → Has m → All (m ∷ [])
  one_name m h n i = ⊎_elim (λ e. subst (λ (z : Name). Has z) (sym e) h) (λ z. absurd z) i

  two_names : (m k : Name) → Has m → Has k → All (m ∷ k ∷ [])
  two_names m k h g n i = ⊎_elim (λ e. subst (λ (z : Name). Has z) (sym e) h) (λ z. one_name k g n z) i

  more_names : (xs ys : List Name) → All xs → All ys → All (xs ++ ys)
  more_names xs ys h k n i = ⊎_elim (λ a. h n a) (λ a. k n a) (in_parts n xs ys i)

  flat_names : {A : Type 0} (f : A → List Name) (xs : List A) → ((x : A) → IsIn x xs → All (f x)) → All (flat_map f xs)
  flat_names f [] h = no_names
  flat_names f (x ∷ xs) h = more_names (f x) (flat_map f xs) (h x (inl refl)) (flat_names f xs (λ y i. h y (inr i)))

  name_told : (scope : Scope Binding) (k : Kind) (n : Name) → Has n → In (unbound scope k n)
  name_told scope k n h = unless_told (is_of k (look scope n.word)) (Unbound n.word n.at) h

  names_told : (scope : Scope Binding) (ns : List Name) → All ns → In (pieces_faults scope ns)
  names_told scope ns h = flat_told (unbound scope kind.Piece) ns (λ n i. name_told scope kind.Piece n (h n i))

  rebound_told : (words : List (List ℕ)) (ns : List Name) → All ns → In (rebound words ns)
  rebound_told words [] h = none
  rebound_told words (n ∷ ns) h =
      both (if is_among n.word words then Rebound n.word n.at ∷ [] else []) (rebound (n.word ∷ words) ns) (if_told (is_among n.word words) (Rebound n.word n.at) (h n (inl refl)))
      (rebound_told (n.word ∷ words) ns (λ m i. h m (inr i)))

  den_told : (d : Option Number) → In (den_faults d)
  den_told None = none
  den_told (Some d) = if_told (d.value == 0) (ZeroDen d.at) tt

  -- the parts of a statement, whose tokens are among these
  module _ (count : ℕ) (scope : Scope Binding) where
    ref_told : (a : AgentRef) → Within (ref_marks a) → In (ref_faults count scope a)
    ref_told (ref.Fixed n) h = unless_told (nat_le 1 n.value && nat_le n.value count) (AgentRange n.at) tt
    ref_told (ref.Named x) h = name_told scope kind.Agent x (h (Spelled x) (inl refl))

    operand_told : (o : Operand) → Within (operand_marks o) → In (operand_faults count scope o)
    operand_told (operand.Fraction f) h = den_told f.den
    operand_told (operand.Named x) h = name_told scope kind.Number x (h (Spelled x) (inl refl))
    operand_told (operand.Value a p) h =
        let tail : List Mark = Plain (codes ",") ∷ Spelled p ∷ Plain (codes ")") ∷ [] in
        both (ref_faults count scope a) (unbound scope kind.Piece p) (ref_told a (λ m i. h m (inr (inr (in_left m (ref_marks a) tail i)))))
        (name_told scope kind.Piece p (h (Spelled p) (inr (inr (in_right (Spelled p) (ref_marks a) tail (inr (inl refl)))))))

    factor_told : (f : Option Fraction) → In (factor_faults count scope f)
    factor_told None = none
    factor_told (Some f) = den_told f.den

    sum_told : (s : Sum) → Within (sum_marks s) → In (sum_faults count scope s)
    sum_told s h = flat_told (term_faults count scope) s.terms (λ t i.
        both (factor_faults count scope t.factor) (operand_faults count scope t.operand) (factor_told t.factor)
        (operand_told t.operand (λ m j. h m (term_in s.terms t m i (in_right m (factor_marks t.factor) (operand_marks t.operand) j)))))

    arg_told : (x : Arg) → Within (arg_marks x) → In (arg_faults count scope x)
    arg_told (arg.Agent a) h = ref_told a (λ m i. h m (inr i))
    arg_told (arg.Piece p) h = name_told scope kind.Piece p (h (Spelled p) (inr (inl refl)))
    arg_told (arg.Number s) h = sum_told s (λ m i. h m (inr i))

  operand_has : (o : Operand) → Within (operand_marks o) → All (operand_asks o)
  operand_has (operand.Fraction f) h = no_names
  operand_has (operand.Named x) h = no_names
  operand_has (operand.Value a p) h =
      let tail : List Mark = Plain (codes ",") ∷ Spelled p ∷ Plain (codes ")") ∷ [] in
      one_name p (h (Spelled p) (inr (inr (in_right (Spelled p) (ref_marks a) tail (inr (inl refl))))))

  sum_has : (s : Sum) → Within (sum_marks s) → All (sum_asks s)
  sum_has s h = flat_names (λ t. operand_asks t.operand) s.terms (λ t i.
      operand_has t.operand (λ m j. h m (term_in s.terms t m i (in_right m (factor_marks t.factor) (operand_marks t.operand) j))))

  asks_has : (x : Arg) → Within (arg_marks x) → All (arg_asks x)
  asks_has (arg.Agent a) h = no_names
  asks_has (arg.Piece p) h = no_names
  asks_has (arg.Number s) h = sum_has s (λ m i. h m (inr i))

  uses_has : (x : Arg) → Within (arg_marks x) → All (arg_uses x)
  uses_has (arg.Agent a) h = no_names
  uses_has (arg.Piece p) h = one_name p (h (Spelled p) (inr (inl refl)))
  uses_has (arg.Number s) h = no_names

  -- no piece is asked and used by one name
  abbrev Apart : List Name → List Name → Type 0
  Apart asked used = (n m : Name) → IsIn n asked → IsIn m used → n.at ≡ m.at → ⊥

  -- of a stage: its faults tell names of the program, and a name has one event
  pub record Sound (s : Stage) : Type 0 where
    pub faults : In s.faults
    pub rebinds : In s.rebinds
    pub has : (e : Event) → IsIn e s.events → Has e.name
    pub same : (e d : Event) → IsIn e s.events → IsIn d s.events → e.name.at ≡ d.name.at → e ≡ d

  -- names at one place are one name
  module _ (unique : (m n : Name) → Has m → Has n → m.at ≡ n.at → m ≡ n) where
    pub stage_sound : (scope : Scope Binding) (faults : List AffineFault) (asked used ns : List Name) → In faults → All asked → All used → All ns → Apart asked used → Sound (stage scope faults asked used ns)
    stage_sound scope faults asked used ns hf ha hu hn apart = record {
      faults = hf;
      rebinds = rebound_told (keys_of scope) ns hn;
      has = λ e i. has e (in_parts e (events false scope asked) (events true scope used) i);
      same = λ e d i j s. same e d (in_parts e (events false scope asked) (events true scope used) i) (in_parts d (events false scope asked) (events true scope used) j) s;
    }
      where
        has : (e : Event) → IsIn e (events false scope asked) ⊎ IsIn e (events true scope used) → Has e.name
        has e i = ⊎_elim (λ a. ha e.name (event_is false scope asked e a).2) (λ a. hu e.name (event_is true scope used e a).2) i

        near : (b : Bool) (ns : List Name) (e d : Event) → All ns → IsIn e (events b scope ns) → IsIn d (events b scope ns) → e.name.at ≡ d.name.at → e ≡ d
        near b ns e d h i j s =
            let x = event_is b scope ns e i in
            let y = event_is b scope ns d j in
            let n : e.name ≡ d.name = unique e.name d.name (h e.name x.2) (h d.name y.2) s in
            let o : Some (kind.Piece, e.piece) ≡ Some (kind.Piece, d.piece) = sym x.1 ∙ ap (λ (v : Name). look scope v.word) n ∙ y.1 in
            same_event e d (x.0 ∙ sym y.0) (ap piece_of o) n

        same : (e d : Event) → IsIn e (events false scope asked) ⊎ IsIn e (events true scope used) → IsIn d (events false scope asked) ⊎ IsIn d (events true scope used) → e.name.at ≡ d.name.at → e ≡ d
        same e d (inl i) (inl j) s = near false asked e d ha i j s
        same e d (inr i) (inr j) s = near true used e d hu i j s
        same e d (inl i) (inr j) s = absurd (apart e.name d.name (event_is false scope asked e i).2 (event_is true scope used d j).2 s)
        same e d (inr i) (inl j) s = absurd (apart d.name e.name (event_is false scope asked d j).2 (event_is true scope used e i).2 (sym s))

    nothing_asked : (used : List Name) → Apart [] used
    nothing_asked used n m i j s = i

    nothing_used : (asked : List Name) → Apart asked []
    nothing_used asked n m i j s = j

    pub code_sound : (count : ℕ) (procs : List PlainProc) (scope : Scope Binding) (c : Code) (ys : List Name) (lo hi : ℕ) → Placed lo c ys hi → Within (code_marks c) → All ys → AllStages Sound (block_flow count procs scope c ys)
    code_sound count procs scope End ys lo hi p h hy = (stage_sound scope (pieces_faults scope ys) [] ys [] (names_told scope ys hy) no_names hy no_names (nothing_asked ys), tt)
    code_sound count procs scope (Cut a x s l r rest) ys lo hi p h hy =
        let tail : List Mark = Plain (codes "as") ∷ Spelled l ∷ Plain (codes ",") ∷ Spelled r ∷ Plain (codes ";") ∷ code_marks rest in
        let second : List Mark = Spelled x ∷ Plain (codes "at") ∷ (sum_marks s ++ tail) in
        let on : (m : Mark) → IsIn m tail → IsIn m ms = λ m i. h m (inr (in_right m (ref_marks a) second (inr (inr (in_right m (sum_marks s) tail i))))) in
        let amount : Within (sum_marks s) = λ m i. h m (inr (in_right m (ref_marks a) second (inr (inr (in_left m (sum_marks s) tail i))))) in
        let hx : Has x = h (Spelled x) (inr (in_right (Spelled x) (ref_marks a) second (inl refl))) in
        let R = ref_faults count scope a in
        let P = pieces_faults scope (x ∷ []) in
        let ns : List ℕ = l.at ∷ r.at ∷ [] in
        let rise = rise_last (ref_at a) (x.at ∷ (sum_at s ++ ns)) lo p.0 p.1 in
        let apart : Apart (sum_asks s) (x ∷ []) = λ n m i j e. ⊎_elim
        (λ same.
        let y : n.at ≡ x.at = e ∙ ap (λ (v : Name). v.at) same in
        let z : suc x.at ≤ n.at = (rise_in (sum_at s) (suc x.at) (rise_parts (sum_at s) ns (suc x.at) p.0 rise.1).0 n.at (rise_parts (sum_at s) ns (suc x.at) p.0 rise.1).1 (sum_asked_in s n.at (name_at_in n (sum_asks s) i))).0 in omega arith)
        (λ z. z) j in (
          stage_sound scope ((R ++ P) ++ sum_faults count scope s) (sum_asks s) (x ∷ []) (l ∷ r ∷ [])
              (both (R ++ P) (sum_faults count scope s) (both R P (ref_told count scope a (λ m i. h m (inr (in_left m (ref_marks a) second i)))) (names_told scope (x ∷ []) (one_name x hx))) (sum_told count scope s amount))
              (sum_has s amount) (one_name x hx) (two_names l r (on (Spelled l) (inr (inl refl))) (on (Spelled r) (inr (inr (inr (inl refl)))))) apart,
          code_sound count procs (bind (l ∷ r ∷ []) scope) rest ys p.0 hi p.2 (λ m i. on m (inr (inr (inr (inr (inr i)))))) hy,
        )
    code_sound count procs scope (Let n s rest) ys lo hi p h hy =
        let tail : List Mark = Plain (codes ";") ∷ code_marks rest in
        let amount : Within (sum_marks s) = λ m i. h m (inr (inr (inr (in_left m (sum_marks s) tail i)))) in (
          stage_sound scope (sum_faults count scope s) (sum_asks s) [] (n ∷ []) (sum_told count scope s amount) (sum_has s amount) no_names (one_name n (h (Spelled n) (inr (inl refl)))) (nothing_used (sum_asks s)),
          code_sound count procs (bind_number n scope) rest ys p.0 hi p.2 (λ m i. h m (inr (inr (inr (in_right m (sum_marks s) tail (inr i)))))) hy,
        )
    code_sound count procs scope (Join x y n rest) ys lo hi p h hy =
        let used : All (x ∷ y ∷ []) = two_names x y (h (Spelled x) (inr (inl refl))) (h (Spelled y) (inr (inr (inr (inl refl))))) in (
          stage_sound scope (pieces_faults scope (x ∷ y ∷ [])) [] (x ∷ y ∷ []) (n ∷ []) (names_told scope (x ∷ y ∷ []) used) no_names used (one_name n (h (Spelled n) (inr (inr (inr (inr (inr (inl refl)))))))) (nothing_asked (x ∷ y ∷ [])),
          code_sound count procs (bind (n ∷ []) scope) rest ys p.0 hi p.2 (λ m i. h m (inr (inr (inr (inr (inr (inr (inr i)))))))) hy,
        )
    code_sound count procs scope (Give x a rest) ys lo hi p h hy =
        let tail : List Mark = Plain (codes ";") ∷ code_marks rest in
        let used : All (x ∷ []) = one_name x (h (Spelled x) (inr (inl refl))) in (
          stage_sound scope (pieces_faults scope (x ∷ []) ++ ref_faults count scope a) [] (x ∷ []) []
              (both (pieces_faults scope (x ∷ [])) (ref_faults count scope a) (names_told scope (x ∷ []) used) (ref_told count scope a (λ m i. h m (inr (inr (inr (in_left m (ref_marks a) tail i))))))) no_names used no_names (nothing_asked (x ∷ [])),
          code_sound count procs scope rest ys p.0 hi p.2 (λ m i. h m (inr (inr (inr (in_right m (ref_marks a) tail (inr i)))))) hy,
        )
    code_sound count procs scope (If l o r y us n zs ns end rest) ys lo hi p h hy =
        let five : List Mark = if_end ns end ++ code_marks rest in
        let four : List Mark = yield_marks zs ++ five in
        let three : List Mark = Plain (codes "}") ∷ Plain (codes "else") ∷ Plain (codes "{") ∷ (code_marks n ++ four) in
        let two : List Mark = yield_marks us ++ three in
        let next : List Mark = Plain (codes "{") ∷ (code_marks y ++ two) in
        let T = test_marks l o r in
        let on1 : (m : Mark) → IsIn m (code_marks y ++ two) → IsIn m ms = λ m i. h m (in_right m T next (inr i)) in
        let on2 : (m : Mark) → IsIn m two → IsIn m ms = λ m i. on1 m (in_right m (code_marks y) two i) in
        let on3 : (m : Mark) → IsIn m (code_marks n ++ four) → IsIn m ms = λ m i. on2 m (in_right m (yield_marks us) three (inr (inr (inr i)))) in
        let on4 : (m : Mark) → IsIn m four → IsIn m ms = λ m i. on3 m (in_right m (code_marks n) four i) in
        let on5 : (m : Mark) → IsIn m five → IsIn m ms = λ m i. on4 m (in_right m (yield_marks zs) five i) in
        let rs : List Mark = Plain (cmp_text o) ∷ sum_marks r in
        let wl : Within (sum_marks l) = λ m i. h m (in_left m T next (inr (in_left m (sum_marks l) rs i))) in
        let wr : Within (sum_marks r) = λ m i. h m (in_left m T next (inr (in_right m (sum_marks l) rs (inr i)))) in
        let names : All ns = λ m i. on5 (Spelled m) (in_left (Spelled m) (if_end ns end) (code_marks rest) (ends_in ns end m i)) in (
          stage_sound scope (sum_faults count scope l ++ sum_faults count scope r) (sum_asks l ++ sum_asks r) [] []
              (both (sum_faults count scope l) (sum_faults count scope r) (sum_told count scope l wl) (sum_told count scope r wr))
              (more_names (sum_asks l) (sum_asks r) (sum_has l wl) (sum_has r wr)) no_names no_names (nothing_used (sum_asks l ++ sum_asks r)),
          (
            code_sound count procs scope y us p.0 p.1 p.5 (λ m i. on1 m (in_left m (code_marks y) two i)) (λ m i. on2 (Spelled m) (in_left (Spelled m) (yield_marks us) three (yields_in us m i))),
            code_sound count procs scope n zs p.1 p.2 p.6 (λ m i. on3 m (in_left m (code_marks n) four i)) (λ m i. on4 (Spelled m) (in_left (Spelled m) (yield_marks zs) five (yields_in zs m i))),
            (
              stage_sound scope (if_faults us zs ns end) [] [] ns (unless_told ((length ns == length us) && (length ns == length zs)) (YieldCount end) tt) no_names no_names names (nothing_asked []),
              code_sound count procs (bind ns scope) rest ys p.3 hi p.8 (λ m i. on5 m (in_right m (if_end ns end) (code_marks rest) i)) hy,
            ),
          ),
        )
    code_sound count procs scope (Pick a ps ns end rest) ys lo hi p h hy =
        let tail : List Mark = Final (codes ";") end ∷ code_marks rest in
        let third : List Mark = names_after (codes "as") ns ++ tail in
        let second : List Mark = names_after (codes "from") ps ++ third in
        let used : All ps = λ m i. h (Spelled m) (inr (in_right (Spelled m) (ref_marks a) second (in_left (Spelled m) (names_after (codes "from") ps) third (names_in (codes "from") ps m i)))) in
        let on : (m : Mark) → IsIn m third → IsIn m ms = λ m i. h m (inr (in_right m (ref_marks a) second (in_right m (names_after (codes "from") ps) third i))) in
        let R = ref_faults count scope a in
        let P = pieces_faults scope ps in (
          stage_sound scope ((R ++ P) ++ pick_faults ps ns end) [] ps ns
              (both (R ++ P) (pick_faults ps ns end) (both R P (ref_told count scope a (λ m i. h m (inr (in_left m (ref_marks a) second i)))) (names_told scope ps used))
              (unless_told (nat_le 2 (length ps) && (length ns == length ps)) (YieldCount end) tt))
              no_names used (λ m i. on (Spelled m) (in_left (Spelled m) (names_after (codes "as") ns) tail (names_in (codes "as") ns m i))) (nothing_asked ps),
          code_sound count procs (bind ns scope) rest ys p.0 hi p.2 (λ m i. on m (in_right m (names_after (codes "as") ns) tail (inr i))) hy,
        )
    code_sound count procs scope (Call f xs ns end rest) ys lo hi p h hy =
        let tail : List Mark = Final (codes ";") end ∷ code_marks rest in
        let third : List Mark = names_after (codes "as") ns ++ tail in
        let second : List Mark = Plain (codes ")") ∷ third in
        let args : (x : Arg) → IsIn x xs → Within (arg_marks x) = λ x i m j. h m (inr (inr (inr (in_left m (listed arg_marks xs) second (first_in arg_marks xs x m i j))))) in
        let on : (m : Mark) → IsIn m third → IsIn m ms = λ m i. h m (inr (inr (inr (in_right m (listed arg_marks xs) second (inr i))))) in
        let A : List ℕ = flat_map arg_at xs in
        let last : List ℕ = names_at ns ++ end ∷ [] in
        let rise = rise_parts A last lo p.0 (rise_tail f.at (A ++ last) lo p.0 p.1) in (
          stage_sound scope (call_faults procs f xs ns end ++ flat_map (arg_faults count scope) xs) (flat_map arg_asks xs) (flat_map arg_uses xs) ns
              (both (call_faults procs f xs ns end) (flat_map (arg_faults count scope) xs) (call_told (procedure procs f.word) (h (Spelled f) (inr (inl refl)))) (flat_told (arg_faults count scope) xs (λ x i. arg_told count scope x (args x i))))
              (flat_names arg_asks xs (λ x i. asks_has x (args x i))) (flat_names arg_uses xs (λ x i. uses_has x (args x i)))
              (λ m i. on (Spelled m) (in_left (Spelled m) (names_after (codes "as") ns) tail (names_in (codes "as") ns m i)))
              (args_apart xs lo rise.0 rise.1),
          code_sound count procs (bind ns scope) rest ys p.0 hi p.2 (λ m i. on m (in_right m (names_after (codes "as") ns) tail (inr i))) hy,
        )
      where
        call_told : (o : Option PlainProc) → Has f → In (faults_calling o f xs ns end)
        call_told None hf = one (Unbound f.word f.at) hf
        call_told (Some q) hf = both (unless (fit xs q.params) (Arity f.at)) (unless (length ns == length q.body.yields) (YieldCount end))
            (unless_told (fit xs q.params) (Arity f.at) tt) (unless_told (length ns == length q.body.yields) (YieldCount end) tt)

    params_in : (ps : List Param) → Within (listed param_marks ps) → All (map (λ q. q.name) ps)
    params_in ps h n i = h (Spelled n) (by ps n i)
      where
        more : (ps : List Param) (n : Name) → IsIn n (map (λ q. q.name) ps) → IsIn (Spelled n) (more_listed param_marks ps)
        more [] n i = absurd i
        more (p ∷ ps) n i = ⊎_elim (λ e. inr (inr (inl (ap (λ (v : Name). Spelled v) e)))) (λ j. inr (inr (inr (more ps n j)))) i

        by : (ps : List Param) (n : Name) → IsIn n (map (λ q. q.name) ps) → IsIn (Spelled n) (listed param_marks ps)
        by [] n i = absurd i
        by (p ∷ ps) n i = ⊎_elim (λ e. inr (inl (ap (λ (v : Name). Spelled v) e))) (λ j. inr (inr (more ps n j))) i

    pub procs_sound : (p : PlainProgram) (earlier qs : List PlainProc) (lo hi : ℕ) → PlacedProcs lo p qs hi → Within (procs_marks qs ++ protocol_marks p.name p.agents p.body) → AllStages Sound (procs_flow p earlier qs)
    procs_sound p earlier [] lo hi q h = (
      record { faults = unless_told (nat_le 1 p.agents.value && nat_le p.agents.value 16) (AgentRange p.agents.at) tt; rebinds = none; has = λ e i. absurd i; same = λ e d i j s. absurd i },
      code_sound p.agents.value earlier cake_scope p.body [] q.0 hi q.2 (λ m i. h m (inr (inr (inr (inr (inr (in_left m (code_marks p.body) (Plain (codes "}") ∷ []) i))))))) no_names,
    )
    procs_sound p earlier (d ∷ qs) lo hi q h =
        let rest : List Mark = protocol_marks p.name p.agents p.body in
        let all : List Mark = procs_marks qs ++ rest in
        let O : List Mark = open_marks d.body in
        let B : List Mark = block_marks d.body in
        let first : Within (proc_marks d) = λ m i. h m (in_left m (proc_marks d ++ procs_marks qs) rest (in_left m (proc_marks d) (procs_marks qs) i)) in
        let block : Within B = λ m i. first m (inr (inr (inr (in_right m (listed param_marks d.params) (Plain (codes ")") ∷ B) (inr i))))) in
        let inside : (m : Mark) → IsIn m (code_marks d.body.code ++ yield_marks d.body.yields) → IsIn m ms = λ m i. block m (in_left m O (Plain (codes "}") ∷ []) (inr i)) in
        let hd : Has d.name = first (Spelled d.name) (inr (inl refl)) in
        let D : List AffineFault = if is_some (procedure earlier d.name.word) then Rebound d.name.word d.name.at ∷ [] else [] in
        let L : List AffineFault = if length earlier == 64 then ProcLimit d.name.at ∷ [] else [] in (
          record {
            faults = both D L (if_told (is_some (procedure earlier d.name.word)) (Rebound d.name.word d.name.at) hd) (if_told (length earlier == 64) (ProcLimit d.name.at) tt);
            rebinds = rebound_told [] (map (λ x. x.name) d.params) (params_in d.params (λ m i. first m (inr (inr (inr (in_left m (listed param_marks d.params) (Plain (codes ")") ∷ B) i))))));
            has = λ e i. absurd i;
            same = λ e f i j s. absurd i;
          },
          (
            code_sound p.agents.value earlier (params_scope d.params) d.body.code d.body.yields q.0 q.1 q.3 (λ m i. inside m (in_left m (code_marks d.body.code) (yield_marks d.body.yields) i))
                (λ n i. inside (Spelled n) (in_right (Spelled n) (code_marks d.body.code) (yield_marks d.body.yields) (yields_in d.body.yields n i))),
            procs_sound p (earlier ++ d ∷ []) qs q.1 hi q.4 (λ m i. h m (over m (in_parts m (procs_marks qs) rest i))),
            tt,
          ),
        )
      where
        over : (m : Mark) → IsIn m (procs_marks qs) ⊎ IsIn m (protocol_marks p.name p.agents p.body) → IsIn m ((proc_marks d ++ procs_marks qs) ++ protocol_marks p.name p.agents p.body)
        over m (inl i) = in_left m (proc_marks d ++ procs_marks qs) (protocol_marks p.name p.agents p.body) (in_right m (proc_marks d) (procs_marks qs) i)
        over m (inr i) = in_right m (proc_marks d ++ procs_marks qs) (protocol_marks p.name p.agents p.body) i

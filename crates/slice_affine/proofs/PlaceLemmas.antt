-- A stage stands where its statement does.
use Rattle.std.proofs.Common.{◌≡◌, ℕ, suc, ◌<◌, ◌≤◌, Bool, true, false, ◌&&◌, ◌==◌, List, [], ◌∷◌, ◌++◌, inl, inr, ⊎_elim, Option, Some, None, length, refl, ap, sym, subst, arith}
use Rattle.std.specs.Prelude.{if◌then◌else◌, nat_le}
use Rattle.std.specs.List.{flat_map}
use Rattle.std.specs.Map.{keys_of}
use Rattle.slice_num.specs.Name.{is_among}
use Rattle.slice_ast.specs.Code.{PlainProc}
use Rattle.slice_ast.specs.declared.tree.Kind.{Kind}
use Rattle.slice_ast.specs.declared.tree.Kind.TheVariants as kind
use Rattle.slice_ast.specs.declared.tree.Name.{Name}
use Rattle.slice_ast.specs.declared.tree.Number.{Number}
use Rattle.slice_ast.specs.declared.tree.AgentRef.{AgentRef}
use Rattle.slice_ast.specs.declared.tree.AgentRef.TheVariants as ref
use Rattle.slice_ast.specs.declared.tree.Fraction.{Fraction}
use Rattle.slice_ast.specs.declared.tree.Operand.{Operand}
use Rattle.slice_ast.specs.declared.tree.Operand.TheVariants as operand
use Rattle.slice_ast.specs.declared.tree.Term.{Term}
use Rattle.slice_ast.specs.declared.tree.Sum.{Sum}
use Rattle.slice_ast.specs.declared.tree.Arg.{Arg}
use Rattle.slice_ast.specs.declared.tree.Arg.TheVariants as arg
use Rattle.slice_affine.specs.Scope.{Scope, Binding, look}
use Rattle.slice_affine.specs.Looks.{unless, is_of, unbound, rebound, den_faults, zero_den, fit, procedure, faults_calling, call_faults, ref_faults, operand_faults, factor_faults, term_faults, sum_faults, arg_faults, pieces_faults, operand_asks, sum_asks, arg_asks, arg_uses}
use Rattle.slice_affine.specs.Faults.{place_of}
use Rattle.slice_affine.specs.Ways.{Event, IsIn}
use Rattle.slice_affine.specs.Rules.{event_of, events, stage}
use Rattle.slice_affine.proofs.Spans.{AreOnce, Lies, RiseTo}
use Rattle.slice_affine.proofs.Placed.{names_at, ref_at, den_at, fraction_at, factor_at, operand_at, term_at, sum_at, arg_at}
use Rattle.slice_affine.proofs.WayLemmas.{in_left, in_right, in_parts}
use Rattle.slice_affine.proofs.SimLemmas.{rise_on}
use Rattle.slice_affine.proofs.CodeLemmas.{rise_parts, rise_from, rise_last}
use Rattle.slice_affine.specs.declared.fault.AffineFault.{AffineFault}
use Rattle.slice_affine.specs.declared.fault.AffineFault.TheVariants.{Unbound, Rebound, Arity, YieldCount, AgentRange, ZeroDen}

-- each fault of the list stands at one of these places
abbrev pub At : List AffineFault → List ℕ → Type 0
At fs xs = (f : AffineFault) → IsIn f fs → IsIn (place_of f) xs

pub at_none : (xs : List ℕ) → At [] xs
at_none xs f i = absurd i

pub at_one : (g : AffineFault) (xs : List ℕ) → IsIn (place_of g) xs → At (g ∷ []) xs
at_one g xs h f i = ⊎_elim (λ e. subst (λ (z : AffineFault). IsIn (place_of z) xs) (sym e) h) (λ z. absurd z) i

at_both : (fs gs : List AffineFault) (xs ys : List ℕ) → At fs xs → At gs ys → At (fs ++ gs) (xs ++ ys)
at_both fs gs xs ys h k f i = ⊎_elim (λ a. in_left (place_of f) xs ys (h f a)) (λ a. in_right (place_of f) xs ys (k f a)) (in_parts f fs gs i)

pub at_same : (fs gs : List AffineFault) (xs : List ℕ) → At fs xs → At gs xs → At (fs ++ gs) xs
at_same fs gs xs h k f i = ⊎_elim (λ a. h f a) (λ a. k f a) (in_parts f fs gs i)

pub at_wider : (fs : List AffineFault) (xs ys : List ℕ) → ((x : ℕ) → IsIn x xs → IsIn x ys) → At fs xs → At fs ys
at_wider fs xs ys h k f i = h (place_of f) (k f i)

pub unless_at : (b : Bool) (g : AffineFault) (xs : List ℕ) → IsIn (place_of g) xs → At (unless b g) xs
unless_at true g xs h = at_none xs
unless_at false g xs h = at_one g xs h

pub if_at : (b : Bool) (g : AffineFault) (xs : List ℕ) → IsIn (place_of g) xs → At (if b then g ∷ [] else []) xs
if_at true g xs h = at_one g xs h
if_at false g xs h = at_none xs

pub flat_at : {A : Type 0} (f : A → List AffineFault) (g : A → List ℕ) → ((x : A) → At (f x) (g x)) → (xs : List A) → At (flat_map f xs) (flat_map g xs)
flat_at f g h [] = at_none []
flat_at f g h (x ∷ xs) = at_both (f x) (flat_map f xs) (g x) (flat_map g xs) (h x) (flat_at f g h xs)

module _ (count : ℕ) (scope : Scope Binding) where
  name_at : (k : Kind) (n : Name) → At (unbound scope k n) (n.at ∷ [])
  name_at k n = unless_at (is_of k (look scope n.word)) (Unbound n.word n.at) (n.at ∷ []) (inl refl)

  pub ref_in : (a : AgentRef) → At (ref_faults count scope a) (ref_at a)
  ref_in (ref.Fixed n) = unless_at (nat_le 1 n.value && nat_le n.value count) (AgentRange n.at) (n.at ∷ []) (inl refl)
  ref_in (ref.Named x) = name_at kind.Agent x

  den_in : (d : Option Number) → At (den_faults d) (den_at d)
  den_in None = at_none []
  den_in (Some d) = if_at (d.value == 0) (ZeroDen d.at) (d.at ∷ []) (inl refl)

  fraction_in : (f : Fraction) → At (zero_den f) (fraction_at f)
  fraction_in f g i = inr (den_in f.den g i)

  operand_in : (o : Operand) → At (operand_faults count scope o) (operand_at o)
  operand_in (operand.Fraction f) = fraction_in f
  operand_in (operand.Named x) = name_at kind.Number x
  operand_in (operand.Value a p) = at_both (ref_faults count scope a) (unbound scope kind.Piece p) (ref_at a) (p.at ∷ []) (ref_in a) (name_at kind.Piece p)

  factor_in : (f : Option Fraction) → At (factor_faults count scope f) (factor_at f)
  factor_in None = at_none []
  factor_in (Some f) = fraction_in f

  term_in : (t : Term) → At (term_faults count scope t) (term_at t)
  term_in t = at_both (factor_faults count scope t.factor) (operand_faults count scope t.operand) (factor_at t.factor) (operand_at t.operand) (factor_in t.factor) (operand_in t.operand)

  pub sum_in : (m : Sum) → At (sum_faults count scope m) (sum_at m)
  sum_in m = flat_at (term_faults count scope) term_at term_in m.terms

  pub arg_in : (x : Arg) → At (arg_faults count scope x) (arg_at x)
  arg_in (arg.Agent a) = ref_in a
  arg_in (arg.Piece p) = name_at kind.Piece p
  arg_in (arg.Number m) = sum_in m

  pub pieces_in : (ps : List Name) → At (pieces_faults scope ps) (names_at ps)
  pieces_in [] = at_none []
  pieces_in (p ∷ ps) = at_both (unbound scope kind.Piece p) (pieces_faults scope ps) (p.at ∷ []) (names_at ps) (name_at kind.Piece p) (pieces_in ps)

pub rebound_in : (words : List (List ℕ)) (ns : List Name) → At (rebound words ns) (names_at ns)
rebound_in words [] = at_none []
rebound_in words (n ∷ ns) =
    at_both (if is_among n.word words then Rebound n.word n.at ∷ [] else []) (rebound (n.word ∷ words) ns) (n.at ∷ []) (names_at ns)
    (if_at (is_among n.word words) (Rebound n.word n.at) (n.at ∷ []) (inl refl)) (rebound_in (n.word ∷ words) ns)

pub call_in : (procs : List PlainProc) (f : Name) (xs : List Arg) (ns : List Name) (end : ℕ) → At (call_faults procs f xs ns end) (f.at ∷ end ∷ [])
call_in procs f xs ns end = by (procedure procs f.word)
  where
    by : (o : Option PlainProc) → At (faults_calling o f xs ns end) (f.at ∷ end ∷ [])
    by None = at_one (Unbound f.word f.at) (f.at ∷ end ∷ []) (inl refl)
    by (Some p) = at_same (unless (fit xs p.params) (Arity f.at)) (unless (length ns == length p.body.yields) (YieldCount end)) (f.at ∷ end ∷ [])
        (unless_at (fit xs p.params) (Arity f.at) (f.at ∷ end ∷ []) (inl refl))
        (unless_at (length ns == length p.body.yields) (YieldCount end) (f.at ∷ end ∷ []) (inr (inl refl)))

-- the events of names stand where these do
pub event_name : (b : Bool) (n : Name) (o : Option (Kind × Binding)) (e : Event) → IsIn e (event_of b n o) → (e.name ≡ n) × (e.is_use ≡ b)
event_name b n None e i = absurd i
event_name b n (Some (kind.Agent, k)) e i = absurd i
event_name b n (Some (kind.Number, k)) e i = absurd i
event_name b n (Some (kind.Piece, k)) e i = ⊎_elim (λ q. (ap (λ (v : Event). v.name) q, ap (λ (v : Event). v.is_use) q)) (λ z. absurd z) i

pub events_in : (b : Bool) (scope : Scope Binding) (ns : List Name) (e : Event) → IsIn e (events b scope ns) → IsIn e.name.at (names_at ns) × (e.is_use ≡ b)
events_in b scope [] e i = absurd i
events_in b scope (n ∷ ns) e i = ⊎_elim
    (λ a. let r = event_name b n (look scope n.word) e a in (inl (ap (λ (v : Name). v.at) r.0), r.1))
    (λ a. let r = events_in b scope ns e a in (inr r.0, r.1))
    (in_parts e (event_of b n (look scope n.word)) (events b scope ns) i)

pub rise_in : (xs : List ℕ) (lo hi x : ℕ) → RiseTo lo xs hi → IsIn x xs → (lo ≤ x) × (x < hi)
rise_in [] lo hi x r i = absurd i
rise_in (y ∷ xs) lo hi x r i = ⊎_elim
    (λ e. let a : lo ≤ y = r.0 in let b : suc y ≤ hi = rise_on xs (suc y) hi r.1 in (omega arith, omega arith))
    (λ j. let a : lo ≤ y = r.0 in let q = rise_in xs (suc y) hi x r.1 j in let b : suc y ≤ x = q.0 in let c : x < hi = q.1 in (omega arith, omega arith)) i

once_append : (xs ys : List Event) → AreOnce xs → AreOnce ys → ((e : Event) → IsIn e xs → IsIn e ys → ⊥) → AreOnce (xs ++ ys)
once_append [] ys h k d = k
once_append (x ∷ xs) ys h k d =
    ((λ i. ⊎_elim (λ a. h.0 a) (λ a. d x (inl refl) a) (in_parts x xs ys i)), once_append xs ys h.1 k (λ e i j. d e (inr i) j))

events_once : (b : Bool) (scope : Scope Binding) (ns : List Name) (lo hi : ℕ) → RiseTo lo (names_at ns) hi → AreOnce (events b scope ns)
events_once b scope [] lo hi r = tt
events_once b scope (n ∷ ns) lo hi r =
    once_append (event_of b n (look scope n.word)) (events b scope ns) (single (look scope n.word)) (events_once b scope ns (suc n.at) hi r.1)
    (λ e i j.
    let x : e.name ≡ n = (event_name b n (look scope n.word) e i).0 in
    let y : suc n.at ≤ e.name.at = (rise_in (names_at ns) (suc n.at) hi e.name.at r.1 (events_in b scope ns e j).0).0 in
    let z : e.name.at ≡ n.at = ap (λ (v : Name). v.at) x in absurd (omega arith))
  where
    single : (o : Option (Kind × Binding)) → AreOnce (event_of b n o)
    single None = tt
    single (Some (kind.Agent, k)) = tt
    single (Some (kind.Number, k)) = tt
    single (Some (kind.Piece, k)) = ((λ z. z), tt)

-- a stage lies where its statement's places do
pub stage_lies : (scope : Scope Binding) (faults : List AffineFault) (asked ps ns : List Name) (xs : List ℕ) (lo mid : ℕ) → RiseTo lo xs mid → At faults xs
    → ((x : ℕ) → IsIn x (names_at asked) → IsIn x xs) → ((x : ℕ) → IsIn x (names_at ps) → IsIn x xs) → ((x : ℕ) → IsIn x (names_at ns) → IsIn x xs)
    → RiseTo lo (names_at asked) mid → RiseTo lo (names_at ps) mid → Lies lo mid (stage scope faults asked ps ns)
stage_lies scope faults asked ps ns xs lo mid rise at ia ip iN ra rp = record {
  faults = λ f i. rise_in xs lo mid (place_of f) rise (at f i);
  rebinds = λ f i. rise_in xs lo mid (place_of f) rise (iN (place_of f) (rebound_in (keys_of scope) ns f i));
  events = λ e i. rise_in xs lo mid e.name.at rise (⊎_elim
      (λ a. ia e.name.at (events_in false scope asked e a).0) (λ a. ip e.name.at (events_in true scope ps e a).0)
      (in_parts e (events false scope asked) (events true scope ps) i));
  once = once_append (events false scope asked) (events true scope ps) (events_once false scope asked lo mid ra) (events_once true scope ps lo mid rp)
      (λ e i j. clash (events_in false scope asked e i).1 (events_in true scope ps e j).1);
}
  where
    clash : {b : Bool} → b ≡ false → b ≡ true → ⊥
    clash x y = cc

rise_join : (xs ys : List ℕ) (lo mid hi : ℕ) → RiseTo lo xs mid → RiseTo mid ys hi → RiseTo lo (xs ++ ys) hi
rise_join [] ys lo mid hi h k = rise_from ys lo mid hi h k
rise_join (x ∷ xs) ys lo mid hi h k = (h.0, rise_join xs ys (suc x) mid hi h.1 k)

-- the pieces that are asked stand among the places of a sum, in their order
operand_rise : (o : Operand) (lo hi : ℕ) → RiseTo lo (operand_at o) hi → RiseTo lo (names_at (operand_asks o)) hi
operand_rise (operand.Fraction f) lo hi r = rise_on (fraction_at f) lo hi r
operand_rise (operand.Named x) lo hi r = rise_on (x.at ∷ []) lo hi r
operand_rise (operand.Value a p) lo hi r = rise_last (ref_at a) (p.at ∷ []) lo hi r

pub names_append : (ms ns : List Name) → names_at (ms ++ ns) ≡ names_at ms ++ names_at ns
names_append [] ns = refl
names_append (m ∷ ms) ns = ap (λ xs. m.at ∷ xs) (names_append ms ns)

-- of parts whose names rise in them, the names rise
pub flat_rise : {A : Type 0} (f : A → List Name) (g : A → List ℕ) → ((x : A) (lo hi : ℕ) → RiseTo lo (g x) hi → RiseTo lo (names_at (f x)) hi)
    → (xs : List A) (lo hi : ℕ) → RiseTo lo (flat_map g xs) hi → RiseTo lo (names_at (flat_map f xs)) hi
flat_rise f g h [] lo hi r = r
flat_rise f g h (x ∷ xs) lo hi r =
    let p = rise_parts (g x) (flat_map g xs) lo hi r in
    subst (λ (z : List ℕ). RiseTo lo z hi) (sym (names_append (f x) (flat_map f xs)))
    (rise_join (names_at (f x)) (names_at (flat_map f xs)) lo p.0 hi (h x lo p.0 p.1) (flat_rise f g h xs p.0 hi p.2))

term_rise : (t : Term) (lo hi : ℕ) → RiseTo lo (term_at t) hi → RiseTo lo (names_at (operand_asks t.operand)) hi
term_rise t lo hi r = operand_rise t.operand lo hi (rise_last (factor_at t.factor) (operand_at t.operand) lo hi r)

pub sum_rise : (m : Sum) (lo hi : ℕ) → RiseTo lo (sum_at m) hi → RiseTo lo (names_at (sum_asks m)) hi
sum_rise m lo hi r = flat_rise (λ t. operand_asks t.operand) term_at term_rise m.terms lo hi r

pub arg_rise : (x : Arg) (lo hi : ℕ) → RiseTo lo (arg_at x) hi → RiseTo lo (names_at (arg_asks x)) hi
arg_rise (arg.Agent a) lo hi r = rise_on (ref_at a) lo hi r
arg_rise (arg.Piece p) lo hi r = rise_on (p.at ∷ []) lo hi r
arg_rise (arg.Number m) lo hi r = sum_rise m lo hi r

pub use_rise : (x : Arg) (lo hi : ℕ) → RiseTo lo (arg_at x) hi → RiseTo lo (names_at (arg_uses x)) hi
use_rise (arg.Agent a) lo hi r = rise_on (ref_at a) lo hi r
use_rise (arg.Piece p) lo hi r = r
use_rise (arg.Number m) lo hi r = rise_on (sum_at m) lo hi r

-- the same without the order
pub flat_in : {A : Type 0} (f : A → List Name) (g : A → List ℕ) → ((x : A) (n : ℕ) → IsIn n (names_at (f x)) → IsIn n (g x))
    → (xs : List A) (n : ℕ) → IsIn n (names_at (flat_map f xs)) → IsIn n (flat_map g xs)
flat_in f g h [] n i = i
flat_in f g h (x ∷ xs) n i = ⊎_elim (λ a. in_left n (g x) (flat_map g xs) (h x n a)) (λ a. in_right n (g x) (flat_map g xs) (flat_in f g h xs n a))
    (in_parts n (names_at (f x)) (names_at (flat_map f xs)) (subst (λ (z : List ℕ). IsIn n z) (names_append (f x) (flat_map f xs)) i))

operand_asked : (o : Operand) (n : ℕ) → IsIn n (names_at (operand_asks o)) → IsIn n (operand_at o)
operand_asked (operand.Fraction f) n i = absurd i
operand_asked (operand.Named x) n i = absurd i
operand_asked (operand.Value a p) n i = in_right n (ref_at a) (p.at ∷ []) i

pub sum_asked_in : (m : Sum) (n : ℕ) → IsIn n (names_at (sum_asks m)) → IsIn n (sum_at m)
sum_asked_in m n i = flat_in (λ t. operand_asks t.operand) term_at (λ t k j. in_right k (factor_at t.factor) (operand_at t.operand) (operand_asked t.operand k j)) m.terms n i

pub arg_asked_in : (x : Arg) (n : ℕ) → IsIn n (names_at (arg_asks x)) → IsIn n (arg_at x)
arg_asked_in (arg.Agent a) n i = absurd i
arg_asked_in (arg.Piece p) n i = absurd i
arg_asked_in (arg.Number m) n i = sum_asked_in m n i

pub arg_used_in : (x : Arg) (n : ℕ) → IsIn n (names_at (arg_uses x)) → IsIn n (arg_at x)
arg_used_in (arg.Agent a) n i = absurd i
arg_used_in (arg.Piece p) n i = i
arg_used_in (arg.Number m) n i = absurd i

-- two parts after each other
pub two_rise : {A : Type 0} (f : A → List Name) (g : A → List ℕ) → ((x : A) (lo hi : ℕ) → RiseTo lo (g x) hi → RiseTo lo (names_at (f x)) hi)
    → (x y : A) (lo hi : ℕ) → RiseTo lo (g x ++ g y) hi → RiseTo lo (names_at (f x ++ f y)) hi
two_rise f g h x y lo hi r =
    let p = rise_parts (g x) (g y) lo hi r in
    subst (λ (z : List ℕ). RiseTo lo z hi) (sym (names_append (f x) (f y)))
    (rise_join (names_at (f x)) (names_at (f y)) lo p.0 hi (h x lo p.0 p.1) (h y p.0 hi p.2))

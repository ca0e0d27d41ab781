-- What a line without a fault says, and what expansion needs of it.
use Rattle.std.proofs.Common.{◌≡◌, ◌∙◌, ℕ, ◌++◌, List, [], ◌∷◌, Bool, true, false, ◌&&◌, Option, Some, None, arith, refl, ap, sym, subst, inr}
use Rattle.std.specs.Prelude.{if◌then◌else◌, ⊤, nat_le}
use Rattle.std.specs.List.{flat_map}
use Rattle.std.proofs.lemmas.Bool.Decides.{nat_tests}
use Rattle.slice_ast.specs.declared.tree.Kind.{Kind}
use Rattle.slice_ast.specs.declared.tree.Kind.TheVariants as kind
use Rattle.slice_ast.specs.declared.tree.Name.{Name}
use Rattle.slice_ast.specs.declared.tree.AgentRef.{AgentRef}
use Rattle.slice_ast.specs.declared.tree.AgentRef.TheVariants as ref
use Rattle.slice_ast.specs.declared.tree.Operand.{Operand}
use Rattle.slice_ast.specs.declared.tree.Operand.TheVariants as operand
use Rattle.slice_ast.specs.declared.tree.Term.{Term}
use Rattle.slice_ast.specs.declared.tree.Arg.{Arg}
use Rattle.slice_ast.specs.declared.tree.Arg.TheVariants as arg
use Rattle.slice_affine.proofs.Scan.{least}
use Rattle.slice_affine.specs.Pass.{earlier}
use Rattle.slice_affine.specs.Faults.{is_before}
use Rattle.slice_affine.specs.Scope.{Scope, Binding, look}
use Rattle.slice_affine.proofs.Scan.{Used, noted, noted_all, told, twice, stage_faults, Scanned, Fine, Bad, and_then, unless_fault}
use Rattle.slice_affine.specs.Ways.{Event, Stage}
use Rattle.slice_affine.specs.Looks.{unless, is_kind, is_of, unbound, ref_faults, operand_faults, factor_faults, term_faults, arg_faults, pieces_faults, operand_asks, arg_asks, arg_uses}
use Rattle.slice_affine.specs.Rules.{event_of, events}
use Rattle.slice_affine.specs.declared.fault.AffineFault.{AffineFault}
use Rattle.slice_affine.specs.declared.fault.AffineFault.TheVariants.{Unbound, AgentRange}
use Rattle.slice_expand.proofs.Clean.{Unused, Sorts, sort_at, spend, AgentOk, OperandOk, TermsOk, Spends, ArgOk, ArgsOk, arg_pieces}
use Rattle.slice_expand.proofs.Agreed.{Over, not_both, IsSort, Agrees, Reaches, use_of, agrees_spend, over_spend}

-- ---- empty lists
pub none_left : {A : Type 0} (xs ys : List A) → xs ++ ys ≡ [] → xs ≡ []
none_left [] ys h = refl
none_left (x ∷ xs) ys h = absurd cc

pub none_right : {A : Type 0} (xs ys : List A) → xs ++ ys ≡ [] → ys ≡ []
none_right [] ys h = h
none_right (x ∷ xs) ys h = absurd cc

pub unless_none : (b : Bool) (f : AffineFault) → unless b f ≡ [] → b ≡ true
unless_none true f h = refl
unless_none false f h = absurd cc

pub and_left : (a b : Bool) → (a && b) ≡ true → a ≡ true
and_left true b h = refl
and_left false b h = h

pub and_right : (a b : Bool) → (a && b) ≡ true → b ≡ true
and_right true b h = h
and_right false b h = not_both false h refl

least_none : (fs : List AffineFault) → least fs ≡ None → fs ≡ []
unfolding least earlier
least_none [] h = refl
least_none (f ∷ fs) h = by (least fs) h
  where
    by : (o : Option AffineFault) → earlier (Some f) o ≡ None → (f ∷ fs) ≡ []
    by None g = let bad : Some f ≡ None = g in absurd cc
    by (Some e) g = with_test (is_before e f) g
      where
        with_test : (b : Bool) → (if b then Some e else Some f) ≡ None → (f ∷ fs) ≡ []
        with_test true k = let bad : Some e ≡ None = k in absurd cc
        with_test false k = let bad : Some f ≡ None = k in absurd cc

-- ---- lines
pub record IsOpen (us : Used) (l : Stage) (next : Scanned) (vs : Used) : Type 0 where
  pub looks : l.faults ≡ []
  pub events : twice us l.events ≡ []
  pub rebinds : l.rebinds ≡ []
  pub goes_on : next ≡ Fine vs

abbrev pub used_of : Scanned → Used → Used
used_of (Fine us) vs = us
used_of (Bad f) vs = vs

pub fine_same : (us vs : Used) → Fine us ≡ Fine vs → us ≡ vs
fine_same us vs h = ap (λ x. used_of x us) h

pub never : {A : Type 0} (f : AffineFault) (vs : Used) → Bad f ≡ Fine vs → A
never f vs h = absurd cc

pub opened : (us : Used) (l : Stage) (next : Scanned) (vs : Used) → unless_fault (least (stage_faults us l)) next ≡ Fine vs → IsOpen us l next vs
opened us l next vs h = by (least (stage_faults us l)) refl h
  where
    by : (o : Option AffineFault) → least (stage_faults us l) ≡ o → unless_fault o next ≡ Fine vs → IsOpen us l next vs
    by (Some f) e g = never f vs g
    by None e g =
        let none = least_none (stage_faults us l) e in
        let rest = none_right l.faults (twice us l.events ++ l.rebinds) none in
        record { looks = none_left l.faults (twice us l.events ++ l.rebinds) none; events = none_left (twice us l.events) l.rebinds rest; rebinds = none_right (twice us l.events) l.rebinds rest; goes_on = g }

pub record IsSplit (x : Scanned) (f : Used → Scanned) (vs : Used) : Type 0 where
  pub first : Used
  pub is : x ≡ Fine first
  pub then_is : f first ≡ Fine vs

pub split : (x : Scanned) (f : Used → Scanned) (vs : Used) → and_then x f ≡ Fine vs → IsSplit x f vs
split (Fine us) f vs h = record { first = us; is = refl; then_is = h }
split (Bad e) f vs h = never e vs h

-- ---- names of a kind
pub record HasKind (scope : Scope Binding) (k : Kind) (x : Name) : Type 0 where
  pub binding : Binding
  pub is : look scope x.word ≡ Some (k, binding)

kinds_same : (j k : Kind) → is_kind j k ≡ true → j ≡ k
kinds_same kind.Agent kind.Agent h = refl
kinds_same kind.Agent kind.Piece h = not_both false h refl
kinds_same kind.Agent kind.Number h = not_both false h refl
kinds_same kind.Piece kind.Agent h = not_both false h refl
kinds_same kind.Piece kind.Piece h = refl
kinds_same kind.Piece kind.Number h = not_both false h refl
kinds_same kind.Number kind.Agent h = not_both false h refl
kinds_same kind.Number kind.Piece h = not_both false h refl
kinds_same kind.Number kind.Number h = refl

pub has_kind : (scope : Scope Binding) (k : Kind) (x : Name) → unbound scope k x ≡ [] → HasKind scope k x
has_kind scope k x h = by (look scope x.word) refl (unless_none (is_of k (look scope x.word)) (Unbound x.word x.at) h)
  where
    by : (o : Option (Kind × Binding)) → look scope x.word ≡ o → is_of k o ≡ true → HasKind scope k x
    by None e g = not_both false g refl
    by (Some m) e g = record { binding = m.1; is = e ∙ ap (λ (j : Kind). Some (j, m.1)) (kinds_same m.0 k g) }

-- ---- what is asked
abbrev pub Each : (Name → Type 0) → List Name → Type 0
Each P [] = ⊤
Each P (x ∷ xs) = P x × Each P xs

pub each_left : (P : Name → Type 0) (xs ys : List Name) → Each P (xs ++ ys) → Each P xs
each_left P [] ys h = tt
each_left P (x ∷ xs) ys h = (h.0, each_left P xs ys h.1)

pub each_right : (P : Name → Type 0) (xs ys : List Name) → Each P (xs ++ ys) → Each P ys
each_right P [] ys h = h
each_right P (x ∷ xs) ys h = each_right P xs ys h.1

-- a piece that is asked for wasn't used
abbrev pub IsFree : Scope Binding → Used → Name → Type 0
IsFree scope us x = (b : Binding) → look scope x.word ≡ Some (kind.Piece, b) → us b ≡ None

pub record AreAsked (scope : Scope Binding) (us : Used) (asked : List Name) (es : List Event) : Type 0 where
  pub free : Each (IsFree scope us) asked
  pub uses : twice us es ≡ []
  pub after : noted_all us (events false scope asked ++ es) ≡ noted_all us es

-- a piece that is found
abbrev some_piece : Binding → Option (Kind × Binding)
some_piece b = Some (kind.Piece, b)

told_none : (o : Option ℕ) (e : Event) → told o e ≡ [] → o ≡ None
told_none None e h = refl
told_none (Some p) e h = absurd cc

pub asked : (scope : Scope Binding) (us : Used) (xs : List Name) (es : List Event) → twice us (events false scope xs ++ es) ≡ [] → AreAsked scope us xs es
asked scope us [] es h = record { free = tt; uses = h; after = refl }
asked scope us (x ∷ xs) es h = by (look scope x.word) refl h (λ k. asked scope us xs es k)
  where
    none : (o : Option (Kind × Binding)) → look scope x.word ≡ o → ((b : Binding) → o ≡ Some (kind.Piece, b) → us b ≡ None) → IsFree scope us x
    none o e f b g = f b (sym e ∙ g)

    by : (o : Option (Kind × Binding)) → look scope x.word ≡ o → twice us ((event_of false x o ++ events false scope xs) ++ es) ≡ []
        → (twice us (events false scope xs ++ es) ≡ [] → AreAsked scope us xs es)
        → AreAsked scope us (x ∷ xs) es
    by None e g rest = let r = rest g in
        record {
          free = (none None e (λ b k. let bad : None ≡ Some (kind.Piece, b) = k in absurd cc), r.free);
          uses = r.uses;
          after = ap (λ (o : Option (Kind × Binding)). noted_all us ((event_of false x o ++ events false scope xs) ++ es)) e ∙ r.after;
        }
    by (Some (kind.Agent, b)) e g rest = let r = rest g in
        record {
          free = (none (Some (kind.Agent, b)) e (λ c k. absurd cc), r.free);
          uses = r.uses;
          after = ap (λ (o : Option (Kind × Binding)). noted_all us ((event_of false x o ++ events false scope xs) ++ es)) e ∙ r.after;
        }
    by (Some (kind.Number, b)) e g rest = let r = rest g in
        record {
          free = (none (Some (kind.Number, b)) e (λ c k. absurd cc), r.free);
          uses = r.uses;
          after = ap (λ (o : Option (Kind × Binding)). noted_all us ((event_of false x o ++ events false scope xs) ++ es)) e ∙ r.after;
        }
    by (Some (kind.Piece, b)) e g rest =
        let ev : Event = record { is_use = false; piece = b; name = x } in
        let r = rest (none_right (told (us b) ev) (twice us (events false scope xs ++ es)) g) in
        let here : us b ≡ None = told_none (us b) ev (none_left (told (us b) ev) (twice us (events false scope xs ++ es)) g) in
        record {
          free = ((λ c k. ap us (piece_same c b (sym k ∙ e)) ∙ here), r.free);
          uses = r.uses;
          after = ap (λ (o : Option (Kind × Binding)). noted_all us ((event_of false x o ++ events false scope xs) ++ es)) e ∙ r.after;
        }
      where
        binding_of : Option (Kind × Binding) → Binding
        binding_of None = 0
        binding_of (Some m) = m.1

        piece_same : (c d : Binding) → some_piece c ≡ some_piece d → c ≡ d
        piece_same c d q = ap binding_of q

-- ---- agents, sums, arguments
pub agent_ok : (n : ℕ) (scope : Scope Binding) (us : Used) (ss : Sorts) (a : AgentRef) → Agrees scope us ss → ref_faults n scope a ≡ [] → AgentOk n ss a
agent_ok n scope us ss (ref.Fixed m) g h =
    let both = unless_none (nat_le 1 m.value && nat_le m.value n) (AgentRange m.at) h in
    let l = and_left (nat_le 1 m.value) (nat_le m.value n) both in
    let r = and_right (nat_le 1 m.value) (nat_le m.value n) both in
    (grind (arith, nat_tests), grind (arith, nat_tests))
agent_ok n scope us ss (ref.Named x) g h = let k = has_kind scope kind.Agent x h in subst (λ o. IsSort us o (sort_at ss x.word)) k.is (g x.word)

pub free_unused : (scope : Scope Binding) (us : Used) (ss : Sorts) (x : Name) → Agrees scope us ss → unbound scope kind.Piece x ≡ [] → IsFree scope us x → sort_at ss x.word ≡ Unused
free_unused scope us ss x g h f = let k = has_kind scope kind.Piece x h in subst (λ o. IsSort us o (sort_at ss x.word)) k.is (g x.word) (f k.binding k.is)

operand_ok : (n : ℕ) (scope : Scope Binding) (us : Used) (ss : Sorts) (o : Operand) → Agrees scope us ss → operand_faults n scope o ≡ [] → Each (IsFree scope us) (operand_asks o) → OperandOk n ss o
operand_ok n scope us ss (operand.Fraction f) g h e = tt
operand_ok n scope us ss (operand.Named x) g h e = tt
operand_ok n scope us ss (operand.Value a x) g h e =
    (agent_ok n scope us ss a g (none_left (ref_faults n scope a) (unbound scope kind.Piece x) h), free_unused scope us ss x g (none_right (ref_faults n scope a) (unbound scope kind.Piece x) h) e.0)

pub terms_ok : (n : ℕ) (scope : Scope Binding) (us : Used) (ss : Sorts) (ts : List Term) → Agrees scope us ss → flat_map (term_faults n scope) ts ≡ []
    → Each (IsFree scope us) (flat_map (λ (t : Term). operand_asks t.operand) ts) → TermsOk n ss ts
terms_ok n scope us ss [] g h e = tt
terms_ok n scope us ss (t ∷ ts) g h e =
    let rest = flat_map (λ (u : Term). operand_asks u.operand) ts in
    let here = none_left (term_faults n scope t) (flat_map (term_faults n scope) ts) h in (
      operand_ok n scope us ss t.operand g (none_right (factor_faults n scope t.factor) (operand_faults n scope t.operand) here) (each_left (IsFree scope us) (operand_asks t.operand) rest e),
      terms_ok n scope us ss ts g (none_right (term_faults n scope t) (flat_map (term_faults n scope) ts) h) (each_right (IsFree scope us) (operand_asks t.operand) rest e),
    )

arg_ok : (n : ℕ) (scope : Scope Binding) (us : Used) (ss : Sorts) (x : Arg) → Agrees scope us ss → arg_faults n scope x ≡ [] → Each (IsFree scope us) (arg_asks x) → ArgOk n ss x
arg_ok n scope us ss (arg.Agent a) g h e = agent_ok n scope us ss a g h
arg_ok n scope us ss (arg.Piece x) g h e = tt
arg_ok n scope us ss (arg.Number s) g h e = terms_ok n scope us ss s.terms g h e

pub args_ok : (n : ℕ) (scope : Scope Binding) (us : Used) (ss : Sorts) (xs : List Arg) → Agrees scope us ss → flat_map (arg_faults n scope) xs ≡ []
    → Each (IsFree scope us) (flat_map arg_asks xs) → ArgsOk n ss xs
args_ok n scope us ss [] g h e = tt
args_ok n scope us ss (x ∷ xs) g h e = (
  arg_ok n scope us ss x g (none_left (arg_faults n scope x) (flat_map (arg_faults n scope) xs) h) (each_left (IsFree scope us) (arg_asks x) (flat_map arg_asks xs) e),
  args_ok n scope us ss xs g (none_right (arg_faults n scope x) (flat_map (arg_faults n scope) xs) h) (each_right (IsFree scope us) (arg_asks x) (flat_map arg_asks xs) e),
)

pub arg_uses_are : (xs : List Arg) → arg_pieces xs ≡ flat_map arg_uses xs
arg_uses_are [] = refl
arg_uses_are (arg.Agent a ∷ xs) = arg_uses_are xs
arg_uses_are (arg.Piece x ∷ xs) = ap (λ ys. x ∷ ys) (arg_uses_are xs)
arg_uses_are (arg.Number s ∷ xs) = arg_uses_are xs

pub arg_pieces_bound : (n : ℕ) (scope : Scope Binding) (xs : List Arg) → flat_map (arg_faults n scope) xs ≡ [] → pieces_faults scope (arg_pieces xs) ≡ []
arg_pieces_bound n scope [] h = refl
arg_pieces_bound n scope (arg.Agent a ∷ xs) h = arg_pieces_bound n scope xs (none_right (ref_faults n scope a) (flat_map (arg_faults n scope) xs) h)
arg_pieces_bound n scope (arg.Piece x ∷ xs) h =
    (λ i. none_left (unbound scope kind.Piece x) (flat_map (arg_faults n scope) xs) h i ++ arg_pieces_bound n scope xs (none_right (unbound scope kind.Piece x) (flat_map (arg_faults n scope) xs) h) i)
arg_pieces_bound n scope (arg.Number s ∷ xs) h = arg_pieces_bound n scope xs (none_right (arg_faults n scope (arg.Number s)) (flat_map (arg_faults n scope) xs) h)

-- ---- what is used
-- the pieces are used in order, each for the first time
pub spends : (n : ℕ) (scope : Scope Binding) (xs : List Name) (us : Used) (ss : Sorts) (go : Sorts → Type 0) → Agrees scope us ss → pieces_faults scope xs ≡ [] → twice us (events true scope xs) ≡ []
    → ((ts : Sorts) → Agrees scope (noted_all us (events true scope xs)) ts → Reaches scope us ss scope (noted_all us (events true scope xs)) ts → go ts) → Spends xs ss go
spends n scope [] us ss go a h e f = f ss a (λ base m o. o)
spends n scope (x ∷ xs) us ss go a h e f =
    let k = has_kind scope kind.Piece x (none_left (unbound scope kind.Piece x) (pieces_faults scope xs) h) in
    by k.binding k.is (spends n scope xs (noted us (use_of k.binding x)) (spend ss x.word) go (agrees_spend scope us ss x k.binding (inr k.is) a) (none_right (unbound scope kind.Piece x) (pieces_faults scope xs) h))
  where
    by : (b : Binding) → look scope x.word ≡ Some (kind.Piece, b)
        → (twice (noted us (use_of b x)) (events true scope xs) ≡ []
        → ((ts : Sorts) → Agrees scope (noted_all (noted us (use_of b x)) (events true scope xs)) ts → Reaches scope (noted us (use_of b x)) (spend ss x.word) scope (noted_all (noted us (use_of b x)) (events true scope xs)) ts → go ts)
        → Spends xs (spend ss x.word) go)
        → Spends (x ∷ xs) ss go
    by b is rest =
        let later : Used = noted us (use_of b x) in
        let used : twice us (event_of true x (Some (kind.Piece, b)) ++ events true scope xs) ≡ [] = subst (λ o. twice us (event_of true x o ++ events true scope xs) ≡ []) is e in
        let free : us b ≡ None = told_none (us b) (use_of b x) (none_left (told (us b) (use_of b x)) (twice later (events true scope xs)) used) in
        let sort : sort_at ss x.word ≡ Unused = subst (λ o. IsSort us o (sort_at ss x.word)) is (a x.word) free in
        let same : noted_all later (events true scope xs) ≡ noted_all us (events true scope (x ∷ xs)) = sym (ap (λ (o : Option (Kind × Binding)). noted_all us (event_of true x o ++ events true scope xs)) is) in (
          sort,
          rest (none_right (told (us b) (use_of b x)) (twice later (events true scope xs)) used)
              (λ ts g r. f ts (subst (λ (vs : Used). Agrees scope vs ts) same g)
              (λ base m o. subst (λ (vs : Used). Over base m scope vs ts) same (r base m (over_spend base m scope us ss x b is o)))),
        )

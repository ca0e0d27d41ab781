-- What the parts of a statement look at and ask, as lists.
use Rattle.std.proofs.Common.{◌≡◌, ℕ, true, false, cond, List, [], ◌∷◌, ◌++◌, Option, Some, None, map, refl, ap, sym, ◌∙◌, bytes_eq}
use Rattle.std.specs.List.{flat_map}
use Rattle.std.specs.Option.{option_map}
use Rattle.std.proofs.lemmas.Grind.{flat_map-append}
use Rattle.slice_ast.specs.declared.tree.Kind.{Kind}
use Rattle.slice_ast.specs.declared.tree.Kind.TheVariants as kind
use Rattle.slice_ast.specs.declared.tree.Name.{Name}
use Rattle.slice_ast.specs.declared.tree.AgentRef.{AgentRef}
use Rattle.slice_ast.specs.declared.tree.AgentRef.TheVariants as ref
use Rattle.slice_ast.specs.declared.tree.Fraction.{Fraction}
use Rattle.slice_ast.specs.declared.tree.Operand.{Operand}
use Rattle.slice_ast.specs.declared.tree.Operand.TheVariants as operand
use Rattle.slice_ast.specs.declared.tree.Term.{Term}
use Rattle.slice_ast.specs.declared.tree.Sum.{Sum}
use Rattle.slice_ast.specs.declared.tree.Arg.{Arg}
use Rattle.slice_ast.specs.declared.tree.Arg.TheVariants as arg
use Rattle.slice_affine.specs.Scope.{Scope, Binding, look}
use Rattle.slice_affine.specs.Looks.{unless, is_of, unbound, ref_faults, operand_faults, factor_faults, term_faults, sum_faults, arg_faults, pieces_faults, operand_asks, sum_asks, arg_asks, arg_uses}
use Rattle.slice_affine.proofs.Scan.{Used}
use Rattle.slice_affine.specs.Pass.{State, Ledger, looked, stepped, told_at, asked_one, used, used_one, looked_name, looked_factor, looked_operand, looked_term, looked_sum, looked_arg, looked_args, looked_pieces, asked_operand, asked_term, asked_sum, asked_arg, asked_args, used_args}
use Rattle.slice_affine.proofs.FoundLemmas.{looked_append, looked_nothing}
use Rattle.slice_affine.specs.declared.fault.AffineFault.{AffineFault}
use Rattle.slice_affine.specs.declared.fault.AffineFault.TheVariants.{Unbound}

-- what is kept of a binding in a scope
abbrev pub of_kind : Used → Kind → Binding → Option ℕ
of_kind us kind.Agent b = None
of_kind us kind.Piece b = us b
of_kind us kind.Number b = None

abbrev pub mean : Used → Kind × Binding → Kind × Option ℕ
mean us m = (m.0, of_kind us m.0 m.1)

abbrev pub seen : Used → List ℕ × (Kind × Binding) → List ℕ × (Kind × Option ℕ)
seen us e = (e.0, mean us e.1)

-- a scope as the checker has it
abbrev pub sight : Used → Scope Binding → Ledger
sight us scope = map (seen us) scope

pub look_sight : (us : Used) (scope : Scope Binding) (w : List ℕ) → look (sight us scope) w ≡ option_map (mean us) (look scope w)
look_sight us [] w = refl
look_sight us (e ∷ scope) w =
    elim (bytes_eq w e.0) as (λ b. cond b (Some (mean us e.1)) (look (sight us scope) w) ≡ option_map (mean us) (cond b (Some e.1) (look scope w)))
    [ true ↦ refl | false ↦ look_sight us scope w ]

unbound_sight : (us : Used) (scope : Scope Binding) (k : Kind) (n : Name) → unbound (sight us scope) k n ≡ unbound scope k n
unbound_sight us scope k n = ap (λ o. unless (is_of k o) (Unbound n.word n.at)) (look_sight us scope n.word) ∙ by (look scope n.word)
  where
    by : (o : Option (Kind × Binding)) → unless (is_of k (option_map (mean us) o)) (Unbound n.word n.at) ≡ unless (is_of k o) (Unbound n.word n.at)
    by None = refl
    by (Some m) = refl

ref_sight : (count : ℕ) (us : Used) (scope : Scope Binding) (a : AgentRef) → ref_faults count (sight us scope) a ≡ ref_faults count scope a
ref_sight count us scope (ref.Fixed n) = refl
ref_sight count us scope (ref.Named x) = unbound_sight us scope kind.Agent x

operand_sight : (count : ℕ) (us : Used) (scope : Scope Binding) (o : Operand) → operand_faults count (sight us scope) o ≡ operand_faults count scope o
operand_sight count us scope (operand.Fraction f) = refl
operand_sight count us scope (operand.Named x) = unbound_sight us scope kind.Number x
operand_sight count us scope (operand.Value a p) = cong2 (ref_sight count us scope a) (unbound_sight us scope kind.Piece p)
  where
    cong2 : {a b c d : List AffineFault} → a ≡ b → c ≡ d → a ++ c ≡ b ++ d
    cong2 x y = cc

term_sight : (count : ℕ) (us : Used) (scope : Scope Binding) (t : Term) → term_faults count (sight us scope) t ≡ term_faults count scope t
term_sight count us scope t = ap (λ fs. factor_faults count scope t.factor ++ fs) (operand_sight count us scope t.operand)

flat_same : {A : Type 0} (f g : A → List AffineFault) → ((x : A) → f x ≡ g x) → (xs : List A) → flat_map f xs ≡ flat_map g xs
flat_same f g h [] = refl
flat_same f g h (x ∷ xs) = let a = h x in let b = flat_same f g h xs in cc

sum_sight : (count : ℕ) (us : Used) (scope : Scope Binding) (m : Sum) → sum_faults count (sight us scope) m ≡ sum_faults count scope m
sum_sight count us scope m = flat_same (term_faults count (sight us scope)) (term_faults count scope) (term_sight count us scope) m.terms

pieces_sight : (count : ℕ) (us : Used) (scope : Scope Binding) (ps : List Name) → pieces_faults (sight us scope) ps ≡ pieces_faults scope ps
pieces_sight count us scope ps = flat_same (unbound (sight us scope) kind.Piece) (unbound scope kind.Piece) (unbound_sight us scope kind.Piece) ps

arg_sight : (count : ℕ) (us : Used) (scope : Scope Binding) (x : Arg) → arg_faults count (sight us scope) x ≡ arg_faults count scope x
arg_sight count us scope (arg.Agent a) = ref_sight count us scope a
arg_sight count us scope (arg.Piece p) = unbound_sight us scope kind.Piece p
arg_sight count us scope (arg.Number m) = sum_sight count us scope m

-- one step for each item, that each finds faults
stepped_looked : {A : Type 0} (step : A → State → State) (g : ℕ → Ledger → A → List AffineFault) → ((x : A) (s : State) → step x s ≡ looked (g s.count s.names x) s)
    → (xs : List A) (s : State) → stepped step xs s ≡ looked (flat_map (g s.count s.names) xs) s
stepped_looked step g h [] s = sym (looked_nothing s)
stepped_looked step g h (x ∷ xs) s =
    ap (stepped step xs) (h x s) ∙ stepped_looked step g h xs (looked (g s.count s.names x) s)
    ∙ sym (looked_append (g s.count s.names x) (flat_map (g s.count s.names) xs) s)

operand_looked : (o : Operand) (s : State) → looked_operand o s ≡ looked (operand_faults s.count s.names o) s
operand_looked (operand.Fraction f) s = refl
operand_looked (operand.Named x) s = refl
operand_looked (operand.Value a p) s = sym (looked_append (ref_faults s.count s.names a) (unbound s.names kind.Piece p) s)

factor_looked : (f : Option Fraction) (s : State) → looked_factor f s ≡ looked (factor_faults s.count s.names f) s
factor_looked None s = sym (looked_nothing s)
factor_looked (Some f) s = refl

term_looked : (t : Term) (s : State) → looked_term t s ≡ looked (term_faults s.count s.names t) s
term_looked t s =
    ap (looked_operand t.operand) (factor_looked t.factor s) ∙ operand_looked t.operand (looked (factor_faults s.count s.names t.factor) s)
    ∙ sym (looked_append (factor_faults s.count s.names t.factor) (operand_faults s.count s.names t.operand) s)

pub sum_looked : (m : Sum) (s : State) → looked_sum m s ≡ looked (sum_faults s.count s.names m) s
sum_looked m s = stepped_looked looked_term (λ c l t. term_faults c l t) term_looked m.terms s

arg_looked : (x : Arg) (s : State) → looked_arg x s ≡ looked (arg_faults s.count s.names x) s
arg_looked (arg.Agent a) s = refl
arg_looked (arg.Piece p) s = refl
arg_looked (arg.Number m) s = sum_looked m s

pub args_looked : (xs : List Arg) (s : State) → looked_args xs s ≡ looked (flat_map (arg_faults s.count s.names) xs) s
args_looked xs s = stepped_looked looked_arg (λ c l x. arg_faults c l x) arg_looked xs s

pub pieces_looked : (ps : List Name) (s : State) → looked_pieces ps s ≡ looked (pieces_faults s.names ps) s
pieces_looked ps s = stepped_looked (looked_name kind.Piece) (λ c l p. unbound l kind.Piece p) (λ x t. refl) ps s

-- the faults of names that are asked
abbrev pub asks_told : Ledger → List Name → List AffineFault
asks_told l ns = flat_map (λ n. told_at (look l n.word) n) ns

terms_asked : (ts : List Term) (s : State) → stepped asked_term ts s ≡ looked (asks_told s.names (flat_map (λ t. operand_asks t.operand) ts)) s
terms_asked [] s = sym (looked_nothing s)
terms_asked (t ∷ ts) s = by t.operand (λ s. terms_asked ts s)
  where
    rest : List Name
    rest = flat_map (λ t. operand_asks t.operand) ts

    by : (o : Operand) → ((s : State) → stepped asked_term ts s ≡ looked (asks_told s.names rest) s) → stepped asked_term ts (asked_operand o s) ≡ looked (asks_told s.names (operand_asks o ++ rest)) s
    by (operand.Fraction f) h = h s
    by (operand.Named x) h = h s
    by (operand.Value a p) h = h (asked_one p s) ∙ sym (looked_append (told_at (look s.names p.word) p) (asks_told s.names rest) s)

pub sum_asked : (m : Sum) (s : State) → asked_sum m s ≡ looked (asks_told s.names (sum_asks m)) s
sum_asked m s = terms_asked m.terms s

asks_append : (l : Ledger) (ms ns : List Name) → asks_told l (ms ++ ns) ≡ asks_told l ms ++ asks_told l ns
asks_append l ms ns = flat_map-append (λ n. told_at (look l n.word) n) ms ns

pub args_asked : (xs : List Arg) (s : State) → asked_args xs s ≡ looked (asks_told s.names (flat_map arg_asks xs)) s
args_asked [] s = sym (looked_nothing s)
args_asked (arg.Agent a ∷ xs) s = args_asked xs s
args_asked (arg.Piece p ∷ xs) s = args_asked xs s
args_asked (arg.Number m ∷ xs) s =
    ap (stepped asked_arg xs) (sum_asked m s) ∙ args_asked xs (looked (asks_told s.names (sum_asks m)) s)
    ∙ sym (looked_append (asks_told s.names (sum_asks m)) (asks_told s.names (flat_map arg_asks xs)) s)
    ∙ ap (λ fs. looked fs s) (sym (asks_append s.names (sum_asks m) (flat_map arg_asks xs)))

pub sums_asked : (l r : Sum) (s : State) → asked_sum r (asked_sum l s) ≡ looked (asks_told s.names (sum_asks l ++ sum_asks r)) s
sums_asked l r s =
    ap (asked_sum r) (sum_asked l s) ∙ sum_asked r (looked (asks_told s.names (sum_asks l)) s)
    ∙ sym (looked_append (asks_told s.names (sum_asks l)) (asks_told s.names (sum_asks r)) s)
    ∙ ap (λ fs. looked fs s) (sym (asks_append s.names (sum_asks l) (sum_asks r)))

pub args_used : (xs : List Arg) (s : State) → used_args xs s ≡ used (flat_map arg_uses xs) s
args_used [] s = refl
args_used (arg.Agent a ∷ xs) s = args_used xs s
args_used (arg.Piece p ∷ xs) s = args_used xs (used_one p s)
args_used (arg.Number m ∷ xs) s = args_used xs s

-- the same over the scope
pub ref_seen : (count : ℕ) (us : Used) (scope : Scope Binding) (a : AgentRef) → ref_faults count (sight us scope) a ≡ ref_faults count scope a
ref_seen = ref_sight

pub sum_seen : (count : ℕ) (us : Used) (scope : Scope Binding) (m : Sum) → sum_faults count (sight us scope) m ≡ sum_faults count scope m
sum_seen = sum_sight

pub pieces_seen : (count : ℕ) (us : Used) (scope : Scope Binding) (ps : List Name) → pieces_faults (sight us scope) ps ≡ pieces_faults scope ps
pieces_seen = pieces_sight

pub args_seen : (count : ℕ) (us : Used) (scope : Scope Binding) (xs : List Arg) → flat_map (arg_faults count (sight us scope)) xs ≡ flat_map (arg_faults count scope) xs
args_seen count us scope xs = flat_same (arg_faults count (sight us scope)) (arg_faults count scope) (arg_sight count us scope) xs

-- Single use by names, as expansion needs it: each piece is used at most once on each way, agents are in range.
use Rattle.std.specs.Prelude.{◌≡◌, ℕ, Bool, true, false, ◌-◌, List, [], ◌∷◌, length, drop, if◌then◌else◌, ⊤, codes}
use Rattle.std.specs.Str.{bytes_eq}
use Rattle.slice_ast.specs.Code.{Code, End, Cut, Let, Join, Give, If, Pick, Call, PlainProc, PlainProgram}
use Rattle.slice_ast.specs.declared.tree.Name.{Name}
use Rattle.slice_ast.specs.declared.tree.AgentRef.{AgentRef}
use Rattle.slice_ast.specs.declared.tree.AgentRef.TheVariants as ref
use Rattle.slice_ast.specs.declared.tree.Operand.{Operand}
use Rattle.slice_ast.specs.declared.tree.Operand.TheVariants as operand
use Rattle.slice_ast.specs.declared.tree.Term.{Term}
use Rattle.slice_ast.specs.declared.tree.Param.{Param}
use Rattle.slice_ast.specs.declared.tree.Kind.{Kind}
use Rattle.slice_ast.specs.declared.tree.Kind.TheVariants as kind
use Rattle.slice_ast.specs.declared.tree.Arg.{Arg}
use Rattle.slice_ast.specs.declared.tree.Arg.TheVariants as arg
use Rattle.slice_core.specs.Agents.{IsAgent}
use Rattle.slice_expand.specs.ProgramRun.{param_names}

-- what a name is on a way
pub data Sort : Type 0 where
  AgentSort : Sort
  NumberSort : Sort
  Unused : Sort
  Spent : Sort

pub record Sorted : Type 0 where
  pub word : List ℕ
  pub sort : Sort

-- the names in scope, the latest first
abbrev pub Sorts : Type 0
Sorts = List Sorted

abbrev pub sort_at : Sorts → List ℕ → Sort
sort_at [] word = Spent
sort_at (s ∷ ss) word = if bytes_eq s.word word then s.sort else sort_at ss word

-- the piece of that name was used
abbrev pub spend : Sorts → List ℕ → Sorts
spend [] word = []
spend (s ∷ ss) word = if bytes_eq s.word word then record { word = s.word; sort = Spent } ∷ ss else s ∷ spend ss word

abbrev pub sorted : Name → Sort → Sorts → Sorts
sorted x s ss = record { word = x.word; sort = s } ∷ ss

abbrev pub bind_sorts : List Name → List Sort → Sorts → Sorts
bind_sorts [] ss scope = scope
bind_sorts (x ∷ xs) [] scope = scope
bind_sorts (x ∷ xs) (s ∷ ss) scope = bind_sorts xs ss (sorted x s scope)

abbrev pub unused : List Name → List Sort
unused [] = []
unused (x ∷ xs) = Unused ∷ unused xs

abbrev pub AgentOk : ℕ → Sorts → AgentRef → Type 0
AgentOk n scope (ref.Fixed m) = IsAgent n m.value
AgentOk n scope (ref.Named x) = sort_at scope x.word ≡ AgentSort

abbrev pub OperandOk : ℕ → Sorts → Operand → Type 0
OperandOk n scope (operand.Fraction f) = ⊤
OperandOk n scope (operand.Named x) = ⊤
OperandOk n scope (operand.Value a x) = AgentOk n scope a × (sort_at scope x.word ≡ Unused)

abbrev pub TermsOk : ℕ → Sorts → List Term → Type 0
TermsOk n scope [] = ⊤
TermsOk n scope (t ∷ ts) = OperandOk n scope t.operand × TermsOk n scope ts

-- the pieces are used in order, each for the first time
abbrev pub Spends : List Name → Sorts → (Sorts → Type 0) → Type 0
Spends [] scope go = go scope
Spends (x ∷ xs) scope go = (sort_at scope x.word ≡ Unused) × Spends xs (spend scope x.word) go

abbrev pub ArgOk : ℕ → Sorts → Arg → Type 0
ArgOk n scope (arg.Agent a) = AgentOk n scope a
ArgOk n scope (arg.Piece x) = ⊤
ArgOk n scope (arg.Number e) = TermsOk n scope e.terms

abbrev pub ArgsOk : ℕ → Sorts → List Arg → Type 0
ArgsOk n scope [] = ⊤
ArgsOk n scope (x ∷ xs) = ArgOk n scope x × ArgsOk n scope xs

abbrev pub arg_pieces : List Arg → List Name
arg_pieces [] = []
arg_pieces (arg.Agent a ∷ xs) = arg_pieces xs
arg_pieces (arg.Piece x ∷ xs) = x ∷ arg_pieces xs
arg_pieces (arg.Number e ∷ xs) = arg_pieces xs

abbrev pub arg_sorts : List Arg → List Sort
arg_sorts [] = []
arg_sorts (arg.Agent a ∷ xs) = AgentSort ∷ arg_sorts xs
arg_sorts (arg.Piece x ∷ xs) = Unused ∷ arg_sorts xs
arg_sorts (arg.Number e ∷ xs) = NumberSort ∷ arg_sorts xs

abbrev pub kind_sort : Kind → Sort
kind_sort kind.Agent = AgentSort
kind_sort kind.Piece = Unused
kind_sort kind.Number = NumberSort

abbrev pub param_sorts : List Param → List Sort
param_sorts [] = []
param_sorts (p ∷ ps) = kind_sort p.kind ∷ param_sorts ps

-- a name can be called with arguments of those sorts, for so many yields
abbrev pub Callable : Type 1
Callable = List ℕ → List Sort → ℕ → Type 0

-- each way through the statements is clean, and then what comes after
abbrev pub Clean : ℕ → Callable → Code → Sorts → (Sorts → Type 0) → Type 0
Clean n calls End scope go = go scope
Clean n calls (Cut a x e left right rest) scope go =
    AgentOk n scope a × TermsOk n scope e.terms × (sort_at scope x.word ≡ Unused) × Clean n calls rest (sorted right Unused (sorted left Unused (spend scope x.word))) go
Clean n calls (Let x e rest) scope go = TermsOk n scope e.terms × Clean n calls rest (sorted x NumberSort scope) go
Clean n calls (Join x y z rest) scope go =
    (sort_at scope x.word ≡ Unused) × (sort_at (spend scope x.word) y.word ≡ Unused) × Clean n calls rest (sorted z Unused (spend (spend scope x.word) y.word)) go
Clean n calls (Give x a rest) scope go = AgentOk n scope a × (sort_at scope x.word ≡ Unused) × Clean n calls rest (spend scope x.word) go
Clean n calls (If l c r one ys other zs xs at rest) scope go =
    TermsOk n scope l.terms × TermsOk n scope r.terms
    × Clean n calls one scope (λ inner. Spends ys inner (λ after. (length xs ≡ length ys) × Clean n calls rest (bind_sorts xs (unused xs) (drop (length after - length scope) after)) go))
    × Clean n calls other scope (λ inner. Spends zs inner (λ after. (length xs ≡ length zs) × Clean n calls rest (bind_sorts xs (unused xs) (drop (length after - length scope) after)) go))
Clean n calls (Pick a xs ys at rest) scope go =
    AgentOk n scope a × Spends xs scope (λ after. (length ys ≡ length xs) × Clean n calls rest (bind_sorts ys (unused ys) after) go)
Clean n calls (Call f xs ys at rest) scope go =
    ArgsOk n scope xs × Spends (arg_pieces xs) scope (λ after. calls f.word (arg_sorts xs) (length ys) × Clean n calls rest (bind_sorts ys (unused ys) after) go)

abbrev pub no_callable : Callable
no_callable f ss m = ⊥

-- one of two claims, by a test
abbrev pub either : Bool → Type 0 → Type 0 → Type 0
either true a b = a
either false a b = b

abbrev pub callable_with : PlainProc → Callable → Callable
callable_with d calls f ss m = either (bytes_eq d.name.word f) ((ss ≡ param_sorts d.params) × (m ≡ length d.body.yields)) (calls f ss m)

abbrev pub callable_after : Callable → List PlainProc → Callable
callable_after calls [] = calls
callable_after calls (d ∷ ds) = callable_after (callable_with d calls) ds

abbrev pub CleanProc : ℕ → Callable → PlainProc → Type 0
CleanProc n calls d = Clean n calls d.body.code (bind_sorts (param_names d.params) (param_sorts d.params) []) (λ scope. Spends d.body.yields scope (λ after. ⊤))

abbrev pub CleanProcs : ℕ → Callable → List PlainProc → Type 0
CleanProcs n calls [] = ⊤
CleanProcs n calls (d ∷ ds) = CleanProc n calls d × CleanProcs n (callable_with d calls) ds

-- a program in which each piece is used at most once on each way
abbrev pub CleanProgram : PlainProgram → Type 0
CleanProgram p =
    CleanProcs p.agents.value no_callable p.procs
    × Clean p.agents.value (callable_after no_callable p.procs) p.body (record { word = codes "cake"; sort = Unused } ∷ []) (λ scope. ⊤)

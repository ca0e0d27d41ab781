-- The faults that the parts of a statement have whatever was used before it: each line of the table of faults but UsedTwice, as the list of those that stand here. And the pieces that the parts ask and use.
use Rattle.std.specs.Prelude.{ℕ, Bool, true, false, ◌&&◌, ◌==◌, nat_le, length, if◌then◌else◌, List, [], ◌∷◌, ◌++◌, Option, Some, None, bytes_eq}
use Rattle.std.specs.List.{flat_map}
use Rattle.slice_num.specs.Name.{is_among}
use Rattle.slice_ast.specs.Code.{PlainProc}
use Rattle.slice_ast.specs.declared.tree.Kind.{Kind}
use Rattle.slice_ast.specs.declared.tree.Kind.TheVariants as kind
use Rattle.slice_ast.specs.declared.tree.Name.{Name}
use Rattle.slice_ast.specs.declared.tree.Number.{Number}
use Rattle.slice_ast.specs.declared.tree.AgentRef.{AgentRef}
use Rattle.slice_ast.specs.declared.tree.AgentRef.TheVariants as ref
use Rattle.slice_ast.specs.declared.tree.Fraction.{Fraction}
use Rattle.slice_ast.specs.declared.tree.Operand.{Operand}
use Rattle.slice_ast.specs.declared.tree.Operand.TheVariants as operand
use Rattle.slice_ast.specs.declared.tree.Term.{Term}
use Rattle.slice_ast.specs.declared.tree.Sum.{Sum}
use Rattle.slice_ast.specs.declared.tree.Param.{Param}
use Rattle.slice_ast.specs.declared.tree.Arg.{Arg}
use Rattle.slice_ast.specs.declared.tree.Arg.TheVariants as arg
use Rattle.slice_affine.specs.Scope.{Scope, look}
use Rattle.slice_affine.specs.declared.fault.AffineFault.{AffineFault}
use Rattle.slice_affine.specs.declared.fault.AffineFault.TheVariants.{Unbound, Rebound, AgentRange, Arity, YieldCount, ZeroDen}

-- the fault, unless the test holds
abbrev pub unless : Bool → AffineFault → List AffineFault
unless b f = if b then [] else f ∷ []

-- the two are one kind
abbrev pub is_kind : Kind → Kind → Bool
is_kind kind.Agent kind.Agent = true
is_kind kind.Piece kind.Piece = true
is_kind kind.Number kind.Number = true
is_kind k l = false

-- what was found in the scope is of that kind
abbrev pub is_of : {B : Type 0} → Kind → Option (Kind × B) → Bool
is_of k None = false
is_of k (Some m) = is_kind m.0 k

module _ {B : Type 0} (scope : Scope B) where
  -- Unbound: the name isn't in scope as the kind wanted
  abbrev pub unbound : Kind → Name → List AffineFault
  unbound k n = unless (is_of k (look scope n.word)) (Unbound n.word n.at)

  -- Unbound of names that stand for pieces
  abbrev pub pieces_faults : List Name → List AffineFault
  pieces_faults ps = flat_map (unbound kind.Piece) ps

-- Rebound: each of these names that is one of the words, or the same as an earlier one
abbrev pub rebound : List (List ℕ) → List Name → List AffineFault
rebound words [] = []
rebound words (n ∷ ns) = (if is_among n.word words then Rebound n.word n.at ∷ [] else []) ++ rebound (n.word ∷ words) ns

-- AgentRange: the agent's number is 0 or above the count
abbrev pub agent_range : ℕ → Number → List AffineFault
agent_range count n = unless (nat_le 1 n.value && nat_le n.value count) (AgentRange n.at)

-- ZeroDen: the denominator, where there is one, is 0
abbrev pub den_faults : Option Number → List AffineFault
den_faults None = []
den_faults (Some d) = if d.value == 0 then ZeroDen d.at ∷ [] else []

-- ZeroDen of a fraction
abbrev pub zero_den : Fraction → List AffineFault
zero_den f = den_faults f.den

-- the kind of an argument
abbrev pub arg_kind : Arg → Kind
arg_kind (arg.Agent a) = kind.Agent
arg_kind (arg.Piece p) = kind.Piece
arg_kind (arg.Number s) = kind.Number

-- the arguments are as many as the parameters, and of their kinds
abbrev pub fit : List Arg → List Param → Bool
fit [] [] = true
fit (x ∷ xs) (p ∷ ps) = is_kind (arg_kind x) p.kind && fit xs ps
fit xs ps = false

-- the procedure of that name among these
abbrev pub procedure : List PlainProc → List ℕ → Option PlainProc
procedure [] word = None
procedure (p ∷ ps) word = if bytes_eq word p.name.word then Some p else procedure ps word

-- Unbound, Arity and YieldCount of a call: its procedure isn't among those defined earlier, or is called or bound otherwise than it is defined
abbrev pub faults_calling : Option PlainProc → Name → List Arg → List Name → ℕ → List AffineFault
faults_calling None callee args names end = Unbound callee.word callee.at ∷ []
faults_calling (Some p) callee args names end = unless (fit args p.params) (Arity callee.at) ++ unless (length names == length p.body.yields) (YieldCount end)

-- the same, where these procedures were defined earlier
abbrev pub call_faults : List PlainProc → Name → List Arg → List Name → ℕ → List AffineFault
call_faults earlier callee args names end = faults_calling (procedure earlier callee.word) callee args names end

-- YieldCount of an `if`: its names are as many as each of its blocks yields
abbrev pub if_faults : List Name → List Name → List Name → ℕ → List AffineFault
if_faults ys ns names end = unless ((length names == length ys) && (length names == length ns)) (YieldCount end)

-- YieldCount of a `pick`: its names are as many as its pieces, of which there are at least two
abbrev pub pick_faults : List Name → List Name → ℕ → List AffineFault
pick_faults pieces names end = unless (nat_le 2 (length pieces) && (length names == length pieces)) (YieldCount end)

-- the faults of an agent, an operand, a factor, a term, a sum and an argument, where there are `count` agents and these names in scope: Unbound, AgentRange and ZeroDen
module _ {B : Type 0} (count : ℕ) (scope : Scope B) where
  abbrev pub ref_faults : AgentRef → List AffineFault
  ref_faults (ref.Fixed n) = agent_range count n
  ref_faults (ref.Named x) = unbound scope kind.Agent x

  abbrev pub operand_faults : Operand → List AffineFault
  operand_faults (operand.Fraction f) = zero_den f
  operand_faults (operand.Named x) = unbound scope kind.Number x
  operand_faults (operand.Value a p) = ref_faults a ++ unbound scope kind.Piece p

  abbrev pub factor_faults : Option Fraction → List AffineFault
  factor_faults None = []
  factor_faults (Some f) = zero_den f

  abbrev pub term_faults : Term → List AffineFault
  term_faults t = factor_faults t.factor ++ operand_faults t.operand

  abbrev pub sum_faults : Sum → List AffineFault
  sum_faults s = flat_map term_faults s.terms

  abbrev pub arg_faults : Arg → List AffineFault
  arg_faults (arg.Agent a) = ref_faults a
  arg_faults (arg.Piece p) = unbound scope kind.Piece p
  arg_faults (arg.Number s) = sum_faults s

-- the pieces that `value` asks in an operand, a sum and an argument
abbrev pub operand_asks : Operand → List Name
operand_asks (operand.Fraction f) = []
operand_asks (operand.Named x) = []
operand_asks (operand.Value a p) = p ∷ []

abbrev pub sum_asks : Sum → List Name
sum_asks s = flat_map (λ t. operand_asks t.operand) s.terms

abbrev pub arg_asks : Arg → List Name
arg_asks (arg.Agent a) = []
arg_asks (arg.Piece p) = []
arg_asks (arg.Number s) = sum_asks s

-- the piece that an argument uses
abbrev pub arg_uses : Arg → List Name
arg_uses (arg.Agent a) = []
arg_uses (arg.Piece p) = p ∷ []
arg_uses (arg.Number s) = []

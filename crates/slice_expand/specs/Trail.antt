-- What the code keeps while it makes a core: the nodes since the last test, and the counts. For clauses of private functions and proofs:
-- a reader of the definitions needs none of it.
use Rattle.slice_ast.specs.declared.tree.Cmp.{Cmp}
use Rattle.slice_ast.specs.declared.tree.Cmp.TheVariants as cmp
use Rattle.std.specs.Prelude.{◌≡◌, true, false, ℕ, ◌+◌, nat_lt, if◌then◌else◌, List, [], ◌∷◌, ◌++◌, ⊤}
use Rattle.slice_core.specs.declared.node.Lin.{Lin}
use Rattle.slice_core.specs.Tree.{Tree}
use Rattle.slice_core.specs.Tree as tree
use Rattle.slice_expand.specs.declared.fault.ExpandFault.{ExpandFault}
use Rattle.slice_expand.specs.declared.fault.ExpandFault.TheVariants.{NodeLimit, DepthLimit, CutLimit, CallLimit, Memory}
use Rattle.slice_expand.specs.declared.trail.Step.{Step}
use Rattle.slice_expand.specs.declared.trail.Step.TheVariants as step
use Rattle.slice_ast.specs.declared.tree.Operand.{Operand}
use Rattle.slice_ast.specs.declared.tree.Operand.TheVariants as operand
use Rattle.slice_ast.specs.declared.tree.Term.{Term}
use Rattle.slice_ast.specs.declared.tree.Sum.{Sum}
use Rattle.slice_ast.specs.declared.tree.Arg.{Arg}
use Rattle.slice_ast.specs.declared.tree.Arg.TheVariants as arg
use Rattle.slice_ast.specs.declared.tree.Name.{Name}
use Rattle.slice_ast.specs.declared.tree.AgentRef.{AgentRef}
use Rattle.slice_expand.specs.Scope.{Meaning, AnAgent, APiece, ANumber, bound, agent_at, piece_named}
use Rattle.slice_expand.specs.Expansion.{Names, sum_lin}
use Rattle.slice_expand.specs.Marked.{Marked, plain}
use Rattle.slice_expand.specs.Limits.{events, Counted, Within, Past, counted}

-- the steps since the last test; how many nodes and cuts, registers and pieces are on the way; how many nodes and calls
-- were made in all
pub record PlainTrail : Type 0 where
  pub steps : List Step
  pub depth : ℕ
  pub cuts : ℕ
  pub regs : ℕ
  pub pieces : ℕ
  pub nodes : ℕ
  pub calls : ℕ

-- a value, or the limit that is passed on the way to it
pub data Building (A : Type 0) : Type 0 where
  Good : A → Building A
  Stopped : ExpandFault → Building A

abbrev pub and_then : {A B : Type 0} → Building A → (A → Building B) → Building B
and_then (Good x) go = go x
and_then (Stopped e) go = Stopped e

-- a fault tells the limit; want of memory tells nothing
abbrev pub FaultIs : {A : Type 0} → ExpandFault → Building A → Type 0
FaultIs NodeLimit m = m ≡ Stopped NodeLimit
FaultIs DepthLimit m = m ≡ Stopped DepthLimit
FaultIs CutLimit m = m ≡ Stopped CutLimit
FaultIs CallLimit m = m ≡ Stopped CallLimit
FaultIs Memory m = ⊤

-- a node more on the way, with so many cuts up to it
abbrev pub noded : ℕ → PlainTrail → Building PlainTrail
noded k t =
    if nat_lt 200000 (t.nodes + 1) then Stopped NodeLimit
    else (if nat_lt 512 (t.depth + 1) then Stopped DepthLimit
    else (if nat_lt 64 k then Stopped CutLimit
    else Good (record { steps = t.steps; depth = t.depth + 1; cuts = k; regs = t.regs; pieces = t.pieces; nodes = t.nodes + 1; calls = t.calls })))

-- a step more, which sets so many registers and makes so many pieces
abbrev pub stepped : Step → (r p : ℕ) → PlainTrail → PlainTrail
stepped s r p t = record { steps = t.steps ++ s ∷ []; depth = t.depth; cuts = t.cuts; regs = t.regs + r; pieces = t.pieces + p; nodes = t.nodes; calls = t.calls }

abbrev pub asked : (a p : ℕ) → PlainTrail → Building PlainTrail
asked a p t = and_then (noded t.cuts t) (λ u. Good (stepped (step.Ask a p t.regs) 1 0 u))

abbrev pub set : Lin → PlainTrail → Building PlainTrail
set e t = and_then (noded t.cuts t) (λ u. Good (stepped (step.Set t.regs e) 1 0 u))

abbrev pub cut : (a p : ℕ) → Lin → PlainTrail → Building PlainTrail
cut a p e t = and_then (noded (t.cuts + 1) t) (λ u. Good (stepped (step.Cut a p e t.pieces (t.pieces + 1)) 0 2 u))

abbrev pub joined : (p q : ℕ) → PlainTrail → Building PlainTrail
joined p q t = and_then (noded t.cuts t) (λ u. Good (stepped (step.Join p q t.pieces) 0 1 u))

abbrev pub given : (p a : ℕ) → PlainTrail → Building PlainTrail
given p a t = and_then (noded t.cuts t) (λ u. Good (stepped (step.Give p a) 0 0 u))

-- a call more
abbrev pub called : PlainTrail → Building PlainTrail
called t =
    if nat_lt 100000 (t.calls + 1) then Stopped CallLimit
    else Good (record { steps = t.steps; depth = t.depth; cuts = t.cuts; regs = t.regs; pieces = t.pieces; nodes = t.nodes; calls = t.calls + 1 })

-- a step before a tree
abbrev pub before : Step → Tree → Tree
before (step.Ask a p r) next = tree.Ask a p r next
before (step.Set r e) next = tree.Set r e next
before (step.Cut a p e l r) next = tree.Cut a p e l r next
before (step.Join p q r) next = tree.Join p q r next
before (step.Give p a) next = tree.Give p a next

-- steps before a tree
abbrev pub attach : List Step → Tree → Tree
attach [] next = next
attach (s ∷ ss) next = before s (attach ss next)

-- a tree that was made, and the counts after it
pub record Made : Type 0 where
  pub tree : Tree
  pub nodes : ℕ
  pub calls : ℕ

abbrev pub made : Counted → Tree → Building Made
made (Within n c) t = Good (record { tree = t; nodes = n; calls = c })
made (Past e) t = Stopped e

-- what the rest of a core comes to after a trail
abbrev pub build : Marked → PlainTrail → Building Made
build m t = made (counted (events m t.depth t.cuts) t.nodes t.calls) (attach t.steps (plain m))

-- what follows for the next register and piece
abbrev pub grow : ((r p : ℕ) → Marked) → PlainTrail → Building Made
grow m t = build (m t.regs t.pieces) t

-- ---- sums and arguments

abbrev pub operand_in : Names → Operand → PlainTrail → Building PlainTrail
operand_in names (operand.Fraction f) t = Good t
operand_in names (operand.Named x) t = Good t
operand_in names (operand.Value a x) t = asked (agent_at names a) (piece_named names x) t

abbrev pub terms_in : Names → List Term → PlainTrail → Building PlainTrail
terms_in names [] t = Good t
terms_in names (x ∷ xs) t = and_then (operand_in names x.operand t) (terms_in names xs)

-- an argument of a call
abbrev pub arg_in : Names → Arg → PlainTrail → Building (Meaning ℕ × PlainTrail)
arg_in names (arg.Agent a) t = Good (AnAgent (agent_at names a), t)
arg_in names (arg.Piece x) t = Good (APiece (piece_named names x), t)
arg_in names (arg.Number e) t =
    and_then (terms_in names e.terms t) (λ u. and_then (set (sum_lin names t.regs e.terms) u) (λ v. Good (ANumber u.regs, v)))

-- the arguments of a call, behind those before them
abbrev pub args_onto : List (Meaning ℕ) → Names → List Arg → PlainTrail → Building (List (Meaning ℕ) × PlainTrail)
args_onto ms names [] t = Good (ms, t)
args_onto ms names (x ∷ xs) t = and_then (arg_in names x t) (λ o. args_onto (ms ++ o.0 ∷ []) names xs o.1)

abbrev pub args_in : Names → List Arg → PlainTrail → Building (List (Meaning ℕ) × PlainTrail)
args_in = args_onto []

-- a call is counted, then its arguments are made
abbrev pub call_in : Names → List Arg → PlainTrail → Building (List (Meaning ℕ) × PlainTrail)
call_in names xs t = and_then (called t) (args_in names xs)

-- ---- statements without arms: the names and the trail after them

abbrev pub cut_in : AgentRef → Name → Sum → (left right : Name) → Names → PlainTrail → Building (Names × PlainTrail)
cut_in a x e left right names t =
    and_then (terms_in names e.terms t) (λ u.
    and_then (cut (agent_at names a) (piece_named names x) (sum_lin names t.regs e.terms) u) (λ v.
    Good (bound right (APiece (u.pieces + 1)) (bound left (APiece u.pieces) names), v)))

abbrev pub let_in : Name → Sum → Names → PlainTrail → Building (Names × PlainTrail)
let_in x e names t =
    and_then (terms_in names e.terms t) (λ u.
    and_then (set (sum_lin names t.regs e.terms) u) (λ v.
    Good (bound x (ANumber u.regs) names, v)))

abbrev pub join_in : (x y z : Name) → Names → PlainTrail → Building (Names × PlainTrail)
join_in x y z names t =
    and_then (joined (piece_named names x) (piece_named names y) t) (λ u. Good (bound z (APiece t.pieces) names, u))

abbrev pub give_in : Name → AgentRef → Names → PlainTrail → Building (Names × PlainTrail)
give_in x a names t = and_then (given (piece_named names x) (agent_at names a) t) (λ u. Good (names, u))

-- ---- tests

-- an arm begins with no steps, where so many nodes and calls were made in all
abbrev pub forked_after : PlainTrail → (nodes calls : ℕ) → PlainTrail
forked_after t n c = record { steps = []; depth = t.depth; cuts = t.cuts; regs = t.regs; pieces = t.pieces; nodes = n; calls = c }

abbrev pub forked : PlainTrail → PlainTrail
forked t = forked_after t t.nodes t.calls

-- both arms under a test
abbrev pub both : List Step → (Tree → Tree → Tree) → Made → Made → Made
both steps node a b = record { tree = attach steps (node a.tree b.tree); nodes = b.nodes; calls = b.calls }

-- the node of a comparison
abbrev pub test_tree : Cmp → Lin → Lin → Tree → Tree → Tree
test_tree cmp.Less left right y n = tree.Test right left true y n
test_tree cmp.AtMost left right y n = tree.Test right left false y n
test_tree cmp.More left right y n = tree.Test left right true y n
test_tree cmp.AtLeast left right y n = tree.Test left right false y n

-- the queries of a pick
abbrev pub offers_in : (a : ℕ) → List ℕ → PlainTrail → Building PlainTrail
offers_in a [] t = Good t
offers_in a (p ∷ ps) t = and_then (asked a p t) (offers_in a ps)

-- the queries of a comparison, and its node
abbrev pub test_in : Names → (left right : List Term) → PlainTrail → Building PlainTrail
test_in names ls rs t = and_then (terms_in names ls t) (λ u. and_then (terms_in names rs u) (λ v. noded v.cuts v))

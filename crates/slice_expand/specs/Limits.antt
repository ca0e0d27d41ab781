-- The limits of expansion, and the first that a program passes.
use Rattle.std.specs.Prelude.{◌≡◌, ℕ, ◌+◌, nat_lt, if◌then◌else◌, List, [], ◌∷◌, ◌++◌, Option, Some, None, ⊤}
use Rattle.slice_ast.specs.Code.{PlainProgram}
use Rattle.slice_expand.specs.declared.fault.ExpandFault.{ExpandFault}
use Rattle.slice_expand.specs.declared.fault.ExpandFault.TheVariants.{NodeLimit, DepthLimit, CutLimit, CallLimit, Memory}
use Rattle.slice_expand.specs.Marked.{Marked, Called, Ask, Set, Cut, Join, Test, Give, End}
use Rattle.slice_expand.specs.Expansion.{marked}

-- what is met while a core is made: a call that is put in line; or a node, up to which, itself among them, its way has so
-- many nodes (its depth) and so many cuts
pub data Event : Type 0 where
  ACall : Event
  ANode : (depth cuts : ℕ) → Event

-- what is met, in order: a call before its arguments, a node before what follows it, `yes` before `no`; d nodes and k cuts are
-- on the way already
abbrev pub events : Marked → (d k : ℕ) → List Event
events (Called next) d k = ACall ∷ events next d k
events (Ask a p r next) d k = ANode (d + 1) k ∷ events next (d + 1) k
events (Set r sum next) d k = ANode (d + 1) k ∷ events next (d + 1) k
events (Cut a p e l r next) d k = ANode (d + 1) (k + 1) ∷ events next (d + 1) (k + 1)
events (Join p q r next) d k = ANode (d + 1) k ∷ events next (d + 1) k
events (Test l r strict y n) d k = ANode (d + 1) k ∷ (events y (d + 1) k ++ events n (d + 1) k)
events (Give p a next) d k = ANode (d + 1) k ∷ events next (d + 1) k
events End d k = ANode (d + 1) k ∷ []

-- how many nodes and calls there are, or the first limit that is passed
pub data Counted : Type 0 where
  Within : (nodes calls : ℕ) → Counted
  Past : (limit : ExpandFault) → Counted

-- the events, counted on from n nodes and c calls: at most 100,000 calls, and 200,000 nodes, looked at before 512 nodes on a
-- way, and these before 64 cuts on a way
abbrev pub counted : List Event → (n c : ℕ) → Counted
counted [] n c = Within n c
counted (ACall ∷ es) n c = if nat_lt 100000 (c + 1) then Past CallLimit else counted es n (c + 1)
counted (ANode d k ∷ es) n c =
    if nat_lt 200000 (n + 1) then Past NodeLimit
    else (if nat_lt 512 d then Past DepthLimit
    else (if nat_lt 64 k then Past CutLimit
    else counted es (n + 1) c))

-- the first limit that a program passes, if any
abbrev pub limit_of : Counted → Option ExpandFault
limit_of (Within n c) = None
limit_of (Past limit) = Some limit

abbrev pub first_limit : PlainProgram → Option ExpandFault
first_limit p = limit_of (counted (events (marked p) 0 0) 0 0)

-- a fault tells the first limit that is passed; want of memory tells nothing
abbrev pub IsFirst : ExpandFault → Option ExpandFault → Type 0
IsFirst NodeLimit first = first ≡ Some NodeLimit
IsFirst DepthLimit first = first ≡ Some DepthLimit
IsFirst CutLimit first = first ≡ Some CutLimit
IsFirst CallLimit first = first ≡ Some CallLimit
IsFirst Memory first = ⊤

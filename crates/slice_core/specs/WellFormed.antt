-- When a core is well formed: what it names is there, each piece is used once, and it keeps the limits.
use Rattle.std.specs.Prelude.{◌≡◌, ℕ, ◌+◌, ◌<◌, ◌≤◌, Bool, true, false, IsTrue, List, [], ◌∷◌, ◌++◌, length, ⊤, slice_set, slice_index_or}
use Rattle.slice_num.specs.Name.{is_name}
use Rattle.slice_core.specs.Tree.{Tree, Core, Ask, Set, Cut, Join, Test, Give, End}
use Rattle.slice_core.specs.Agents.{HasAgents}
use Rattle.slice_core.specs.Sizes.{nodes, depth, most_cuts}
use Rattle.slice_core.specs.declared.node.LinTerm.{LinTerm}
use Rattle.slice_core.specs.declared.node.Source.{Source}
use Rattle.slice_core.specs.declared.node.Source.TheVariants.{Const, Reg}

-- ---- numbers in order

-- a register that is named is one of the first r, those that were set
abbrev pub IsBound : ℕ → Source → Type 0
IsBound r (Const v) = ⊤
IsBound r (Reg n) = n < r

-- the same of each term
abbrev pub AreBound : ℕ → List LinTerm → Type 0
AreBound r [] = ⊤
AreBound r (t ∷ ts) = IsBound r t.source × AreBound r ts

-- a sum over the first r registers: it has a term, and the first is not subtracted
abbrev pub IsSumOver : ℕ → List LinTerm → Type 0
IsSumOver r [] = ⊥
IsSumOver r (t ∷ ts) = (t.minus ≡ false) × AreBound r (t ∷ ts)

-- after r registers and k pieces: a register and a piece that is made gets the next number, a cut's left part before its
-- right one, and only those that were made are named
abbrev pub IsNumbered : (r k : ℕ) → Tree → Type 0
IsNumbered r k (Ask a p new next) = (p < k) × (new ≡ r) × IsNumbered (r + 1) k next
IsNumbered r k (Set new sum next) = (new ≡ r) × IsSumOver r sum.terms × IsNumbered (r + 1) k next
IsNumbered r k (Cut a p amount left right next) = (p < k) × IsSumOver r amount.terms × (left ≡ k) × (right ≡ k + 1) × IsNumbered r (k + 2) next
IsNumbered r k (Join p q new next) = (p < k) × (q < k) × (new ≡ k) × IsNumbered r (k + 1) next
IsNumbered r k (Test left right strict at_yes at_no) = IsSumOver r left.terms × IsSumOver r right.terms × IsNumbered r k at_yes × IsNumbered r k at_no
IsNumbered r k (Give p a next) = (p < k) × IsNumbered r k next
IsNumbered r k End = ⊤

-- ---- single use

-- the piece of that number is there and wasn't cut, joined or given; `live` says so of each piece by number
abbrev pub IsLive : List Bool → ℕ → Type 0
IsLive live p = IsTrue (slice_index_or live p false)

-- the same after that piece was cut, joined or given
abbrev pub spent : List Bool → ℕ → List Bool
spent live p = slice_set live p false

-- a piece is cut, joined or given at most once, and asked for only before
abbrev pub IsSingleUse : List Bool → Tree → Type 0
IsSingleUse live (Ask a p new next) = IsLive live p × IsSingleUse live next
IsSingleUse live (Set new sum next) = IsSingleUse live next
IsSingleUse live (Cut a p amount left right next) = IsLive live p × IsSingleUse (spent live p ++ true ∷ true ∷ []) next
IsSingleUse live (Join p q new next) = IsLive live p × IsLive (spent live p) q × IsSingleUse (spent (spent live p) q ++ true ∷ []) next
IsSingleUse live (Test left right strict at_yes at_no) = IsSingleUse live at_yes × IsSingleUse live at_no
IsSingleUse live (Give p a next) = IsLive live p × IsSingleUse (spent live p) next
IsSingleUse live End = ⊤

-- ---- all of it

-- a core of that name, with 1 to 16 agents, whose nodes name its agents alone, number registers from 0 and pieces from
-- 1 on (the cake is 0), and use each piece once; and within the limits
pub record IsWellFormed (core : Core) : Type 0 where
  pub named : IsTrue (is_name core.name)
  pub some_agent : 1 ≤ core.agents
  pub few_agents : core.agents ≤ 16
  pub agents_there : HasAgents core.agents core.tree
  pub numbered : IsNumbered 0 1 core.tree
  pub single_use : IsSingleUse (true ∷ []) core.tree
  pub few_nodes : nodes core.tree ≤ 200000
  pub few_deep : depth core.tree ≤ 512
  pub few_cuts : most_cuts core.tree ≤ 64

-- ---- for clauses of private functions and proofs

-- a tree is well formed, limits aside, where so many registers were set and pieces are live as `live` says
pub record IsFormed (agents : ℕ) (live : List Bool) (registers : ℕ) (tree : Tree) : Type 0 where
  pub agents_there : HasAgents agents tree
  pub numbered : IsNumbered registers (length live) tree
  pub single_use : IsSingleUse live tree

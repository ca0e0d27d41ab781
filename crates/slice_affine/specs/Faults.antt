-- Where a fault stands, and which of two is told.
use Rattle.std.specs.Prelude.{ℕ, Bool, ◌||◌, ◌&&◌, ◌==◌, nat_lt, IsTrue}
use Rattle.slice_num.specs.Name.{is_name}
use Rattle.slice_affine.specs.declared.fault.AffineFault.{AffineFault}
use Rattle.slice_affine.specs.declared.fault.AffineFault.TheVariants.{Unbound, Rebound, UsedTwice, AgentRange, Arity, YieldCount, ZeroDen, ProcLimit, Memory}

-- the place that a fault names; want of memory has none
abbrev pub place_of : AffineFault → ℕ
place_of (Unbound name at) = at
place_of (Rebound name at) = at
place_of (UsedTwice name at first) = at
place_of (AgentRange at) = at
place_of (Arity at) = at
place_of (YieldCount at) = at
place_of (ZeroDen at) = at
place_of (ProcLimit at) = at
place_of Memory = 0

-- at one place the order of these
abbrev pub rank_of : AffineFault → ℕ
rank_of (Unbound name at) = 0
rank_of (Rebound name at) = 1
rank_of (UsedTwice name at first) = 2
rank_of (AgentRange at) = 3
rank_of (Arity at) = 4
rank_of (YieldCount at) = 5
rank_of (ZeroDen at) = 6
rank_of (ProcLimit at) = 7
rank_of Memory = 8

-- the fault is told before the other one: it stands at a lesser place, or at the same one and comes first in that order
unfoldable pub is_before : AffineFault → AffineFault → Bool
is_before f g = nat_lt (place_of f) (place_of g) || ((place_of f == place_of g) && nat_lt (rank_of f) (rank_of g))

-- the name that a fault tells, where it tells one, is a name of the language: a word that isn't reserved
abbrev pub TellsName : AffineFault → Type 0
TellsName (Unbound name at) = IsTrue (is_name name)
TellsName (Rebound name at) = IsTrue (is_name name)
TellsName (UsedTwice name at first) = IsTrue (is_name name)
TellsName f = Unit {0}

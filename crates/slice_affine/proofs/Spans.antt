-- Where the stages of a flow stand.
use Rattle.std.specs.Prelude.{ℕ, suc, ◌<◌, ◌≤◌, List, [], ◌∷◌}
use Rattle.slice_affine.specs.Faults.{place_of}
use Rattle.slice_affine.specs.Ways.{Event, Stage, Flow, Stop, Then, Split, IsIn}
use Rattle.slice_affine.specs.declared.fault.AffineFault.{AffineFault}

-- no event comes twice
abbrev pub AreOnce : List Event → Type 0
AreOnce [] = Unit {0}
AreOnce (e ∷ es) = (IsIn e es → ⊥) × AreOnce es

-- the stage stands from lo on and before hi
pub record Lies (lo hi : ℕ) (l : Stage) : Type 0 where
  pub faults : (f : AffineFault) → IsIn f l.faults → (lo ≤ place_of f) × (place_of f < hi)
  pub rebinds : (f : AffineFault) → IsIn f l.rebinds → (lo ≤ place_of f) × (place_of f < hi)
  pub events : (e : Event) → IsIn e l.events → (lo ≤ e.name.at) × (e.name.at < hi)
  pub once : AreOnce l.events

-- the stages of a flow stand in their order, from lo on and before hi
abbrev pub Spans : ℕ → ℕ → Flow → Type 0
Spans lo hi Stop = lo ≤ hi
Spans lo hi (Then l rest) = (mid : ℕ) × (lo ≤ mid) × Lies lo mid l × Spans mid hi rest
Spans lo hi (Split a b rest) = (m : ℕ) × (n : ℕ) × (lo ≤ m) × (m ≤ n) × Spans lo m a × Spans m n b × Spans n hi rest

-- these numbers rise strictly, from lo on and before hi
abbrev pub RiseTo : ℕ → List ℕ → ℕ → Type 0
RiseTo lo [] hi = lo ≤ hi
RiseTo lo (x ∷ xs) hi = (lo ≤ x) × RiseTo (suc x) xs hi

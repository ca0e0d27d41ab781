-- Beside the ways of a core: a spot that is walked to once more, along the choices of a trace.
use Rattle.std.specs.Prelude.{◌≡◌, ◌<◌, ◌≤◌, ℕ, zero, suc, Bool, true, false, Option, Some, None, List, [], ◌∷◌, ◌++◌, length, drop}
use Rattle.slice_num.specs.declared.choice.Choice.{Choice}
use Rattle.slice_num.specs.declared.choice.Choice.TheVariants.{Low, High, Go, Yes, No}
use Rattle.slice_core.specs.Nodes.{tree_of}
use Rattle.slice_core.specs.Sizes.{depth}
use Rattle.slice_core.specs.Tree.{Tree}
use Rattle.slice_atoms.specs.Forms.{Form}
use Rattle.slice_paths.specs.Ahead.{ahead_of}
use Rattle.slice_paths.specs.Events.{Event}
use Rattle.slice_paths.specs.Fronts.{way_behind, events_behind}
use Rattle.slice_paths.specs.Places.{Condition, PassedCut, Way}
use Rattle.slice_paths.specs.Same.{SameForms, SameConditions}
use Rattle.slice_paths.specs.Spots.{Known, regs_of, way_of}
use Rattle.slice_paths.specs.Walking.{Ready, AllReady}
use Rattle.slice_paths.specs.declared.frames.Frame.{Frame}
use Rattle.slice_paths.specs.declared.retrace.Stride.{Stride}

-- one more, where there is a number
abbrev pub one_more : Option ℕ → Option ℕ
one_more None = None
one_more (Some n) = Some (suc n)

-- the number of the part in which these choices answer a cut of so many parts
abbrev pub part_in : ℕ → List Choice → Option ℕ
part_in zero cs = None
part_in (suc parts) [] = None
part_in (suc parts) (Low ∷ cs) = None
part_in (suc parts) (High ∷ cs) = None
part_in (suc parts) (Go ∷ cs) = Some 0
part_in (suc parts) (Yes ∷ cs) = None
part_in (suc parts) (No ∷ cs) = one_more (part_in parts cs)

-- whether these choices take the yes of a test
abbrev pub arm_in : List Choice → Option Bool
arm_in [] = None
arm_in (Low ∷ cs) = None
arm_in (High ∷ cs) = None
arm_in (Go ∷ cs) = None
arm_in (Yes ∷ cs) = Some true
arm_in (No ∷ cs) = Some false

-- the way of a spot with other conditions and cuts
abbrev pub way_with : Known → List Condition → List PassedCut → Way
way_with s cs ds = record (way_of s) { conditions = cs; cuts = ds }

-- these are the registers and the conditions of a spot, as forms with the same coefficients in its atoms
pub record StandsAt (s : Known) (fs : List Form) (cs : List Condition) : Type 0 where
  pub regs : SameForms (way_of s).cake (regs_of s) fs
  pub conditions : SameConditions (way_of s).cake (way_of s).conditions cs

-- how many choices are left to pass after one more that was passed, or wasn't
abbrev pub still : Bool → ℕ → ℕ
still true k = k
still false k = suc k

-- a stride from a node at s, with choices to make, to the next one at t, with the rest of them: the ways and what is behind
-- are those from the next one on, with what the frames behind came to have ahead
pub record Strode (agents : ℕ) (tree : Tree) (s : Known) (cs rest : List Choice) (next : Tree) (t : Known) (passed : Bool) (old new : List Frame)
    (fs : List Form) (ks : List Condition) (ds : List PassedCut) : Type 0 where
  pub regs : List Form
  pub conditions : List Condition
  pub cuts : List PassedCut
  pub more : List Event
  pub stands : StandsAt t regs conditions
  pub same_way : (k : ℕ) → way_behind (suc k) tree fs (way_with s ks ds) cs ≡ way_behind (still passed k) next regs (way_with t conditions cuts) rest
  pub same_behind : (k : ℕ)
      → events_behind agents (suc k) tree fs (way_with s ks ds) cs ≡ events_behind agents (still passed k) next regs (way_with t conditions cuts) rest ++ more
  pub ahead : ahead_of agents new [] ≡ more ++ ahead_of agents old []

pub record IsStride (agents : ℕ) (tree : Tree) (s : Known) (cs : List Choice) (old new : List Frame) (o : Stride) : Type 0 where
  pub ready : Ready agents (tree_of o.node.now) o.spot
  pub deeper : depth (tree_of o.node.now) < depth tree
  pub made : o.taken ≤ length cs
  pub all_ready : AllReady agents old → AllReady agents new
  pub strode : (fs : List Form) (ks : List Condition) (ds : List PassedCut) → StandsAt s fs ks
      → Strode agents tree s cs (drop o.taken cs) (tree_of o.node.now) o.spot o.passed old new fs ks ds

-- no stride: these choices lead nowhere from the node
pub record IsNoStride (tree : Tree) (s : Known) (cs : List Choice) : Type 0 where
  pub no_way : (fs : List Form) (ks : List Condition) (ds : List PassedCut) (k : ℕ) → way_behind (suc k) tree fs (way_with s ks ds) cs ≡ None

abbrev pub Strides : (agents : ℕ) → Tree → Known → List Choice → (old new : List Frame) → Option Stride → Type 0
Strides agents tree s cs old new None = IsNoStride tree s cs
Strides agents tree s cs old new (Some o) = IsStride agents tree s cs old new o

-- ---- all strides

-- the spot behind so many passed choices, and the frames of what is behind them
pub record Retraced (agents passed : ℕ) (tree : Tree) (s : Known) (cs : List Choice) (old new : List Frame) (t : Known)
    (fs : List Form) (ks : List Condition) (ds : List PassedCut) : Type 0 where
  pub regs : List Form
  pub conditions : List Condition
  pub cuts : List PassedCut
  pub stands : StandsAt t regs conditions
  pub way : way_behind passed tree fs (way_with s ks ds) cs ≡ Some (way_with t conditions cuts)
  pub ahead : ahead_of agents new [] ≡ events_behind agents passed tree fs (way_with s ks ds) cs ++ ahead_of agents old []

pub record IsRetraced (agents passed : ℕ) (tree : Tree) (s : Known) (cs : List Choice) (old new : List Frame) (t : Known) : Type 0 where
  pub ready : (next : Tree) × Ready agents next t
  pub all_ready : AllReady agents old → AllReady agents new
  pub each : (fs : List Form) (ks : List Condition) (ds : List PassedCut) → StandsAt s fs ks → Retraced agents passed tree s cs old new t fs ks ds

-- there are fewer
pub record IsTooShort (passed : ℕ) (tree : Tree) (s : Known) (cs : List Choice) : Type 0 where
  pub no_way : (fs : List Form) (ks : List Condition) (ds : List PassedCut) → StandsAt s fs ks → way_behind passed tree fs (way_with s ks ds) cs ≡ None

abbrev pub Retraces : (agents passed : ℕ) → Tree → Known → List Choice → (old new : List Frame) → Option Known → Type 0
Retraces agents passed tree s cs old new None = IsTooShort passed tree s cs
Retraces agents passed tree s cs old new (Some t) = IsRetraced agents passed tree s cs old new t

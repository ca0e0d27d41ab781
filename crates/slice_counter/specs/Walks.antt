-- What one node leads to on the way to a goal.
use Rattle.std.specs.Prelude.{ℕ, ◌≤◌, ◌<◌, List, drop, length, Option, Some, None}
use Rattle.slice_num.specs.declared.choice.Choice.{Choice}
use Rattle.slice_core.specs.Sizes.{depth}
use Rattle.slice_core.specs.Nodes.{tree_of}
use Rattle.slice_core.specs.Tree.{Tree, Cut}
use Rattle.slice_core.specs.declared.node.Lin.{Lin}
use Rattle.slice_paths.specs.Places.{Way}
use Rattle.slice_counter.specs.Marks.{LeadsTo, Tells}
use Rattle.slice_counter.specs.declared.trail.Trail.{Trail}
use Rattle.slice_counter.specs.declared.walk.Leads.{Leads}
use Rattle.slice_counter.specs.declared.walk.Leads.TheVariants.{On, Ends}

-- some way is led to by the choices at a cut of the piece
abbrev pub LeadsToCut : ℕ → List Choice → Trail → Type 0
LeadsToCut p choices t = (end : Way) × (a : ℕ) × (amount : Lin) × (l : ℕ) × (r : ℕ) × (next : Tree) × LeadsTo end (Cut a p amount l r next) choices t

-- on to what follows a cut, after so many choices; or the way ends there
abbrev pub PassesTo : Way → Tree → List Choice → Trail → Option ℕ → Type 0
PassesTo end next trace t (Some made) = (made ≤ length trace) × LeadsTo end next (drop made trace) t
PassesTo end next trace t None = Tells end t

-- on to a node that is nearer to the end, after so many choices; or the way ends there
abbrev pub GoesOn : Way → Tree → List Choice → Trail → Leads → Type 0
GoesOn end tree trace t (On node made) = (made ≤ length trace) × (depth (tree_of node.now) < depth tree) × LeadsTo end (tree_of node.now) (drop made trace) t
GoesOn end tree trace t Ends = Tells end t

-- What one node of a core leads to.
use Rattle.std.specs.Prelude.{Bool, ◌≡◌, ℕ, ◌<◌, ◌≤◌, List, length}
use Rattle.slice_num.specs.Rational.{Rational}
use Rattle.slice_num.specs.Valuation.{Valuation}
use Rattle.slice_core.specs.Sizes.{depth}
use Rattle.slice_core.specs.Nodes.{tree_of}
use Rattle.slice_num.specs.Pieces.{joined}
use Rattle.slice_core.specs.Run.{Board}
use Rattle.slice_core.specs.Tree.{Tree, Test}
use Rattle.slice_core.specs.declared.node.Lin.{Lin}
use Rattle.slice_core.specs.declared.node.Node.{Node}
use Rattle.slice_run.specs.Tables.{Ready, halt_of}
use Rattle.slice_run.specs.Walk.{Walked, Good, Answers, Halt, walk}
use Rattle.slice_run.specs.declared.run.Leads.{Leads}
use Rattle.slice_run.specs.declared.run.Leads.TheVariants.{On, Halt as HaltAt}

-- the walk goes on from that node, or halts there
abbrev pub goes_on : List Valuation → Leads → List Rational → Answers → Board → Walked Halt
goes_on vs (On next) registers answers b = walk vs (tree_of next.now) registers answers b
goes_on vs (HaltAt stop) registers answers b = Good (halt_of stop b)

-- the board is ready for the next node, which is nearer to the end; or it is one where a walk may halt
abbrev pub StaysReady : ℕ → ℕ → Tree → Board → Leads → Type 0
StaysReady agents registers tree b (On next) = Ready agents registers (tree_of next.now) b × (depth (tree_of next.now) < depth tree)
StaysReady agents registers tree b (HaltAt stop) = (length b.shares ≡ agents) × (length b.queries ≤ 512) × (length (joined b.pieces) ≤ 65)

-- a test with these sums and arms
abbrev pub test_tree : Lin → Lin → Bool → Node → Node → Tree
test_tree left right strict at_yes at_no = Test left right strict (tree_of at_yes) (tree_of at_no)

-- The code's blocks as plain data. For clauses of private functions and proofs: a reader of the definitions needs none of it.
use Rattle.std.specs.Prelude.{◌≡◌, ◌≤◌, ◌<◌, ◌+◌, ◌-◌, ◌*◌, length, ℕ, List, map, Option, Some, None}
use Rattle.std.specs.Borrow.{Bor}
use Rattle.slice_ast.specs.declared.tree.Stmt.{Stmt}
use Rattle.slice_ast.specs.View.{head_of, code_of, proc_of}
use Rattle.slice_expand.specs.Frames.{PlainFrame, Spot, build_at, with_head}
use Rattle.slice_expand.specs.Marked as marked
use Rattle.slice_expand.specs.Trail.{build, Made, Building}
use Rattle.slice_ast.specs.Code.{Head, AnIf, APick, PlainBlock}
use Rattle.slice_ast.specs.declared.tree.Block.{Block}
use Rattle.slice_ast.specs.declared.tree.Proc.{Proc}
use Rattle.slice_core.specs.Nodes.{tree_of}
use Rattle.slice_expand.specs.Expansion.{no_inline, inline_after, inlined}
use Rattle.slice_expand.specs.declared.build.Fork.{Fork}
use Rattle.slice_expand.specs.declared.build.Fork.TheVariants as fork
use Rattle.slice_expand.specs.declared.build.Built.{Built}
use Rattle.slice_expand.specs.declared.build.Callee.{Callee}
use Rattle.slice_expand.specs.declared.build.Frame.{Frame}
use Rattle.slice_expand.specs.declared.build.Builder.{Builder}

abbrev pub frame_of : Frame → PlainFrame
frame_of f = record { code = code_of f.stmts.now; names = f.names; yields = f.yields.now; targets = f.targets.now; procs = map proc_of f.procs.now }

abbrev pub frames_of : List Frame → List PlainFrame
frames_of = map frame_of

abbrev pub spot_of : Builder → Spot
spot_of b = record { top = frame_of b.top; outer = frames_of b.outer.items; trail = b.trail }

-- a statement that was taken stands before what is left; with none, nothing is left
abbrev pub Follows : Option (Bor Stmt) → Spot → Spot → Type 0
Follows (Some s) old new = build_at old ≡ build_at (with_head (head_of s.now) new)
Follows None old new = build_at old ≡ build marked.End new.trail

-- a block as plain data
abbrev pub arm_of : Block → PlainBlock
arm_of b = record { code = code_of b.stmts; yields = b.yields }

-- the statement at which a way forks
abbrev pub fork_head : Fork → Head
fork_head (fork.Test t) = AnIf t.left.now t.cmp t.right.now (arm_of t.yes.now) (arm_of t.no.now) t.names.now 0
fork_head (fork.Pick p) = APick p.agent.now p.pieces.now p.names.now 0

-- what is still to be built: the fork and what comes after it, or the end
abbrev pub from_fork : Option Fork → Spot → Building Made
from_fork (Some f) s = build_at (with_head (fork_head f) s)
from_fork None s = build marked.End s.trail

-- what is left of the limits, and the blocks around
abbrev pub left_of : Spot → ℕ
left_of s = 2 * (100000 - s.trail.calls) + (512 - s.trail.depth) + length s.outer

-- a place later on the same way
pub record Later (old new : Spot) : Type 0 where
  pub deeper : old.trail.depth ≤ new.trail.depth
  pub within : old.trail.depth ≤ 512 → new.trail.depth ≤ 512

-- expansion goes on at a fork, or nothing is left
pub record Halts (fork : Option Fork) (old new : Spot) : Type 0 where
  pub later : Later old new
  pub is : build_at old ≡ from_fork fork new

-- a statement was done, or it is that fork
abbrev pub Taken : Option Fork → Head → Spot → Spot → Type 0
Taken (Some f) h old new = (build_at (with_head h old) ≡ build_at (with_head (fork_head f) new)) × (new ≡ old)
Taken None h old new = Later old new × (build_at (with_head h old) ≡ build_at new) × (left_of new < left_of old)

-- the core and the counts that were made
abbrev pub made_of : Built → Made
made_of b = record { tree = tree_of b.root; nodes = b.nodes; calls = b.calls }

-- a procedure of that name, and those before it; or there is none
abbrev pub IsCallee : Option (Callee) → List Proc → List ℕ → Type 0
IsCallee (Some c) procs f = inline_after no_inline (map proc_of procs) f ≡ inlined (proc_of c.proc.now) (inline_after no_inline (map proc_of c.earlier.now))
IsCallee None procs f = inline_after no_inline (map proc_of procs) f ≡ no_inline f

-- a call was counted, and one block more may stand around
pub record Called (old new : Spot) : Type 0 where
  pub calls : new.trail.calls ≡ old.trail.calls + 1
  pub most : new.trail.calls ≤ 100000
  pub deeper : old.trail.depth ≤ new.trail.depth
  pub within : old.trail.depth ≤ 512 → new.trail.depth ≤ 512
  pub outer : length new.outer ≤ length old.outer + 1

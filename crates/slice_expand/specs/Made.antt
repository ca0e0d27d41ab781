-- What the code makes of a whole program. For clauses of private functions and proofs: a reader of the definitions needs none of it.
use Rattle.std.specs.Prelude.{[]}
use Rattle.slice_core.specs.Tree as core
use Rattle.slice_core.specs.Nodes.{tree_of}
use Rattle.slice_expand.specs.Trail.{PlainTrail}
use Rattle.slice_expand.specs.declared.whole.Expanded.{Expanded}

-- the code's core as plain data
abbrev pub plain_core : Expanded → core.Core
plain_core c = record { name = c.name; agents = c.agents; tree = tree_of c.root }

-- the way begins with the cake, and nothing was made
abbrev pub first_trail : PlainTrail
first_trail = record { steps = []; depth = 0; cuts = 0; regs = 0; pieces = 1; nodes = 0; calls = 0 }

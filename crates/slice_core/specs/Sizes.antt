-- How large a tree is.
use Rattle.std.specs.Prelude.{ℕ, ◌+◌, max}
use Rattle.slice_core.specs.declared.core_tree.Size.{Size}
use Rattle.slice_core.specs.Tree.{Tree, Ask, Set, Cut, Join, Test, Give, End}

-- all nodes, the ends among them
abbrev pub nodes : Tree → ℕ
nodes (Ask a p r next) = 1 + nodes next
nodes (Set r sum next) = 1 + nodes next
nodes (Cut a p amount left right next) = 1 + nodes next
nodes (Join p q new next) = 1 + nodes next
nodes (Test left right strict at_yes at_no) = 1 + (nodes at_yes + nodes at_no)
nodes (Give p a next) = 1 + nodes next
nodes End = 1

-- the most nodes on a way, its end among them
abbrev pub depth : Tree → ℕ
depth (Ask a p r next) = 1 + depth next
depth (Set r sum next) = 1 + depth next
depth (Cut a p amount left right next) = 1 + depth next
depth (Join p q new next) = 1 + depth next
depth (Test left right strict at_yes at_no) = 1 + max (depth at_yes) (depth at_no)
depth (Give p a next) = 1 + depth next
depth End = 1

-- the most cuts on a way
abbrev pub most_cuts : Tree → ℕ
most_cuts (Ask a p r next) = most_cuts next
most_cuts (Set r sum next) = most_cuts next
most_cuts (Cut a p amount left right next) = 1 + most_cuts next
most_cuts (Join p q new next) = most_cuts next
most_cuts (Test left right strict at_yes at_no) = max (most_cuts at_yes) (most_cuts at_no)
most_cuts (Give p a next) = most_cuts next
most_cuts End = 0

-- all three, as the code gives them
abbrev pub size_of_tree : Tree → Size
size_of_tree tree = record { nodes = nodes tree; depth = depth tree; cuts = most_cuts tree }

-- The line of a core.
use Rattle.std.specs.Prelude.{codes}
use Rattle.serde_json.specs.Data.{Data, object, member, no_members}
use Rattle.slice_json.specs.Texts.{whole, text}
use Rattle.slice_core.specs.Tree.{Core}
use Rattle.slice_core.specs.Sizes.{nodes, depth, most_cuts}

-- its agents, its protocol's name, and its three counts: all nodes, the most nodes on a way, the most cuts on a way
abbrev pub core_json : Core → Data
core_json core =
    object (member (codes "agents") (whole core.agents) (member (codes "cuts") (whole (most_cuts core.tree)) (member (codes "depth") (whole (depth core.tree))
    (member (codes "nodes") (whole (nodes core.tree)) (member (codes "protocol") (text core.name) no_members)))))

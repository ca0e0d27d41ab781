-- The line of a report that was made and checked in memory.
use Rattle.std.specs.Prelude.{ℕ, true, codes}
use Rattle.serde_json.specs.Data.{Data, object, member, no_members, boolean}
use Rattle.slice_json.specs.Texts.{whole, text}
use Rattle.slice_core.specs.Tree.{Core}

-- that the report on the core is accepted, for so many goals, and how many bytes it has
abbrev pub demo_json : Core → ℕ → ℕ → Data
demo_json core goals bytes =
    object (member (codes "accepted") (boolean true) (member (codes "agents") (whole core.agents) (member (codes "bytes") (whole bytes)
    (member (codes "goals") (whole goals) (member (codes "protocol") (text core.name) no_members)))))

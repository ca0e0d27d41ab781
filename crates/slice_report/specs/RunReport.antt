-- The line of a run.
use Rattle.std.specs.Prelude.{◌≡◌, ℕ, ◌-◌, ◌==◌, pos, Bool, true, false, if◌then◌else◌, refl, List, [], length, map, slice_index_or, codes}
use Rattle.std.specs.List.{filter, flat_map, range_with_len}
use Rattle.serde_json.specs.Data.{Data, Members, object, member, no_members}
use Rattle.serde_json.specs.Written.{has_float, members_have_float}
use Rattle.slice_num.specs.Rational.{Rational, whole as whole_number}
use Rattle.slice_num.specs.Fitting.{below}
use Rattle.slice_num.specs.declared.choice.Side.{Side}
use Rattle.slice_num.specs.declared.choice.Side.TheVariants as side
use Rattle.slice_json.specs.Texts.{whole, text, list_of, pair_of, fraction, interval_json, plain-list_of}
use Rattle.slice_core.specs.Run.{Piece}
use Rattle.slice_core.specs.declared.query.Query.{Query}
use Rattle.slice_core.specs.declared.query.QueryKind.{QueryKind}
use Rattle.slice_core.specs.declared.query.QueryKind.TheVariants as kind
use Rattle.slice_run.specs.Walk.{Told, Divided, Halted}

-- ---- envy

-- so many agents, by number
abbrev pub agents : ℕ → List ℕ
agents n = range_with_len 1 n

-- agent a's share-value of agent b's share, from each agent's share-values of all shares
abbrev pub value_of : List (List Rational) → ℕ → ℕ → Rational
value_of values a b = slice_index_or (slice_index_or values (a - 1) []) (b - 1) (whole_number (pos 0))

-- agent a values agent b's share above its own
abbrev pub envies : List (List Rational) → ℕ → ℕ → Bool
envies values a b = below (value_of values a a) (value_of values a b)

-- the pairs of that agent and each that it envies, in order
abbrev pub envy_of : List (List Rational) → ℕ → List (ℕ × ℕ)
envy_of values a = map (λ b. (a, b)) (filter (envies values a) (agents (length values)))

-- the pairs of agents of whom the first envies the second, in order
abbrev pub envy : List (List Rational) → List (ℕ × ℕ)
envy values = flat_map (envy_of values) (agents (length values))

-- ---- the line

-- the part in which the point lies is told where it isn't the first
abbrev pub part_member : ℕ → Members
part_member part = if part == 0 then no_members else member (codes "part") (whole part) no_members

-- a query and its answer
abbrev pub asked_json : ℕ → QueryKind → Rational → Data
asked_json agent kind.Eval answer =
    object (member (codes "agent") (whole agent) (member (codes "answer") (fraction answer) (member (codes "kind") (text (codes "eval")) no_members)))
asked_json agent (kind.Cut amount part) answer =
    object (member (codes "agent") (whole agent) (member (codes "amount") (fraction amount)
    (member (codes "answer") (fraction answer) (member (codes "kind") (text (codes "cut")) (part_member part)))))

abbrev pub query_json : Query → Data
query_json q = asked_json q.agent q.kind q.answer

abbrev pub pair_json : ℕ × ℕ → Data
pair_json p = pair_of whole whole p

abbrev pub piece_json : Piece → Data
piece_json p = list_of interval_json p

abbrev pub row_json : List Rational → Data
row_json row = list_of fraction row

abbrev pub side_json : Side → Data
side_json side.Low = text (codes "low")
side_json side.High = text (codes "high")

-- what is told of a run, as JSON
abbrev pub told_json : Told → Data
told_json (Divided queries shares left values) =
    object (member (codes "envy") (list_of pair_json (envy values)) (member (codes "left") (piece_json left)
    (member (codes "outcome") (text (codes "done")) (member (codes "queries") (list_of query_json queries)
    (member (codes "shares") (list_of piece_json shares) (member (codes "values") (list_of row_json values) no_members))))))
told_json (Halted queries query at) =
    object (member (codes "outcome") (text (codes "stuck")) (member (codes "queries") (list_of query_json queries)
    (member (codes "query") (whole query) (member (codes "side") (side_json at) no_members))))

-- ---- it has no float

plain-part : (part : ℕ) (b : Bool) → members_have_float (if b then no_members else member (codes "part") (whole part) no_members) ≡ false
plain-part part true = refl
plain-part part false = refl

plain-asked : (agent : ℕ) (k : QueryKind) (answer : Rational) → has_float (asked_json agent k answer) ≡ false
plain-asked agent kind.Eval answer = refl
plain-asked agent (kind.Cut amount part) answer = plain-part part (part == 0)

plain-queries : (qs : List Query) → has_float (list_of query_json qs) ≡ false
plain-queries qs = plain-list_of query_json (λ q. plain-asked q.agent q.kind q.answer) qs

plain-piece : (p : Piece) → has_float (piece_json p) ≡ false
plain-piece p = plain-list_of interval_json (λ i. refl) p

plain-row : (row : List Rational) → has_float (row_json row) ≡ false
plain-row row = plain-list_of fraction (λ q. refl) row

plain-side : (at : Side) → has_float (side_json at) ≡ false
plain-side side.Low = refl
plain-side side.High = refl

pub plain-told_json : (t : Told) → has_float (told_json t) ≡ false
plain-told_json (Divided queries shares left values) =
    rw (plain-list_of pair_json (λ p. refl) (envy values), plain-piece left, plain-queries queries, plain-list_of piece_json plain-piece shares, plain-list_of row_json plain-row values)
plain-told_json (Halted queries query at) = rw (plain-queries queries, plain-side at)

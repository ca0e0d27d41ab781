-- The lines of goals.
use Rattle.std.specs.Prelude.{◌≡◌, ℕ, false, refl, codes}
use Rattle.serde_json.specs.Data.{Data, object, member, no_members}
use Rattle.serde_json.specs.Written.{has_float}
use Rattle.slice_num.specs.declared.choice.Choice.{Choice}
use Rattle.slice_num.specs.declared.choice.Choice.TheVariants as choice
use Rattle.slice_json.specs.Texts.{whole, signed, text, list_of, plain-list_of}
use Rattle.slice_linear.specs.Rows.{LinearRow}
use Rattle.slice_linear.specs.declared.row.RowKind.{RowKind}
use Rattle.slice_linear.specs.declared.row.RowKind.TheVariants as row_kind
use Rattle.slice_paths.specs.Goals.{Goal}
use Rattle.slice_paths.specs.declared.goal.GoalKind.{GoalKind}
use Rattle.slice_paths.specs.declared.goal.GoalKind.TheVariants as goal_kind

-- a choice that a run makes
abbrev pub choice_json : Choice → Data
choice_json choice.Low = text (codes "low")
choice_json choice.High = text (codes "high")
choice_json choice.Go = text (codes "go")
choice_json choice.Yes = text (codes "yes")
choice_json choice.No = text (codes "no")

-- what a row says of its sum: that it is 0, at least 0, or above 0
abbrev pub kind_json : RowKind → Data
kind_json row_kind.Zero = text (codes "zero")
kind_json row_kind.AtLeast = text (codes "atleast")
kind_json row_kind.Above = text (codes "above")

-- a row: its coefficients and its kind
abbrev pub linear_json : LinearRow → Data
linear_json r = object (member (codes "coefs") (list_of signed r.coefs) (member (codes "kind") (kind_json r.kind) no_members))

-- how the run ends that a goal speaks of: stuck at that query, or with an agent that envies another
abbrev pub outcome_json : ℕ → GoalKind → Data
outcome_json query goal_kind.Low = object (member (codes "query") (whole query) (member (codes "side") (text (codes "low")) no_members))
outcome_json query goal_kind.High = object (member (codes "query") (whole query) (member (codes "side") (text (codes "high")) no_members))
outcome_json query (goal_kind.Envy a b) = object (member (codes "agent") (whole a) (member (codes "envies") (whole b) no_members))

-- a goal: its number, its outcome, its rows and the choices to it
abbrev pub goal_json : Goal → Data
goal_json g =
    object (member (codes "goal") (whole g.number) (member (codes "outcome") (outcome_json g.query g.kind)
    (member (codes "rows") (list_of linear_json g.rows) (member (codes "trace") (list_of choice_json g.trace) no_members))))

-- so many goals
abbrev pub count_json : ℕ → Data
count_json n = object (member (codes "goals") (whole n) no_members)

-- ---- they have no float

plain-choice : (c : Choice) → has_float (choice_json c) ≡ false
plain-choice choice.Low = refl
plain-choice choice.High = refl
plain-choice choice.Go = refl
plain-choice choice.Yes = refl
plain-choice choice.No = refl

plain-kind : (k : RowKind) → has_float (kind_json k) ≡ false
plain-kind row_kind.Zero = refl
plain-kind row_kind.AtLeast = refl
plain-kind row_kind.Above = refl

plain-linear : (r : LinearRow) → has_float (linear_json r) ≡ false
plain-linear r = rw (plain-list_of signed (λ z. refl) r.coefs, plain-kind r.kind)

plain-outcome : (query : ℕ) (k : GoalKind) → has_float (outcome_json query k) ≡ false
plain-outcome query goal_kind.Low = refl
plain-outcome query goal_kind.High = refl
plain-outcome query (goal_kind.Envy a b) = refl

pub plain-goal_json : (g : Goal) → has_float (goal_json g) ≡ false
plain-goal_json g = rw (plain-outcome g.query g.kind, plain-list_of linear_json plain-linear g.rows, plain-list_of choice_json plain-choice g.trace)

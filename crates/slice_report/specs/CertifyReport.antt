-- The line of what is said of a certificate.
use Rattle.std.specs.Prelude.{◌≡◌, ℕ, true, false, refl, List, codes}
use Rattle.serde_json.specs.Data.{Data, Members, object, member, no_members, boolean}
use Rattle.serde_json.specs.Written.{has_float}
use Rattle.slice_json.specs.Texts.{whole, text}
use Rattle.slice_check.specs.declared.answer.HeaderField.{HeaderField}
use Rattle.slice_check.specs.declared.answer.HeaderField.TheVariants.{Kind, Version, Protocol, Agents}
use Rattle.slice_check.specs.declared.answer.Rejection.{Rejection}
use Rattle.slice_check.specs.declared.answer.Rejection.TheVariants as rejection
use Rattle.slice_check.specs.declared.answer.CertAnswer.{CertAnswer}
use Rattle.slice_check.specs.declared.answer.CertAnswer.TheVariants.{Accepted, Rejected}

-- ---- lines of one shape, with keys in the order of their bytes

-- what is wrong, and more of it
abbrev pub rejected_for : List ℕ → Members → Data
rejected_for name more = object (member (codes "accepted") (boolean false) (member (codes "fault") (text name) more))

abbrev pub of_field : List ℕ → Data
of_field name = rejected_for (codes "HeaderDiffers") (member (codes "field") (text name) no_members)

abbrev pub at_line : ℕ → List ℕ → Data
at_line line name = rejected_for name (member (codes "line") (whole line) no_members)

abbrev pub of_goal : ℕ → List ℕ → Data
of_goal goal name = rejected_for name (member (codes "goal") (whole goal) no_members)

-- ---- all lines

-- the part of the header
abbrev pub field_name : HeaderField → List ℕ
field_name Kind = codes "kind"
field_name Version = codes "version"
field_name Protocol = codes "protocol"
field_name Agents = codes "agents"

-- the first thing that is wrong, with its line, its goal, and its row or unknown
abbrev pub rejected_json : Rejection → Data
rejected_json (rejection.BadLine line) = at_line line (codes "BadLine")
rejected_json (rejection.LineTooLong line) = at_line line (codes "LineTooLong")
rejected_json (rejection.HeaderDiffers field) = of_field (field_name field)
rejected_json (rejection.GoalOrder line) = at_line line (codes "GoalOrder")
rejected_json (rejection.Missing goal) = of_goal goal (codes "Missing")
rejected_json (rejection.Extra line) = at_line line (codes "Extra")
rejected_json (rejection.ClosingDiffers line) = at_line line (codes "ClosingDiffers")
rejected_json rejection.NotClosed = rejected_for (codes "NotClosed") no_members
rejected_json (rejection.Length goal) = of_goal goal (codes "Length")
rejected_json (rejection.Sign goal row) = rejected_for (codes "Sign") (member (codes "goal") (whole goal) (member (codes "row") (whole row) no_members))
rejected_json (rejection.Sum goal unknown) = rejected_for (codes "Sum") (member (codes "goal") (whole goal) (member (codes "unknown") (whole unknown) no_members))
rejected_json (rejection.NoStrict goal) = of_goal goal (codes "NoStrict")

-- whether the certificate is accepted: for how many goals, or what is wrong with it first
abbrev pub certify_json : CertAnswer → Data
certify_json (Accepted goals) = object (member (codes "accepted") (boolean true) (member (codes "goals") (whole goals) no_members))
certify_json (Rejected r) = rejected_json r

-- it has no float
pub plain-certify_json : (a : CertAnswer) → has_float (certify_json a) ≡ false
plain-certify_json (Accepted goals) = refl
plain-certify_json (Rejected (rejection.BadLine line)) = refl
plain-certify_json (Rejected r) = refl

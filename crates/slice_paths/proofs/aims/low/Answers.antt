use Rattle.std.proofs.Common.{◌++◌, ◌∷◌, [], pos, subst}
use Rattle.slice_num.specs.Rational.{Rational, whole}
use Rattle.slice_num.specs.declared.choice.Choice.TheVariants as choice
use Rattle.slice_linear.specs.Terms.{IsWholeForm}
use Rattle.slice_atoms.specs.Forms.{fixed_form}
use Rattle.slice_atoms.specs.Numbers.{cake_of}
use Rattle.slice_atoms.proofs.Items.{all_ok}
use Rattle.slice_paths.specs.Events.{low_goal}
use Rattle.slice_paths.specs.Spots.{form_of, way_of}
use Rattle.slice_paths.specs.declared.goal.GoalKind.TheVariants as goal_kind
use Rattle.slice_paths.proofs.AimLaws.{told, memory_fails, if_ok, same_as}
use Rattle.slice_paths.proofs.Depends.{same_self}
use Rattle.slice_paths.proofs.SumLaws.{all_err, whole_stands}
use Rattle.slice_paths.proofs.aims.low.Goals as goal

pub goal_rows-requires-clause-over : goal.goal_rows-requires-clause-over
goal_rows-requires-clause-over c =
    let s = c.args.spot.now in
    (whole_stands s.atoms s.atoms.agents c.whole.result c.in-Ok.none c.requires.known.numbering c.in-Ok.ensures).within

pub returns-in-Err-goal_rows-clause-err : goal.returns-in-Err-goal_rows-clause-err
returns-in-Err-goal_rows-clause-err c es =
    let s = c.args.spot.now in
    let k = cake_of s.atoms.olds in
    let f = form_of s.atoms c.args.amount.now in
    let none = (whole_stands s.atoms s.atoms.agents (whole (pos 0)) c.in-Ok.none c.requires.known.numbering (subst (λ (q : Rational). IsWholeForm q c.in-Ok.none) c.whole.ensures c.in-Ok.ensures)).is in
    c.in-Err-goal_rows.ensures.err (fixed_form (whole (pos 0))) f (same_as k (form_of s.atoms c.in-Ok.none) (fixed_form (whole (pos 0))) none) (same_self k f) (s.trace ++ choice.Low ∷ []) goal_kind.Low es

pub returns-clause-ok : goal.returns-clause-ok
returns-clause-ok c =
    let s = c.args.spot.now in
    let k = cake_of s.atoms.olds in
    let f = form_of s.atoms c.args.amount.now in
    let none = (whole_stands s.atoms s.atoms.agents (whole (pos 0)) c.in-Ok.none c.requires.known.numbering (subst (λ (q : Rational). IsWholeForm q c.in-Ok.none) c.whole.ensures c.in-Ok.ensures)).is in
    all_ok c.stuck.result _ _
    (λ g e. told c.args.agents c.args.given s (fixed_form (whole (pos 0))) f c.in-Ok-goal_rows.rows.items (s.trace ++ choice.Low ∷ []) goal_kind.Low g
    (c.in-Ok-goal_rows.ensures.ok (fixed_form (whole (pos 0))) f (same_as k (form_of s.atoms c.in-Ok.none) (fixed_form (whole (pos 0))) none) (same_self k f)) e)
    c.stuck.ensures.ok

pub returns-clause-few : goal.returns-clause-few
returns-clause-few c = if_ok c.stuck.result _ c.in-Ok-goal_rows.ensures.few

pub returns-clause-err : goal.returns-clause-err
returns-clause-err c =
    let s = c.args.spot.now in
    all_err c.stuck.result _ _ (λ fault e. memory_fails c.args.given (low_goal c.args.agents (form_of s.atoms c.args.amount.now) (way_of s)) fault e) c.stuck.ensures.err

use Rattle.std.proofs.Common.{◌-◌}
use Rattle.slice_num.specs.Pieces.{piece_at}
use Rattle.slice_atoms.specs.Forms.{piece_form}
use Rattle.slice_atoms.proofs.Items.{all_ok}
use Rattle.slice_paths.specs.Events.{envy_goal}
use Rattle.slice_paths.specs.Spots.{way_of}
use Rattle.slice_paths.specs.declared.goal.GoalKind.TheVariants as goal_kind
use Rattle.slice_paths.proofs.AimLaws.{told, memory_fails, if_ok}
use Rattle.slice_paths.proofs.SumLaws.{all_err}
use Rattle.slice_paths.proofs.aims.envy.Goals as goal

pub returns-in-Err-goal_rows-clause-err : goal.returns-in-Err-goal_rows-clause-err
returns-in-Err-goal_rows-clause-err c es =
    let s = c.args.spot.now in
    let f = piece_form c.args.a (piece_at (way_of s).shares (c.args.b - 1)) in
    let g = piece_form c.args.a (piece_at (way_of s).shares (c.args.a - 1)) in
    c.in-Err-goal_rows.ensures.err f g c.in-Ok.ensures.same c.in-Ok-share_form.ensures.same s.trace (goal_kind.Envy c.args.a c.args.b) es

pub returns-clause-ok : goal.returns-clause-ok
returns-clause-ok c =
    let s = c.args.spot.now in
    let f = piece_form c.args.a (piece_at (way_of s).shares (c.args.b - 1)) in
    let g = piece_form c.args.a (piece_at (way_of s).shares (c.args.a - 1)) in
    all_ok c.at_end.result _ _
    (λ x e. told c.args.agents c.args.given s f g c.in-Ok-goal_rows.rows.items s.trace (goal_kind.Envy c.args.a c.args.b) x (c.in-Ok-goal_rows.ensures.ok f g c.in-Ok.ensures.same c.in-Ok-share_form.ensures.same) e)
    c.at_end.ensures.ok

pub returns-clause-few : goal.returns-clause-few
returns-clause-few c = if_ok c.at_end.result _ c.in-Ok-goal_rows.ensures.few

pub returns-clause-err : goal.returns-clause-err
returns-clause-err c =
    let s = c.args.spot.now in
    all_err c.at_end.result _ _ (λ fault e. memory_fails c.args.given (envy_goal c.args.agents (way_of s) (c.args.a, c.args.b)) fault e) c.at_end.ensures.err

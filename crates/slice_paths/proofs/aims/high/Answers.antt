use Rattle.std.proofs.Common.{◌≡◌, ◌<◌, ℕ, ◌++◌, ◌∷◌, [], length, arith, sym, subst}
use Rattle.slice_num.specs.Pieces.{piece_at}
use Rattle.slice_num.specs.declared.choice.Choice.TheVariants as choice
use Rattle.slice_core.specs.Agents.{IsAgent}
use Rattle.slice_atoms.specs.Forms.{piece_form}
use Rattle.slice_atoms.specs.Numbers.{cake_of}
use Rattle.slice_atoms.proofs.Items.{all_ok}
use Rattle.slice_paths.specs.Events.{high_goal}
use Rattle.slice_paths.specs.Spots.{form_of, way_of}
use Rattle.slice_paths.specs.declared.goal.GoalKind.TheVariants as goal_kind
use Rattle.slice_paths.proofs.AimLaws.{told, memory_fails, if_ok}
use Rattle.slice_paths.proofs.Depends.{same_self}
use Rattle.slice_paths.proofs.GoLaws.{live_there}
use Rattle.slice_paths.proofs.SumLaws.{all_err}
use Rattle.slice_paths.proofs.aims.high.Goals as goal

pub piece_form-requires : goal.piece_form-requires
piece_form-requires c =
    let h = c.requires.1 in
    let there : c.args.cut.now.piece < length h.goes.live = live_there h.goes.live c.args.cut.now.piece h.goes.is_live in
    let made : length h.goes.live ≡ length c.args.spot.now.atoms.pieces = h.goes.made in
    omega (arith, there, made)

pub returns-in-Err-goal_rows-clause-err : goal.returns-in-Err-goal_rows-clause-err
returns-in-Err-goal_rows-clause-err c es =
    let s = c.args.spot.now in
    let cut = c.args.cut.now in
    let h = c.requires.1 in
    let k = cake_of s.atoms.olds in
    let f = form_of s.atoms cut.amount in
    let g = piece_form cut.agent (piece_at (way_of s).pieces cut.piece) in
    let value = c.in-Ok.ensures.value h.known (subst (λ (n : ℕ). IsAgent n cut.agent) (sym h.goes.agents_are) h.goes.agent_there) (h.goes.held cut.piece h.goes.is_live) in
    c.in-Err-goal_rows.ensures.err f g (same_self k f) value.same (s.trace ++ choice.High ∷ []) goal_kind.High es

pub returns-clause-ok : goal.returns-clause-ok
returns-clause-ok c =
    let s = c.args.spot.now in
    let cut = c.args.cut.now in
    let h = c.requires.1 in
    let k = cake_of s.atoms.olds in
    let f = form_of s.atoms cut.amount in
    let g = piece_form cut.agent (piece_at (way_of s).pieces cut.piece) in
    let value = c.in-Ok.ensures.value h.known (subst (λ (n : ℕ). IsAgent n cut.agent) (sym h.goes.agents_are) h.goes.agent_there) (h.goes.held cut.piece h.goes.is_live) in
    all_ok c.stuck.result _ _
    (λ x e. told c.args.agents c.args.given s f g c.in-Ok-goal_rows.rows.items (s.trace ++ choice.High ∷ []) goal_kind.High x (c.in-Ok-goal_rows.ensures.ok f g (same_self k f) value.same) e)
    c.stuck.ensures.ok

pub returns-clause-few : goal.returns-clause-few
returns-clause-few c = if_ok c.stuck.result _ c.in-Ok-goal_rows.ensures.few

pub returns-clause-err : goal.returns-clause-err
returns-clause-err c =
    let s = c.args.spot.now in
    let cut = c.args.cut.now in
    all_err c.stuck.result _ _ (λ fault e. memory_fails c.args.given (high_goal c.args.agents cut.agent cut.piece (form_of s.atoms cut.amount) (way_of s)) fault e) c.stuck.ensures.err

use Rattle.std.proofs.Common.{◌≡◌, ◌∙◌, ℕ, ◌<◌, arith, List, [], ◌∷◌, length}
use Rattle.std.specs.List.{All}
use Rattle.slice_core.specs.Cores.{core_of}
use Rattle.slice_linear.specs.Rows.{LinearRow, width}
use Rattle.slice_verify.proofs.verifier.found.Goals as goal

first_row : (w : ℕ) (rows : List LinearRow) → 0 < length rows → All (λ (r : LinearRow). length r.coefs ≡ w) rows → width rows ≡ w
first_row w [] l h = absurd (omega arith)
first_row w (r ∷ rs) l h = h 0 r (omega arith)

pub build-requires-clause-long : goal.build-requires-clause-long
build-requires-clause-long c =
    c.requires.long
    ∙ first_row _ c.args.goal.now.rows c.requires.rows.some_row (c.rows_are_over_the_unknowns.ensures (core_of c.args.core.now) c.args.goal.now c.requires.goal)

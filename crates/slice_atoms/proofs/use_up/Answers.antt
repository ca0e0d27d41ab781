use Rattle.std.proofs.Common.{◌∙◌, ap}
use Rattle.std.specs.Prelude.{map, slice_set}
use Rattle.slice_atoms.proofs.Items.{map_set}
use Rattle.slice_atoms.proofs.use_up.Goals as goal

pub returns-clause-items : goal.returns-clause-items
returns-clause-items c =
    map_set (λ p. p.items) c.args.pieces.now.items c.args.at c.clear.new.self
    ∙ ap (slice_set (map (λ p. p.items) c.args.pieces.now.items) c.args.at) c.clear.ensures.items

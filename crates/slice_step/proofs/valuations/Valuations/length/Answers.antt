use Rattle.std.proofs.Common.{◌≡◌, subst, List}
use Rattle.std.specs.List.{All}
use Rattle.slice_num.specs.Valuation.{Valuation, cake_length}
use Rattle.slice_step.proofs.Ends.{one_end}
use Rattle.slice_step.proofs.valuations.Valuations.length.Goals as goal

pub returns-clause-of_each : goal.returns-clause-of_each
returns-clause-of_each c =
    subst (λ (vs : List Valuation). All (λ w. c.length.result ≡ cake_length w) vs) c.self.view_is
    (one_end c.self.inside.items.items c.index-first.result.now c.length.result c.self.invariant.0 c.self.invariant.1 c.index-first.ensures c.length.ensures)

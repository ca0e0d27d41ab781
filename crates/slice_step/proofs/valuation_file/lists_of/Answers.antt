use Rattle.serde_json.specs.View.{items_view}
use Rattle.std.proofs.Common.{sym, ◌∙◌}
use Rattle.slice_step.proofs.EntryLaws.{steps_from}
use Rattle.slice_step.proofs.valuation_file.lists_of.Goals as goal

pub returns-clause-steps : goal.returns-clause-steps
returns-clause-steps c =
    steps_from (items_view c.in-Some.ends.now.items) (items_view c.in-Some-items_at.heights.now.items) _ _
    (rw c.in-Some-2.is at c.in_ok-ends.ensures)
    (rw c.in-Some-3.is at c.in_ok-heights.ensures)
    (sym c.are_steps.ensures ∙ c.if-not-are_steps.false)

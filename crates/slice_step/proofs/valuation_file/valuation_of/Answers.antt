use Rattle.std.proofs.Common.{sym, ◌∙◌}
use Rattle.slice_step.proofs.EntryLaws.{ends_held, small_from}
use Rattle.slice_step.proofs.valuation_file.valuation_of.Goals as goal

pub naturals-requires : goal.naturals-requires
naturals-requires c = record { small = ends_held c.args.ends.now.items (sym c.are_ends.ensures ∙ c.if-not-are_ends.false) }

pub new-requires : goal.new-requires
new-requires c =
    small_from c.args.ends.now.items c.args.heights.now.items c.in_ok-ends.ends.items c.in_ok-heights.heights.items c.in_ok-ends.ensures c.in_ok-heights.ensures c.requires.steps
    (sym c.are_ends.ensures ∙ c.if-not-are_ends.false)
    (sym c.are_heights.ensures ∙ c.if-not-are_heights.false)
    (sym c.are_zero.ensures ∙ c.if-are_zero.false)

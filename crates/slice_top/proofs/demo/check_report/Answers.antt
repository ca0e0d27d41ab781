use Rattle.std.proofs.Common.{◌∙◌}
use Rattle.slice_core.specs.Cores.{core_of}
use Rattle.slice_top.proofs.Demos.{not_rejected}
use Rattle.slice_top.proofs.demo.check_report.Goals as goal

pub unreachable-requires : goal.unreachable-requires
unreachable-requires c =
    not_rejected (core_of c.args.core.now) c.new-shelf.result c.args.report.items (c.new-shelf.ensures.name ∙ c.in-Ok.ensures.ok) c.new-shelf.ensures.bytes c.in-Ok-Rejected.field-0-0
    (rw c.in-Ok-Rejected.field-0-is at c.in-Ok-Rejected.ensures.ok) c.requires.accepts

use Rattle.slice_check.proofs.OneUpgrade.{one_upgrade, one_upgrade_fault, upgrade_or_fault}
use Rattle.slice_check.proofs.laws.one_thing_is_written_of_a_file.Goals as goal

pub returns : goal.returns
returns c = record { answers = one_upgrade; faults = one_upgrade_fault; either = upgrade_or_fault }

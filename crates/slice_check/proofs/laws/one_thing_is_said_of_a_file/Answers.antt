use Rattle.slice_check.proofs.OneStop.{answer_or_fault, one_answer, one_fault, one_rejection}
use Rattle.slice_check.proofs.laws.one_thing_is_said_of_a_file.Goals as goal

pub returns : goal.returns
returns c = record { rejections = one_rejection; answers = one_answer; faults = one_fault; either = answer_or_fault }

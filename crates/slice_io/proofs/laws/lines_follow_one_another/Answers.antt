use Rattle.slice_io.proofs.Gathering.{lines_step, lines_joined, lines_left}
use Rattle.slice_io.proofs.laws.lines_follow_one_another.Goals as goal

pub returns : goal.returns
returns c = record { next = lines_step; joined = lines_joined; numbered = lines_left }

use Rattle.slice_counter.proofs.ClosingReplays.{closing_lines_replay}
use Rattle.slice_counter.proofs.replay_law.closing_lines_are_replay_files.Goals as goal

pub returns : goal.returns
returns c = closing_lines_replay

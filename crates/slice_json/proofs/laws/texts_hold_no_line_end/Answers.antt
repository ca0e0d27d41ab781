use Rattle.slice_json.proofs.LineEnds.{no_end_in_text}
use Rattle.slice_json.proofs.laws.texts_hold_no_line_end.Goals as goal

pub returns : goal.returns
returns c = no_end_in_text

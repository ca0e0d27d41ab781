use Rattle.slice_report.proofs.Texts.{name_is_text}
use Rattle.slice_report.proofs.line.name_of.Goals as goal

pub text_of-requires : goal.text_of-requires
text_of-requires c = name_is_text c.args.word.now c.requires

use Rattle.slice_num.specs.Name.{is_word_byte}
use Rattle.std.proofs.Common.{get_or}
use Rattle.slice_lex.proofs.Bytes.{letter_is_word_byte}
use Rattle.slice_lex.proofs.Steps.{run_within, run_some, run_is, word_token}
use Rattle.slice_lex.proofs.lexer.word_at.Goals as goal

pub returns-clause-token : goal.returns-clause-token
returns-clause-token c =
    word_token c.args.file.now c.args.at c.word_length-length.result c.requires.within c.requires.letter (run_is is_word_byte c.args.file.now c.args.at _ c.word_length-length.ensures.count) c.if-length-gt-LONGEST_WORD.false

pub returns-clause-span : goal.returns-clause-span
returns-clause-span c = (
  run_some is_word_byte c.args.file.now c.args.at c.word_length-length.result c.requires.within (letter_is_word_byte (get_or c.args.file.now c.args.at 0) c.requires.letter) (run_is is_word_byte c.args.file.now c.args.at _ c.word_length-length.ensures.count),
  run_within is_word_byte c.args.file.now c.args.at c.word_length-length.result c.requires.within (run_is is_word_byte c.args.file.now c.args.at _ c.word_length-length.ensures.count),
)

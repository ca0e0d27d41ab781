use Rattle.std.proofs.Common.{◌≡◌, ◌≤◌, ◌+◌, get_or, inl, inr}
use Rattle.std.specs.Prelude.{◌⊎◌}
use Rattle.slice_num.specs.Name.{is_digit, is_word_byte}
use Rattle.slice_lex.proofs.Steps.{run_within, run_some, run_is, begins_is, number_token, number_runs_on}
use Rattle.slice_lex.proofs.lexer.number_at.Goals as goal
use Rattle.slice_lex.proofs.lexer.number_at.Goals.{else-length-gt1-via-then-length-gt1+else-file-at-eq48, else-length-gt1-via-else-length-gt1}

pub returns-then-begins_with_word_byte-clause-fault : goal.returns-then-begins_with_word_byte-clause-fault
returns-then-begins_with_word_byte-clause-fault c =
    let lead : (c.number_length-length.result ≤ 1) ⊎ (get_or c.args.file.now c.args.at 0 ≡ 48 → ⊥) =
    elim c.else-length-gt1.branch [
      | else-length-gt1-via-then-length-gt1+else-file-at-eq48 w ↦ inr w.if-file-at-eq48.false
      | else-length-gt1-via-else-length-gt1 w ↦ inl w.if-length-gt1.false
    ] in
    inr (number_runs_on c.args.file.now c.args.at c.number_length-length.result c.requires.within c.requires.digit (run_is is_digit c.args.file.now c.args.at _ c.number_length-length.ensures.count) lead c.if-length-gt-MOST_DIGITS.false (begins_is is_word_byte c.args.file.now (c.args.at + c.number_length-length.result) _ c.if-begins_with_word_byte.ensures))

pub returns-clause-token : goal.returns-clause-token
returns-clause-token c =
    let lead : (c.number_length-length.result ≤ 1) ⊎ (get_or c.args.file.now c.args.at 0 ≡ 48 → ⊥) =
    elim c.else-length-gt1.branch [
      | else-length-gt1-via-then-length-gt1+else-file-at-eq48 w ↦ inr w.if-file-at-eq48.false
      | else-length-gt1-via-else-length-gt1 w ↦ inl w.if-length-gt1.false
    ] in
    number_token c.args.file.now c.args.at c.number_length-length.result c.requires.within c.requires.digit (run_is is_digit c.args.file.now c.args.at _ c.number_length-length.ensures.count) lead c.if-length-gt-MOST_DIGITS.false (begins_is is_word_byte c.args.file.now (c.args.at + c.number_length-length.result) _ c.if-begins_with_word_byte.ensures)

pub returns-clause-span : goal.returns-clause-span
returns-clause-span c = (
  run_some is_digit c.args.file.now c.args.at c.number_length-length.result c.requires.within c.requires.digit (run_is is_digit c.args.file.now c.args.at _ c.number_length-length.ensures.count),
  run_within is_digit c.args.file.now c.args.at c.number_length-length.result c.requires.within (run_is is_digit c.args.file.now c.args.at _ c.number_length-length.ensures.count),
)

use Rattle.std.proofs.Common.{◌≡◌, drop}
use Rattle.slice_num.specs.Name.{all_word_bytes}
use Rattle.slice_lex.proofs.name.has_word_bytes.Given as goal

abbrev pub invariant-loop-byte : goal.invariant-loop-byte
invariant-loop-byte l = all_word_bytes (drop l.byte-index l.bytes) ≡ all_word_bytes l.bytes

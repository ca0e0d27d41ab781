use Rattle.slice_lex.proofs.Bytes.{first_byte}
use Rattle.slice_lex.proofs.Exists.{some_lexing}
use Rattle.slice_lex.proofs.Unique.{lexings_unique}
use Rattle.slice_lex.proofs.laws.lexings_are_unique.Goals as goal

pub returns-clause-unique : goal.returns-clause-unique
returns-clause-unique c = lexings_unique

pub returns-clause-some : goal.returns-clause-some
returns-clause-some c = some_lexing

pub returns-clause-first_byte : goal.returns-clause-first_byte
returns-clause-first_byte c = first_byte

use Rattle.slice_lex.proofs.Spelled.{lexed_spelled, spelled_lexed}
use Rattle.slice_lex.proofs.laws.spelled_tokens_are_lexed.Goals as goal

pub returns-clause-lexed : goal.returns-clause-lexed
returns-clause-lexed c = spelled_lexed

pub returns-clause-spelled : goal.returns-clause-spelled
returns-clause-spelled c = lexed_spelled

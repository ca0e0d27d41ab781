use Rattle.slice_ast.proofs.CalmLemmas.{program-tokens, program-apart}
use Rattle.slice_ast.proofs.laws.programs_have_tokens.Goals as goal

pub returns : goal.returns
returns c = record { tokens = program-tokens; apart = program-apart }

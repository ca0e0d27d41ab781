use Rattle.slice_ast.proofs.SpellingLemmas.{spells-canonical}
use Rattle.slice_ast.proofs.laws.canonical_texts_spell.Goals as goal

pub returns : goal.returns
returns c = spells-canonical

-- What holds of every program and its canonical text.
use Rattle.std.specs.Prelude.{◌≡◌, ℕ, List, IsTrue}
use Rattle.std.specs.List.{list_all}
use Rattle.slice_lex.specs.Text.{is_token, Spells, no_angle_before_equals}
use Rattle.slice_ast.specs.Code.{PlainProgram}
use Rattle.slice_ast.specs.Tokens.{tokens}
use Rattle.slice_ast.specs.Spellable.{IsSpellable}
use Rattle.slice_ast.specs.Layout.{canonical}
use Rattle.slice_ast.specs.Bare.{without_places}

-- the canonical text of any texts spells them: the gaps are layout, and none is empty between two words or numbers
abbrev pub CanonicalTextsSpell : Type 0
CanonicalTextsSpell = (texts : List (List ℕ)) → Spells (canonical texts) texts

-- the tokens of a program that the grammar can spell are words, numbers and signs
abbrev pub TokensAreTokens : Type 0
TokensAreTokens = (p : PlainProgram) → IsSpellable p → IsTrue (list_all is_token (tokens p))

-- none of them is `<` or `>` directly before `=`
abbrev pub NoAngleBeforeEquals : Type 0
NoAngleBeforeEquals = (p : PlainProgram) → IsSpellable p → IsTrue (no_angle_before_equals (tokens p))

-- two programs that the grammar can spell and that have the same tokens are the same, places aside
abbrev pub ProgramsAreTold : Type 0
ProgramsAreTold = (p q : PlainProgram) → IsSpellable p → IsSpellable q → tokens p ≡ tokens q → without_places p ≡ without_places q

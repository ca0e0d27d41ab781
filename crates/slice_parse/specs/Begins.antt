-- Texts that are the tokens of a program, or its first ones.
use Rattle.std.specs.Prelude.{◌≡◌, ℕ, List, ◌++◌}
use Rattle.slice_ast.specs.Code.{PlainProgram}
use Rattle.slice_ast.specs.Tokens.{tokens}
use Rattle.slice_ast.specs.Spellable.{IsSpellable}

-- some program's tokens begin with these texts
pub record Begins (texts : List (List ℕ)) : Type 0 where
  pub program : PlainProgram
  pub more : List (List ℕ)
  pub spelled : IsSpellable program
  pub whole : tokens program ≡ texts ++ more

-- these texts are the tokens of some program
pub record IsWhole (texts : List (List ℕ)) : Type 0 where
  pub program : PlainProgram
  pub spelled : IsSpellable program
  pub whole : tokens program ≡ texts

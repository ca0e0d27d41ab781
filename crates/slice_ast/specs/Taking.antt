-- Tokens that are taken one after the other.
use Rattle.std.specs.Prelude.{ℕ, List, [], ◌∷◌}
use Rattle.slice_ast.specs.Tokens.{Mark, text_of}

-- what something is after it took the tokens, where `after` says what it is after one
abbrev pub taken : {S : Type 0} → (S → List ℕ → S) → S → List Mark → S
taken after s [] = s
taken after s (m ∷ ms) = taken after (after s (text_of m)) ms

-- What holds of every file and its lexing.
use Rattle.std.specs.Prelude.{◌≡◌, ℕ, List, [], ◌∷◌, IsTrue}
use Rattle.std.specs.List.{list_all}
use Rattle.slice_lex.specs.declared.token.Token.{Token}
use Rattle.slice_lex.specs.Text.{is_token, Spells, no_angle_before_equals}
use Rattle.slice_lex.specs.Lexing.{Lexing, Tokens, IsLexing, texts_of}

-- a file is read in one way alone
abbrev pub LexingsAreUnique : Type 0
LexingsAreUnique = (file : List ℕ) (one other : Lexing) → IsLexing file one → IsLexing file other → one ≡ other

-- each file is read in some way
abbrev pub EachFileHasALexing : Type 0
EachFileHasALexing = (file : List ℕ) → (lexing : Lexing) × IsLexing file lexing

-- a byte that is no token by itself begins none
abbrev pub TokensBeginWithTokens : Type 0
TokensBeginWithTokens = (c : ℕ) (more : List ℕ) → IsTrue (is_token (c ∷ more)) → IsTrue (is_token (c ∷ []))

-- a file that spells tokens is read as tokens that have these texts
abbrev pub SpelledTokensAreLexed : Type 0
SpelledTokensAreLexed =
    (file : List ℕ) (texts : List (List ℕ)) → IsTrue (list_all is_token texts) → IsTrue (no_angle_before_equals texts) → Spells file texts
    → (ts : List Token) × (IsLexing file (Tokens ts) × (texts_of file ts ≡ texts))

-- a file that is read as tokens spells their texts, and each of these is a token
abbrev pub LexedTokensAreSpelled : Type 0
LexedTokensAreSpelled = (file : List ℕ) (ts : List Token) → IsLexing file (Tokens ts) → Spells file (texts_of file ts) × IsTrue (list_all is_token (texts_of file ts))

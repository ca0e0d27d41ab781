-- What a text is parsed as: a program with its places, or the first fault.
use Rattle.std.specs.Prelude.{◌≡◌, ℕ, List, [], ◌∷◌, ◌++◌, length, ◌⊎◌}
use Rattle.slice_lex.specs.declared.token.Token.{Token}
use Rattle.slice_lex.specs.Lexing.{IsLexing, Tokens, Fault, text_of, texts_of}
use Rattle.slice_parse.specs.declared.parser.ParseFault.{ParseFault}
use Rattle.slice_parse.specs.declared.parser.ParseFault.TheVariants.{Lex, Syntax, DeepBlock, LongSum, Memory}
use Rattle.slice_parse.specs.Begins.{Begins, IsWhole}
use Rattle.slice_parse.specs.Limits.{OpensTooDeep, MakesTooLong, KeepLimits}

-- no program's tokens begin with those through the one that begins at this place, but some program's do with those before it, and these pass no limit
pub record IsWrong (bytes : List ℕ) (at : ℕ) : Type 0 where
  pub front : List Token
  pub wrong : Token
  pub back : List Token
  pub lexed : IsLexing bytes (Tokens (front ++ wrong ∷ back))
  pub place : at ≡ wrong.from
  pub begins : Begins (texts_of bytes front)
  pub keep : KeepLimits (texts_of bytes front)
  pub dead : Begins (texts_of bytes (front ++ wrong ∷ [])) → ⊥

-- the text's tokens are no program's, but some program's begin with them, and they pass no limit; the place is the end of the text
pub record IsCutShort (bytes : List ℕ) (at : ℕ) : Type 0 where
  pub tokens : List Token
  pub lexed : IsLexing bytes (Tokens tokens)
  pub place : at ≡ length bytes
  pub begins : Begins (texts_of bytes tokens)
  pub keep : KeepLimits (texts_of bytes tokens)
  pub short : IsWhole (texts_of bytes tokens) → ⊥

-- the token that begins at this place is the first that passes a limit, this one, and some program's tokens begin with those through it
pub record PassesAt (Limit : List (List ℕ) → List ℕ → Type 0) (bytes : List ℕ) (at : ℕ) : Type 0 where
  pub front : List Token
  pub wrong : Token
  pub back : List Token
  pub lexed : IsLexing bytes (Tokens (front ++ wrong ∷ back))
  pub place : at ≡ wrong.from
  pub begins : Begins (texts_of bytes (front ++ wrong ∷ []))
  pub keep : KeepLimits (texts_of bytes front)
  pub limit : Limit (texts_of bytes front) (text_of bytes wrong)

-- the text has this fault first; want of memory may come with any text
abbrev pub IsFaultOf : List ℕ → ParseFault → Type 0
IsFaultOf bytes (Lex fault) = IsLexing bytes (Fault fault)
IsFaultOf bytes (Syntax at) = IsWrong bytes at ⊎ IsCutShort bytes at
IsFaultOf bytes (DeepBlock at) = PassesAt OpensTooDeep bytes at
IsFaultOf bytes (LongSum at) = PassesAt MakesTooLong bytes at
IsFaultOf bytes Memory = Unit {0}

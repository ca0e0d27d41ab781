-- Tokens told apart: what a token of a text is.
use Rattle.std.specs.Prelude.{◌≡◌, ℕ, ◌<◌, ◌^◌, List, [], ◌∷◌, map, IsTrue}
use Rattle.slice_num.specs.Name.{is_name}
use Rattle.slice_lex.specs.declared.token.Token as lex
use Rattle.slice_lex.specs.Lexing as lexing
use Rattle.slice_parse.specs.declared.lexeme.What.{What}
use Rattle.slice_parse.specs.declared.lexeme.What.TheVariants as what
use Rattle.slice_parse.specs.Combinators.{Token}
use Rattle.slice_parse.specs.Lexemes.{text_of}

-- a name of the language, a number of at most 18 digits, a keyword or a sign
abbrev pub IsSoundWhat : What → Type 0
IsSoundWhat (what.Fixed f) = Unit {0}
IsSoundWhat (what.Name w) = IsTrue (is_name w)
IsSoundWhat (what.Number n) = n < 10 ^ 18

-- each token is sound
abbrev pub AreSound : List Token → Type 0
AreSound [] = Unit {0}
AreSound (t ∷ ts) = IsSoundWhat t.what × AreSound ts

-- the texts of tokens
abbrev pub texts_of : List Token → List (List ℕ)
texts_of ts = map text_of ts

-- the token of the file is told apart so
pub record IsToldApart (file : List ℕ) (t : lex.Token) (l : Token) : Type 0 where
  pub text : text_of l ≡ lexing.text_of file t
  pub place : l.at ≡ t.from
  pub sound : IsSoundWhat l.what

-- the tokens of the file are told apart so
pub record AreToldApart (file : List ℕ) (ts : List lex.Token) (ls : List Token) : Type 0 where
  pub texts : texts_of ls ≡ lexing.texts_of file ts
  pub places : map (λ l. l.at) ls ≡ map (λ t. t.from) ts
  pub sound : AreSound ls

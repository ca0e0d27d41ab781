-- The places of a program: where its tokens begin, as its tree tells it.
use Rattle.std.specs.Prelude.{◌≡◌, ℕ, List, [], ◌∷◌, map, Option, Some, None}
use Rattle.slice_ast.specs.Code.{PlainProgram}
use Rattle.slice_ast.specs.Tokens.{Mark, place_of, program_marks, tokens}
use Rattle.slice_lex.specs.Lexing.{Tokens, IsLexing, texts_of}
use Rattle.slice_lex.specs.declared.token.Token.{Token}

-- where the tree gives a place, it is this one
abbrev pub IsPlace : Option ℕ → ℕ → Type 0
IsPlace None start = Unit {0}
IsPlace (Some at) start = at ≡ start

-- each token that has a place has the one at which it begins; `starts` are where the tokens begin, in order
abbrev pub AreAt : List Mark → List ℕ → Type 0
AreAt [] [] = Unit {0}
AreAt [] (start ∷ starts) = ⊥
AreAt (m ∷ ms) [] = ⊥
AreAt (m ∷ ms) (start ∷ starts) = IsPlace (place_of m) start × AreAt ms starts

-- the places in a program are right, where its tokens begin so
abbrev pub HasPlaces : PlainProgram → List ℕ → Type 0
HasPlaces p starts = AreAt (program_marks p) starts

-- the file is read as the tokens of the program, and each place in it is where its token begins
abbrev pub IsRead : List ℕ → PlainProgram → Type 0
IsRead file p = (ts : List Token) × (IsLexing file (Tokens ts) × (texts_of file ts ≡ tokens p) × HasPlaces p (map (λ t. t.from) ts))

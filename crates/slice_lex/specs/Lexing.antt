-- How a file is read: as its tokens with their places, or as its first fault.
use Rattle.std.specs.Prelude.{◌≡◌, ℕ, ◌+◌, ◌<◌, ◌≤◌, Bool, ◌&&◌, ◌||◌, not, ◌==◌, List, [], ◌∷◌, ◌++◌, map, length, drop, IsTrue, ◌⊎◌, Option, Some, None, slice_range}
use Rattle.std.specs.List.{prefix_len}
use Rattle.slice_num.specs.Name.{is_letter, is_digit, is_word_byte, is_word}
use Rattle.slice_lex.specs.declared.token.Token.{Token}
use Rattle.slice_lex.specs.declared.token.TokenKind.{TokenKind}
use Rattle.slice_lex.specs.declared.token.TokenKind.TheVariants.{Word, Number, Sign}
use Rattle.slice_lex.specs.declared.token.LexFault.{LexFault}
use Rattle.slice_lex.specs.declared.token.LexFault.TheVariants.{BadByte, LongWord, LongNumber, LeadingZero, Memory}
use Rattle.slice_lex.specs.Text.{is_gap_byte, begins, Gap, is_number, is_sign, is_token, is_angle}

-- a word, a number or a sign, as the kind says; a keyword is a word
abbrev pub is_of_kind : TokenKind → List ℕ → Bool
is_of_kind Word text = is_word text
is_of_kind Number text = is_number text
is_of_kind Sign text = is_sign text

-- the text is as long as possible where `rest` comes behind it: no letter, digit or `_` follows a word or a number directly, and no `=` follows `<` or `>`
abbrev pub is_longest : TokenKind → List ℕ → List ℕ → Bool
is_longest Word text rest = not (begins is_word_byte rest)
is_longest Number text rest = not (begins is_word_byte rest)
is_longest Sign text rest = not (is_angle text && begins (λ c. c == 61) rest)

-- the text, with `rest` behind it, is the token that begins at this place
pub record IsTokenAt (at : ℕ) (text rest : List ℕ) (t : Token) : Type 0 where
  pub kind : IsTrue (is_of_kind t.kind text)
  pub longest : IsTrue (is_longest t.kind text rest)
  pub from : t.from ≡ at
  pub to : t.to ≡ at + length text

-- a byte that is no token by itself, and so begins none, and is neither layout nor `#`
abbrev pub is_stray : ℕ → Bool
is_stray c = not (is_token (c ∷ []) || is_gap_byte c)

-- a number stands here, and at the place `at`, directly behind it, comes a letter or `_`
pub record RunsOn (place : ℕ) (bytes : List ℕ) (at : ℕ) : Type 0 where
  pub digits : List ℕ
  pub rest : List ℕ
  pub whole : bytes ≡ digits ++ rest
  pub number : IsTrue (is_number digits)
  pub letter : IsTrue (begins (λ c. is_letter c || (c == 95)) rest)
  pub behind : at ≡ place + length digits

-- what the file has from this place on begins with the fault. A long word is more than 64 letters, digits and `_`, the first a letter; a leading zero is `0` and more digits; a long number is more than 18 digits, the first not `0`. `prefix_len` counts the bytes at the front that pass
abbrev pub BeginsFault : LexFault → ℕ → List ℕ → Type 0
BeginsFault (BadByte at) place bytes = ((at ≡ place) × IsTrue (begins is_stray bytes)) ⊎ RunsOn place bytes at
BeginsFault (LongWord at) place bytes = (at ≡ place) × IsTrue (begins is_letter bytes) × (64 < prefix_len is_word_byte bytes)
BeginsFault (LeadingZero at) place bytes = (at ≡ place) × IsTrue (begins (λ c. c == 48) bytes) × (1 < prefix_len is_digit bytes)
BeginsFault (LongNumber at) place bytes = (at ≡ place) × IsTrue (not (begins (λ c. c == 48) bytes)) × (18 < prefix_len is_digit bytes)
BeginsFault Memory place bytes = ⊥

-- the bytes from this place on are a gap, and P holds of the place behind it and of the bytes from there on
pub record AfterGap (P : ℕ → List ℕ → Type 0) (at : ℕ) (bytes : List ℕ) : Type 0 where
  pub gap : List ℕ
  pub rest : List ℕ
  pub whole : bytes ≡ gap ++ rest
  pub is_gap : Gap gap rest
  pub after : P (at + length gap) rest

-- the bytes from this place on are the token, and P holds of the place behind it and of the bytes from there on
pub record AfterToken (t : Token) (P : ℕ → List ℕ → Type 0) (at : ℕ) (bytes : List ℕ) : Type 0 where
  pub text : List ℕ
  pub rest : List ℕ
  pub whole : bytes ≡ text ++ rest
  pub token : IsTokenAt at text rest t
  pub after : P t.to rest

-- the bytes from this place on are the tokens with a gap behind each, and then comes the fault, or with none the end of the file
abbrev pub IsRead : List Token → Option LexFault → ℕ → List ℕ → Type 0
IsRead [] None at bytes = bytes ≡ []
IsRead [] (Some fault) at bytes = BeginsFault fault at bytes
IsRead (t ∷ ts) end at bytes = AfterToken t (AfterGap (IsRead ts end)) at bytes

-- what a file is read as
pub data Lexing : Type 0 where
  Tokens : List Token → Lexing
  Fault : LexFault → Lexing

-- a file is read as tokens where it is a gap and then these, each with a gap behind it; it is read as a fault where some tokens with their gaps come first and then the fault
abbrev pub IsLexing : List ℕ → Lexing → Type 0
IsLexing file (Tokens ts) = AfterGap (IsRead ts None) 0 file
IsLexing file (Fault fault) = (ts : List Token) × AfterGap (IsRead ts (Some fault)) 0 file

-- the bytes of the file that the token stands for
abbrev pub text_of : List ℕ → Token → List ℕ
text_of file t = slice_range file t.from t.to

-- the bytes that each of the tokens stands for
abbrev pub texts_of : List ℕ → List Token → List (List ℕ)
texts_of file ts = map (text_of file) ts

-- the token has a byte or more, it lies in the file, and its bytes are a text of its kind
pub record IsTokenOf (file : List ℕ) (t : Token) : Type 0 where
  pub some : t.from < t.to
  pub within : t.to ≤ length file
  pub kind : IsTrue (is_of_kind t.kind (text_of file t))

-- each token begins where the one before it ends, or later; the first begins at this place, or later
abbrev pub AreInOrder : ℕ → List Token → Type 0
AreInOrder at [] = Unit {0}
AreInOrder at (t ∷ ts) = (at ≤ t.from) × AreInOrder t.to ts

-- the place is in the file, and the bytes are what the file has from there on
abbrev pub IsRestOf : List ℕ → ℕ → List ℕ → Type 0
IsRestOf file at bytes = (at ≤ length file) × (bytes ≡ drop at file)

-- What a text of the language is made of: tokens, and gaps between them.
use Rattle.std.specs.Prelude.{◌≡◌, ℕ, Bool, true, false, ◌&&◌, ◌||◌, not, nat_le, ◌==◌, List, [], ◌∷◌, ◌++◌, length, codes, IsTrue, bytes_eq}
use Rattle.std.specs.List.{list_all}
use Rattle.slice_num.specs.Name.{is_digit, is_word, is_among}

-- space, tab, CR or LF
abbrev pub is_layout : ℕ → Bool
is_layout c = (c == 32) || ((c == 9) || ((c == 13) || (c == 10)))

-- LF
abbrev pub is_line_end : ℕ → Bool
is_line_end c = c == 10

-- a byte that may begin a gap: layout or `#`
abbrev pub is_gap_byte : ℕ → Bool
is_gap_byte c = is_layout c || (c == 35)

-- there is a next byte, and it passes the test
abbrev pub begins : (ℕ → Bool) → List ℕ → Bool
begins p [] = false
begins p (c ∷ cs) = p c

-- the line ends here: LF comes next, or the end of the file
abbrev pub ends_line : List ℕ → Bool
ends_line [] = true
ends_line (c ∷ cs) = is_line_end c

-- a gap, where `after` is what comes behind it in the file: none or more bytes of layout and comments. A comment is `#` and any bytes but LF, and behind it comes LF or the end of the file
pub data Gap : List ℕ → List ℕ → Type 0 where
  no_gap : (after : List ℕ) → Gap [] after
  layout : (c : ℕ) (gap after : List ℕ) → IsTrue (is_layout c) → Gap gap after → Gap (c ∷ gap) after
  comment : (text gap after : List ℕ) → IsTrue (list_all (λ c. not (is_line_end c)) text) → IsTrue (ends_line (gap ++ after)) → Gap gap after → Gap (35 ∷ (text ++ gap)) after

-- two or more bytes, and the first is `0`
abbrev pub leads_with_zero : List ℕ → Bool
leads_with_zero [] = false
leads_with_zero (c ∷ []) = false
leads_with_zero (c ∷ d ∷ cs) = c == 48

-- a number: 1 to 18 digits, without a leading zero unless it is `0`
unfoldable pub is_number : List ℕ → Bool
is_number text = list_all is_digit text && (nat_le 1 (length text) && (nat_le (length text) 18 && not (leads_with_zero text)))

-- the fifteen signs
abbrev pub signs : List (List ℕ)
signs =
    codes "{" ∷ codes "}" ∷ codes "(" ∷ codes ")" ∷ codes "," ∷ codes ";" ∷ codes "+" ∷ codes "-" ∷ codes "*" ∷ codes "/"
    ∷ codes "=" ∷ codes "<" ∷ codes "<=" ∷ codes ">" ∷ codes ">=" ∷ []

-- one of the signs
unfoldable pub is_sign : List ℕ → Bool
is_sign text = is_among text signs

-- a word, as names and keywords are, or a number
abbrev pub is_word_or_number : List ℕ → Bool
is_word_or_number text = is_word text || is_number text

-- a word, a number or a sign
abbrev pub is_token : List ℕ → Bool
is_token text = is_word_or_number text || is_sign text

-- the token and the one after it are each a word or a number
abbrev pub need_gap : List ℕ → List (List ℕ) → Bool
need_gap token [] = false
need_gap token (next ∷ tokens) = is_word_or_number token && is_word_or_number next

-- the bytes are these tokens with a gap after each; a gap that parts two words or numbers isn't empty
abbrev pub Follow : List (List ℕ) → List ℕ → Type 0
Follow [] bytes = bytes ≡ []
Follow (token ∷ tokens) bytes =
    (gap : List ℕ) × ((rest : List ℕ) × ((bytes ≡ token ++ (gap ++ rest)) × Gap gap rest × (gap ≡ [] → need_gap token tokens ≡ false) × Follow tokens rest))

-- the bytes are a gap, then the tokens with a gap after each
abbrev pub Spells : List ℕ → List (List ℕ) → Type 0
Spells bytes tokens = (gap : List ℕ) × ((rest : List ℕ) × ((bytes ≡ gap ++ rest) × Gap gap rest × Follow tokens rest))

-- `<` and `>`, which become another sign where `=` comes next
unfoldable pub is_angle : List ℕ → Bool
is_angle text = is_among text (codes "<" ∷ codes ">" ∷ [])

-- the first of these tokens is `=`
abbrev pub equals_first : List (List ℕ) → Bool
equals_first [] = false
equals_first (token ∷ tokens) = bytes_eq token (codes "=")

-- no `<` or `>` stands directly before `=` in the list, so that no two of its signs read as one
abbrev pub no_angle_before_equals : List (List ℕ) → Bool
no_angle_before_equals [] = true
no_angle_before_equals (token ∷ tokens) = not (is_angle token && equals_first tokens) && no_angle_before_equals tokens

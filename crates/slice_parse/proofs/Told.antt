-- The tokens of a text are told apart.
use Rattle.std.proofs.Common.{◌≡◌, ℕ, true, List, [], ◌∷◌, map, refl, ap, sym, ⊎_elim}
use Rattle.std.specs.List.{list_all}
use Rattle.std.specs.Str.Parse.{digits_value}
use Rattle.std.proofs.Math.Seq.{take-length}
use Rattle.std.proofs.lemmas.Bool.{and_parts, and_from, or_cases, cases_Bool, true≢false}
use Rattle.std.proofs.lemmas.Slice.Eq.{bytes_eq-Decides}
use Rattle.std.specs.Prelude.{bytes_eq}
use Rattle.slice_num.specs.Name.{is_word, is_among, reserved_words}
use Rattle.slice_lex.specs.declared.token.Token as lex
use Rattle.slice_lex.specs.Lexing as lexing
use Rattle.slice_lex.specs.Text.{is_token, is_number, is_sign, is_word_or_number}
use Rattle.slice_parse.specs.declared.lexeme.What.{What}
use Rattle.slice_parse.specs.declared.lexeme.What.TheVariants as what
use Rattle.slice_parse.specs.declared.lexeme.Fixed.{Fixed}
use Rattle.slice_parse.specs.declared.lexeme.Fixed.TheVariants as fixed
use Rattle.slice_parse.specs.Combinators.{Token}
use Rattle.slice_parse.specs.Lexemes.{fixed_text, what_text}
use Rattle.slice_parse.specs.Classes.{IsSoundWhat, AreToldApart}
use Rattle.slice_parse.proofs.Numbers.{number_text}

-- what a text is, as a token
record Told (text : List ℕ) : Type 0 where
  what : What
  said : what_text what ≡ text
  sound : IsSoundWhat what

told_fixed : (f : Fixed) (text : List ℕ) → fixed_text f ≡ text → Told text
told_fixed f text e = record { what = what.Fixed f; said = e; sound = tt }

-- a text that is one of some keywords and signs
among_fixed : (fs : List Fixed) (text : List ℕ) → is_among text (map fixed_text fs) ≡ true → Told text
among_fixed [] text h = absurd (true≢false (sym h))
among_fixed (f ∷ fs) text h =
    ⊎_elim (λ e. told_fixed f text (sym ((bytes_eq-Decides text (fixed_text f)).0 e))) (among_fixed fs text)
    (or_cases (bytes_eq text (fixed_text f)) (is_among text (map fixed_text fs)) h)

abbrev keywords : List Fixed
keywords =
    fixed.Agent ∷ fixed.Agents ∷ fixed.As ∷ fixed.At ∷ fixed.Call ∷ fixed.Cut ∷ fixed.Else ∷ fixed.From ∷
    fixed.Give ∷ fixed.If ∷ fixed.Join ∷ fixed.Let ∷ fixed.Number ∷ fixed.Pick ∷ fixed.Piece ∷
    fixed.Procedure ∷ fixed.Protocol ∷ fixed.To ∷ fixed.Value ∷ fixed.Yield ∷ []

abbrev all_signs : List Fixed
all_signs =
    fixed.OpenBrace ∷ fixed.CloseBrace ∷ fixed.OpenParen ∷ fixed.CloseParen ∷ fixed.Comma ∷ fixed.Semicolon ∷
    fixed.Plus ∷ fixed.Minus ∷ fixed.Star ∷ fixed.Slash ∷ fixed.Equals ∷ fixed.Less ∷ fixed.AtMost ∷
    fixed.More ∷ fixed.AtLeast ∷ []

at_reserved : (text : List ℕ) → is_among text reserved_words ≡ true → Told text
at_reserved text h = among_fixed keywords text h

signs_told : (text : List ℕ) → is_sign text ≡ true → Told text
unfolding is_sign
signs_told text h = among_fixed all_signs text h

word_told : (text : List ℕ) → is_word text ≡ true → Told text
word_told text h =
    ⊎_elim (at_reserved text)
    (λ n. record { what = what.Name text; said = refl; sound = and_from (is_word text) _ h (rw n refl) })
    (cases_Bool (is_among text reserved_words))

number_told : (text : List ℕ) → is_number text ≡ true → Told text
number_told text h =
    let n = number_text text (digits_value 10 text) h (ap (digits_value 10) (sym (take-length text))) in
    record { what = what.Number (digits_value 10 text); said = n.0; sound = n.1 }

token_told : (text : List ℕ) → is_token text ≡ true → Told text
token_told text h =
    ⊎_elim (λ w. ⊎_elim (word_told text) (number_told text) (or_cases (is_word text) (is_number text) w)) (signs_told text) (or_cases (is_word_or_number text) (is_sign text) h)

more_told : (file : List ℕ) (t : lex.Token) (ts : List lex.Token) (ls : List Token) → Told (lexing.text_of file t) → AreToldApart file ts ls → (ms : List Token) × AreToldApart file (t ∷ ts) ms
more_told file t ts ls w h =
    (record { what = w.what; at = t.from } ∷ ls, record { texts = rw (w.said, h.texts) refl; places = rw h.places refl; sound = (w.sound, h.sound) })

pub tell : (file : List ℕ) (ts : List lex.Token) → list_all is_token (lexing.texts_of file ts) ≡ true → (ls : List Token) × AreToldApart file ts ls
tell file [] h = ([], record { texts = refl; places = refl; sound = tt })
tell file (t ∷ ts) h =
    let p = and_parts (is_token (lexing.text_of file t)) _ h in
    let rest = tell file ts p.1 in
    more_told file t ts rest.0 (token_told (lexing.text_of file t) p.0) rest.1

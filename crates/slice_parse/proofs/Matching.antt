-- Tokens that are those of marks, at the places that the marks have.
use Rattle.std.proofs.Common.{◌≡◌, ℕ, if◌then◌else◌, List, [], ◌∷◌, ◌++◌, refl, ap}
use Rattle.std.specs.Str.{bytes_eq}
use Rattle.slice_ast.specs.Tokens.{Mark, Plain, Spelled, Digits, Final}
use Rattle.slice_parse.specs.Combinators.{Token}
use Rattle.slice_parse.specs.Classes.{AreSound}
use Rattle.slice_parse.specs.Lexemes.{fixed_text}
use Rattle.slice_parse.specs.declared.lexeme.Fixed.{Fixed}
use Rattle.slice_parse.specs.declared.lexeme.What.{What}
use Rattle.slice_parse.specs.declared.lexeme.What.TheVariants as what
use Rattle.slice_parse.specs.declared.lexeme.Fixed.TheVariants as fixed

-- the keyword or sign of a text
abbrev pub plain_what : List ℕ → What
plain_what text =
    if bytes_eq text (fixed_text fixed.Agent) then what.Fixed fixed.Agent else (
    if bytes_eq text (fixed_text fixed.Agents) then what.Fixed fixed.Agents else (
    if bytes_eq text (fixed_text fixed.As) then what.Fixed fixed.As else (
    if bytes_eq text (fixed_text fixed.At) then what.Fixed fixed.At else (
    if bytes_eq text (fixed_text fixed.Call) then what.Fixed fixed.Call else (
    if bytes_eq text (fixed_text fixed.Cut) then what.Fixed fixed.Cut else (
    if bytes_eq text (fixed_text fixed.Else) then what.Fixed fixed.Else else (
    if bytes_eq text (fixed_text fixed.From) then what.Fixed fixed.From else (
    if bytes_eq text (fixed_text fixed.Give) then what.Fixed fixed.Give else (
    if bytes_eq text (fixed_text fixed.If) then what.Fixed fixed.If else (
    if bytes_eq text (fixed_text fixed.Join) then what.Fixed fixed.Join else (
    if bytes_eq text (fixed_text fixed.Let) then what.Fixed fixed.Let else (
    if bytes_eq text (fixed_text fixed.Number) then what.Fixed fixed.Number else (
    if bytes_eq text (fixed_text fixed.Pick) then what.Fixed fixed.Pick else (
    if bytes_eq text (fixed_text fixed.Piece) then what.Fixed fixed.Piece else (
    if bytes_eq text (fixed_text fixed.Procedure) then what.Fixed fixed.Procedure else (
    if bytes_eq text (fixed_text fixed.Protocol) then what.Fixed fixed.Protocol else (
    if bytes_eq text (fixed_text fixed.To) then what.Fixed fixed.To else (
    if bytes_eq text (fixed_text fixed.Value) then what.Fixed fixed.Value else (
    if bytes_eq text (fixed_text fixed.Yield) then what.Fixed fixed.Yield else (
    if bytes_eq text (fixed_text fixed.OpenBrace) then what.Fixed fixed.OpenBrace else (
    if bytes_eq text (fixed_text fixed.CloseBrace) then what.Fixed fixed.CloseBrace else (
    if bytes_eq text (fixed_text fixed.OpenParen) then what.Fixed fixed.OpenParen else (
    if bytes_eq text (fixed_text fixed.CloseParen) then what.Fixed fixed.CloseParen else (
    if bytes_eq text (fixed_text fixed.Comma) then what.Fixed fixed.Comma else (
    if bytes_eq text (fixed_text fixed.Semicolon) then what.Fixed fixed.Semicolon else (
    if bytes_eq text (fixed_text fixed.Plus) then what.Fixed fixed.Plus else (
    if bytes_eq text (fixed_text fixed.Minus) then what.Fixed fixed.Minus else (
    if bytes_eq text (fixed_text fixed.Star) then what.Fixed fixed.Star else (
    if bytes_eq text (fixed_text fixed.Slash) then what.Fixed fixed.Slash else (
    if bytes_eq text (fixed_text fixed.Equals) then what.Fixed fixed.Equals else (
    if bytes_eq text (fixed_text fixed.Less) then what.Fixed fixed.Less else (
    if bytes_eq text (fixed_text fixed.AtMost) then what.Fixed fixed.AtMost else (
    if bytes_eq text (fixed_text fixed.More) then what.Fixed fixed.More else (
    if bytes_eq text (fixed_text fixed.AtLeast) then what.Fixed fixed.AtLeast else (
    what.Name text)))))))))))))))))))))))))))))))))))

-- what the token of a mark is
abbrev pub what_of : Mark → What
what_of (Plain text) = plain_what text
what_of (Spelled name) = what.Name name.word
what_of (Digits number) = what.Number number.value
what_of (Final text at) = plain_what text

-- the mark has no place or this one
abbrev pub is_at : Mark → ℕ → Type 0
is_at (Plain text) at = Unit {0}
is_at (Spelled name) at = name.at ≡ at
is_at (Digits number) at = number.at ≡ at
is_at (Final text end) at = end ≡ at

pub record Is (m : Mark) (t : Token) : Type 0 where
  pub kind : t.what ≡ what_of m
  pub place : is_at m t.at

pub data Matches : List Mark → List Token → Type 0 where
  none : Matches [] []
  also : {m : Mark} {t : Token} {ms : List Mark} {ts : List Token} → Is m t → Matches ms ts → Matches (m ∷ ms) (t ∷ ts)

pub matches_append : {ms ns : List Mark} {us vs : List Token} → Matches ms us → Matches ns vs → Matches (ms ++ ns) (us ++ vs)
matches_append none k = k
matches_append (also i h) k = also i (matches_append h k)

-- tokens of marks in two parts are in two parts
pub record Parts (ms ns : List Mark) (us : List Token) : Type 0 where
  pub front : List Token
  pub back : List Token
  pub whole : us ≡ front ++ back
  pub first : Matches ms front
  pub second : Matches ns back

more_parts : {m : Mark} {t : Token} {ms ns : List Mark} {us : List Token} → Is m t → Parts ms ns us → Parts (m ∷ ms) ns (t ∷ us)
more_parts {t = t} i p = record { front = t ∷ p.front; back = p.back; whole = ap (λ xs. t ∷ xs) p.whole; first = also i p.first; second = p.second }

pub matches_parts : (ms ns : List Mark) (us : List Token) → Matches (ms ++ ns) us → Parts ms ns us
matches_parts [] ns us h = record { front = []; back = us; whole = refl; first = none; second = h }
matches_parts (m ∷ ms) ns [] h = elim h [ ]
matches_parts (m ∷ ms) ns (t ∷ us) (also i h) = more_parts i (matches_parts ms ns us h)

pub sounds_rest : (used rest : List Token) → AreSound (used ++ rest) → AreSound rest
sounds_rest [] rest h = h
sounds_rest (t ∷ used) rest h = sounds_rest used rest h.1

-- each keyword and sign is told from its text
pub plain_fixed : (f : Fixed) → plain_what (fixed_text f) ≡ what.Fixed f
plain_fixed fixed.Agent = refl
plain_fixed fixed.Agents = refl
plain_fixed fixed.As = refl
plain_fixed fixed.At = refl
plain_fixed fixed.Call = refl
plain_fixed fixed.Cut = refl
plain_fixed fixed.Else = refl
plain_fixed fixed.From = refl
plain_fixed fixed.Give = refl
plain_fixed fixed.If = refl
plain_fixed fixed.Join = refl
plain_fixed fixed.Let = refl
plain_fixed fixed.Number = refl
plain_fixed fixed.Pick = refl
plain_fixed fixed.Piece = refl
plain_fixed fixed.Procedure = refl
plain_fixed fixed.Protocol = refl
plain_fixed fixed.To = refl
plain_fixed fixed.Value = refl
plain_fixed fixed.Yield = refl
plain_fixed fixed.OpenBrace = refl
plain_fixed fixed.CloseBrace = refl
plain_fixed fixed.OpenParen = refl
plain_fixed fixed.CloseParen = refl
plain_fixed fixed.Comma = refl
plain_fixed fixed.Semicolon = refl
plain_fixed fixed.Plus = refl
plain_fixed fixed.Minus = refl
plain_fixed fixed.Star = refl
plain_fixed fixed.Slash = refl
plain_fixed fixed.Equals = refl
plain_fixed fixed.Less = refl
plain_fixed fixed.AtMost = refl
plain_fixed fixed.More = refl
plain_fixed fixed.AtLeast = refl

-- marks with the same texts, and no more places
pub data Looser : List Mark → List Mark → Type 0 where
  none : Looser [] []
  also : {m n : Mark} {ms ns : List Mark} → ((t : Token) → Is m t → Is n t) → Looser ms ns → Looser (m ∷ ms) (n ∷ ns)

pub looser_same : (ms : List Mark) → Looser ms ms
looser_same [] = none
looser_same (m ∷ ms) = also (λ t i. i) (looser_same ms)

pub looser_append : {ms ns ps qs : List Mark} → Looser ms ns → Looser ps qs → Looser (ms ++ ps) (ns ++ qs)
looser_append none k = k
looser_append (also i h) k = also i (looser_append h k)

pub looser_matches : {ms ns : List Mark} {us : List Token} → Looser ms ns → Matches ms us → Matches ns us
looser_matches none none = none
looser_matches (also i h) (also x m) = also (i _ x) (looser_matches h m)

-- looser marks than those of two parts have two parts
pub record LooserParts (ms ps ns : List Mark) : Type 0 where
  pub front : List Mark
  pub back : List Mark
  pub whole : ns ≡ front ++ back
  pub first : Looser ms front
  pub second : Looser ps back

more_looser : {m n : Mark} {ms ps ns : List Mark} → ((t : Token) → Is m t → Is n t) → LooserParts ms ps ns → LooserParts (m ∷ ms) ps (n ∷ ns)
more_looser {n = n} i p = record { front = n ∷ p.front; back = p.back; whole = ap (λ xs. n ∷ xs) p.whole; first = also i p.first; second = p.second }

pub looser_parts : (ms ps ns : List Mark) → Looser (ms ++ ps) ns → LooserParts ms ps ns
looser_parts [] ps ns h = record { front = []; back = ns; whole = refl; first = none; second = h }
looser_parts (m ∷ ms) ps [] h = elim h [ ]
looser_parts (m ∷ ms) ps (n ∷ ns) (also i h) = more_looser i (looser_parts ms ps ns h)

pub final_plain : (text : List ℕ) (end : ℕ) (t : Token) → Is (Final text end) t → Is (Plain text) t
final_plain text end t i = record { kind = i.kind; place = tt }

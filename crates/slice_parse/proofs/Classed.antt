-- A token more that is told apart.
use Rattle.std.proofs.Common.{◌≡◌, ℕ, ◌+◌, ◌<◌, length, take, get_or, arith, List, [], ◌∷◌, ◌++◌, sym, refl, rules, subst}
use Rattle.std.proofs.lemmas.Grind.{common_steps}
use Rattle.std.proofs.lemmas.List.{map-append}
use Rattle.slice_lex.specs.declared.token.Token as lex
use Rattle.slice_lex.specs.Lexing as lexing
use Rattle.slice_parse.specs.Combinators.{Token}
use Rattle.slice_parse.specs.Lexemes.{text_of}
use Rattle.slice_parse.specs.Classes.{IsSoundWhat, AreSound, IsToldApart, AreToldApart}

pub none_told : (file : List ℕ) → AreToldApart file [] []
none_told file = search rules

sound_more : (ls : List Token) (l : Token) → AreSound ls → IsSoundWhat l.what → AreSound (ls ++ l ∷ [])
sound_more [] l h s = (s, tt)
sound_more (x ∷ ls) l h s = (h.0, sound_more ls l h.1 s)

told_more : (file : List ℕ) (ts us : List lex.Token) (ls : List Token) (t : lex.Token) (l : Token) → us ≡ ts ++ t ∷ [] → AreToldApart file ts ls → IsToldApart file t l → AreToldApart file us (ls ++ l ∷ [])
told_more file ts us ls t l e h k =
    let P : List lex.Token → Type 0 = λ vs. AreToldApart file vs (ls ++ l ∷ []) in
    subst P (sym e) (record {
      texts = rw (map-append text_of ls (l ∷ []), map-append (lexing.text_of file) ts (t ∷ []), h.texts, k.text) refl;
      places = rw (map-append (λ (x : Token). x.at) ls (l ∷ []), map-append (λ (x : lex.Token). x.from) ts (t ∷ []), h.places, k.place) refl;
      sound = sound_more ls l h.sound k.sound;
    })

pub told_next : (file : List ℕ) (ts : List lex.Token) (i : ℕ) (d : lex.Token) (ls : List Token) (l : Token) → i < length ts → AreToldApart file (take i ts) ls → IsToldApart file (get_or ts i d) l → AreToldApart file (take (i + 1) ts) (ls ++ l ∷ [])
told_next file ts i d ls l within h k = told_more file (take i ts) (take (i + 1) ts) ls (get_or ts i d) l (grind (arith, common_steps)) h k

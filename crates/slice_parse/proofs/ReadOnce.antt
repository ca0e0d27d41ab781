-- A text is read as one program, with its places.
use Rattle.std.proofs.Common.{◌≡◌, ◌∙◌, ℕ, List, [], ◌∷◌, map, length, refl, ap, sym, subst, append-nil}
use Rattle.slice_lex.specs.declared.token.Token as lex
use Rattle.slice_lex.specs.Lexing.{IsLexing, Tokens, texts_of as lexed_texts}
use Rattle.slice_lex.proofs.Spelled.{lexed_spelled}
use Rattle.slice_ast.specs.Code.{PlainProgram}
use Rattle.slice_ast.specs.Places.{AreAt, IsPlace, HasPlaces}
use Rattle.slice_ast.specs.Spellable.{IsSpellable}
use Rattle.slice_ast.specs.Limits.{IsWithinLimits}
use Rattle.slice_ast.specs.Tokens.{Mark, Plain, Spelled, Digits, Final, text_of as mark_text, place_of, program_marks, tokens}
use Rattle.slice_parse.specs.Classes.{AreSound, texts_of}
use Rattle.slice_parse.specs.Combinators.{Token, Good}
use Rattle.slice_parse.specs.Laws.{IsProgramOf, ReadProgramsAreUnique}
use Rattle.slice_parse.specs.Rules.{program, read}
use Rattle.slice_parse.proofs.DoneStatements.{done_program}
use Rattle.slice_parse.proofs.Fair.{AllFair, fair_program}
use Rattle.slice_parse.proofs.Fits.{fits_within}
use Rattle.slice_parse.proofs.Matching.{Matches, none, also, is_at}
use Rattle.slice_parse.proofs.Reading.{as_many}
use Rattle.slice_parse.proofs.Told.{tell}
use Rattle.slice_parse.proofs.Unique.{one_list}
use Rattle.slice_parse.proofs.Words.{sound_one}

at_placed : (m : Mark) (at : ℕ) → IsPlace (place_of m) at → is_at m at
at_placed (Plain t) at h = tt
at_placed (Spelled x) at h = h
at_placed (Digits n) at h = h
at_placed (Final t e) at h = h

-- tokens with the texts and the places of marks are theirs
placed_match : (ms : List Mark) (us : List Token) → AreSound us → AllFair ms → texts_of us ≡ map mark_text ms → AreAt ms (map (λ u. u.at) us) → Matches ms us
placed_match [] [] s f e p = none
placed_match [] (u ∷ us) s f e p = absurd p
placed_match (m ∷ ms) [] s f e p = absurd p
placed_match (m ∷ ms) (u ∷ us) s f e p =
    let first = ap_head e in
    let rest : texts_of us ≡ map mark_text ms = cc in
    also (record { kind = sound_one u.what _ s.0 (f.0).sound (first ∙ sym (f.0).text); place = at_placed m u.at p.0 }) (placed_match ms us s.1 f.1 rest p.1)
  where
    ap_head : {t v : List ℕ} {r w : List (List ℕ)} → t ∷ r ≡ v ∷ w → t ≡ v
    ap_head e = cc

-- a program is read from its tokens at its places, exactly as it is
reads_it : (us : List Token) (p : PlainProgram) → AreSound us → IsSpellable p → IsWithinLimits p → texts_of us ≡ tokens p → HasPlaces p (map (λ u. u.at) us) → read us ≡ Good p []
unfolding read
reads_it us p s w v e h =
    let n = length us in
    let fits = fits_within p n w v (as_many us (program_marks p) e) in
    let g = (done_program 63 n 63 p fits).reads us [] (placed_match (program_marks p) us s (fair_program p w) e h) refl in
    ap (program 63 n 63) (sym (append-nil us)) ∙ g.got ∙ ap (λ x. Good x []) g.is

-- of a text that is lexed so
is_read : (text : List ℕ) (ts : List lex.Token) (us : List Token) (p : PlainProgram) → AreSound us → texts_of us ≡ lexed_texts text ts → map (λ u. u.at) us ≡ map (λ t. t.from) ts
    → IsLexing text (Tokens ts) → IsProgramOf text p → read us ≡ Good p []
is_read text ts us p s e q l h =
    let r = h.read in
    let same = one_list text r.0 ts r.1.0 l in
    let texts : texts_of us ≡ tokens p = e ∙ ap (lexed_texts text) (sym same) ∙ r.1.1 in
    let places : HasPlaces p (map (λ u. u.at) us) = subst (HasPlaces p) (ap (map (λ (t : lex.Token). t.from)) same ∙ sym q) r.1.2 in
    reads_it us p s h.spelled.spellable h.spelled.within texts places

good_same : {p q : PlainProgram} → Good p [] ≡ Good q [] → p ≡ q
good_same e = cc

pub read_programs_unique : ReadProgramsAreUnique
read_programs_unique text p q h k =
    let r = h.read in
    let apart = tell text r.0 (lexed_spelled text r.0 r.1.0).1 in
    let us = apart.0 in
    let a = apart.1 in
    good_same (sym (is_read text r.0 us p a.sound a.texts a.places r.1.0 h) ∙ is_read text r.0 us q a.sound a.texts a.places r.1.0 k)

-- Each file is read in some way.
use Rattle.std.proofs.Common.{◌≡◌, ℕ, zero, suc, ◌+◌, ◌<◌, ◌≤◌, true, false, List, [], ◌∷◌, ◌++◌, length, take, drop, get_or, refl, ap, ◌∙◌, inl, inr, ⊎_elim, arith}
use Rattle.std.specs.Prelude.{◌==◌, ◌&&◌, not, ◌⊎◌}
use Rattle.std.specs.List.{prefix_len}
use Rattle.std.proofs.lemmas.Bool.{cases_Bool, cases_lt, or_from, eqb-true, eqb-false, and_left, and_right, not_from_false}
use Rattle.std.proofs.lemmas.List.{drop_more}
use Rattle.slice_num.specs.Name.{is_letter, is_digit, is_word_byte}
use Rattle.slice_lex.specs.declared.token.Token.{Token}
use Rattle.slice_lex.specs.declared.token.TokenKind.TheVariants.{Word, Number, Sign}
use Rattle.slice_lex.specs.declared.token.LexFault.{LexFault}
use Rattle.slice_lex.specs.declared.token.LexFault.TheVariants.{BadByte, LongWord, LongNumber, LeadingZero}
use Rattle.slice_lex.specs.Text.{is_layout, is_line_end, is_gap_byte, begins, is_sign, is_angle}
use Rattle.slice_lex.specs.Lexing.{BeginsFault, AfterToken, IsRestOf, Lexing, Tokens, Fault, IsLexing}
use Rattle.slice_lex.specs.Laws.{EachFileHasALexing}
use Rattle.slice_lex.proofs.Bytes.{letter_is_word_byte}
use Rattle.slice_lex.proofs.Fronts.{begins_at}
use Rattle.slice_lex.proofs.Turns.{IsReadTo, nothing_read, turn_layout, turn_comment, turn_token, end_of_file, fault_here}
use Rattle.slice_lex.proofs.Steps.{token_here, run_some, word_token, number_token, number_runs_on, stray_byte, wide_sign}

-- what a place of a file has: a token that is longer than nothing, or a fault
data Found (file : List ℕ) (at : ℕ) : Type 0 where
  token : (t : Token) → at < t.to → AfterToken t (IsRestOf file) at (drop at file) → Found file at
  fault : (f : LexFault) → BeginsFault f at (drop at file) → Found file at

module _ (file : List ℕ) (at : ℕ) (below : at < length file) where
  word_found : is_letter (get_or file at 0) ≡ true → Found file at
  word_found letter =
      let n = prefix_len is_word_byte (drop at file) in
      let some = run_some is_word_byte file at n below (letter_is_word_byte (get_or file at 0) letter) refl in
      ⊎_elim
      (λ long. fault (LongWord at) (refl, begins_at is_letter file at true below letter, long))
      (λ short. token (record { kind = Word; from = at; to = at + n }) some (word_token file at n below letter refl short))
      (cases_lt 64 n)

  short_found : (n : ℕ) → n ≡ prefix_len is_digit (drop at file) → is_digit (get_or file at 0) ≡ true → (n ≤ 1) ⊎ (get_or file at 0 ≡ 48 → ⊥) → n ≤ 18 → Found file at
  short_found n e digit lead few =
      ⊎_elim
      (λ more. fault (BadByte (at + n)) (inr (number_runs_on file at n below digit e lead few more)))
      (λ end. token (record { kind = Number; from = at; to = at + n }) (run_some is_digit file at n below digit e) (number_token file at n below digit e lead few end))
      (cases_Bool (begins is_word_byte (drop (at + n) file)))

  number_found : is_digit (get_or file at 0) ≡ true → Found file at
  number_found digit =
      let n = prefix_len is_digit (drop at file) in
      ⊎_elim
      (λ zero_first.
      ⊎_elim
      (λ more. fault (LeadingZero at) (refl, begins_at (λ c. c == 48) file at true below zero_first, more))
      (λ one. short_found n refl digit (inl one) (omega (arith, one)))
      (cases_lt 1 n))
      (λ other.
      ⊎_elim
      (λ long. fault (LongNumber at) (refl, not_from_false _ (begins_at (λ c. c == 48) file at false below other), long))
      (λ few. short_found n refl digit (inr (eqb-false (get_or file at 0) 48 other)) few)
      (cases_lt 18 n))
      (cases_Bool (get_or file at 0 == 48))

  narrow_sign : is_sign (get_or file at 0 ∷ []) ≡ true → (is_angle (get_or file at 0 ∷ []) && begins (λ c. c == 61) (drop (at + 1) file)) ≡ false → Found file at
  narrow_sign sign end =
      let c = get_or file at 0 in
      let here : drop at file ≡ c ∷ drop (at + 1) file = drop_more file at 0 below in
      let t : Token = record { kind = Sign; from = at; to = at + 1 } in
      token t (omega arith)
      (token_here file at 1 t (omega arith)
      (ap (λ bs. is_sign (take 1 bs)) here ∙ sign)
      (ap (λ bs. not (is_angle (take 1 bs) && begins (λ d. d == 61) (drop 1 bs))) here ∙ not_from_false _ end)
      refl refl)

  sign_found : is_letter (get_or file at 0) ≡ false → is_digit (get_or file at 0) ≡ false → is_gap_byte (get_or file at 0) ≡ false → Found file at
  sign_found letter digit gap =
      ⊎_elim
      (λ sign.
      ⊎_elim
      (λ angle.
      ⊎_elim
      (λ equals. token (record { kind = Sign; from = at; to = at + 1 + 1 }) (omega arith) (wide_sign file at below angle equals))
      (λ other. narrow_sign sign (and_right (is_angle (get_or file at 0 ∷ [])) _ other))
      (cases_Bool (begins (λ c. c == 61) (drop (at + 1) file))))
      (λ plain. narrow_sign sign (and_left (is_angle (get_or file at 0 ∷ [])) _ plain))
      (cases_Bool (is_angle (get_or file at 0 ∷ []))))
      (λ stray. fault (BadByte at) (inl (refl, stray_byte file at below letter digit gap stray)))
      (cases_Bool (is_sign (get_or file at 0 ∷ [])))

  found : is_gap_byte (get_or file at 0) ≡ false → Found file at
  found gap =
      ⊎_elim word_found (λ letter.
      ⊎_elim number_found (λ digit. sign_found letter digit gap)
      (cases_Bool (is_digit (get_or file at 0))))
      (cases_Bool (is_letter (get_or file at 0)))

abbrev HasLexing : List ℕ → Type 0
HasLexing file = (l : Lexing) × IsLexing file l

abbrev Onward : ℕ → List ℕ → Type 0
Onward n file = (before : List Token) (place : ℕ) → length file ≤ place + n → IsReadTo file before place → HasLexing file

after_found : (n : ℕ) (file : List ℕ) (before : List Token) (at : ℕ) → length file ≤ at + suc n → IsReadTo file before at → Onward n file → Found file at → HasLexing file
after_found n file before at near r on (token t more here) = on (before ++ t ∷ []) t.to (omega (arith, near, more)) (turn_token file before at t here r)
after_found n file before at near r on (fault f here) = (Fault f, fault_here file before at f here r)

turn : (n : ℕ) (file : List ℕ) (before : List Token) (at : ℕ) → at < length file → length file ≤ at + suc n → IsReadTo file before at → Onward n file → HasLexing file
turn n file before at below near r on =
    let c = get_or file at 0 in
    let line = prefix_len (λ d. not (is_line_end d)) (drop at file) in
    ⊎_elim
    (λ layout. on before (at + 1) (omega (arith, near)) (turn_layout file before at below layout r))
    (λ no_layout.
    ⊎_elim
    (λ hash.
    let e = eqb-true c 35 hash in
    let more = run_some (λ d. not (is_line_end d)) file at line below (ap (λ d. not (is_line_end d)) e) refl in
    on before (at + line) (omega (arith, near, more)) (turn_comment file before at line below e refl r))
    (λ no_hash. after_found n file before at near r on (found file at below (or_from (is_layout c) _ no_layout no_hash)))
    (cases_Bool (c == 35)))
    (cases_Bool (is_layout c))

-- what is read of a file can be read on, where at most n bytes are left
read_on : (n : ℕ) (file : List ℕ) → Onward n file
read_on zero file before at near r = (Tokens before, end_of_file file before at (omega (arith, near)) r)
read_on (suc n) file before at near r =
    ⊎_elim
    (λ below. turn n file before at below near r (read_on n file))
    (λ past. (Tokens before, end_of_file file before at past r))
    (cases_lt at (length file))

pub some_lexing : EachFileHasALexing
some_lexing file = read_on (length file) file [] 0 (omega arith) (nothing_read file)

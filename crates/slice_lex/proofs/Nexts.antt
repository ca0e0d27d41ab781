-- What begins at a place of a file, told from the bytes from there on.
use Rattle.std.proofs.Common.{◌≡◌, ℕ, ◌+◌, ◌<◌, ◌≤◌, Bool, true, false, List, [], ◌∷◌, ◌++◌, length, take, drop, sym, refl, ap, ◌∙◌, ⊎_elim, arith}
use Rattle.std.specs.Prelude.{cond, ◌&&◌, ◌||◌, not, nat_le, ◌==◌, if◌then◌else◌}
use Rattle.std.specs.List.{list_all, prefix_len}
use Rattle.std.proofs.lemmas.Bool.{and_parts, and_from, and_left, and_right, and_cases, cases_Bool, cond-true, cond-false, le-leb, lt-leb, leb-true, eqb-true, not-true, true≢false, or_parts}
use Rattle.std.proofs.lemmas.List.{drop_at}
use Rattle.slice_num.specs.Name.{is_letter, is_digit, is_word_byte, all_word_bytes, is_word}
use Rattle.slice_lex.specs.declared.token.TokenKind.{TokenKind}
use Rattle.slice_lex.specs.declared.token.TokenKind.TheVariants.{Word, Number, Sign}
use Rattle.slice_lex.specs.declared.token.LexFault.{LexFault}
use Rattle.slice_lex.specs.declared.token.LexFault.TheVariants.{BadByte, LongWord, LongNumber, LeadingZero, Memory}
use Rattle.slice_lex.specs.Text.{is_gap_byte, begins, leads_with_zero, is_number, is_sign, is_angle, is_token}
use Rattle.slice_lex.specs.Lexing.{RunsOn, BeginsFault, is_stray, is_of_kind, is_longest}
use Rattle.slice_lex.proofs.Bytes.{sign_passes, letter_is_no_gap_byte, digit_is_no_gap_byte, digit_is_no_letter, letter_is_word_byte, digit_is_word_byte, letter_or_line_is_word_byte}
use Rattle.slice_lex.proofs.Fronts.{prefix_none, front_is}

pub data Next : Type 0 where
  Skip : Next
  Stop : Next
  Took : TokenKind → ℕ → Next
  Wrong : LexFault → Next

next_word : ℕ → ℕ → Next
next_word at n = if nat_le n 64 then Took Word n else Wrong (LongWord at)

next_number : ℕ → List ℕ → ℕ → Next
next_number at bytes n =
    if begins (λ c. c == 48) bytes && nat_le 2 n then Wrong (LeadingZero at)
    else (if nat_le n 18 then (if begins is_word_byte (drop n bytes) then Wrong (BadByte (at + n)) else Took Number n)
    else Wrong (LongNumber at))

next_sign : ℕ → List ℕ → Next
next_sign c cs = if is_angle (c ∷ []) && begins (λ d. d == 61) cs then Took Sign 2 else Took Sign 1

pub next : ℕ → List ℕ → Next
next at [] = Stop
next at (c ∷ cs) =
    if is_gap_byte c then Skip
    else (if is_letter c then next_word at (prefix_len is_word_byte (c ∷ cs))
    else (if is_digit c then next_number at (c ∷ cs) (prefix_len is_digit (c ∷ cs))
    else (if is_sign (c ∷ []) then next_sign c cs
    else Wrong (BadByte at))))

at_letter : (at c : ℕ) (cs : List ℕ) → is_letter c ≡ true → next at (c ∷ cs) ≡ next_word at (prefix_len is_word_byte (c ∷ cs))
unfolding next
at_letter at c cs h = cond-false (is_gap_byte c) _ _ (letter_is_no_gap_byte c h) ∙ cond-true (is_letter c) _ _ h

at_digit : (at c : ℕ) (cs : List ℕ) → is_digit c ≡ true → next at (c ∷ cs) ≡ next_number at (c ∷ cs) (prefix_len is_digit (c ∷ cs))
unfolding next
at_digit at c cs h =
    cond-false (is_gap_byte c) _ _ (digit_is_no_gap_byte c h) ∙ cond-false (is_letter c) _ _ (digit_is_no_letter c h) ∙ cond-true (is_digit c) _ _ h

-- words

word_all : (text : List ℕ) → all_word_bytes text ≡ true → list_all is_word_byte text ≡ true
word_all [] h = refl
word_all (c ∷ cs) h = let p = and_parts (is_word_byte c) _ h in and_from (is_word_byte c) _ p.0 (word_all cs p.1)

word_next : (at : ℕ) (text rest : List ℕ) → is_word text ≡ true → begins is_word_byte rest ≡ false → next at (text ++ rest) ≡ Took Word (length text)
unfolding next_word
word_next at [] rest h end = absurd (true≢false (sym h))
word_next at (c ∷ cs) rest h end =
    let p = and_parts (is_letter c) _ h in
    let q = and_parts (all_word_bytes cs) _ p.1 in
    let all = and_from (is_word_byte c) _ (letter_is_word_byte c p.0) (word_all cs q.0) in
    let short = leb-true _ 63 q.1 in
    at_letter at c (cs ++ rest) p.0
    ∙ ap (next_word at) (front_is is_word_byte (c ∷ cs) rest all end)
    ∙ cond-true (nat_le (length (c ∷ cs)) 64) _ _ (le-leb _ 64 (omega (arith, short)))

-- numbers

is_number_nil : is_number [] ≡ false
unfolding is_number
is_number_nil = refl

number_parts : (text : List ℕ) → is_number text ≡ true → (list_all is_digit text ≡ true) × ((1 ≤ length text) × ((length text ≤ 18) × (leads_with_zero text ≡ false)))
unfolding is_number
number_parts text h =
    let p = and_parts (list_all is_digit text) _ h in
    let q = and_parts (nat_le 1 (length text)) _ p.1 in
    let r = and_parts (nat_le (length text) 18) _ q.1 in
    (p.0, (leb-true 1 _ q.0, (leb-true _ 18 r.0, not-true _ r.1)))

no_zero : (text rest : List ℕ) → 1 ≤ length text → leads_with_zero text ≡ false → (begins (λ c. c == 48) (text ++ rest) && nat_le 2 (length text)) ≡ false
no_zero [] rest some h = absurd (omega (arith, some))
no_zero (c ∷ []) rest some h = and_right (c == 48) _ refl
no_zero (c ∷ d ∷ cs) rest some h = and_left (c == 48) _ h

number_next : (at : ℕ) (text rest : List ℕ) → is_number text ≡ true → begins is_digit rest ≡ false → next at (text ++ rest) ≡ (if begins is_word_byte rest then Wrong (BadByte (at + length text)) else Took Number (length text))
unfolding next_number
number_next at [] rest h end = absurd (true≢false (sym h ∙ is_number_nil))
number_next at (c ∷ cs) rest h end =
    let p = number_parts (c ∷ cs) h in
    let n = length (c ∷ cs) in
    at_digit at c (cs ++ rest) (and_parts (is_digit c) _ p.0).0
    ∙ ap (next_number at ((c ∷ cs) ++ rest)) (front_is is_digit (c ∷ cs) rest p.0 end)
    ∙ cond-false _ _ _ (no_zero (c ∷ cs) rest p.1.0 p.1.1.1)
    ∙ cond-true (nat_le n 18) _ _ (le-leb n 18 p.1.1.0)
    ∙ ap (λ bs. cond (begins is_word_byte bs) (Wrong (BadByte (at + n))) (Took Number n)) (drop_at (c ∷ cs) rest n refl)

no_digit_next : (rest : List ℕ) → begins is_word_byte rest ≡ false → begins is_digit rest ≡ false
no_digit_next [] h = refl
no_digit_next (c ∷ cs) h =
    ⊎_elim (λ d. absurd (true≢false (sym (digit_is_word_byte c d) ∙ h))) (λ n. n) (cases_Bool (is_digit c))

-- signs

-- of two bytes the first is `<` or `>` and the second `=`
is_wide : List ℕ → Bool
is_wide [] = true
is_wide (c ∷ []) = true
is_wide (c ∷ d ∷ cs) = is_angle (c ∷ []) && (d == 61)

at_sign : (at c : ℕ) (text cs : List ℕ) → is_sign (c ∷ text) ≡ true → next at (c ∷ cs) ≡ next_sign c cs
unfolding next is_sign
at_sign at c text cs h =
    cond-false (is_gap_byte c) _ _ (not-true _ (sign_passes (λ t. not (begins is_gap_byte t)) refl (c ∷ text) h))
    ∙ cond-false (is_letter c) _ _ (not-true _ (sign_passes (λ t. not (begins is_letter t)) refl (c ∷ text) h))
    ∙ cond-false (is_digit c) _ _ (not-true _ (sign_passes (λ t. not (begins is_digit t)) refl (c ∷ text) h))
    ∙ cond-true (is_sign (c ∷ [])) _ _ (sign_passes (λ t. is_sign (take 1 t)) refl (c ∷ text) h)

sign_next : (at : ℕ) (text rest : List ℕ) → is_sign text ≡ true → (is_angle text && begins (λ d. d == 61) rest) ≡ false → next at (text ++ rest) ≡ Took Sign (length text)
unfolding next_sign is_wide is_angle
sign_next at [] rest h end = absurd (true≢false (sym (sign_passes (λ t. nat_le 1 (length t)) refl [] h)))
sign_next at (c ∷ []) rest h end = at_sign at c [] rest h ∙ cond-false (is_angle (c ∷ []) && begins (λ d. d == 61) rest) _ _ end
sign_next at (c ∷ d ∷ []) rest h end =
    at_sign at c (d ∷ []) (d ∷ rest) h ∙ cond-true (is_angle (c ∷ []) && (d == 61)) _ _ (sign_passes is_wide refl (c ∷ d ∷ []) h)
sign_next at (c ∷ d ∷ e ∷ cs) rest h end =
    let short = leb-true _ 2 (sign_passes (λ t. nat_le (length t) 2) refl (c ∷ d ∷ e ∷ cs) h) in absurd (omega (arith, short))

pub token_next : (at : ℕ) (text rest : List ℕ) (k : TokenKind) → is_of_kind k text ≡ true → is_longest k text rest ≡ true → next at (text ++ rest) ≡ Took k (length text)
token_next at text rest Word h end = word_next at text rest h (not-true _ end)
token_next at text rest Number h end =
    let e = not-true (begins is_word_byte rest) end in number_next at text rest h (no_digit_next rest e) ∙ cond-false (begins is_word_byte rest) _ _ e
token_next at text rest Sign h end = sign_next at text rest h (not-true _ end)

-- faults

letter_alone : (c : ℕ) → is_word (c ∷ []) ≡ false → is_letter c ≡ false
letter_alone c h = ⊎_elim (λ k. k) (λ k. absurd (true≢false k)) (and_cases (is_letter c) true h)

digit_alone : (c : ℕ) → is_number (c ∷ []) ≡ false → is_digit c ≡ false
unfolding is_number
digit_alone c h =
    ⊎_elim (λ k. ⊎_elim (λ l. l) (λ l. absurd (true≢false l)) (and_cases (is_digit c) true k)) (λ k. absurd (true≢false k)) (and_cases (is_digit c && true) true h)

stray_next : (at : ℕ) (bytes : List ℕ) → begins is_stray bytes ≡ true → next at bytes ≡ Wrong (BadByte at)
unfolding next
stray_next at [] h = absurd (true≢false (sym h))
stray_next at (c ∷ cs) h =
    let p = or_parts (is_token (c ∷ [])) _ (not-true _ h) in
    let q = or_parts _ (is_sign (c ∷ [])) p.0 in
    let r = or_parts (is_word (c ∷ [])) (is_number (c ∷ [])) q.0 in
    cond-false (is_gap_byte c) _ _ p.1
    ∙ cond-false (is_letter c) _ _ (letter_alone c r.0)
    ∙ cond-false (is_digit c) _ _ (digit_alone c r.1)
    ∙ cond-false (is_sign (c ∷ [])) _ _ q.1

letter_follows : (rest : List ℕ) → begins (λ c. is_letter c || (c == 95)) rest ≡ true → (begins is_word_byte rest ≡ true) × (begins is_digit rest ≡ false)
letter_follows [] h = absurd (true≢false (sym h))
letter_follows (c ∷ cs) h = letter_or_line_is_word_byte c h

runs_on_next : (place : ℕ) (bytes : List ℕ) (at : ℕ) → RunsOn place bytes at → next place bytes ≡ Wrong (BadByte at)
runs_on_next place bytes at r =
    let f = letter_follows r.rest r.letter in
    ap (next place) r.whole ∙ number_next place r.digits r.rest r.number f.1 ∙ cond-true (begins is_word_byte r.rest) _ _ f.0 ∙ ap (λ k. Wrong (BadByte k)) (sym r.behind)

long_word_next : (at : ℕ) (bytes : List ℕ) → begins is_letter bytes ≡ true → 64 < prefix_len is_word_byte bytes → next at bytes ≡ Wrong (LongWord at)
unfolding next_word
long_word_next at [] h long = absurd (true≢false (sym h))
long_word_next at (c ∷ cs) h long = at_letter at c cs h ∙ cond-false (nat_le (prefix_len is_word_byte (c ∷ cs)) 64) _ _ (lt-leb _ 64 long)

zero_next : (at : ℕ) (bytes : List ℕ) → begins (λ c. c == 48) bytes ≡ true → 1 < prefix_len is_digit bytes → next at bytes ≡ Wrong (LeadingZero at)
unfolding next_number
zero_next at [] h long = absurd (true≢false (sym h))
zero_next at (c ∷ cs) h long =
    let e = eqb-true c 48 h in
    let digit : is_digit c ≡ true = ap is_digit e in
    at_digit at c cs digit ∙ cond-true _ _ _ (and_from (c == 48) _ h (le-leb 2 _ (omega (arith, long))))

long_number_next : (at : ℕ) (bytes : List ℕ) → not (begins (λ c. c == 48) bytes) ≡ true → 18 < prefix_len is_digit bytes → next at bytes ≡ Wrong (LongNumber at)
unfolding next_number
long_number_next at [] h long = absurd (omega (arith, long))
long_number_next at (c ∷ cs) h long =
    ⊎_elim
    (λ digit.
    at_digit at c cs digit
    ∙ cond-false _ _ _ (and_left (c == 48) _ (not-true _ h))
    ∙ cond-false (nat_le (prefix_len is_digit (c ∷ cs)) 18) _ _ (lt-leb _ 18 long))
    (λ other. absurd (let none = prefix_none is_digit (c ∷ cs) other in omega (arith, none, long)))
    (cases_Bool (is_digit c))

along : (at place : ℕ) (bytes : List ℕ) (F : ℕ → LexFault) → at ≡ place → next place bytes ≡ Wrong (F place) → next place bytes ≡ Wrong (F at)
along at place bytes F e h = h ∙ ap (λ k. Wrong (F k)) (sym e)

pub fault_next : (fault : LexFault) (place : ℕ) (bytes : List ℕ) → BeginsFault fault place bytes → next place bytes ≡ Wrong fault
fault_next (BadByte at) place bytes h = ⊎_elim (λ s. along at place bytes BadByte s.0 (stray_next place bytes s.1)) (λ r. runs_on_next place bytes at r) h
fault_next (LongWord at) place bytes h = along at place bytes LongWord h.0 (long_word_next place bytes h.1 h.2)
fault_next (LeadingZero at) place bytes h = along at place bytes LeadingZero h.0 (zero_next place bytes h.1 h.2)
fault_next (LongNumber at) place bytes h = along at place bytes LongNumber h.0 (long_number_next place bytes h.1 h.2)
fault_next Memory place bytes h = absurd h

pub end_next : (at : ℕ) (bytes : List ℕ) → bytes ≡ [] → next at bytes ≡ Stop
unfolding next
end_next at bytes e = ap (next at) e

-- a gap begins where a byte of layout or `#` stands
pub gap_next : (at : ℕ) (bytes : List ℕ) → (next at bytes ≡ Skip → ⊥) → begins is_gap_byte bytes ≡ false
unfolding next
gap_next at [] h = refl
gap_next at (c ∷ cs) h = ⊎_elim (λ g. absurd (h (cond-true (is_gap_byte c) _ _ g))) (λ n. n) (cases_Bool (is_gap_byte c))

-- The token or the fault that begins at a place, as the lexer finds them.
use Rattle.std.proofs.Common.{◌≡◌, ℕ, suc, ◌+◌, ◌-◌, ◌<◌, ◌≤◌, Bool, true, false, List, [], ◌∷◌, ◌++◌, length, take, drop, get_or, sym, refl, ap, ◌∙◌, subst, zero, ⊎_elim, arith}
use Rattle.std.specs.Prelude.{◌||◌, nat_le, ◌==◌, IsTrue, codes, ◌⊎◌}
use Rattle.std.specs.List.{list_all, prefix_len}
use Rattle.std.proofs.lemmas.Bool.{and_parts, and_from, and_left, le-leb, eqb-true, ne_eqb, not_from_false, true≢false, or_from}
use Rattle.std.proofs.lemmas.List.{drop_more, drop-drop, length-take, length-drop, take-append-drop, length-take-le, take_rest}
use Rattle.slice_num.specs.Name.{is_letter, is_digit, is_word_byte, all_word_bytes, is_word}
use Rattle.slice_lex.specs.declared.token.Token.{Token}
use Rattle.slice_lex.specs.declared.token.TokenKind.TheVariants.{Word, Number, Sign}
use Rattle.slice_lex.specs.Text.{is_gap_byte, begins, leads_with_zero, is_number, is_sign, is_angle}
use Rattle.slice_lex.specs.Lexing.{RunsOn, AfterToken, IsRestOf, is_stray, is_of_kind, is_longest}
use Rattle.slice_lex.proofs.Bytes.{at_among, letter_is_word_byte, no_digit}
use Rattle.slice_lex.proofs.Fronts.{prefix_first, prefix_within, front_passes, front_ends, begins_at}

all_word : (text : List ℕ) → list_all is_word_byte text ≡ true → all_word_bytes text ≡ true
all_word [] h = refl
all_word (c ∷ cs) h = let p = and_parts (is_word_byte c) _ h in and_from (is_word_byte c) _ p.0 (all_word cs p.1)

-- a word as long as possible
pub word_here : (c : ℕ) (cs : List ℕ) → is_letter c ≡ true → prefix_len is_word_byte (c ∷ cs) ≤ 64 → is_word (take (prefix_len is_word_byte (c ∷ cs)) (c ∷ cs)) ≡ true
word_here c cs letter short =
    let n = prefix_len is_word_byte cs in
    let e = prefix_first is_word_byte c cs (letter_is_word_byte c letter) in
    let within = prefix_within is_word_byte cs in
    let long = length-take-le n cs within in
    let fits : length (take n cs) ≤ 63 = omega (arith, e, short, long) in
    ap (λ k. is_word (take k (c ∷ cs))) e
    ∙ and_from (is_letter c) _ letter (and_from (all_word_bytes (take n cs)) _ (all_word (take n cs) (front_passes is_word_byte cs)) (le-leb _ 63 fits))

no_leading_zero : (c : ℕ) (cs : List ℕ) → ((c == 48) ≡ false) → leads_with_zero (c ∷ cs) ≡ false
no_leading_zero c [] h = refl
no_leading_zero c (d ∷ cs) h = h

-- one digit has no leading zero either
one_digit : (text : List ℕ) → length text ≤ 1 → leads_with_zero text ≡ false
one_digit [] h = refl
one_digit (c ∷ []) h = refl
one_digit (c ∷ d ∷ cs) h = absurd (omega (arith, h))

number_of : (text : List ℕ) → list_all is_digit text ≡ true → 1 ≤ length text → length text ≤ 18 → leads_with_zero text ≡ false → is_number text ≡ true
unfolding is_number
number_of text digits some few no_zero =
    and_from (list_all is_digit text) _ digits (and_from (nat_le 1 (length text)) _ (le-leb 1 _ some) (and_from (nat_le (length text) 18) _ (le-leb _ 18 few) (not_from_false _ no_zero)))

-- a token that is the first n bytes behind a place of a file
pub token_here : (file : List ℕ) (at n : ℕ) (t : Token) → at + n ≤ length file → IsTrue (is_of_kind t.kind (take n (drop at file))) → IsTrue (is_longest t.kind (take n (drop at file)) (drop n (drop at file))) → t.from ≡ at → t.to ≡ at + n → AfterToken t (IsRestOf file) at (drop at file)
token_here file at n t fits kind longest from to = record {
  text = take n (drop at file);
  rest = drop n (drop at file);
  whole = sym (take-append-drop n (drop at file));
  token = record {
    kind = kind;
    longest = longest;
    from = from;
    to = to ∙ ap (λ k. at + k) (sym (length-take-le n (drop at file) (omega (arith, length-drop at file, fits))));
  };
  after = (omega (arith, to, fits), drop-drop n at file ∙ ap (λ k. drop k file) (sym to));
}

-- `&file[at..]`, as a call takes it, is what the file has from there on
pub run_is : (p : ℕ → Bool) (file : List ℕ) (at n : ℕ) → n ≡ prefix_len p (take (length file - at) (drop at file)) → n ≡ prefix_len p (drop at file)
run_is p file at n e = e ∙ ap (prefix_len p) (take_rest file at)

pub begins_is : (p : ℕ → Bool) (file : List ℕ) (at : ℕ) (b : Bool) → b ≡ begins p (take (length file - at) (drop at file)) → begins p (drop at file) ≡ b
begins_is p file at b e = sym (e ∙ ap (begins p) (take_rest file at))

-- the longest front behind a place whose bytes pass
pub run_within : (p : ℕ → Bool) (file : List ℕ) (at n : ℕ) → at < length file → n ≡ prefix_len p (drop at file) → at + n ≤ length file
run_within p file at n below e = let h = prefix_within p (drop at file) in omega (arith, h, e, length-drop at file)

pub run_some : (p : ℕ → Bool) (file : List ℕ) (at n : ℕ) → at < length file → p (get_or file at 0) ≡ true → n ≡ prefix_len p (drop at file) → at < at + n
run_some p file at n below h e =
    let first : n ≡ suc (prefix_len p (drop (at + 1) file)) = e ∙ ap (prefix_len p) (drop_more file at 0 below) ∙ prefix_first p (get_or file at 0) (drop (at + 1) file) h in
    omega (arith, first)

run_ends : (p : ℕ → Bool) (bytes : List ℕ) (n : ℕ) → n ≡ prefix_len p bytes → begins p (drop n bytes) ≡ false
run_ends p bytes n e = ap (λ k. begins p (drop k bytes)) e ∙ front_ends p bytes

run_passes : (p : ℕ → Bool) (bytes : List ℕ) (n : ℕ) → n ≡ prefix_len p bytes → list_all p (take n bytes) ≡ true
run_passes p bytes n e = ap (λ k. list_all p (take k bytes)) e ∙ front_passes p bytes

pub word_token : (file : List ℕ) (at n : ℕ) → at < length file → is_letter (get_or file at 0) ≡ true → n ≡ prefix_len is_word_byte (drop at file) → n ≤ 64 → AfterToken (record { kind = Word; from = at; to = at + n }) (IsRestOf file) at (drop at file)
word_token file at n below letter e short =
    let here = drop_more file at 0 below in
    let fits : prefix_len is_word_byte (get_or file at 0 ∷ drop (at + 1) file) ≤ 64 = subst (λ k. k ≤ 64) (e ∙ ap (prefix_len is_word_byte) here) short in
    token_here file at n (record { kind = Word; from = at; to = at + n }) (run_within is_word_byte file at n below e)
    (ap (λ k. is_word (take k (drop at file))) e ∙ ap (λ bs. is_word (take (prefix_len is_word_byte bs) bs)) here ∙ word_here (get_or file at 0) (drop (at + 1) file) letter fits)
    (not_from_false _ (run_ends is_word_byte (drop at file) n e)) refl refl

zero_leads : (c : ℕ) (cs : List ℕ) (n : ℕ) → ((n ≤ 1) ⊎ (c ≡ 48 → ⊥)) → leads_with_zero (take n (c ∷ cs)) ≡ false
zero_leads c cs zero h = refl
zero_leads c cs (suc n) h =
    ⊎_elim
    (λ few. one_digit (take (suc n) (c ∷ cs)) (omega (arith, length-take (suc n) (c ∷ cs), few)))
    (λ other. no_leading_zero c (take n cs) (ne_eqb c 48 other)) h

-- where the digits are a number
digits_here : (file : List ℕ) (at n : ℕ) → at < length file → is_digit (get_or file at 0) ≡ true → n ≡ prefix_len is_digit (drop at file) → ((n ≤ 1) ⊎ (get_or file at 0 ≡ 48 → ⊥)) → n ≤ 18 → is_number (take n (drop at file)) ≡ true
digits_here file at n below digit e lead few =
    let within = run_within is_digit file at n below e in
    let long = length-take-le n (drop at file) (omega (arith, length-drop at file, within)) in
    let some = run_some is_digit file at n below digit e in
    number_of (take n (drop at file)) (run_passes is_digit (drop at file) n e) (omega (arith, long, some)) (omega (arith, long, few))
    (ap (λ bs. leads_with_zero (take n bs)) (drop_more file at 0 below) ∙ zero_leads (get_or file at 0) (drop (at + 1) file) n lead)

pub number_token : (file : List ℕ) (at n : ℕ) → at < length file → is_digit (get_or file at 0) ≡ true → n ≡ prefix_len is_digit (drop at file) → ((n ≤ 1) ⊎ (get_or file at 0 ≡ 48 → ⊥)) → n ≤ 18 → begins is_word_byte (drop (at + n) file) ≡ false → AfterToken (record { kind = Number; from = at; to = at + n }) (IsRestOf file) at (drop at file)
number_token file at n below digit e lead few end =
    token_here file at n (record { kind = Number; from = at; to = at + n }) (run_within is_digit file at n below e)
    (digits_here file at n below digit e lead few)
    (not_from_false _ (ap (begins is_word_byte) (drop-drop n at file) ∙ end)) refl refl

letter_next : (bytes : List ℕ) → begins is_word_byte bytes ≡ true → begins is_digit bytes ≡ false → begins (λ c. is_letter c || (c == 95)) bytes ≡ true
letter_next [] h k = h
letter_next (c ∷ cs) h k = no_digit c h k

pub number_runs_on : (file : List ℕ) (at n : ℕ) → at < length file → is_digit (get_or file at 0) ≡ true → n ≡ prefix_len is_digit (drop at file) → ((n ≤ 1) ⊎ (get_or file at 0 ≡ 48 → ⊥)) → n ≤ 18 → begins is_word_byte (drop (at + n) file) ≡ true → RunsOn at (drop at file) (at + n)
number_runs_on file at n below digit e lead few more =
    let within = run_within is_digit file at n below e in
    let long = length-take-le n (drop at file) (omega (arith, length-drop at file, within)) in
    record {
      digits = take n (drop at file);
      rest = drop n (drop at file);
      whole = sym (take-append-drop n (drop at file));
      number = digits_here file at n below digit e lead few;
      letter = letter_next (drop n (drop at file)) (ap (begins is_word_byte) (drop-drop n at file) ∙ more) (run_ends is_digit (drop at file) n e);
      behind = ap (λ k. at + k) (sym long);
    }

pub stray_byte : (file : List ℕ) (at : ℕ) → at < length file → is_letter (get_or file at 0) ≡ false → is_digit (get_or file at 0) ≡ false → is_gap_byte (get_or file at 0) ≡ false → is_sign (get_or file at 0 ∷ []) ≡ false → begins is_stray (drop at file) ≡ true
unfolding is_number
stray_byte file at below letter digit gap sign =
    let c = get_or file at 0 in
    begins_at is_stray file at true below
    (not_from_false _ (or_from _ (is_gap_byte c) (or_from _ (is_sign (c ∷ [])) (or_from (is_word (c ∷ [])) (is_number (c ∷ [])) (and_left (is_letter c) _ letter) (and_left _ _ (and_left (is_digit c) true digit))) sign) gap))

abbrev IsWidened : List ℕ → Type 0
IsWidened text = (is_sign (text ++ (61 ∷ [])) ≡ true) × (is_angle (text ++ (61 ∷ [])) ≡ false)

widened : (text : List ℕ) → is_angle text ≡ true → IsWidened text
unfolding is_angle is_sign
widened text h = at_among IsWidened (codes "<" ∷ codes ">" ∷ []) text ((refl, refl), ((refl, refl), tt)) h

equals_next : (bytes : List ℕ) → begins (λ c. c == 61) bytes ≡ true → bytes ≡ 61 ∷ drop 1 bytes
equals_next [] h = absurd (true≢false (sym h))
equals_next (c ∷ cs) h = ap (λ d. d ∷ cs) (eqb-true c 61 h)

pub wide_sign : (file : List ℕ) (at : ℕ) → at < length file → is_angle (get_or file at 0 ∷ []) ≡ true → begins (λ c. c == 61) (drop (at + 1) file) ≡ true → AfterToken (record { kind = Sign; from = at; to = at + 1 + 1 }) (IsRestOf file) at (drop at file)
wide_sign file at below angle equals =
    let c = get_or file at 0 in
    let rest = drop 1 (drop (at + 1) file) in
    let next = equals_next (drop (at + 1) file) equals in
    let w = widened (c ∷ []) angle in
    let more : 1 ≤ length (drop (at + 1) file) = subst (λ bs. 1 ≤ length bs) (sym next) (omega arith) in
    record {
      text = c ∷ 61 ∷ [];
      rest = rest;
      whole = drop_more file at 0 below ∙ ap (λ bs. c ∷ bs) next;
      token = record {
        kind = w.0;
        longest = not_from_false _ (and_left (is_angle (c ∷ 61 ∷ [])) _ w.1);
        from = refl;
        to = omega arith;
      };
      after = (omega (arith, length-drop (at + 1) file, more), drop-drop 1 (at + 1) file);
    }

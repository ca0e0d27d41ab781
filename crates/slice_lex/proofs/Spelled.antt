-- A file is read as tokens that have these texts where it spells them, and the other way round.
use Rattle.std.proofs.Common.{◌≡◌, ℕ, ◌+◌, ◌-◌, true, false, List, [], ◌∷◌, ◌++◌, None, length, take, drop, sym, refl, ap, ◌∙◌, subst, ⊎_elim, arith, append_assoc, length-append}
use Rattle.std.specs.Prelude.{◌&&◌, ◌==◌, not}
use Rattle.std.specs.List.{list_all}
use Rattle.std.proofs.lemmas.Bool.{and_parts, and_from, and_cases, and_left, and_right, or_cases, or_left, or_right, cases_Bool, not-true, not_from_false, true≢false}
use Rattle.std.proofs.lemmas.List.{take_at, drop_at}
use Rattle.slice_num.specs.Name.{is_letter, is_digit, is_word_byte, is_word}
use Rattle.slice_lex.specs.declared.token.Token.{Token}
use Rattle.slice_lex.specs.declared.token.TokenKind.{TokenKind}
use Rattle.slice_lex.specs.declared.token.TokenKind.TheVariants.{Word, Number, Sign}
use Rattle.slice_lex.specs.Text.{is_gap_byte, begins, is_number, is_sign, is_word_or_number, is_token, need_gap, Follow, is_angle, equals_first, no_angle_before_equals}
use Rattle.slice_lex.specs.Lexing.{is_of_kind, is_longest, IsRead, text_of, texts_of}
use Rattle.slice_lex.specs.Laws.{SpelledTokensAreLexed, LexedTokensAreSpelled}
use Rattle.slice_lex.proofs.Bytes.{gap_byte_is_no_word_byte, gap_byte_is_no_equals, word_byte_is_no_equals, letter_is_word_byte, digit_is_word_byte, sign_begins, sign_is_no_word_or_number, equals_begins}
use Rattle.slice_lex.proofs.Gaps.{gap_first}

-- the bytes of a file that a token stands for, where its places are these
pub text_here : (front text rest : List ℕ) (t : Token) → t.from ≡ length front → t.to ≡ length front + length text → text_of (front ++ (text ++ rest)) t ≡ text
text_here front text rest t from to =
    let file = front ++ (text ++ rest) in
    let width : t.to - t.from ≡ length text = omega (arith, from, to) in
    ap (λ k. take k (drop t.from file)) width ∙ ap (λ k. take (length text) (drop k file)) from
    ∙ ap (take (length text)) (drop_at front (text ++ rest) (length front) refl)
    ∙ take_at text rest (length text) refl

number_digits : (text : List ℕ) → is_number text ≡ true → list_all is_digit text ≡ true
unfolding is_number
number_digits text h = (and_parts (list_all is_digit text) _ h).0

nil_is_no_number : is_number [] ≡ true → ⊥
unfolding is_number
nil_is_no_number h = true≢false (sym h)

-- a word or a number begins with a byte of a word
word_begins : (text more : List ℕ) → is_word_or_number text ≡ true → begins is_word_byte (text ++ more) ≡ true
word_begins [] more h = ⊎_elim (λ w. absurd (true≢false (sym w))) (λ n. absurd (nil_is_no_number n)) (or_cases (is_word []) (is_number []) h)
word_begins (c ∷ cs) more h =
    ⊎_elim (λ w. letter_is_word_byte c (and_parts (is_letter c) _ w).0) (λ n. digit_is_word_byte c (and_parts (is_digit c) _ (number_digits (c ∷ cs) n)).0)
    (or_cases (is_word (c ∷ cs)) (is_number (c ∷ cs)) h)

word_or_number : (k : TokenKind) (text rest : List ℕ) → is_of_kind k text ≡ true → is_longest k text rest ≡ true → is_word_or_number text ≡ true → begins is_word_byte rest ≡ false
word_or_number Word text rest h end w = not-true _ end
word_or_number Number text rest h end w = not-true _ end
word_or_number Sign text rest h end w = absurd (true≢false (sym w ∙ sign_is_no_word_or_number text h))

pub kind_is_token : (k : TokenKind) (text : List ℕ) → is_of_kind k text ≡ true → is_token text ≡ true
kind_is_token Word text h = or_left (is_word_or_number text) _ (or_left (is_word text) _ h)
kind_is_token Number text h = or_left (is_word_or_number text) _ (or_right (is_word text) _ h)
kind_is_token Sign text h = or_right (is_word_or_number text) _ h

-- where no byte of a word follows directly, no gap is needed
apart : (text rest : List ℕ) (texts : List (List ℕ)) → (is_word_or_number text ≡ true → begins is_word_byte rest ≡ false) → Follow texts rest → need_gap text texts ≡ false
apart text rest [] end follow = refl
apart text rest (u ∷ texts) end follow =
    ⊎_elim
    (λ w.
    ⊎_elim
    (λ v. absurd (true≢false (sym (word_begins u _ v) ∙ ap (begins is_word_byte) (sym follow.1.1.0) ∙ end w)))
    (λ v. and_right (is_word_or_number text) _ v)
    (cases_Bool (is_word_or_number u)))
    (λ w. and_left (is_word_or_number text) _ w)
    (cases_Bool (is_word_or_number text))

abbrev IsSpelled : List ℕ → List Token → List ℕ → Type 0
IsSpelled file ts bytes = Follow (texts_of file ts) bytes × (list_all is_token (texts_of file ts) ≡ true)

-- what is read follows
read_follows : (ts : List Token) (file front bytes : List ℕ) (at : ℕ) → file ≡ front ++ bytes → at ≡ length front → IsRead ts None at bytes → IsSpelled file ts bytes
read_follows [] file front bytes at whole here h = (h, refl)
read_follows (t ∷ ts) file front bytes at whole here h =
    let a = h.after in
    let split : bytes ≡ h.text ++ (a.gap ++ a.rest) = h.whole ∙ ap (λ bs. h.text ++ bs) a.whole in
    let behind = front ++ (h.text ++ a.gap) in
    let all : file ≡ behind ++ a.rest =
    whole ∙ ap (λ bs. front ++ bs) (split ∙ sym (append_assoc h.text a.gap a.rest)) ∙ sym (append_assoc front (h.text ++ a.gap) a.rest) in
    let place : t.to + length a.gap ≡ length behind = omega (arith, h.token.to, here, length-append front (h.text ++ a.gap), length-append h.text a.gap) in
    let later = read_follows ts file behind a.rest (t.to + length a.gap) all place a.after in
    let text : text_of file t ≡ h.text =
    ap (λ f. text_of f t) (whole ∙ ap (λ bs. front ++ bs) h.whole)
    ∙ text_here front h.text h.rest t (h.token.from ∙ here) (h.token.to ∙ ap (λ k. k + length h.text) here) in
    let end = λ (w : is_word_or_number h.text ≡ true). word_or_number t.kind h.text h.rest h.token.kind h.token.longest w in
    let needed = λ (e : a.gap ≡ []). apart h.text a.rest (texts_of file ts) (λ w. ap (begins is_word_byte) (sym (a.whole ∙ ap (λ g. g ++ a.rest) e)) ∙ end w) later.0 in
    subst (λ (x : List ℕ). Follow (x ∷ texts_of file ts) bytes × (list_all is_token (x ∷ texts_of file ts) ≡ true)) (sym text)
    ((a.gap, (a.rest, (split, a.is_gap, needed, later.0))), and_from (is_token h.text) _ (kind_is_token t.kind h.text h.token.kind) later.1)

pub lexed_spelled : LexedTokensAreSpelled
lexed_spelled file ts h =
    let r = read_follows ts file h.gap h.rest (length h.gap) h.whole refl (subst (λ n. IsRead ts None n h.rest) (omega arith) h.after) in
    ((h.gap, (h.rest, (h.whole, h.is_gap, r.0))), r.1)

-- the other way

kind_for : (text : List ℕ) → is_token text ≡ true → (k : TokenKind) × (is_of_kind k text ≡ true)
kind_for text h =
    ⊎_elim (λ w. ⊎_elim (λ a. (Word, a)) (λ b. (Number, b)) (or_cases (is_word text) (is_number text) w)) (λ s. (Sign, s))
    (or_cases (is_word_or_number text) (is_sign text) h)

longest_for : (k : TokenKind) (text rest : List ℕ) → is_of_kind k text ≡ true → (is_word_or_number text ≡ true → begins is_word_byte rest ≡ false) → (is_angle text ≡ true → begins (λ c. c == 61) rest ≡ false) → is_longest k text rest ≡ true
longest_for Word text rest h end angle = not_from_false _ (end (or_left (is_word text) _ h))
longest_for Number text rest h end angle = not_from_false _ (end (or_right (is_word text) _ h))
longest_for Sign text rest h end angle =
    ⊎_elim (λ a. not_from_false _ (and_right (is_angle text) _ (angle a))) (λ n. not_from_false _ (and_left (is_angle text) _ n)) (cases_Bool (is_angle text))

gap_byte_no_word : (bytes : List ℕ) → begins is_gap_byte bytes ≡ true → begins is_word_byte bytes ≡ false
gap_byte_no_word [] h = refl
gap_byte_no_word (c ∷ cs) h = gap_byte_is_no_word_byte c h

gap_byte_no_equals : (bytes : List ℕ) → begins is_gap_byte bytes ≡ true → begins (λ c. c == 61) bytes ≡ false
gap_byte_no_equals [] h = refl
gap_byte_no_equals (c ∷ cs) h = gap_byte_is_no_equals c h

word_byte_no_equals : (bytes : List ℕ) → begins is_word_byte bytes ≡ true → begins (λ c. c == 61) bytes ≡ false
word_byte_no_equals [] h = refl
word_byte_no_equals (c ∷ cs) h = word_byte_is_no_equals c h

-- no byte of a word comes after a word or a number that no gap must part from the token after it
no_word_byte : (text : List ℕ) (texts : List (List ℕ)) (rest : List ℕ) → list_all is_token texts ≡ true → Follow texts rest → need_gap text texts ≡ false → is_word_or_number text ≡ true → begins is_word_byte rest ≡ false
no_word_byte text [] rest are follow need w = ap (begins is_word_byte) follow
no_word_byte text (u ∷ texts) rest are follow need w =
    ap (begins is_word_byte) follow.1.1.0
    ∙ ⊎_elim
    (λ h. absurd (true≢false (sym w ∙ h)))
    (λ h.
    ⊎_elim (λ v. absurd (true≢false (sym v ∙ h))) (λ s. sign_begins u _ s)
    (or_cases (is_word_or_number u) (is_sign u) (and_parts (is_token u) _ are).0))
    (and_cases (is_word_or_number text) (is_word_or_number u) need)

-- nor an `=` after `<` or `>` that don't stand before `=`
no_equals : (texts : List (List ℕ)) (rest : List ℕ) → list_all is_token texts ≡ true → Follow texts rest → equals_first texts ≡ false → begins (λ c. c == 61) rest ≡ false
no_equals [] rest are follow first = ap (begins (λ c. c == 61)) follow
no_equals (u ∷ texts) rest are follow first =
    let more = follow.0 ++ follow.1.0 in
    ap (begins (λ c. c == 61)) follow.1.1.0
    ∙ ⊎_elim (λ w. word_byte_no_equals (u ++ more) (word_begins u more w)) (λ s. equals_begins u more s first)
    (or_cases (is_word_or_number u) (is_sign u) (and_parts (is_token u) _ are).0)

equals_apart : (text : List ℕ) (texts : List (List ℕ)) → not (is_angle text && equals_first texts) ≡ true → is_angle text ≡ true → equals_first texts ≡ false
equals_apart text texts h a = ⊎_elim (λ n. absurd (true≢false (sym a ∙ n))) (λ n. n) (and_cases (is_angle text) _ (not-true _ h))

abbrev Reads : List ℕ → List (List ℕ) → ℕ → List ℕ → Type 0
Reads file texts at bytes = (ts : List Token) × (IsRead ts None at bytes × (texts_of file ts ≡ texts))

-- what follows is read
follow_reads : (texts : List (List ℕ)) (file front bytes : List ℕ) (at : ℕ) → file ≡ front ++ bytes → at ≡ length front → list_all is_token texts ≡ true → no_angle_before_equals texts ≡ true → Follow texts bytes → Reads file texts at bytes
follow_reads [] file front bytes at whole here are angles follow = ([], (follow, refl))
follow_reads (text ∷ texts) file front bytes at whole here are angles follow =
    let gap = follow.0 in
    let rest = follow.1.0 in
    let f = follow.1.1 in
    let tokens = and_parts (is_token text) (list_all is_token texts) are in
    let apart = and_parts (not (is_angle text && equals_first texts)) _ angles in
    let behind = front ++ (text ++ gap) in
    let all : file ≡ behind ++ rest =
    whole ∙ ap (λ bs. front ++ bs) (f.0 ∙ sym (append_assoc text gap rest)) ∙ sym (append_assoc front (text ++ gap) rest) in
    let place : at + length text + length gap ≡ length behind = omega (arith, here, length-append front (text ++ gap), length-append text gap) in
    let later = follow_reads texts file behind rest (at + length text + length gap) all place tokens.1 apart.1 f.3 in
    let kind = kind_for text tokens.0 in
    let t : Token = record { kind = kind.0; from = at; to = at + length text } in
    let first = gap_first f.1 in
    let end : is_word_or_number text ≡ true → begins is_word_byte (gap ++ rest) ≡ false =
    λ w. ⊎_elim
    (λ e. ap (λ g. begins is_word_byte (g ++ rest)) e ∙ no_word_byte text texts rest tokens.1 f.3 (f.2 e) w)
    (λ g. gap_byte_no_word (gap ++ rest) (g rest)) first in
    let equals : is_angle text ≡ true → begins (λ c. c == 61) (gap ++ rest) ≡ false =
    λ a. ⊎_elim
    (λ e. ap (λ g. begins (λ c. c == 61) (g ++ rest)) e ∙ no_equals texts rest tokens.1 f.3 (equals_apart text texts apart.0 a))
    (λ g. gap_byte_no_equals (gap ++ rest) (g rest)) first in
    let here_text : text_of file t ≡ text =
    ap (λ x. text_of x t) (whole ∙ ap (λ bs. front ++ bs) f.0)
    ∙ text_here front text (gap ++ rest) t here (ap (λ k. k + length text) here) in (
      t ∷ later.0,
      (
        (record {
          text = text;
          rest = gap ++ rest;
          whole = f.0;
          token = record { kind = kind.1; longest = longest_for kind.0 text (gap ++ rest) kind.1 end equals; from = refl; to = refl };
          after = record { gap = gap; rest = rest; whole = refl; is_gap = f.1; after = later.1.0 };
        }),
        ap (λ x. x ∷ texts_of file later.0) here_text ∙ ap (λ xs. text ∷ xs) later.1.1,
      ),
    )

pub spelled_lexed : SpelledTokensAreLexed
spelled_lexed file texts are angles spells =
    let gap = spells.0 in
    let rest = spells.1.0 in
    let r = follow_reads texts file gap rest (length gap) spells.1.1.0 refl are angles spells.1.1.2 in (
      r.0,
      (
        record {
          gap = gap;
          rest = rest;
          whole = spells.1.1.0;
          is_gap = spells.1.1.1;
          after = subst (λ n. IsRead r.0 None n rest) (omega arith) r.1.0;
        },
        r.1.1,
      ),
    )

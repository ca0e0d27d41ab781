-- Which bytes begin a gap, a word, a number or a sign.
use Rattle.std.proofs.Common.{◌≡◌, ℕ, Bool, true, false, List, [], ◌∷◌, ◌++◌, length, take, sym, refl, ap, ◌∙◌, subst, ⊎_elim, arith}
use Rattle.std.specs.Prelude.{codes, bytes_eq, ◌==◌, ◌&&◌, ◌||◌, not, nat_le}
use Rattle.std.specs.List.{list_all, AllByRecursion}
use Rattle.std.proofs.lemmas.Bool.{eqb-true, and_parts, and_from, or_cases, or_left, or_right, not-true, true≢false}
use Rattle.std.proofs.lemmas.Bool.Decides.{nat_tests}
use Rattle.std.proofs.lemmas.Slice.Eq.{bytes_eq-Decides}
use Rattle.slice_num.specs.Name.{is_letter, is_digit, is_word_byte, is_word, is_among}
use Rattle.slice_lex.specs.Text.{is_layout, is_gap_byte, begins, is_number, signs, is_sign, is_word_or_number}
use Rattle.slice_lex.specs.Laws.{TokensBeginWithTokens}

-- what holds of the five bytes that may begin a gap
pub at_gap_byte : (P : ℕ → Type 0) → P 32 → P 9 → P 13 → P 10 → P 35 → (c : ℕ) → is_gap_byte c ≡ true → P c
at_gap_byte P space tab return line hash c h =
    ⊎_elim (λ h0.
    ⊎_elim (λ e. subst P (sym (eqb-true c 32 e)) space) (λ h1.
    ⊎_elim (λ e. subst P (sym (eqb-true c 9 e)) tab) (λ h2.
    ⊎_elim (λ e. subst P (sym (eqb-true c 13 e)) return) (λ e. subst P (sym (eqb-true c 10 e)) line)
    (or_cases _ _ h2))
    (or_cases _ _ h1))
    (or_cases _ _ h0))
    (λ e. subst P (sym (eqb-true c 35 e)) hash)
    (or_cases (is_layout c) _ h)

-- what holds of each text of a list holds of one that is among them
pub at_among : (P : List ℕ → Type 0) (ws : List (List ℕ)) (text : List ℕ) → AllByRecursion P ws → is_among text ws ≡ true → P text
at_among P [] text each h = absurd (true≢false (sym h))
at_among P (w ∷ ws) text each h =
    ⊎_elim (λ e. subst P (sym ((bytes_eq-Decides text w).0 e)) each.0) (at_among P ws text each.1) (or_cases (bytes_eq text w) (is_among text ws) h)

-- a test that each text of a list passes is passed by one that is among them
among_passes : (test : List ℕ → Bool) (ws : List (List ℕ)) (text : List ℕ) → list_all test ws ≡ true → is_among text ws ≡ true → test text ≡ true
among_passes test [] text each h = absurd (true≢false (sym h))
among_passes test (w ∷ ws) text each h =
    let p = and_parts (test w) (list_all test ws) each in
    ⊎_elim (λ e. ap test ((bytes_eq-Decides text w).0 e) ∙ p.0) (among_passes test ws text p.1) (or_cases (bytes_eq text w) (is_among text ws) h)

-- a test that the fifteen signs pass
pub sign_passes : (test : List ℕ → Bool) → list_all test signs ≡ true → (text : List ℕ) → is_sign text ≡ true → test text ≡ true
unfolding is_sign
sign_passes test each text h = among_passes test signs text each h

pub letter_is_no_gap_byte : (c : ℕ) → is_letter c ≡ true → is_gap_byte c ≡ false
letter_is_no_gap_byte c h = grind (arith, nat_tests)

pub digit_is_no_gap_byte : (c : ℕ) → is_digit c ≡ true → is_gap_byte c ≡ false
digit_is_no_gap_byte c h = grind (arith, nat_tests)

pub digit_is_no_letter : (c : ℕ) → is_digit c ≡ true → is_letter c ≡ false
digit_is_no_letter c h = grind (arith, nat_tests)

pub gap_byte_is_no_word_byte : (c : ℕ) → is_gap_byte c ≡ true → is_word_byte c ≡ false
gap_byte_is_no_word_byte = at_gap_byte (λ c. is_word_byte c ≡ false) refl refl refl refl refl

pub gap_byte_is_no_equals : (c : ℕ) → is_gap_byte c ≡ true → (c == 61) ≡ false
gap_byte_is_no_equals = at_gap_byte (λ c. (c == 61) ≡ false) refl refl refl refl refl

pub word_byte_is_no_equals : (c : ℕ) → is_word_byte c ≡ true → (c == 61) ≡ false
word_byte_is_no_equals c h = grind (arith, nat_tests)

pub digit_is_word_byte : (c : ℕ) → is_digit c ≡ true → is_word_byte c ≡ true
digit_is_word_byte c h = or_right (is_letter c) _ (or_left (is_digit c) _ h)

pub letter_is_word_byte : (c : ℕ) → is_letter c ≡ true → is_word_byte c ≡ true
letter_is_word_byte c h = or_left (is_letter c) _ h

-- a byte of a word that is no digit is a letter or `_`
pub no_digit : (c : ℕ) → is_word_byte c ≡ true → is_digit c ≡ false → (is_letter c || (c == 95)) ≡ true
no_digit c h k =
    ⊎_elim (λ l. or_left (is_letter c) _ l) (λ m.
    ⊎_elim (λ d. absurd (true≢false (sym d ∙ k))) (λ e. or_right (is_letter c) _ e)
    (or_cases (is_digit c) _ m))
    (or_cases (is_letter c) _ h)

pub letter_or_line_is_word_byte : (c : ℕ) → (is_letter c || (c == 95)) ≡ true → (is_word_byte c ≡ true) × (is_digit c ≡ false)
letter_or_line_is_word_byte c h =
    ⊎_elim (λ l. (or_left (is_letter c) _ l, grind (arith, nat_tests))) (λ e. (or_right (is_letter c) _ (or_right (is_digit c) _ e), grind (arith, nat_tests)))
    (or_cases (is_letter c) _ h)

-- a sign begins neither a word, nor a number, nor a gap
pub sign_begins : (text more : List ℕ) → is_sign text ≡ true → begins is_word_byte (text ++ more) ≡ false
sign_begins [] more h = absurd (true≢false (sym (sign_passes (λ t. nat_le 1 (length t)) refl [] h)))
sign_begins (c ∷ cs) more h = not-true _ (sign_passes (λ t. not (begins is_word_byte t)) refl (c ∷ cs) h)

pub sign_is_no_word_or_number : (text : List ℕ) → is_sign text ≡ true → is_word_or_number text ≡ false
unfolding is_number
sign_is_no_word_or_number text h = not-true _ (sign_passes (λ t. not (is_word_or_number t)) refl text h)

-- a sign that begins with `=` is `=`
pub equals_begins : (text more : List ℕ) → is_sign text ≡ true → bytes_eq text (codes "=") ≡ false → begins (λ c. c == 61) (text ++ more) ≡ false
equals_begins [] more h other = absurd (true≢false (sym (sign_passes (λ t. nat_le 1 (length t)) refl [] h)))
equals_begins (c ∷ cs) more h other =
    ⊎_elim (λ n. not-true _ n) (λ e. absurd (true≢false (sym e ∙ other)))
    (or_cases (not (c == 61)) _ (sign_passes (λ t. not (begins (λ d. d == 61) t) || bytes_eq t (codes "=")) refl (c ∷ cs) h))

-- the first byte of a token is a token by itself
pub first_byte : TokensBeginWithTokens
unfolding is_sign is_number
first_byte c more h =
    ⊎_elim
    (λ w.
    or_left (is_word_or_number (c ∷ [])) _ (⊎_elim
    (λ word. or_left (is_word (c ∷ [])) _ (and_from (is_letter c) true (and_parts (is_letter c) _ word).0 refl))
    (λ number.
    let digit = (and_parts (is_digit c) _ (and_parts (list_all is_digit (c ∷ more)) _ number).0).0 in
    or_right (is_word (c ∷ [])) _ (and_from (is_digit c && true) true (and_from (is_digit c) true digit refl) refl))
    (or_cases (is_word (c ∷ more)) (is_number (c ∷ more)) w)))
    (λ sign. or_right (is_word_or_number (c ∷ [])) _ (sign_passes (λ t. is_sign (take 1 t)) refl (c ∷ more) sign))
    (or_cases (is_word_or_number (c ∷ more)) (is_sign (c ∷ more)) h)
